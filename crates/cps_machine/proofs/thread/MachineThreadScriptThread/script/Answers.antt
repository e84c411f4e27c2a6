use Rattle.std.proofs.Common.{[]}
use Rattle.cps_machine.proofs.StanceLaws.{script_alone, script_stands}
use Rattle.cps_machine.proofs.thread.MachineThreadScriptThread.script.Goals as goal

pub returns-clause-begins : goal.returns-clause-begins
returns-clause-begins c = script_stands c.begin.result c.new.result c.new-2.result c.new-3.result c.new.ensures c.new-2.ensures c.new-3.ensures (c.begin.ensures [])

pub returns-clause-alone : goal.returns-clause-alone
returns-clause-alone c = script_alone c.begin.result (record { held = c.new.result; folders = c.new-2.result; env = c.new-3.result }) (c.begin.ensures [])
