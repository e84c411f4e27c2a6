use Rattle.std.proofs.Common.{subst, List}
use Rattle.cps_code.specs.declared.row.Row.{Row}
use Rattle.cps_code.specs.Script.{script_of, IsScript}
use Rattle.cps_code.proofs.code.Code.len.Goals as goal

pub returns-clause-script : goal.returns-clause-script
returns-clause-script c = subst (λ (rows : List Row). IsScript (script_of rows)) c.self.view_is c.self.invariant.script
