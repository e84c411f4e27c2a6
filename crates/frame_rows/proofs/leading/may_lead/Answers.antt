use Rattle.std.proofs.Common.{arith}
use Rattle.cps_code.specs.Script.{script_of}
use Rattle.frame_rows.proofs.LeadLaws.{nothing_past}
use Rattle.frame_rows.proofs.leading.may_lead.Goals as goal

pub returns-then-node-len : goal.returns-then-node-len
returns-then-node-len c =
    nothing_past (script_of c.args.code.now) c.args.wanted c.args.node (omega (arith, c.if-node-len.true, c.len.ensures.len)) c.requires

pub returns-else-node-len : goal.returns-else-node-len
returns-else-node-len c = c.leads.ensures
