use Rattle.std.proofs.Common.{◌∙◌, sym}
use Rattle.cps_code.specs.Script.{script_of}
use Rattle.frame_rows.proofs.LeadLaws.{part_none, part_some}
use Rattle.frame_rows.proofs.nesting.part_number.Goals as goal

pub returns-in-None : goal.returns-in-None
returns-in-None c = c.len.ensures.len ∙ sym (part_none (script_of c.args.code.now) c.args.node c.args.at (sym c.part.ensures.number ∙ c.in-None.is))

pub returns-in-Some : goal.returns-in-Some
returns-in-Some c = sym (part_some (script_of c.args.code.now) c.args.node c.args.at c.in-Some.part (sym c.part.ensures.number ∙ c.in-Some.is))
