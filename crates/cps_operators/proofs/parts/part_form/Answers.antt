use Rattle.std.proofs.Common.{◌∙◌, ap, sym}
use Rattle.model_run.specs.Terms.{form_of, term_at}
use Rattle.cps_code.specs.Script.{script_of}
use Rattle.cps_frames.proofs.PartLaws.{part_there}
use Rattle.cps_operators.proofs.PartLaws.{part_of_form}
use Rattle.cps_operators.proofs.parts.part_form.Goals as goal

pub unreachable-requires : goal.unreachable-requires
unreachable-requires c = part_there (script_of c.args.code.now) c.args.node c.args.at c.requires.part (sym c.part.ensures.number ∙ c.in-None.is)

pub returns : goal.returns
returns c = c.kind.ensures ∙ ap form_of c.in-Some.ensures.found ∙ part_of_form (script_of c.args.code.now) (term_at (script_of c.args.code.now) c.args.node) c.args.at
