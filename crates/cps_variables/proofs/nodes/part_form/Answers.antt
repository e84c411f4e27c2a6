use Rattle.std.proofs.Common.{◌∙◌, ap, sym}
use Rattle.model_run.specs.Terms.{form_of}
use Rattle.cps_code.specs.Script.{script_of}
use Rattle.cps_frames.proofs.PartLaws.{part_there}
use Rattle.cps_variables.proofs.NodeLaws.{form_of_part}
use Rattle.cps_variables.proofs.nodes.part_form.Goals as goal

pub unreachable-requires : goal.unreachable-requires
unreachable-requires c = part_there _ _ _ c.requires.part (sym c.part.ensures.number ∙ c.in-None.is)

pub returns : goal.returns
returns c = c.kind.ensures ∙ ap form_of c.in-Some.ensures.found ∙ form_of_part (script_of c.args.code.now) c.args.node c.args.at
