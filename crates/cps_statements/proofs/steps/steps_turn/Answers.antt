use Rattle.std.proofs.Common.{◌<◌, arith}
use Rattle.model_syntax.specs.declared.node.NodeForm.TheVariants as form
use Rattle.cps_variables.proofs.NodeLaws.{part_within}
use Rattle.cps_statements.proofs.steps.steps_turn.Goals as goal

pub inside-requires-clause-part : goal.inside-requires-clause-part
inside-requires-clause-part c = let lt : 3 < 4 = omega arith in part_within _ _ form.ForSteps 3 c.requires lt
