use Rattle.std.proofs.Common.{◌^◌, arith}
use Rattle.model_run.specs.Around.{arity}
use Rattle.model_run.specs.Expressions.{choices}
use Rattle.cps_operators.proofs.FormLaws.{to_size}
use Rattle.cps_operators.proofs.choices.chosen.Goals as goal

pub choices-requires-clause-some : goal.choices-requires-clause-some
choices-requires-clause-some c = omega (arith, c.requires.part, c.arity-left.ensures)

pub returns : goal.returns
returns c = to_size c.args.node (2 ^ 66) _ arity (λ n sh a. choices a c.args.node sh c.args.env n) _ _ _ c.arity-left.ensures (c.choices.ensures (2 ^ 66) (omega arith))
