use Rattle.std.proofs.Common.{length}
use Rattle.std.specs.Prelude.{codes}
use Rattle.step_arguments.proofs.Arguments.{given_some}
use Rattle.step_arguments.proofs.binding.with_body.Goals as goal

pub returns-in-CatchError-clause-usable : goal.returns-in-CatchError-clause-usable
returns-in-CatchError-clause-usable c = (c.requires.closure, given_some (length c.args.heap.now.cells) (codes "message") c.args.arguments.now c.given.result c.requires.below c.given.ensures)
