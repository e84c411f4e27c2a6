use Rattle.std.proofs.Common.{length, subst, sym}
use Rattle.std.specs.Prelude.{IfSome}
use Rattle.step_arguments.specs.Binding.{HasText}
use Rattle.step_arguments.proofs.Arguments.{given_below}
use Rattle.step_arguments.proofs.uses.text_given.Goals as goal

pub written-requires : goal.written-requires
written-requires c =
    let h = c.args.heap.now.cells in
    record {
      below = given_below (length h) c.args.name.now c.args.arguments.now c.in-Some.value c.requires.below c.in-Some.ensures;
      text = subst (λ o. IfSome o (HasText h)) (sym c.in-Some.ensures) c.requires.text;
    }
