use Rattle.std.proofs.Common.{subst, sym}
use Rattle.cps_frames.specs.Changes.{GivesNothing}
use Rattle.cps_calls.proofs.ThrowLaws.{argument_throws}
use Rattle.cps_calls.proofs.methods.walk_with.Goals as goal

pub returns-in_ok-bad_argument-in_default-kind_of-clause-fits : goal.returns-in_ok-bad_argument-in_default-kind_of-clause-fits
returns-in_ok-bad_argument-in_default-kind_of-clause-fits c =
    let h = c.args.shared.now.heap.cells in
    (c.in_ok-bad_argument-in_default-kind_of.ensures.below _, subst GivesNothing (sym (c.in_ok-bad_argument-in_default-kind_of.ensures.answer h)) (argument_throws h))
