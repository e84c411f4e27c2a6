use Rattle.std.proofs.Common.{subst, sym}
use Rattle.std.specs.Prelude.{codes}
use Rattle.model_run.specs.Around.{cells, limits}
use Rattle.model_values.specs.Kinds.{closure}
use Rattle.model_values.specs.Throws.{no_method}
use Rattle.cps_frames.specs.Changes.{GivesNothing}
use Rattle.cps_calls.proofs.ThrowLaws.{method_throws}
use Rattle.cps_calls.proofs.bodies.throw_unfit.Goals as goal

pub throw_with-requires-clause-fits : goal.throw_with-requires-clause-fits
throw_with-requires-clause-fits c = c.in-Ok.ensures.below _

pub throw_with-requires-clause-throws : goal.throw_with-requires-clause-throws
throw_with-requires-clause-throws c =
    let h = c.args.shared.now.heap.cells in
    subst GivesNothing (sym (c.in-Ok.ensures.answer h)) (method_throws h (closure 0) (codes "call"))

pub returns-in-Ok : goal.returns-in-Ok
returns-in-Ok c = λ t. c.throw_with.ensures t (λ w. no_method (limits w) (cells w) (closure 0) (codes "call")) (sym (c.in-Ok.ensures.answer c.args.shared.now.heap.cells))
