use Rattle.std.proofs.Common.{subst, sym}
use Rattle.std.specs.Prelude.{Err, codes}
use Rattle.model_run.specs.Around.{cells, ended, limits}
use Rattle.model_run.specs.State.{operating}
use Rattle.model_values.specs.Kinds.{closure}
use Rattle.model_values.specs.Throws.{no_method}
use Rattle.cps_frames.specs.Moves.{ComesTo}
use Rattle.cps_frames.specs.Standing.{standing}
use Rattle.cps_frames.proofs.MoveLaws.{to_thrown}
use Rattle.cps_calls.proofs.bodies.refuse_arguments.Goals as goal

pub returns : goal.returns
returns c = λ t k r pos.
    let u = standing c.args.shared.now t in
    let v = standing c.throw_unfit.new.shared t in
    subst (λ h. ComesTo k r (λ sh a. operating (λ w. no_method (limits w) (cells w) (closure 0) (codes "call")) ended) u (Err h) v) (sym c.from.ensures)
    (to_thrown k r (λ w. no_method (limits w) (cells w) (closure 0) (codes "call")) (λ y sh a. ended y) c.throw_unfit.result u v (c.throw_unfit.ensures t) pos)
