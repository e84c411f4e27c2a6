use Rattle.std.proofs.Common.{◌∙◌, sym, ap, subst}
use Rattle.std.specs.Prelude.{Err}
use Rattle.model_run.specs.Around.{ended}
use Rattle.model_run.specs.Nesting.{shape_at}
use Rattle.model_run.specs.State.{operating}
use Rattle.model_values.specs.Limits.{product_limits}
use Rattle.model_values.specs.Throws.{unknown_step}
use Rattle.cps_code.specs.Script.{script_of}
use Rattle.cps_frames.specs.Moves.{ComesTo}
use Rattle.cps_frames.specs.Standing.{standing}
use Rattle.cps_frames.proofs.MoveLaws.{to_thrown}
use Rattle.cps_frames.specs.Changes.{GivesNothing}
use Rattle.cps_calls.specs.Meanings.{name_at, unknown_at}
use Rattle.cps_calls.proofs.ThrowLaws.{unknown_throws}
use Rattle.cps_calls.proofs.names.refuse_name.Goals as goal

pub throw_with-requires-clause-fits : goal.throw_with-requires-clause-fits
throw_with-requires-clause-fits c = c.in_ok-effect.ensures.below _

pub throw_with-requires-clause-throws : goal.throw_with-requires-clause-throws
throw_with-requires-clause-throws c =
    let h = c.args.shared.now.heap.cells in
    subst GivesNothing (sym (c.in_ok-effect.ensures.answer h)) (unknown_throws h c.as_slice.result.now)

pub returns : goal.returns
returns c = λ t k r pos.
    let h = c.args.shared.now.heap.cells in
    let u = standing c.args.shared.now t in
    let v = standing c.throw_with.new.shared t in
    let says = unknown_at (shape_at (script_of c.args.shared.now.code) c.args.node).form in
    let name = sym (ap name_at c.kind.ensures) ∙ ap name_at c.in-Call.is ∙ sym c.as_slice.ensures in
    subst (λ x. ComesTo k r (λ sh a. operating says ended) u (Err x) v) (sym c.from.ensures)
    (to_thrown k r says (λ y sh a. ended y) c.throw_with.result u v (c.throw_with.ensures t says (ap (unknown_step product_limits h) name ∙ sym (c.in_ok-effect.ensures.answer h))) pos)
