use Rattle.std.proofs.Common.{refl, subst, sym}
use Rattle.std.specs.Prelude.{Err}
use Rattle.model_values.specs.Cells.{Answer}
use Rattle.value_view.specs.Answers.{Answers}
use Rattle.cps_frames.specs.Standing.{standing}
use Rattle.cps_frames.proofs.MoveLaws.{done_answers}
use Rattle.cps_frames.proofs.ThrowLaws.{no_value}
use Rattle.cps_calls.proofs.effects.throw_with.Goals as goal

pub unreachable-requires : goal.unreachable-requires
unreachable-requires c = no_value _ c.args.shared.now.heap c.perform.new.heap c.perform.result c.requires.throws c.perform.ensures.answer c.in_default.not-Err

pub returns : goal.returns
returns c = λ t f is.
    let old = c.args.shared.now.heap in
    let new = c.perform.new.heap in
    let o = c.in-Err.refusal in
    done_answers f old new (standing c.args.shared.now t) (Err o) (standing (record c.args.shared.now { heap = new }) t) refl refl refl (record { parent = refl; heap = c.in-Err.ensures.leaves.follows })
    (subst (λ (x : Answer). Answers x old new (Err o)) (sym is) c.in-Err.ensures.answer)
