use Rattle.std.proofs.Common.{refl, subst, sym}
use Rattle.std.specs.Prelude.{Err}
use Rattle.model_values.specs.Cells.{Answer, throw}
use Rattle.model_run.specs.Around.{cells, ended, limits}
use Rattle.model_run.specs.State.{World}
use Rattle.model_run.specs.Steps.{throwing}
use Rattle.cps_frames.specs.Moves.{ComesTo}
use Rattle.cps_frames.specs.Standing.{standing}
use Rattle.cps_frames.proofs.MoveLaws.{done_answers, to_thrown}
use Rattle.cps_frames.proofs.ThrowLaws.{no_value, throws}
use Rattle.step_library.proofs.lines.throwing.Goals as goal

pub unreachable-requires : goal.unreachable-requires
unreachable-requires c = no_value _ c.args.shared.now.heap c.perform.new.heap c.perform.result (throws c.args.shared.now.heap.cells c.args.class c.args.message) c.perform.ensures.answer c.in_default.not-Err

pub returns : goal.returns
returns c = λ t k r pos.
    let u = standing c.args.shared.now t in
    let v = standing (record c.args.shared.now { heap = c.perform.new.heap }) t in
    let says : World → Answer = λ w. throw (limits w) (cells w) c.args.class c.args.message in
    subst (λ x. ComesTo k r (λ sh a. throwing c.args.class c.args.message) u (Err x) v) (sym c.from.ensures)
    (to_thrown k r says (λ y sh a. ended y) c.in-Err.refusal u v (done_answers says c.args.shared.now.heap c.perform.new.heap u (Err c.in-Err.refusal) v refl refl refl (record { parent = refl; heap = c.in-Err.ensures.leaves.follows }) c.in-Err.ensures.answer) pos)
