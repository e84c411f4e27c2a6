use Rattle.std.proofs.Common.{refl, subst, sym}
use Rattle.std.specs.Prelude.{Err}
use Rattle.model_values.specs.Cells.{Answer}
use Rattle.model_values.specs.Throws.{throw_value}
use Rattle.model_run.specs.Around.{cells, ended, limits}
use Rattle.model_run.specs.State.{World}
use Rattle.model_run.specs.Statements.{throws}
use Rattle.model_run.specs.declared.frame.FrameKind.TheVariants as kind
use Rattle.cps_frames.specs.Moves.{ComesTo}
use Rattle.cps_frames.specs.Order.{rank}
use Rattle.cps_frames.specs.Standing.{standing}
use Rattle.cps_frames.proofs.EndLaws.{block_inside}
use Rattle.cps_frames.proofs.MoveLaws.{done_answers, to_thrown}
use Rattle.cps_frames.proofs.ThrowLaws.{no_value}
use Rattle.cps_variables.proofs.NodeLaws.{rank_some, value_frame}
use Rattle.cps_statements.proofs.ThrowLaws.{value_throws}
use Rattle.cps_statements.proofs.endings.after_throw.Goals as goal

pub value_of-requires : goal.value_of-requires
value_of-requires c = block_inside c.requires.may c.requires.kind refl

pub unreachable-requires : goal.unreachable-requires
unreachable-requires c = no_value _ c.args.shared.now.heap c.throw_value.new.heap c.throw_value.result (value_throws c.args.shared.now.heap.cells c.in_ok-value.value) c.throw_value.ensures.answer c.in_default.not-Err

pub returns : goal.returns
returns c =
    let f = c.args.frame in
    let r = rank f in
    let x = c.in_ok-value.value in
    let old = c.args.shared.now.heap in
    let new = c.throw_value.new.heap in
    let u = standing c.args.shared.now c.args.state.now in
    let v = standing (record c.args.shared.now { heap = new }) c.args.state.now in
    let o = c.in-Err.refusal in
    let says : World → Answer = λ w. throw_value (limits w) (cells w) x in
    value_frame r f kind.ThrowValue (λ y sh a. throws y) c.args.ending x u (Err c.from.result) v c.requires.kind (λ sh a. refl) (sym c.in_ok-value.ensures)
    (subst (λ m. ComesTo f.node r (λ sh a. throws x) u (Err m) v) (sym c.from.ensures)
    (to_thrown f.node r says (λ y sh a. ended y) o u v (done_answers says old new u (Err o) v refl refl refl (record { parent = refl; heap = c.in-Err.ensures.leaves.follows }) c.in-Err.ensures.answer) (rank_some f)))
