use Rattle.std.proofs.Common.{length, refl, sym, subst}
use Rattle.std.specs.Prelude.{Ok, Err}
use Rattle.std.proofs.lemmas.Result.{err_from_is_err_and}
use Rattle.cell_heap.specs.Soundness.{ValueBelow}
use Rattle.model_values.specs.Index.{get_at}
use Rattle.model_run.specs.declared.frame.FrameKind.TheVariants as kind
use Rattle.model_run.specs.Around.{cells, ended, limits, value_at}
use Rattle.model_run.specs.State.{counted, may_count, operating}
use Rattle.model_run.specs.declared.ending.Ending.TheVariants.{Normal}
use Rattle.cps_frames.specs.Halts.{halt_of}
use Rattle.cps_frames.specs.declared.halt.Halt.TheVariants.{Limit}
use Rattle.cps_frames.specs.declared.thread.Move.TheVariants.{Ends}
use Rattle.cps_frames.specs.Order.{rank}
use Rattle.cps_frames.specs.Standing.{standing}
use Rattle.cps_frames.proofs.MoveLaws.{comes_met, done_answers}
use Rattle.cps_operators.proofs.FrameLaws.{below_passed, below_there, first_there, row_values, value_below}
use Rattle.cps_operators.proofs.OperandLaws.{rank_pos, to_index}
use Rattle.cps_operators.proofs.YieldLaws.{counted_ends, counted_stops, yields_operating}
use Rattle.cps_operators.proofs.suffixes.index_value.Goals as goal

pub returns-in_err-tick : goal.returns-in_err-tick
returns-in_err-tick c =
    let f = c.args.frame in
    let p = err_from_is_err_and c.from_residual.result c.from_residual.ensures.1 in
    let u = standing c.args.shared.now c.args.state.now in
    let w = standing c.tick.new.shared c.args.state.now in
    rw (p.1, p.2) (to_index f c.args.value c.as_slice.result.now u (Err (Limit c.in_err-tick.field-0.0)) w c.requires.kind c.as_slice.ensures
    (comes_met f.node (rank f) may_count counted (λ sh a. operating (λ w. get_at (limits w) (cells w) (value_at 0 c.as_slice.result.now) c.args.value) ended) _ _ _ (c.in_err-tick.ensures c.args.state.now) (rank_pos f)))

pub get_at-requires-clause-left : goal.get_at-requires-clause-left
get_at-requires-clause-left c =
    let u = standing c.args.shared.now c.args.state.now in
    let there = first_there u.world.shared c.args.frame.values (row_values u c.args.frame _ kind.IndexValue c.requires.may c.requires.kind) in
    below_passed u (standing c.tick.new.shared c.args.state.now) (value_at 0 c.as_slice.result.now) (c.in_ok-tick.ensures c.args.state.now)
    (subst (λ xs. ValueBelow (length u.world.shared.cells) (value_at 0 xs)) (sym c.as_slice.ensures) (below_there u.world.shared.cells (value_at 0 c.args.frame.values) there))

pub get_at-requires-clause-right : goal.get_at-requires-clause-right
get_at-requires-clause-right c =
    let u = standing c.args.shared.now c.args.state.now in
    below_passed u (standing c.tick.new.shared c.args.state.now) c.args.value (c.in_ok-tick.ensures c.args.state.now) (value_below u c.args.frame c.args.value c.requires.may)

pub returns-in_err-given : goal.returns-in_err-given
returns-in_err-given c =
    let f = c.args.frame in
    let x = value_at 0 c.as_slice.result.now in
    let p = err_from_is_err_and c.from_residual-in_err-given.result c.from_residual-in_err-given.ensures.1 in
    let u = standing c.args.shared.now c.args.state.now in
    let v = standing c.tick.new.shared c.args.state.now in
    let w = standing (record c.tick.new.shared { heap = c.get_at.new.heap }) c.args.state.now in
    rw (p.1, p.2) (to_index f c.args.value c.as_slice.result.now u (Err (halt_of c.in_err-given.field-0.0)) w c.requires.kind c.as_slice.ensures
    (counted_stops f.node (rank f) (operating (λ w. get_at (limits w) (cells w) x c.args.value)) (halt_of c.in_err-given.field-0.0) u v w (c.in_ok-tick.ensures c.args.state.now)
    (yields_operating (λ w. get_at (limits w) (cells w) x c.args.value) v (Err c.in_err-given.field-0.0) w
    (done_answers (λ w. get_at (limits w) (cells w) x c.args.value) c.tick.new.shared.heap c.get_at.new.heap v (Err c.in_err-given.field-0.0) w refl refl refl (record { parent = refl; heap = c.get_at.ensures.leaves.follows }) c.in_err-given.ensures.answer))
    (rank_pos f)))

pub returns : goal.returns
returns c =
    let f = c.args.frame in
    let x = value_at 0 c.as_slice.result.now in
    let u = standing c.args.shared.now c.args.state.now in
    let v = standing c.tick.new.shared c.args.state.now in
    let w = standing (record c.tick.new.shared { heap = c.get_at.new.heap }) c.args.state.now in
    to_index f c.args.value c.as_slice.result.now u (Ok (Ends (Normal c.in_ok-given.given))) w c.requires.kind c.as_slice.ensures
    (counted_ends f.node (rank f) (operating (λ w. get_at (limits w) (cells w) x c.args.value)) c.in_ok-given.given u v w (c.in_ok-tick.ensures c.args.state.now)
    (yields_operating (λ w. get_at (limits w) (cells w) x c.args.value) v (Ok c.in_ok-given.given) w
    (done_answers (λ w. get_at (limits w) (cells w) x c.args.value) c.tick.new.shared.heap c.get_at.new.heap v (Ok c.in_ok-given.given) w refl refl refl (record { parent = refl; heap = c.get_at.ensures.leaves.follows }) c.in_ok-given.ensures.answer))
    (rank_pos f))
