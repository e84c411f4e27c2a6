use Rattle.std.proofs.Common.{◌∙◌, ◌<◌, ◌≤◌, length, ap, sym, subst, arith}
use Rattle.std.proofs.lemmas.Result.{err_from_is_err_and}
use Rattle.cell_heap.specs.Soundness.{ValueBelow}
use Rattle.model_run.specs.declared.frame.FrameKind.TheVariants as kind
use Rattle.model_run.specs.Around.{arity, form_at, value_at}
use Rattle.model_run.specs.Expressions.{applying, joined, operator_of}
use Rattle.model_run.specs.Nesting.{shape_at}
use Rattle.model_run.specs.State.{counted, may_count}
use Rattle.model_run.specs.Terms.{nodes_of}
use Rattle.cps_code.specs.Script.{script_of}
use Rattle.std.specs.Prelude.{Err}
use Rattle.cps_frames.specs.declared.halt.Halt.TheVariants.{Limit}
use Rattle.cps_frames.specs.Order.{rank}
use Rattle.cps_frames.specs.Standing.{standing}
use Rattle.cps_frames.proofs.MoveLaws.{comes_met}
use Rattle.cps_operators.proofs.FrameLaws.{below_passed, below_there, first_there, row_left, row_stands, row_values, script_passed, value_below}
use Rattle.cps_operators.proofs.GrammarLaws.{operand_there}
use Rattle.cps_operators.proofs.OperandLaws.{rank_above, rank_pos, to_joined}
use Rattle.cps_operators.proofs.YieldLaws.{to_tick_stopped, to_ticked}
use Rattle.cps_operators.proofs.joins.joined_operand.Goals as goal

pub operator_at-operator-requires-clause-operand : goal.operator_at-operator-requires-clause-operand
operator_at-operator-requires-clause-operand c =
    let u = standing c.args.shared.now c.args.state.now in
    let lt = row_left u c.args.frame _ kind.JoinedOperand c.requires.may c.requires.kind in
    operand_there (script_of c.args.shared.now.code) c.requires.may.script c.args.frame.node c.current-at.result (row_stands u c.args.frame _ kind.JoinedOperand c.requires.may c.requires.kind) (omega (arith, lt, c.current-at.ensures.current)) c.current-at.ensures.below

pub returns-in_err-tick : goal.returns-in_err-tick
returns-in_err-tick c =
    let f = c.args.frame in
    let sh = shape_at (script_of c.args.shared.now.code) f.node in
    let p = err_from_is_err_and c.from_residual.result c.from_residual.ensures.1 in
    let u = standing c.args.shared.now c.args.state.now in
    let w = standing c.tick.new.shared c.args.state.now in
    rw (p.1, p.2) (to_joined f c.operator_at-operator.result c.args.value c.as_slice.result.now u (Err (Limit c.in_err-tick.field-0.0)) w c.requires.kind c.as_slice.ensures (c.operator_at-operator.ensures ∙ ap (λ i. operator_of (form_at sh.parts i)) c.current-at.ensures.current)
    (comes_met f.node (rank f) may_count counted (λ sh a. applying c.operator_at-operator.result (value_at 0 c.as_slice.result.now) c.args.value (joined a f.node sh f.env f.left)) _ _ _ (c.in_err-tick.ensures c.args.state.now) (rank_pos f)))

pub apply_operator-requires-clause-left : goal.apply_operator-requires-clause-left
apply_operator-requires-clause-left c =
    let u = standing c.args.shared.now c.args.state.now in
    let there = first_there u.world.shared c.args.frame.values (row_values u c.args.frame _ kind.JoinedOperand c.requires.may c.requires.kind) in
    below_passed u (standing c.tick.new.shared c.args.state.now) (value_at 0 c.as_slice.result.now) (c.in_ok-tick.ensures c.args.state.now)
    (subst (λ xs. ValueBelow (length u.world.shared.cells) (value_at 0 xs)) (sym c.as_slice.ensures) (below_there u.world.shared.cells (value_at 0 c.args.frame.values) there))

pub apply_operator-requires-clause-right : goal.apply_operator-requires-clause-right
apply_operator-requires-clause-right c =
    let u = standing c.args.shared.now c.args.state.now in
    below_passed u (standing c.tick.new.shared c.args.state.now) c.args.value (c.in_ok-tick.ensures c.args.state.now) (value_below u c.args.frame c.args.value c.requires.may)

pub returns-in_err-joint : goal.returns-in_err-joint
returns-in_err-joint c =
    let f = c.args.frame in
    let sh = shape_at (script_of c.args.shared.now.code) f.node in
    let p = err_from_is_err_and c.from_residual-in_err-joint.result c.from_residual-in_err-joint.ensures.1 in
    let u = standing c.args.shared.now c.args.state.now in
    let v = standing c.tick.new.shared c.args.state.now in
    let w = standing c.apply_operator.new.shared c.args.state.now in
    rw (p.1, p.2) (to_joined f c.operator_at-operator.result c.args.value c.as_slice.result.now u (Err c.in_err-joint.field-0.0) w c.requires.kind c.as_slice.ensures (c.operator_at-operator.ensures ∙ ap (λ i. operator_of (form_at sh.parts i)) c.current-at.ensures.current)
    (to_tick_stopped f.node (rank f) (applying c.operator_at-operator.result (value_at 0 c.as_slice.result.now) c.args.value) (λ z sh a. joined a f.node sh f.env f.left z) c.in_err-joint.field-0.0 u v w (c.in_ok-tick.ensures c.args.state.now) (c.in_err-joint.ensures.yields c.args.state.now) (rank_pos f)))

pub joined-requires-clause-node : goal.joined-requires-clause-node
joined-requires-clause-node c =
    let t = c.args.state.now in
    let e = ap (λ g. g.script) (c.in_ok-joint.ensures.yields t).setting ∙ script_passed (standing c.args.shared.now t) (standing c.tick.new.shared t) (c.in_ok-tick.ensures t) in
    subst (λ s. c.args.frame.node < length (nodes_of s)) (sym e) ((c.requires.may.frame).fits).node

pub joined-requires-clause-left : goal.joined-requires-clause-left
joined-requires-clause-left c =
    let t = c.args.state.now in
    let u = standing c.args.shared.now t in
    let e = ap (λ g. g.script) (c.in_ok-joint.ensures.yields t).setting ∙ script_passed u (standing c.tick.new.shared t) (c.in_ok-tick.ensures t) in
    let lt = row_left u c.args.frame _ kind.JoinedOperand c.requires.may c.requires.kind in
    subst (λ s. c.args.frame.left ≤ arity (shape_at s c.args.frame.node)) (sym e) (omega (arith, lt))

pub returns : goal.returns
returns c =
    let f = c.args.frame in
    let sh = shape_at (script_of c.args.shared.now.code) f.node in
    let u = standing c.args.shared.now c.args.state.now in
    let v = standing c.tick.new.shared c.args.state.now in
    let w = standing c.apply_operator.new.shared c.args.state.now in
    let x = standing c.apply_operator.new.shared c.joined.new.state in
    to_joined f c.operator_at-operator.result c.args.value c.as_slice.result.now u c.joined.result x c.requires.kind c.as_slice.ensures (c.operator_at-operator.ensures ∙ ap (λ i. operator_of (form_at sh.parts i)) c.current-at.ensures.current)
    (to_ticked f.node (rank f) (applying c.operator_at-operator.result (value_at 0 c.as_slice.result.now) c.args.value) (λ z sh a. joined a f.node sh f.env f.left z) c.in_ok-joint.joint u v w c.joined.result x (c.in_ok-tick.ensures c.args.state.now) (c.in_ok-joint.ensures.yields c.args.state.now)
    (c.joined.ensures (rank f) (rank_above f)))
