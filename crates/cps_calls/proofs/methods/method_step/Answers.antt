use Rattle.std.proofs.Common.{◌≡◌, ◌∙◌, ◌&&◌, Ok, Err, true, false, refl, sym, ap, arith}
use Rattle.std.proofs.lemmas.Result.{err_from_is_err_and}
use Rattle.model_values.specs.Kinds.{kind}
use Rattle.model_values.specs.declared.value.Value.TheVariants.{Null}
use Rattle.model_run.specs.declared.ending.Ending.TheVariants.{Normal}
use Rattle.model_run.specs.Around.{ended}
use Rattle.model_run.specs.Calls.{call_method}
use Rattle.model_run.specs.Forms.{gathered}
use Rattle.model_run.specs.Nesting.{shape_at}
use Rattle.model_run.specs.State.{counted, may_count, seeing, tick}
use Rattle.model_run.proofs.Room.{spends_count}
use Rattle.cps_code.specs.Script.{script_of}
use Rattle.cps_frames.specs.Standing.{standing, world_of}
use Rattle.cps_frames.specs.declared.halt.Halt.TheVariants.{Limit as HaltLimit}
use Rattle.cps_frames.specs.declared.thread.Move.TheVariants.{Ends}
use Rattle.cps_frames.proofs.MoveLaws.{comes_ended, comes_met, to_as, to_counted}
use Rattle.cps_calls.specs.Calls.{method_name}
use Rattle.cps_calls.specs.Kinds.{is_null_kind, is_null_safe}
use Rattle.cps_calls.proofs.NameLaws.{both, method_called, method_says, not_both, not_first}
use Rattle.cps_calls.proofs.methods.method_step.Goals as goal
use Rattle.cps_calls.proofs.methods.method_step.Goals.{else-is_null_safe-via-then-is_null_safe+else-is_null, else-is_null_safe-via-else-is_null_safe}

pub call_method-requires-clause-called : goal.call_method-requires-clause-called
call_method-requires-clause-called c = method_called (shape_at (script_of c.args.shared.now.code) c.args.node).form c.requires.form

pub returns-in_err-tick : goal.returns-in_err-tick
returns-in_err-tick c = λ r above.
    let p = err_from_is_err_and c.from_residual.result c.from_residual.ensures.1 in
    let k = c.args.node in
    let w = world_of c.args.shared.now c.args.state.now in
    let u = standing c.args.shared.now c.args.state.now in
    let sh = shape_at (script_of c.args.shared.now.code) k in
    let h = c.args.shared.now.heap.cells in
    let v = standing c.tick.new.shared c.args.state.now in
    let l = c.in_err-tick.field-0.0 in
    let is = both (is_null_safe sh.form) (is_null_kind (kind h c.in-Some.on)) (sym c.is_null_safe.ensures ∙ c.if-is_null_safe.true) (ap is_null_kind (sym c.kind_of.ensures.kind) ∙ sym c.is_null.ensures ∙ c.if-is_null.true) in
    rw (p.1, p.2) (to_as k r (λ sh a. gathered a k c.args.env sh sh.form c.args.values) (λ sh a. tick (ended Null)) u (Err (HaltLimit l)) v
    (λ a rs. method_says sh.form c.requires.form a k c.args.env sh c.in-Some.on c.in-Some.arguments c.args.values w rs true c.in-Some.ensures is)
    (comes_met k r may_count counted (λ sh a. ended Null) l u v (c.in_err-tick.ensures c.args.state.now) above))

pub returns-then-is_null : goal.returns-then-is_null
returns-then-is_null c = λ r above.
    let k = c.args.node in
    let w = world_of c.args.shared.now c.args.state.now in
    let u = standing c.args.shared.now c.args.state.now in
    let sh = shape_at (script_of c.args.shared.now.code) k in
    let h = c.args.shared.now.heap.cells in
    let u2 = standing c.tick.new.shared c.args.state.now in
    let is = both (is_null_safe sh.form) (is_null_kind (kind h c.in-Some.on)) (sym c.is_null_safe.ensures ∙ c.if-is_null_safe.true) (ap is_null_kind (sym c.kind_of.ensures.kind) ∙ sym c.is_null.ensures ∙ c.if-is_null.true) in
    to_as k r (λ sh a. gathered a k c.args.env sh sh.form c.args.values) (λ sh a. tick (ended Null)) u (Ok (Ends (Normal Null))) u2
    (λ a rs. method_says sh.form c.requires.form a k c.args.env sh c.in-Some.on c.in-Some.arguments c.args.values w rs true c.in-Some.ensures is)
    (to_counted k r 1 may_count counted spends_count (λ sh a. ended Null) u u2 (Ok (Ends (Normal Null))) u2 (c.in_ok-tick.ensures c.args.state.now) (omega arith)
    (comes_ended k 1 (λ sh a. ended Null) u2 (Normal Null) (omega arith) (λ a rs. refl)))

pub returns : goal.returns
returns c = λ r above.
    let k = c.args.node in
    let w = world_of c.args.shared.now c.args.state.now in
    let u = standing c.args.shared.now c.args.state.now in
    let sh = shape_at (script_of c.args.shared.now.code) k in
    let h = c.args.shared.now.heap.cells in
    let is : (is_null_safe sh.form && is_null_kind (kind h c.in-Some.on)) ≡ false =
    elim c.else-is_null_safe.branch [
      | else-is_null_safe-via-then-is_null_safe+else-is_null x ↦ not_both (is_null_safe sh.form) (is_null_kind (kind h c.in-Some.on)) (ap is_null_kind (sym x.kind_of.ensures.kind) ∙ sym x.is_null.ensures ∙ x.if-is_null.false)
      | else-is_null_safe-via-else-is_null_safe x ↦ not_first (is_null_safe sh.form) (is_null_kind (kind h c.in-Some.on)) (sym c.is_null_safe.ensures ∙ x.if-is_null_safe.false)
    ] in
    to_as k r (λ sh a. gathered a k c.args.env sh sh.form c.args.values) (λ sh a. seeing (call_method a k sh c.args.env (method_name sh.form) c.in-Some.on c.in-Some.arguments)) u _ _
    (λ a rs. method_says sh.form c.requires.form a k c.args.env sh c.in-Some.on c.in-Some.arguments c.args.values w rs false c.in-Some.ensures is)
    (c.call_method.ensures r above)
