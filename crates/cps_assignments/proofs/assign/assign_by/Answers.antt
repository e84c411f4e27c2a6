use Rattle.std.proofs.Common.{◌∙◌, ◌^◌, Err, Ok, length, ap, arith, refl, subst, sym}
use Rattle.std.proofs.lemmas.Result.{err_from_is_err_and}
use Rattle.model_values.specs.Limits.{product_limits}
use Rattle.model_values.specs.Operators.{apply}
use Rattle.model_run.proofs.OperationLaws.{apply_later}
use Rattle.model_run.specs.Around.{form_at, value_at}
use Rattle.model_run.specs.Assignments.{operator_in, place_size}
use Rattle.model_run.specs.FrameTable.{is_assignment}
use Rattle.model_run.specs.Nesting.{shape_at}
use Rattle.value_view.specs.Answers.{Answers}
use Rattle.cps_code.specs.Script.{script_of}
use Rattle.cps_frames.specs.Standing.{standing}
use Rattle.cps_frames.proofs.MoveLaws.{done_answers}
use Rattle.cps_variables.proofs.SightLaws.{below_there}
use Rattle.cps_assignments.proofs.AssignLaws.{joined, to_join_uncounted, to_joined, to_not_joined, to_plain, to_plain_refused}
use Rattle.cps_assignments.proofs.TargetLaws.{place_below, read_within, script_counted, stands_counted, stands_done, stands_suffix, there_counted, there_suffix}
use Rattle.cps_assignments.proofs.assign.assign_by.Goals as goal

pub operator_in-requires : goal.operator_in-requires
operator_in-requires c = ap is_assignment c.kind.ensures ∙ c.requires.assigns.form

pub returns-in_err-count_suffix-in-None : goal.returns-in_err-count_suffix-in-None
returns-in_err-count_suffix-in-None c = λ r lt.
    let p = err_from_is_err_and c.from_residual.result c.from_residual.ensures.1 in
    rw (p.1, p.2) (to_plain_refused c.args.node r c.args.kept c.args.env c.args.value c.in_err-count_suffix-in-None.field-0.0 _ _ (ap operator_in (sym c.kind.ensures) ∙ sym c.operator_in.ensures ∙ c.in-None.is) (c.in_err-count_suffix-in-None.ensures c.args.state.now) lt)

pub write_target-requires-clause-stands : goal.write_target-requires-clause-stands
write_target-requires-clause-stands c = stands_suffix _ (standing c.args.shared.now c.args.state.now) (standing c.count_suffix.new.shared c.args.state.now) c.args.node c.args.env c.args.kept (c.in_ok-count_suffix-in-None.ensures c.args.state.now) c.requires.stands

pub write_target-requires-clause-value : goal.write_target-requires-clause-value
write_target-requires-clause-value c = there_suffix _ (standing c.args.shared.now c.args.state.now) (standing c.count_suffix.new.shared c.args.state.now) c.args.value (c.in_ok-count_suffix-in-None.ensures c.args.state.now) c.requires.value

pub returns-in-None : goal.returns-in-None
returns-in-None c = λ r lt.
    to_plain c.args.node r c.args.kept c.args.env c.args.value _ _ _ _ (ap operator_in (sym c.kind.ensures) ∙ sym c.operator_in.ensures ∙ c.in-None.is) (c.in_ok-count_suffix-in-None.ensures c.args.state.now) (c.write_target.ensures c.args.state.now r lt)

pub returns-in_err-tick-in-Some : goal.returns-in_err-tick-in-Some
returns-in_err-tick-in-Some c = λ r lt.
    let p = err_from_is_err_and c.from_residual-in_err-tick-in-Some.result c.from_residual-in_err-tick-in-Some.ensures.1 in
    rw (p.1, p.2) (to_join_uncounted c.args.node r c.args.kept c.args.env c.args.value c.in-Some.op c.in_err-tick-in-Some.field-0.0 _ _ (ap operator_in (sym c.kind.ensures) ∙ sym c.operator_in.ensures ∙ c.in-Some.is) (c.in_err-tick-in-Some.ensures c.args.state.now) lt)

pub place_size-requires : goal.place_size-requires
place_size-requires c = (stands_counted (standing c.args.shared.now c.args.state.now) (standing c.tick.new.shared c.args.state.now) c.args.node c.args.env c.args.kept (c.in_ok-tick-in-Some.ensures c.args.state.now) c.requires.stands).target

pub kept_value-old-requires : goal.kept_value-old-requires
kept_value-old-requires c =
    let root = script_of c.args.shared.now.code in
    let same = script_counted (standing c.args.shared.now c.args.state.now) (standing c.tick.new.shared c.args.state.now) (c.in_ok-tick-in-Some.ensures c.args.state.now) in
    let size = c.place_size.ensures ∙ ap (λ t. place_size (form_at (shape_at t c.args.node).parts 0)) same in
    let lt = read_within (shape_at root c.args.node) c.in-Some.op (length c.args.kept) (ap operator_in (sym c.kind.ensures) ∙ sym c.operator_in.ensures ∙ c.in-Some.is) c.requires.read in
    omega (arith, lt, size)

pub apply-requires-clause-left : goal.apply-requires-clause-left
apply-requires-clause-left c = place_below c.tick.new.shared.heap.cells c.args.kept _ c.kept_value-old.result c.kept_value-old.ensures (stands_counted (standing c.args.shared.now c.args.state.now) (standing c.tick.new.shared c.args.state.now) c.args.node c.args.env c.args.kept (c.in_ok-tick-in-Some.ensures c.args.state.now) c.requires.stands).there

pub apply-requires-clause-right : goal.apply-requires-clause-right
apply-requires-clause-right c = below_there c.tick.new.shared.heap.cells c.args.value (there_counted (standing c.args.shared.now c.args.state.now) (standing c.tick.new.shared c.args.state.now) c.args.value (c.in_ok-tick-in-Some.ensures c.args.state.now) c.requires.value)

pub returns-in_err-value-in-Some : goal.returns-in_err-value-in-Some
returns-in_err-value-in-Some c = λ r lt.
    let p = err_from_is_err_and c.from_residual-in_err-value-in-Some.result c.from_residual-in_err-value-in-Some.ensures.1 in
    let F = form_at (shape_at (script_of c.tick.new.shared.code) c.args.node).parts 0 in
    let old = c.kept_value-old.ensures ∙ ap (λ n. value_at n c.args.kept) c.place_size.ensures in
    let u1 = standing c.tick.new.shared c.args.state.now in
    rw (p.1, p.2) (to_not_joined c.args.node r c.args.kept c.args.env c.args.value c.in-Some.op c.in_err-value-in-Some.field-0.0 _ u1 _ (ap operator_in (sym c.kind.ensures) ∙ sym c.operator_in.ensures ∙ c.in-Some.is) (c.in_ok-tick-in-Some.ensures c.args.state.now)
    (done_answers (joined c.in-Some.op F c.args.kept c.args.value) c.tick.new.shared.heap c.apply.new.heap u1 (Err c.in_err-value-in-Some.field-0.0) _ refl refl refl (record { parent = refl; heap = c.in_err-value-in-Some.ensures.leaves.follows })
    (subst (λ y. Answers (apply product_limits c.tick.new.shared.heap.cells c.in-Some.op y c.args.value) c.tick.new.shared.heap c.apply.new.heap (Err c.in_err-value-in-Some.field-0.0)) old c.in_err-value-in-Some.ensures.answer)))

pub write_target-requires-in-Some-clause-stands : goal.write_target-requires-in-Some-clause-stands
write_target-requires-in-Some-clause-stands c =
    let F = form_at (shape_at (script_of c.tick.new.shared.code) c.args.node).parts 0 in
    let old = c.kept_value-old.ensures ∙ ap (λ n. value_at n c.args.kept) c.place_size.ensures in
    let u1 = standing c.tick.new.shared c.args.state.now in
    let u2 = standing (record c.tick.new.shared { heap = c.apply.new.heap }) c.args.state.now in
    stands_done (joined c.in-Some.op F c.args.kept c.args.value) u1 u2 c.in_ok-value-in-Some.value c.args.node c.args.env c.args.kept (apply_later u1.world c.in-Some.op (value_at (place_size F) c.args.kept) c.args.value)
    (done_answers (joined c.in-Some.op F c.args.kept c.args.value) c.tick.new.shared.heap c.apply.new.heap u1 (Ok c.in_ok-value-in-Some.value) u2 refl refl refl (record { parent = refl; heap = c.in_ok-value-in-Some.ensures.leaves.follows })
    (subst (λ y. Answers (apply product_limits c.tick.new.shared.heap.cells c.in-Some.op y c.args.value) c.tick.new.shared.heap c.apply.new.heap (Ok c.in_ok-value-in-Some.value)) old c.in_ok-value-in-Some.ensures.answer))
    (stands_counted (standing c.args.shared.now c.args.state.now) u1 c.args.node c.args.env c.args.kept (c.in_ok-tick-in-Some.ensures c.args.state.now) c.requires.stands)

pub returns : goal.returns
returns c = λ r lt.
    let F = form_at (shape_at (script_of c.tick.new.shared.code) c.args.node).parts 0 in
    let old = c.kept_value-old.ensures ∙ ap (λ n. value_at n c.args.kept) c.place_size.ensures in
    let u1 = standing c.tick.new.shared c.args.state.now in
    let u2 = standing (record c.tick.new.shared { heap = c.apply.new.heap }) c.args.state.now in
    to_joined c.args.node r c.args.kept c.args.env c.args.value c.in_ok-value-in-Some.value c.in-Some.op (standing c.args.shared.now c.args.state.now) u1 u2 _ _ (ap operator_in (sym c.kind.ensures) ∙ sym c.operator_in.ensures ∙ c.in-Some.is) (c.in_ok-tick-in-Some.ensures c.args.state.now)
    (done_answers (joined c.in-Some.op F c.args.kept c.args.value) c.tick.new.shared.heap c.apply.new.heap u1 (Ok c.in_ok-value-in-Some.value) u2 refl refl refl (record { parent = refl; heap = c.in_ok-value-in-Some.ensures.leaves.follows })
    (subst (λ y. Answers (apply product_limits c.tick.new.shared.heap.cells c.in-Some.op y c.args.value) c.tick.new.shared.heap c.apply.new.heap (Ok c.in_ok-value-in-Some.value)) old c.in_ok-value-in-Some.ensures.answer))
    (c.write_target-in-Some.ensures c.args.state.now (2 ^ 66) (omega arith))
