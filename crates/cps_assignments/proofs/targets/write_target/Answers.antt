use Rattle.std.proofs.Common.{◌∙◌, ◌≤◌, length, arith, refl, subst, sym}
use Rattle.std.specs.Prelude.{Err, Ok}
use Rattle.std.proofs.lemmas.Result.{err_from_is_err_and}
use Rattle.model_syntax.specs.declared.node.NodeForm.TheVariants as form
use Rattle.model_values.specs.Index.{set_at}
use Rattle.model_run.specs.Assignments.{place_size}
use Rattle.model_run.specs.Around.{cells, ended, limits, value_at}
use Rattle.model_values.specs.Limits.{product_limits}
use Rattle.value_view.specs.Answers.{Answers}
use Rattle.cps_frames.specs.Halts.{halt_of}
use Rattle.cps_code.specs.Script.{script_of}
use Rattle.cps_frames.specs.Standing.{standing}
use Rattle.cps_frames.proofs.MoveLaws.{done_answers, to_thrown}
use Rattle.cps_variables.specs.Sight.{Written}
use Rattle.cps_assignments.proofs.AssignLaws.{to_form, to_not_written, to_written}
use Rattle.cps_assignments.proofs.TargetLaws.{no_other_target, target_part}
use Rattle.cps_assignments.proofs.targets.write_target.Goals as goal

pub part_form-requires-clause-part : goal.part_form-requires-clause-part
part_form-requires-clause-part c = target_part _ _ c.requires.stands.target

pub unreachable-requires : goal.unreachable-requires
unreachable-requires c = no_other_target (script_of c.args.shared.now.code) c.args.node c.part_form.result.now c.requires.stands.target c.part_form.ensures c.in_default.not-ToName c.in_default.not-ToProperty c.in_default.not-ToIndex

pub kept_value-of-requires : goal.kept_value-of-requires
kept_value-of-requires c =
    let le : 1 ≤ length c.args.place.now = subst (λ f. place_size f ≤ length c.args.place.now) (sym c.part_form.ensures ∙ c.in-ToProperty.is) c.requires.stands.size in
    omega (arith, le)

pub kept_value-holder-requires : goal.kept_value-holder-requires
kept_value-holder-requires c =
    let le : 2 ≤ length c.args.place.now = subst (λ f. place_size f ≤ length c.args.place.now) (sym c.part_form.ensures ∙ c.in-ToIndex.is) c.requires.stands.size in
    omega (arith, le)

pub kept_value-index-requires : goal.kept_value-index-requires
kept_value-index-requires c =
    let le : 2 ≤ length c.args.place.now = subst (λ f. place_size f ≤ length c.args.place.now) (sym c.part_form.ensures ∙ c.in-ToIndex.is) c.requires.stands.size in
    omega (arith, le)

pub returns-in_err-write_name-in-ToName : goal.returns-in_err-write_name-in-ToName
returns-in_err-write_name-in-ToName c = λ t r lt.
    let p = err_from_is_err_and c.from_residual.result c.from_residual.ensures.1 in
    rw (p.1, p.2) (to_form c.args.node r (form.ToName c.in-ToName.name) c.args.place.now c.args.env.now c.args.value (standing c.args.shared.now t) (Err (halt_of c.in_err-write_name-in-ToName.field-0.0)) (standing (record c.args.shared.now { heap = c.write_name.new.heap; binding = c.write_name.new.binding }) t) (sym c.part_form.ensures ∙ c.in-ToName.is)
    (to_not_written c.args.node r c.in-ToName.name c.args.env.now c.args.value c.in_err-write_name-in-ToName.field-0.0 _ _ (standing c.args.shared.now t) _
    (subst (λ x. Written x c.args.env.now c.args.value c.args.shared.now.heap.cells c.args.shared.now.binding.items (Err c.in_err-write_name-in-ToName.field-0.0) c.write_name.new.heap.cells c.write_name.new.binding.items) c.as_slice.ensures c.in_err-write_name-in-ToName.ensures.written)
    (record { limits = refl; cells = refl; binding_is = refl }) refl refl (record { parent = refl; heap = c.in_err-write_name-in-ToName.ensures.follows }) lt))

pub returns-in_ok-write_name-in-ToName : goal.returns-in_ok-write_name-in-ToName
returns-in_ok-write_name-in-ToName c = λ t r lt.
    to_form c.args.node r (form.ToName c.in-ToName.name) c.args.place.now c.args.env.now c.args.value _ (Ok _) _ (sym c.part_form.ensures ∙ c.in-ToName.is)
    (to_written c.args.node r c.in-ToName.name c.args.env.now c.args.value _ _ (standing c.args.shared.now t) _
    (subst (λ x. Written x c.args.env.now c.args.value c.args.shared.now.heap.cells c.args.shared.now.binding.items (Ok tt) c.write_name.new.heap.cells c.write_name.new.binding.items) c.as_slice.ensures c.in_ok-write_name-in-ToName.ensures.written)
    (record { limits = refl; cells = refl; binding_is = refl }) refl refl (record { parent = refl; heap = c.in_ok-write_name-in-ToName.ensures.follows }) (omega arith) lt)

pub returns-in_err-value-in-ToIndex : goal.returns-in_err-value-in-ToIndex
returns-in_err-value-in-ToIndex c = λ t r lt.
    let p = err_from_is_err_and c.from_residual-in_err-value-in-ToIndex.result c.from_residual-in_err-value-in-ToIndex.ensures.1 in
    rw (p.1, p.2) (to_form c.args.node r form.ToIndex c.args.place.now c.args.env.now c.args.value (standing c.args.shared.now t) (Err (halt_of c.in_err-value-in-ToIndex.field-0.0)) (standing (record c.args.shared.now { heap = c.set_at.new.heap }) t) (sym c.part_form.ensures ∙ c.in-ToIndex.is)
    (to_thrown c.args.node r (λ w. set_at (limits w) (cells w) (value_at 0 c.args.place.now) (value_at 1 c.args.place.now) c.args.value) (λ y sh a. ended y) c.in_err-value-in-ToIndex.field-0.0 (standing c.args.shared.now t) _
    (done_answers (λ w. set_at (limits w) (cells w) (value_at 0 c.args.place.now) (value_at 1 c.args.place.now) c.args.value) c.args.shared.now.heap c.set_at.new.heap (standing c.args.shared.now t) (Err c.in_err-value-in-ToIndex.field-0.0) _ refl refl refl (record { parent = refl; heap = c.in_err-value-in-ToIndex.ensures.leaves.follows })
    (subst (λ y. Answers (set_at product_limits c.args.shared.now.heap.cells y (value_at 1 c.args.place.now) c.args.value) c.args.shared.now.heap c.set_at.new.heap (Err c.in_err-value-in-ToIndex.field-0.0)) c.kept_value-holder.ensures
    (subst (λ z. Answers (set_at product_limits c.args.shared.now.heap.cells c.kept_value-holder.result z c.args.value) c.args.shared.now.heap c.set_at.new.heap (Err c.in_err-value-in-ToIndex.field-0.0)) c.kept_value-index.ensures c.in_err-value-in-ToIndex.ensures.answer))) lt))
