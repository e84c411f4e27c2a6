use Rattle.std.proofs.Common.{◌∙◌, ◌≤◌, length, arith, refl, subst, sym}
use Rattle.model_run.specs.Assignments.{place_size}
use Rattle.model_run.specs.Names.{read_name}
use Rattle.value_view.specs.Answers.{Answers}
use Rattle.cps_code.specs.Script.{script_of}
use Rattle.cps_frames.specs.Standing.{standing, world_of}
use Rattle.cps_frames.proofs.MoveLaws.{done_answers}
use Rattle.cps_assignments.specs.Targets.{read_answer}
use Rattle.cps_assignments.proofs.TargetLaws.{no_other_target, target_part}
use Rattle.cps_assignments.proofs.targets.read_target.Goals as goal

pub part_form-requires-clause-part : goal.part_form-requires-clause-part
part_form-requires-clause-part c = target_part _ _ c.requires.target

pub unreachable-requires : goal.unreachable-requires
unreachable-requires c = no_other_target (script_of c.args.shared.now.code) c.args.node c.part_form.result.now c.requires.target c.part_form.ensures c.in_default.not-ToName c.in_default.not-ToProperty c.in_default.not-ToIndex

pub kept_value-of-requires : goal.kept_value-of-requires
kept_value-of-requires c =
    let le : 1 ≤ length c.args.place.now = subst (λ f. place_size f ≤ length c.args.place.now) (sym c.part_form.ensures ∙ c.in-ToProperty.is) c.requires.size in
    omega (arith, le)

pub kept_value-holder-requires : goal.kept_value-holder-requires
kept_value-holder-requires c =
    let le : 2 ≤ length c.args.place.now = subst (λ f. place_size f ≤ length c.args.place.now) (sym c.part_form.ensures ∙ c.in-ToIndex.is) c.requires.size in
    omega (arith, le)

pub kept_value-index-requires : goal.kept_value-index-requires
kept_value-index-requires c =
    let le : 2 ≤ length c.args.place.now = subst (λ f. place_size f ≤ length c.args.place.now) (sym c.part_form.ensures ∙ c.in-ToIndex.is) c.requires.size in
    omega (arith, le)

pub returns-in-ToName-clause-done : goal.returns-in-ToName-clause-done
returns-in-ToName-clause-done c = λ t.
    done_answers (read_answer _ c.args.place.now c.args.env.now) c.args.shared.now.heap c.read_name.new.heap (standing c.args.shared.now t) c.read_name.result _ refl refl refl (record { parent = refl; heap = c.read_name.ensures.leaves.follows })
    (subst (λ f. Answers (read_answer f c.args.place.now c.args.env.now (world_of c.args.shared.now t)) c.args.shared.now.heap c.read_name.new.heap c.read_name.result) (sym c.in-ToName.is ∙ c.part_form.ensures)
    (subst (λ x. Answers (read_name x c.args.env.now (world_of c.args.shared.now t)) c.args.shared.now.heap c.read_name.new.heap c.read_name.result) c.as_slice-in-ToName.ensures
    (c.read_name.ensures.answer (world_of c.args.shared.now t) (record { limits = refl; cells = refl; binding_is = sym c.as_slice.ensures.value }))))
