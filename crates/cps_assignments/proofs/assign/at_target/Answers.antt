use Rattle.std.proofs.Common.{◌∙◌, ◌++◌, ◌∷◌, [], true, false, ap, arith, refl, sym}
use Rattle.model_syntax.specs.declared.node.NodeForm.TheVariants as form
use Rattle.model_run.specs.Around.{form_at}
use Rattle.model_run.specs.FrameTable.{is_target_form}
use Rattle.model_run.specs.Assignments.{assign_value, read_target, step_by}
use Rattle.cps_assignments.specs.Targets.{stepped}
use Rattle.cps_assignments.proofs.AssignLaws.{join_says, set_says, to_kind_of}
use Rattle.cps_assignments.proofs.TargetLaws.{no_other_form}
use Rattle.cps_assignments.proofs.assign.at_target.Goals as goal

pub returns-in-None : goal.returns-in-None
returns-in-None c = λ r lt.
    to_kind_of c.args.node r c.args.place c.args.env (form.Assign c.in-Assign.sign) (λ sh a. assign_value a c.args.node sh c.args.env c.args.place) _ _ _ (sym c.kind.ensures ∙ c.in-Assign.is) (λ sh a. set_says a c.args.node sh c.args.env c.args.place c.in-Assign.sign (sym c.sign_operator.ensures ∙ c.in-None.is)) (c.assign_value.ensures r lt)

pub returns-in-Some : goal.returns-in-Some
returns-in-Some c = λ r lt.
    to_kind_of c.args.node r c.args.place c.args.env (form.Assign c.in-Assign.sign) (λ sh a. read_target (form_at sh.parts 0) c.args.place c.args.env (λ old. assign_value a c.args.node sh c.args.env (c.args.place ++ old ∷ []))) _ _ _ (sym c.kind.ensures ∙ c.in-Assign.is) (λ sh a. join_says a c.args.node sh c.args.env c.args.place c.in-Assign.sign _ (sym c.sign_operator.ensures ∙ c.in-Some.is)) (c.read_first.ensures r lt)

pub returns-in-Increment : goal.returns-in-Increment
returns-in-Increment c = λ r lt.
    to_kind_of c.args.node r c.args.place c.args.env form.Increment (λ sh a. step_by (stepped true) (form_at sh.parts 0) c.args.env c.args.place) _ _ _ (sym c.kind.ensures ∙ c.in-Increment.is) (λ sh a. refl) (c.step_by.ensures r (omega (arith, lt)))

pub returns-in-Decrement : goal.returns-in-Decrement
returns-in-Decrement c = λ r lt.
    to_kind_of c.args.node r c.args.place c.args.env form.Decrement (λ sh a. step_by (stepped false) (form_at sh.parts 0) c.args.env c.args.place) _ _ _ (sym c.kind.ensures ∙ c.in-Decrement.is) (λ sh a. refl) (c.step_by-in-Decrement.ensures r (omega (arith, lt)))

pub unreachable-requires : goal.unreachable-requires
unreachable-requires c = no_other_form c.kind.result.now (ap is_target_form c.kind.ensures ∙ c.requires.target.form) c.in_default.not-Assign c.in_default.not-Increment c.in_default.not-Decrement
