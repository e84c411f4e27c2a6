use Rattle.std.proofs.Common.{◌∙◌, ◌++◌, ◌∷◌, [], arith, subst}
use Rattle.std.proofs.lemmas.Result.{err_from_is_err_and}
use Rattle.model_run.specs.Assignments.{assign_value}
use Rattle.model_run.specs.Around.{form_at}
use Rattle.model_run.specs.Nesting.{shape_at}
use Rattle.cps_code.specs.Script.{script_of}
use Rattle.cps_frames.specs.Moves.{ComesTo}
use Rattle.cps_assignments.specs.Targets.{read_answer}
use Rattle.cps_frames.specs.Standing.{standing}
use Rattle.cps_assignments.proofs.AssignLaws.{to_not_counted, to_not_read, to_read}
use Rattle.cps_assignments.proofs.TargetLaws.{assigns_on, done_script, stands_suffix, suffix_script}
use Rattle.cps_assignments.proofs.assign.read_first.Goals as goal

pub returns-in_err-count_suffix : goal.returns-in_err-count_suffix
returns-in_err-count_suffix c = λ r lt.
    let p = err_from_is_err_and c.from_residual.result c.from_residual.ensures.1 in
    rw (p.1, p.2) (to_not_counted c.args.node r c.args.place c.args.env (λ y sh a. assign_value a c.args.node sh c.args.env (c.args.place ++ y ∷ [])) c.in_err-count_suffix.field-0.0 _ _ (c.in_err-count_suffix.ensures c.args.state.now) (omega (arith, lt)))

pub read_target-requires : goal.read_target-requires
read_target-requires c = stands_suffix _ (standing c.args.shared.now c.args.state.now) (standing c.count_suffix.new.shared c.args.state.now) c.args.node c.args.env c.args.place (c.in_ok-count_suffix.ensures c.args.state.now) c.requires.stands

pub returns-in_err-old : goal.returns-in_err-old
returns-in_err-old c = λ r lt.
    let p = err_from_is_err_and c.from_residual-in_err-old.result c.from_residual-in_err-old.ensures.1 in
    rw (p.1, p.2) (to_not_read c.args.node r c.args.place c.args.env (λ y sh a. assign_value a c.args.node sh c.args.env (c.args.place ++ y ∷ [])) c.in_err-old.field-0.0 _ _ _ (c.in_ok-count_suffix.ensures c.args.state.now) (c.in_err-old.ensures.done c.args.state.now) (omega (arith, lt)))

pub assign_value-requires : goal.assign_value-requires
assign_value-requires c =
    assigns_on (standing c.args.shared.now c.args.state.now) (standing c.read_target.new.shared c.args.state.now) c.args.node
    (done_script (read_answer (form_at (shape_at (script_of c.count_suffix.new.shared.code) c.args.node).parts 0) c.args.place c.args.env) (standing c.count_suffix.new.shared c.args.state.now) (standing c.read_target.new.shared c.args.state.now) c.in_ok-old.old (c.in_ok-old.ensures.done c.args.state.now) ∙ suffix_script _ (standing c.args.shared.now c.args.state.now) (standing c.count_suffix.new.shared c.args.state.now) (c.in_ok-count_suffix.ensures c.args.state.now)) c.requires.assigns

pub returns : goal.returns
returns c = λ r lt.
    to_read c.args.node r c.args.place c.args.env (λ y sh a. assign_value a c.args.node sh c.args.env (c.args.place ++ y ∷ [])) c.in_ok-old.old _ _ _ _ _ (c.in_ok-count_suffix.ensures c.args.state.now) (c.in_ok-old.ensures.done c.args.state.now)
    (subst (λ vs. ComesTo c.args.node r (λ sh a. assign_value a c.args.node sh c.args.env vs) (standing c.read_target.new.shared c.args.state.now) c.assign_value.result (standing c.read_target.new.shared c.assign_value.new.state)) c.in_ok-push.ensures.pushed (c.assign_value.ensures r lt))
