use Rattle.std.proofs.Common.{◌∙◌, ◌++◌, List, ℕ, ap, refl, subst}
use Rattle.std.proofs.lemmas.Result.{err_from_is_err_and}
use Rattle.std.specs.Prelude.{Ok, Err, codes}
use Rattle.model_run.specs.FlowNodes.{branch_name, logging}
use Rattle.model_run.specs.declared.ending.Ending.TheVariants.{Thrown}
use Rattle.cps_frames.specs.Standing.{standing}
use Rattle.model_run.specs.State.{Ended}
use Rattle.cps_frames.specs.Moves.{ComesTo}
use Rattle.cps_frames.specs.declared.thread.Move.TheVariants.{Ends}
use Rattle.cps_frames.proofs.MoveLaws.{comes_ended}
use Rattle.step_library.proofs.StepMoves.{no_line, to_line}
use Rattle.step_library.proofs.branches.log_failure.Goals as goal

pub returns-in_err-say : goal.returns-in_err-say
returns-in_err-say c = λ t k r pos.
    let u = standing c.args.shared.now t in
    let told = c.as_slice-2.ensures ∙ c.in_ok-line.ensures ∙ ap (λ (x : List ℕ). codes "Failed in branch " ++ x) (c.as_slice.ensures ∙ c.in_ok-name.ensures ∙ ap (branch_name c.args.start) c.nodes.ensures.nodes) in
    let p = err_from_is_err_and c.from_residual-in_err-say.result c.from_residual-in_err-say.ensures.1 in
    rw (p.1, p.2) (subst (λ (x : List ℕ). ComesTo k r (λ sh a. logging x (Ended (Thrown c.args.cell))) u (Err c.in_err-say.field-0.0) (standing c.say.new.shared t)) told (no_line k r c.as_slice-2.result.now (λ sh a. Ended (Thrown c.args.cell)) c.in_err-say.field-0.0 _ _ (c.in_err-say.ensures t) pos))

pub returns : goal.returns
returns c = λ t k r pos.
    let u = standing c.args.shared.now t in
    let told = c.as_slice-2.ensures ∙ c.in_ok-line.ensures ∙ ap (λ (x : List ℕ). codes "Failed in branch " ++ x) (c.as_slice.ensures ∙ c.in_ok-name.ensures ∙ ap (branch_name c.args.start) c.nodes.ensures.nodes) in
    subst (λ (x : List ℕ). ComesTo k r (λ sh a. logging x (Ended (Thrown c.args.cell))) u (Ok (Ends (Thrown c.args.cell))) (standing c.say.new.shared t)) told (to_line k r c.as_slice-2.result.now (λ sh a. Ended (Thrown c.args.cell)) _ _ (Ok (Ends (Thrown c.args.cell))) _ (c.in_ok-say.ensures t) (comes_ended k r _ _ _ pos (λ a rs. refl)))
