use Rattle.std.proofs.Common.{◌∙◌, ◌++◌, List, ℕ, refl, subst}
use Rattle.std.proofs.lemmas.Result.{err_from_is_err_and}
use Rattle.std.specs.Prelude.{Ok, Err, codes}
use Rattle.model_values.specs.declared.value.Value.TheVariants.{Null}
use Rattle.model_run.specs.Around.{ended}
use Rattle.model_run.specs.FlowNodes.{logging, pipeline}
use Rattle.model_run.specs.State.{changed}
use Rattle.model_run.specs.Steps.{worsened}
use Rattle.model_run.specs.declared.ending.Ending.TheVariants.{Normal}
use Rattle.model_run.specs.declared.flow.NodeKind.TheVariants.{Atom}
use Rattle.model_run.specs.declared.result.BuildResult.TheVariants.{Unstable}
use Rattle.model_run.proofs.Relation.{kept}
use Rattle.cps_frames.specs.Moves.{ComesTo}
use Rattle.cps_frames.specs.Standing.{standing}
use Rattle.cps_frames.specs.declared.thread.Move.TheVariants.{Ends}
use Rattle.cps_frames.proofs.MoveLaws.{comes_ended}
use Rattle.step_library.proofs.StepMoves.{no_line, no_note, to_change, to_line, to_note}
use Rattle.step_library.proofs.atoms.make_unstable.Goals as goal

pub returns-in_err-note_atom : goal.returns-in_err-note_atom
returns-in_err-note_atom c = λ k r pos.
    let p = err_from_is_err_and c.from_residual.result c.from_residual.ensures.1 in
    rw (p.1, p.2) (no_note k r Atom (codes "unstable") 0 (pipeline (codes "unstable")) (λ sh a. logging (codes "WARNING: " ++ c.args.message.now) (changed (worsened Unstable) (ended Null))) c.in_err-note_atom.field-0.0 _ _ c.in_err-note_atom.ensures pos)

pub returns-in_err-say : goal.returns-in_err-say
returns-in_err-say c = λ k r pos.
    let told = c.as_slice.ensures ∙ c.in_ok-line.ensures in
    let p = err_from_is_err_and c.from_residual-in_err-say.result c.from_residual-in_err-say.ensures.1 in
    rw (p.1, p.2) (to_note k r Atom (codes "unstable") 0 (pipeline (codes "unstable")) (λ sh a. logging (codes "WARNING: " ++ c.args.message.now) (changed (worsened Unstable) (ended Null))) _ _ (Err c.in_err-say.field-0.0) _ c.in_ok-note_atom.ensures
    (subst (λ (x : List ℕ). ComesTo k r (λ sh a. logging x (changed (worsened Unstable) (ended Null))) (standing c.note_atom.new.shared c.note_atom.new.state) (Err c.in_err-say.field-0.0) (standing c.say.new.shared c.note_atom.new.state)) told
    (no_line k r c.as_slice.result.now (λ sh a. changed (worsened Unstable) (ended Null)) c.in_err-say.field-0.0 _ _ (c.in_err-say.ensures c.note_atom.new.state) pos)))

pub returns : goal.returns
returns c = λ k r pos.
    let told = c.as_slice.ensures ∙ c.in_ok-line.ensures in
    to_note k r Atom (codes "unstable") 0 (pipeline (codes "unstable")) (λ sh a. logging (codes "WARNING: " ++ c.args.message.now) (changed (worsened Unstable) (ended Null))) _ _ (Ok (Ends (Normal Null))) _ c.in_ok-note_atom.ensures
    (subst (λ (x : List ℕ). ComesTo k r (λ sh a. logging x (changed (worsened Unstable) (ended Null))) (standing c.note_atom.new.shared c.note_atom.new.state) (Ok (Ends (Normal Null))) (standing c.worsen.new.shared c.note_atom.new.state)) told
    (to_line k r c.as_slice.result.now (λ sh a. changed (worsened Unstable) (ended Null)) _ (standing c.say.new.shared c.note_atom.new.state) (Ok (Ends (Normal Null))) _ (c.in_ok-say.ensures c.note_atom.new.state)
    (to_change k r (worsened Unstable) (λ w. kept refl refl refl refl refl refl refl refl refl refl refl) (λ sh a. ended Null) _ _ (Ok (Ends (Normal Null))) _ (c.worsen.ensures c.note_atom.new.state) (comes_ended k r _ _ _ pos (λ a rs. refl)))))
