use Rattle.std.proofs.lemmas.Result.{err_from_is_err_and}
use Rattle.model_run.specs.declared.flow.NodeKind.TheVariants.{Atom}
use Rattle.std.specs.Prelude.{codes}
use Rattle.model_run.specs.FlowNodes.{pipeline}
use Rattle.model_run.specs.Steps.{throwing}
use Rattle.model_values.specs.declared.throwable.Class.TheVariants.{Abort}
use Rattle.step_library.proofs.StepMoves.{no_note, to_note}
use Rattle.step_library.proofs.atoms.error.Goals as goal

pub returns-in_err-note_atom : goal.returns-in_err-note_atom
returns-in_err-note_atom c = λ k r pos.
    let p = err_from_is_err_and c.from_residual.result c.from_residual.ensures.1 in
    rw (p.1, p.2) (no_note k r Atom (codes "error") 0 (pipeline (codes "error")) (λ sh a. throwing Abort c.args.message) c.in_err-note_atom.field-0.0 _ _ c.in_err-note_atom.ensures pos)

pub returns : goal.returns
returns c = λ k r pos. to_note k r Atom (codes "error") 0 (pipeline (codes "error")) (λ sh a. throwing Abort c.args.message) _ _ _ _ c.in_ok-note_atom.ensures (c.throwing.ensures c.note_atom.new.state k r pos)
