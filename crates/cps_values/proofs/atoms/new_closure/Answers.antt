use Rattle.std.proofs.Common.{◌∷◌, [], ◌++◌, length, ap}
use Rattle.std.proofs.lemmas.Result.{err_from_is_err_and}
use Rattle.cell_heap.specs.Refusals.{new_cell_limit}
use Rattle.cell_heap.specs.Region.{Region}
use Rattle.model_values.specs.Cells.{Gives}
use Rattle.model_values.specs.declared.cell.Cell.{Cell}
use Rattle.model_values.specs.declared.cell.Cell.TheVariants.{Closure as ClosureCell}
use Rattle.model_values.specs.declared.value.Value.TheVariants.{Cell as InCell}
use Rattle.value_ops.proofs.AnswerLemmas.{answers_refused, gives_made}
use Rattle.cps_values.proofs.atoms.new_closure.Goals as goal

pub returns-in_err-new_cell-clause-answer : goal.returns-in_err-new_cell-clause-answer
returns-in_err-new_cell-clause-answer c =
    let p = err_from_is_err_and c.from_residual.result c.from_residual.ensures.1 in
    let h = c.args.heap.now.cells in
    let made : Cell = ClosureCell c.args.node c.args.env in
    rw (p.1, p.2) (answers_refused (new_cell_limit h made) (Gives (h ++ made ∷ []) (InCell (length h))) c.in_err-new_cell.field-0.0 c.args.heap.now c.new_cell.new.self c.in_err-new_cell.ensures.refusal c.in_err-new_cell.ensures.unchanged)

pub returns-clause-answer : goal.returns-clause-answer
returns-clause-answer c = gives_made c.args.heap.now c.new_cell.new.self (ClosureCell c.args.node c.args.env) c.in_ok-new_cell.field-0 c.in_ok-new_cell.ensures.refusal c.in_ok-new_cell.ensures.made (ap (λ (s : Region). s.cells) c.in_ok-new_cell.ensures.cells)
