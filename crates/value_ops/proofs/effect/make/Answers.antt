use Rattle.std.proofs.Common.{◌∷◌, [], ◌++◌, length, ap}
use Rattle.std.proofs.lemmas.Result.{err_from_is_err_and}
use Rattle.cell_heap.specs.Refusals.{new_cell_limit}
use Rattle.cell_heap.specs.Region.{Region}
use Rattle.model_values.specs.Cells.{Gives}
use Rattle.model_values.specs.declared.value.Value.TheVariants.{Cell as InCell}
use Rattle.value_ops.proofs.AnswerLemmas.{answers_refused, gives_made, leaves_refused, made_below}
use Rattle.value_ops.proofs.effect.make.Goals as goal

pub returns-in_err-new_cell : goal.returns-in_err-new_cell
returns-in_err-new_cell c =
    let p = err_from_is_err_and c.from_residual.result c.from_residual.ensures.1 in
    let r = c.in_err-new_cell.field-0.0 in
    let h = c.args.heap.now.cells in
    record {
      answer = rw (p.1, p.2) (answers_refused (new_cell_limit h c.args.cell) (Gives (h ++ c.args.cell ∷ []) (InCell (length h))) r c.args.heap.now c.new_cell.new.self c.in_err-new_cell.ensures.refusal c.in_err-new_cell.ensures.unchanged);
      leaves = rw (p.1, p.2) (leaves_refused r c.args.heap.now c.new_cell.new.self c.in_err-new_cell.ensures.unchanged);
    }

pub returns : goal.returns
returns c =
    let grown = ap (λ (s : Region). s.cells) c.in_ok-new_cell.ensures.cells in
    record {
      answer = gives_made c.args.heap.now c.new_cell.new.self c.args.cell c.in_ok-new_cell.field-0 c.in_ok-new_cell.ensures.refusal c.in_ok-new_cell.ensures.made grown;
      leaves = record { follows = c.in_ok-new_cell.ensures.follows; below = made_below c.args.heap.now c.new_cell.new.self c.args.cell c.in_ok-new_cell.field-0 c.in_ok-new_cell.ensures.made grown };
    }
