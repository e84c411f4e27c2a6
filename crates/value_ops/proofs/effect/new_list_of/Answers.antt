use Rattle.std.proofs.Common.{◌≡◌, ◌+◌, ◌∷◌, ◌++◌, [], false, ltb, length, arith}
use Rattle.std.proofs.lemmas.Bool.Decides.{nat_tests}
use Rattle.model_values.specs.Cells.{Gives, new_list_of, with_new}
use Rattle.model_values.specs.Limits.{product_limits}
use Rattle.model_values.specs.TextMethods.{text_cells}
use Rattle.model_values.specs.declared.cell.Cell.TheVariants.{List as ListCell}
use Rattle.model_values.specs.declared.value.Value.TheVariants.{Cell as InCell}
use Rattle.value_ops.proofs.AnswerLemmas.{answers_as}
use Rattle.value_ops.proofs.CellLemmas.{new_list_of_few}
use Rattle.value_ops.proofs.effect.new_list_of.Goals as goal

pub returns-clause-answer : goal.returns-clause-answer
returns-clause-answer c =
    let h = c.args.heap.now.cells in
    let few : ltb 65536 (length c.args.values) ≡ false = grind (arith, nat_tests) in
    answers_as (with_new product_limits h (text_cells c.args.texts ++ ListCell c.args.values ∷ []) (λ g. Gives g (InCell (length h + length c.args.texts))))
    (new_list_of product_limits h (text_cells c.args.texts) c.args.values) c.args.heap.now c.new_cells.new.heap c.new_cells.result
    (new_list_of_few h c.args.texts c.args.values few) c.new_cells.ensures.answer
