use Rattle.model_values.specs.declared.cell.Cell.TheVariants.{List as ListCell}
use Rattle.model_values.specs.Cells.{new_list}
use Rattle.model_values.specs.Limits.{product_limits}
use Rattle.value_ops.specs.Effects.{made_cell}
use Rattle.value_ops.proofs.AnswerLemmas.{answers_as, new_list-made}
use Rattle.value_ops.proofs.effect.new_list.Goals as goal

pub returns : goal.returns
returns c =
    record {
      answer = answers_as (made_cell c.args.heap.now.cells (ListCell c.args.values)) (new_list product_limits c.args.heap.now.cells c.args.values) c.args.heap.now c.make.new.heap c.make.result (new_list-made c.args.heap.now.cells c.args.values) c.make.ensures.answer;
      leaves = c.make.ensures.leaves;
    }
