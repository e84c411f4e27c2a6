use Rattle.model_values.specs.declared.cell.Cell.TheVariants.{Map as MapCell}
use Rattle.model_values.specs.Cells.{new_map}
use Rattle.model_values.specs.Limits.{product_limits}
use Rattle.value_ops.specs.Effects.{made_cell}
use Rattle.value_ops.proofs.AnswerLemmas.{answers_as, new_map-made}
use Rattle.value_ops.proofs.effect.new_map.Goals as goal

pub returns : goal.returns
returns c =
    record {
      answer = answers_as (made_cell c.args.heap.now.cells (MapCell c.args.entries)) (new_map product_limits c.args.heap.now.cells c.args.entries) c.args.heap.now c.make.new.heap c.make.result (new_map-made c.args.heap.now.cells c.args.entries) c.make.ensures.answer;
      leaves = c.make.ensures.leaves;
    }
