use Rattle.std.proofs.Common.{◌∙◌, ap}
use Rattle.model_syntax.specs.declared.node.NodeForm.TheVariants as form
use Rattle.cps_code.specs.Walk.{added_all}
use Rattle.cps_code.proofs.Growth.{table_is}
use Rattle.cps_code.proofs.walk.rows_of_tree.Goals as goal

pub returns-clause-rows : goal.returns-clause-rows
returns-clause-rows c =
    rw (← c.as_slice.ensures)
    (c.into_rows.ensures.rows ∙ c.in_ok-tops.ensures ∙ ap (added_all 0 _) c.in_ok-table.ensures ∙ table_is form.Script _)
