use Rattle.std.proofs.lemmas.Grind.{merely}
use Rattle.model_syntax.specs.TreeNodes.{tree_node}
use Rattle.cps_code.specs.Script.{IsTable}
use Rattle.cps_code.proofs.Decoding.{kept_table, kept_script}
use Rattle.cps_code.proofs.code.number.Goals as goal

pub invariant_of-result : goal.invariant_of-result
invariant_of-result c = record {
  table = kept_table (tree_node c.args.tree) c.in_ok-rows.rows.items c.in_ok-rows.ensures.rows;
  script = merely (c.args.tree, kept_script (tree_node c.args.tree) c.in_ok-rows.rows.items c.in_ok-rows.ensures.rows);
  few = c.in_ok-rows.ensures.few;
  functions = rw (← c.as_slice.ensures.value) c.in_ok-functions.ensures;
}

pub returns-clause-script : goal.returns-clause-script
returns-clause-script c = kept_script (tree_node c.args.tree) c.in_ok-rows.rows.items c.in_ok-rows.ensures.rows

pub returns-clause-found : goal.returns-clause-found
returns-clause-found c =
    let table : IsTable c.in_ok-rows.rows.items = kept_table (tree_node c.args.tree) c.in_ok-rows.rows.items c.in_ok-rows.ensures.rows in
    table.found

pub functions_of-requires : goal.functions_of-requires
functions_of-requires c = rw c.as_slice.ensures.value (kept_table (tree_node c.args.tree) c.in_ok-rows.rows.items c.in_ok-rows.ensures.rows)
