use Rattle.std.proofs.Common.{◌≡◌, ◌∙◌, ◌≤◌, ap, subst, arith, length}
use Rattle.model_run.specs.Terms.{nodes_of}
use Rattle.cps_code.specs.declared.row.Row.{Row}
use Rattle.cps_code.specs.Rows.{part_count}
use Rattle.cps_code.specs.Script.{script_of, IsTable}
use Rattle.cps_code.proofs.Decoding.{code_row, rows_count}
use Rattle.cps_code.proofs.Parts.{few_parts}
use Rattle.cps_code.proofs.code.Code.parts.Goals as goal

pub overflow_cast-result : goal.overflow_cast-result
overflow_cast-result c =
    let table : IsTable c.args.self.now = subst IsTable c.self.view_is c.self.invariant.table in
    let count : c.len.result ≡ part_count (script_of c.args.self.now) c.args.node =
    c.len.ensures ∙ ap (λ (r : Row). length r.parts) (code_row _ _ c.self.view_is c.args.node _ c.self.invariant.table c.requires c.index.ensures) in
    let few : part_count (script_of c.args.self.now) c.args.node ≤ length (nodes_of (script_of c.args.self.now)) = few_parts (script_of c.args.self.now) table.behind c.args.node in
    let rows : length c.self.inside.rows.items ≡ length (nodes_of (script_of c.args.self.now)) =
    ap length c.self.view_is ∙ ap length table.table ∙ rows_count (script_of c.args.self.now) in
    omega (arith, count, few, rows, c.self.invariant.few)

pub returns : goal.returns
returns c = c.len.ensures ∙ ap (λ (r : Row). length r.parts) (code_row _ _ c.self.view_is c.args.node _ c.self.invariant.table c.requires c.index.ensures)
