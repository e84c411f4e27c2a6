use Rattle.std.proofs.Common.{◌+◌, [], true, eqb, drop, sym, ◌∙◌}
use Rattle.std.proofs.lemmas.Result.{err_from_is_err_and}
use Rattle.list_methods.proofs.ListLemmas.{joined-more, refused_whole}
use Rattle.model_values.specs.Limits.{product_limits}
use Rattle.model_values.specs.ListMethods.{joined_behind}
use Rattle.list_methods.proofs.lists.joined_text.Goals as goal

pub returns-in_err-write_entry : goal.returns-in_err-write_entry
returns-in_err-write_entry c =
    let p = err_from_is_err_and c.from_residual.result c.from_residual.ensures.1 in
    let h = c.args.heap.now.cells in
    let t = c.args.between.now in
    let at = c.loop-at.at in
    let split = sym c.loop-at.invariant ∙ joined-more product_limits h t c.args.values.now at _ c.loop-at.text c.loop-at-test.true in
    rw (p.1, p.2) (refused_whole _ (joined_behind product_limits h t true c.args.values.now []) (joined_behind product_limits h t (eqb (at + 1) 0) (drop (at + 1) c.args.values.now)) c.write_entry.new.text c.in_err-write_entry.field-0.0 split c.in_err-write_entry.ensures)
