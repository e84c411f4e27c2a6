use Rattle.std.proofs.Common.{◌≡◌, ◌-◌, false, eqb, sym, arith}
use Rattle.std.proofs.lemmas.Bool.Decides.{nat_tests}
use Rattle.std.proofs.lemmas.Result.{err_from_is_err_and}
use Rattle.cell_heap.proofs.SizeLemmas.{slice_get-none}
use Rattle.model_values.specs.Limits.{product_limits}
use Rattle.model_values.specs.TextOf.{text_within}
use Rattle.value_view.proofs.TextLemmas.{list-carried, map-carried, map-goes_on, part-written}
use Rattle.value_view.proofs.text.+writing.Goals as goal
use Rattle.value_view.proofs.text.+writing.Goals.{write_map-in-Some+in_ok-write_entry, write_map-in_default}

pub write_entry-returns : goal.write_entry-returns
write_entry-returns t c =
    part-written product_limits c.args.heap.now.cells c.args.left c.args.value.now _ _ _ _ c.in_ok-write_key.ensures c.write_within.ensures

pub write_item-returns : goal.write_item-returns
write_item-returns t c =
    part-written product_limits c.args.heap.now.cells c.args.left c.args.value.now _ _ _ _ c.in_ok-write_separator.ensures c.write_within.ensures

pub write_list-returns-in_err-write_item : goal.write_list-returns-in_err-write_item
write_list-returns-in_err-write_item t c =
    let p = err_from_is_err_and c.from_residual.result c.from_residual.ensures.1 in
    let some : eqb c.args.left 0 ≡ false = grind (arith, nat_tests) in
    rw (p.1, p.2) (list-carried product_limits c.args.heap.now.cells c.args.left c.args.values.now c.loop-at.at _ c.args.text.now c.loop-at.text c.write_item.new.text c.write_item.new.text c.in_err-write_item.field-0.0 some c.loop-at-test.true c.loop-at.invariant c.in_err-write_item.ensures)

pub write_map-returns-in_err-write_entry : goal.write_map-returns-in_err-write_entry
write_map-returns-in_err-write_entry t c =
    let p = err_from_is_err_and c.from_residual.result c.from_residual.ensures.1 in
    let some : eqb c.args.left 0 ≡ false = grind (arith, nat_tests) in
    rw (p.1, p.2) (map-carried product_limits c.args.heap.now.cells c.args.left c.args.entries.now c.loop-at.at (c.in-Some.key.now, c.in-Some.value.now) c.args.text.now c.loop-at.text c.write_entry.new.text c.write_entry.new.text c.in_err-write_entry.field-0.0 some (sym c.in-Some.ensures) c.loop-at.invariant c.in_err-write_entry.ensures)

pub write_map-loop-at-preserved : goal.write_map-loop-at-preserved
write_map-loop-at-preserved t c =
    elim c.match-entry_at.branch [
      | write_map-in-Some+in_ok-write_entry w ↦
          rw w.text-is (map-goes_on product_limits c.args.heap.now.cells (text_within product_limits c.args.heap.now.cells (c.args.left - 1)) c.args.entries.now c.loop-at.at (w.in-Some.key.now, w.in-Some.value.now) c.loop-at.text _ _ (sym w.in-Some.ensures) w.in_ok-write_entry.ensures c.loop-at.invariant)
      | write_map-in_default w ↦
          let past = slice_get-none c.args.entries.now c.loop-at.at (sym w.in_default.ensures) in
          absurd (omega (arith, past, c.loop-at-test.true, c.len-at-end.ensures.len))
    ]
