use Rattle.std.proofs.Common.{add-one, arith}
use Rattle.std.proofs.lemmas.Result.{err_from_is_err_and}
use Rattle.delta_form.proofs.PutCells.{entries_go_on, entries_refused}
use Rattle.delta_form.proofs.cells.with_entries.Goals as goal

pub returns-in_err-put_entry : goal.returns-in_err-put_entry
returns-in_err-put_entry c =
    let p = err_from_is_err_and c.from_residual.result c.from_residual.ensures.1 in
    rw (p.1, p.2) (entries_refused c.args.entries.now c.args.map c.loop-place.all c.loop-place.place (omega (arith, c.loop-place-test.true, c.len-place-end.ensures.len)) c.loop-place.invariant c.in_err-put_entry.field-0.0 c.in_err-put_entry.ensures)

pub loop-place-preserved : goal.loop-place-preserved
loop-place-preserved c =
    rw add-one (entries_go_on c.args.entries.now c.args.map c.loop-place.all c.loop-place.place (omega (arith, c.loop-place-test.true, c.len-place-end.ensures.len)) c.loop-place.invariant c.put_entry.new.map c.in_ok-put_entry.ensures)
