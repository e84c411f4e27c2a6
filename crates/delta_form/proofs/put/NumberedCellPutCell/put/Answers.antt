use Rattle.std.proofs.Common.{◌≡◌, ◌<◌, ◌∙◌, List, None, Some, ap, arith, get_or, length, refl, rules, set, sym}
use Rattle.std.proofs.lemmas.List.{set-set}
use Rattle.std.proofs.lemmas.Option.{slice_get_past, slice_get_read}
use Rattle.std.proofs.lemmas.Result.{err_from_is_err_and}
use Rattle.model_values.specs.declared.cell.Cell.{Cell}
use Rattle.delta_form.proofs.PutCells.{put_inside, put_refused}
use Rattle.delta_form.proofs.put.NumberedCellPutCell.put.Goals as goal

pub returns-then-place-len : goal.returns-then-place-len
returns-then-place-len c =
    let items = c.args.items in
    let number = c.args.self.number in
    let stood = c.replace-stood.result in
    let cell = c.in_ok-cell.cell in
    let within : number < length items = omega (arith, c.if-place-len.true, c.len.ensures, ap length c.into_vec-cells.ensures) in
    let read : stood ≡ get_or items number stood = search rules in
    let filled : c.from_vec-cells.result ≡ set items number c.replace-stood.new.dest = search rules in
    put_inside c.args.self items stood cell within (slice_get_read items (length items) number stood refl within read) c.in_ok-cell.ensures
    ∙ ap (λ (l : List Cell). Some l) (sym (c.set.ensures ∙ ap (λ (l : List Cell). set l number cell) filled ∙ set-set items number c.replace-stood.new.dest cell))

pub returns-in_err-cell_now : goal.returns-in_err-cell_now
returns-in_err-cell_now c =
    let items = c.args.items in
    let number = c.args.self.number in
    let past = slice_get_past items number (omega (arith, c.if-place-len.false, c.len.ensures, ap length c.into_vec-cells.ensures)) in
    let p = err_from_is_err_and c.from_residual-in_err-cell_now.result c.from_residual-in_err-cell_now.ensures.1 in
    rw (p.1, p.2) (put_refused c.args.self items c.in_err-cell_now.field-0.0 None past c.in_err-cell_now.ensures)
