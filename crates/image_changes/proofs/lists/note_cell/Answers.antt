use Rattle.std.proofs.Common.{◌∙◌, Option, Some, inl, inr, refl, subst, sym}
use Rattle.std.specs.Option.{option_copied}
use Rattle.model_values.specs.declared.cell.Cell.{Cell}
use Rattle.delta_form.specs.declared.delta.WrittenCell.{WrittenCell}
use Rattle.image_changes.specs.Growing.{CellChanges}
use Rattle.image_changes.proofs.Gets.{lent, no_item}
use Rattle.image_changes.proofs.lists.note_cell.Goals as goal

pub returns-in_ok-push : goal.returns-in_ok-push
returns-in_ok-push c =
    let cell = c.args.cell.now in
    let w = c.in-Some.written in
    let made = subst (λ (o : Option WrittenCell). CellChanges (option_copied c.get.result) cell o) c.in-Some.is c.in_ok-written.ensures in
    let changes = subst (λ (o : Option Cell). CellChanges o cell (Some w)) (lent c.args.before.now c.args.place c.get.result c.get.ensures.lookup.3) made in
    inr (changes.0, (w, changes.1, c.in_ok-push.ensures.pushed))

pub returns-in_default : goal.returns-in_default
returns-in_default c =
    let stands = subst (λ (o : Option WrittenCell). CellChanges (option_copied c.get.result) c.args.cell.now o) (no_item c.in_ok-written.field-0 c.in_default.not-Some) c.in_ok-written.ensures in
    inl (sym (lent c.args.before.now c.args.place c.get.result c.get.ensures.lookup.3) ∙ stands, refl)
