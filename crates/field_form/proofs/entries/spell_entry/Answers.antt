use Rattle.std.proofs.Common.{sym, subst}
use Rattle.std.proofs.lemmas.Result.{on_ok_weaker}
use Rattle.std.proofs.lemmas.Option.{get_or_from_slice_get}
use Rattle.field_form.specs.Forms.{Written}
use Rattle.field_form.specs.Cells.{entry_form}
use Rattle.field_form.specs.Values.{key_form, value_form}
use Rattle.model_values.specs.declared.key.Key.{Key}
use Rattle.model_values.specs.declared.value.Value.{Value}
use Rattle.field_form.proofs.Writing.{written_pair}
use Rattle.field_form.proofs.entries.spell_entry.Goals as goal

pub returns-in_ok-spell-in-Some : goal.returns-in_ok-spell-in-Some
returns-in_ok-spell-in-Some c =
    let e = c.in-Some.ensures in
    let first = c.in_ok-spell-in-Some.ensures in
    on_ok_weaker c.spell-in-Some.result
    (λ next. λ d.
    let same = get_or_from_slice_get c.args.entries.now c.args.place (c.in-Some.key.now, c.in-Some.value.now) d (sym e) in
    subst (λ (x : Key × Value). Written entry_form x c.args.out.now.items c.spell-in-Some.new.out.items) (sym same)
    (written_pair key_form value_form _ _ _ _ _ first next))
    c.spell-in-Some.ensures
