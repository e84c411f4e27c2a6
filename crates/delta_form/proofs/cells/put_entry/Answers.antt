use Rattle.std.proofs.Common.{◌≡◌, ◌∙◌, Some, ap, sym, rules}
use Rattle.field_form.proofs.NewKeys.{goes_last}
use Rattle.model_values.specs.declared.key.Key.{Key}
use Rattle.delta_form.proofs.PutCells.{entry_put}
use Rattle.delta_form.proofs.cells.put_entry.Goals as goal

pub returns-in-None : goal.returns-in-None
returns-in-None c = λ entry at.
    let same : c.in_ok-clone.field-0 ≡ c.in-Some.key.now = search rules in
    let here : Some entry ≡ Some (c.in_ok-clone.field-0, c.in-Some.value.now) = sym at ∙ sym c.in-Some.ensures ∙ ap (λ (k : Key). Some (k, c.in-Some.value.now)) (sym same) in
    let none = sym c.in_ok-put.ensures.old ∙ c.in-None.is in
    let is : entry ≡ (c.in_ok-clone.field-0, c.in-Some.value.now) = cc in
    entry_put c.args.map.now c.put.new.self entry c.in_ok-clone.field-0 c.in-Some.value.now is none (c.in_ok-put.ensures.put ∙ goes_last c.args.map.now c.in_ok-clone.field-0 c.in-Some.value.now none)
