use Rattle.std.proofs.Common.{◌≡◌, ◌∙◌, ◌++◌, ◌∷◌, [], Some, ap, rules, sym}
use Rattle.std.specs.Map.{lookup}
use Rattle.field_form.proofs.NewKeys.{goes_last}
use Rattle.model_values.specs.Keys.{same_key}
use Rattle.model_values.specs.declared.key.Key.{Key}
use Rattle.model_values.specs.declared.value.Value.{Value}
use Rattle.image_changes.proofs.written.copy_entry.Goals as goal

pub returns : goal.returns
returns c = λ entry at new.
    let copies = c.args.copies.now in
    let k = c.in_ok-clone.field-0 in
    let v = c.in-Some.value.now in
    let same : k ≡ c.in-Some.key.now = search rules in
    let here : Some entry ≡ Some (k, v) = sym at ∙ sym c.in-Some.ensures ∙ ap (λ (x : Key). Some (x, v)) (sym same) in
    let is : entry ≡ (k, v) = cc in
    c.in_ok-put.ensures.put ∙ goes_last copies k v (ap (λ (e : Key × Value). lookup (same_key e.0) copies) (sym is) ∙ new)
    ∙ ap (λ (e : Key × Value). copies ++ e ∷ []) (sym is)
