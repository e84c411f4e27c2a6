use Rattle.std.proofs.Common.{rules, ◌≡◌, ◌∙◌, sym, ap, slice_get, Some, None}
use Rattle.std.specs.Option.{option_map}
use Rattle.std.proofs.lemmas.Option.{slice_get-map, slice_get-get_or, slice_get_past}
use Rattle.model_values.specs.declared.key.Key.{Key}
use Rattle.model_values.specs.declared.value.Value.{Value}
use Rattle.model_values.specs.Keys.{key_cmp}
use Rattle.model_values.specs.KeyOrder.{compare_from}
use Rattle.model_values.proofs.places.compare.Goals as goal

pub returns-in-Some : goal.returns-in-Some
returns-in-Some c =
    let es = c.args.entries.now in
    let entry = c.in-Some.entry.now in
    let got : slice_get es c.args.place ≡ Some entry = slice_get-get_or es c.args.place entry c.in-Some.ensures.lookup.3.0 ∙ ap Some (sym c.in-Some.ensures.lookup.1) in
    let said : c.cmp.result ≡ key_cmp entry.0 c.args.key.now = search rules in
    said ∙ sym (ap (λ o. compare_from o c.args.key.now) (slice_get-map (λ (e : Key × Value). e.0) es c.args.place ∙ ap (option_map (λ (e : Key × Value). e.0)) got))

pub returns-in-None : goal.returns-in-None
returns-in-None c =
    let es = c.args.entries.now in
    let got : slice_get es c.args.place ≡ None = slice_get_past es c.args.place c.in-None.ensures.lookup.3 in
    sym (ap (λ o. compare_from o c.args.key.now) (slice_get-map (λ (e : Key × Value). e.0) es c.args.place ∙ ap (option_map (λ (e : Key × Value). e.0)) got))
