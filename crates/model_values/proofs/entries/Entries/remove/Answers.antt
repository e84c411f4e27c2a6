use Rattle.std.proofs.Common.{rules, ◌≡◌, ◌<◌, length, ◌∙◌, sym, ap, subst, map, get_or, remove, position, Some, None}
use Rattle.std.specs.Map.{keys_of, lookup, remove_entry}
use Rattle.model_values.specs.declared.key.Key.{Key}
use Rattle.model_values.specs.declared.value.Value.{Value}
use Rattle.model_values.specs.Keys.{same_key}
use Rattle.model_values.specs.KeyOrder.{IsKeyOrder, lowered}
use Rattle.model_values.proofs.KeyOrderLaws.{within, value_there, value_missing, taken_there, none_taken, out_in_order, keys_left}
use Rattle.model_values.proofs.entries.Entries.remove.Goals as goal

pub find-requires : goal.find-requires
find-requires c = subst (λ l. IsKeyOrder (keys_of l) c.self.inside.places.places.items) (sym c.deref.ensures.value) c.self.invariant

pub remove-requires : goal.remove-requires
remove-requires c =
    let key = c.args.key.now in
    let items = c.self.inside.entries.items in
    let at = c.remove-at.result in
    let has : Some at ≡ position (same_key key) (keys_of items) = ap Some c.remove-at.ensures.value ∙ c.in-Ok.ensures.place ∙ ap (λ l. position (same_key key) (keys_of l)) c.deref.ensures.value in
    let short : at < length items = within key items at has in
    search rules

pub invariant_of-self : goal.invariant_of-self
invariant_of-self c =
    let items = c.self.inside.entries.items in
    let places = c.self.inside.places.places.items in
    let at = c.remove-at.result in
    let spot = c.in-Ok.spot in
    let out : IsKeyOrder (remove (keys_of items) (get_or places spot 0)) (map (lowered (get_or places spot 0)) (remove places spot)) = out_in_order (keys_of items) places spot c.self.invariant c.in-Ok.ensures.bound in
    let here : IsKeyOrder (remove (keys_of items) at) (map (lowered at) (remove places spot)) = subst (λ p. IsKeyOrder (remove (keys_of items) p) (map (lowered p) (remove places spot))) (sym c.remove-at.ensures.value) out in
    subst (λ ks. IsKeyOrder ks c.remove-at.new.self.places.items) (sym (ap keys_of c.remove.ensures.items ∙ keys_left items at)) (subst (IsKeyOrder (remove (keys_of items) at)) (sym c.remove-at.ensures.rest) here)

pub returns-clause-value : goal.returns-clause-value
returns-clause-value c =
    let key = c.args.key.now in
    let items = c.self.inside.entries.items in
    let at = c.remove-at.result in
    let has : Some at ≡ position (same_key key) (keys_of items) = ap Some c.remove-at.ensures.value ∙ c.in-Ok.ensures.place ∙ ap (λ l. position (same_key key) (keys_of l)) c.deref.ensures.value in
    ap (λ (e : Key × Value). Some e.1) c.remove.ensures.value ∙ value_there key items at has c.remove.result ∙ ap (lookup (same_key key)) c.self.view_is

pub returns-clause-rest : goal.returns-clause-rest
returns-clause-rest c =
    let key = c.args.key.now in
    let items = c.self.inside.entries.items in
    let at = c.remove-at.result in
    let has : Some at ≡ position (same_key key) (keys_of items) = ap Some c.remove-at.ensures.value ∙ c.in-Ok.ensures.place ∙ ap (λ l. position (same_key key) (keys_of l)) c.deref.ensures.value in
    c.remove.ensures.items ∙ taken_there key items at has ∙ ap (remove_entry (same_key key)) c.self.view_is

pub returns-in-Err-clause-value : goal.returns-in-Err-clause-value
returns-in-Err-clause-value c =
    let key = c.args.key.now in
    let items = c.self.inside.entries.items in
    let none : None ≡ position (same_key key) (keys_of items) = c.in-Err.ensures.place ∙ ap (λ l. position (same_key key) (keys_of l)) c.deref.ensures.value in
    value_missing key items none ∙ ap (lookup (same_key key)) c.self.view_is

pub returns-in-Err-clause-rest : goal.returns-in-Err-clause-rest
returns-in-Err-clause-rest c =
    let key = c.args.key.now in
    let items = c.self.inside.entries.items in
    let none : None ≡ position (same_key key) (keys_of items) = c.in-Err.ensures.place ∙ ap (λ l. position (same_key key) (keys_of l)) c.deref.ensures.value in
    sym c.self.view_is ∙ none_taken key items none ∙ ap (remove_entry (same_key key)) c.self.view_is
