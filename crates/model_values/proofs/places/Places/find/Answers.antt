use Rattle.std.proofs.Common.{rules, length, subst}
use Rattle.std.specs.List.Sorted.{IsSearchInRange, IsBinarySearchResult}
use Rattle.std.specs.Map.{keys_of}
use Rattle.std.proofs.lemmas.Fn.{always_returns_same}
use Rattle.model_values.specs.KeyOrder.{place_cmp}
use Rattle.model_values.proofs.KeyOrderLaws.{halved, roomy}
use Rattle.model_values.proofs.places.Places.find.Goals as goal

pub returns-clause-place : goal.returns-clause-place
returns-clause-place c =
    let places = c.args.self.now.places.items in
    let keys = keys_of c.args.entries.now in
    let r = c.binary_search_by.result in
    let bound : IsSearchInRange r (length places) = subst (λ l. IsSearchInRange r (length l)) c.deref.ensures.value c.binary_search_by.ensures.bound in
    let said = c.binary_search_by.ensures.position (place_cmp keys c.args.key.now) (always_returns_same _ _ _ (λ a r f called. (search rules, search rules))) in
    halved c.args.entries.now places c.requires c.args.key.now r bound (subst (λ l. IsBinarySearchResult (place_cmp keys c.args.key.now) l r) c.deref.ensures.value said)

pub returns-clause-room : goal.returns-clause-room
returns-clause-room c =
    let places = c.args.self.now.places.items in
    let keys = keys_of c.args.entries.now in
    let r = c.binary_search_by.result in
    let bound : IsSearchInRange r (length places) = subst (λ l. IsSearchInRange r (length l)) c.deref.ensures.value c.binary_search_by.ensures.bound in
    let said = c.binary_search_by.ensures.position (place_cmp keys c.args.key.now) (always_returns_same _ _ _ (λ a r f called. (search rules, search rules))) in
    roomy c.args.entries.now places c.requires c.args.key.now r bound (subst (λ l. IsBinarySearchResult (place_cmp keys c.args.key.now) l r) c.deref.ensures.value said)
