use Rattle.std.proofs.Common.{rules, ◌≡◌, ◌<◌, length, ◌∙◌, sym, ap, subst, get_or, position, Some, None}
use Rattle.std.specs.Map.{keys_of, lookup}
use Rattle.model_values.specs.declared.key.Key.{Key}
use Rattle.model_values.specs.declared.value.Value.{Value}
use Rattle.model_values.specs.Keys.{same_key}
use Rattle.model_values.specs.KeyOrder.{IsKeyOrder}
use Rattle.model_values.proofs.KeyOrderLaws.{within, value_there, value_missing}
use Rattle.model_values.proofs.entries.Entries.get.Goals as goal

pub find-requires : goal.find-requires
find-requires c = subst (λ l. IsKeyOrder (keys_of l) c.self.inside.places.places.items) (sym c.deref.ensures.value) c.self.invariant

pub index-requires : goal.index-requires
index-requires c =
    let key = c.args.key.now in
    let items = c.self.inside.entries.items in
    let has : Some c.get.result ≡ position (same_key key) (keys_of items) = ap Some c.get.ensures ∙ c.in-Ok.ensures.place ∙ ap (λ l. position (same_key key) (keys_of l)) c.deref.ensures.value in
    let short : c.get.result < length items = within key items c.get.result has in
    search rules

pub returns-in-Ok : goal.returns-in-Ok
returns-in-Ok c =
    let key = c.args.key.now in
    let items = c.self.inside.entries.items in
    let entry = c.index.result.now in
    let has : Some c.get.result ≡ position (same_key key) (keys_of items) = ap Some c.get.ensures ∙ c.in-Ok.ensures.place ∙ ap (λ l. position (same_key key) (keys_of l)) c.deref.ensures.value in
    let read : entry ≡ get_or items c.get.result entry = search rules in
    ap (λ (e : Key × Value). Some e.1) read ∙ value_there key items c.get.result has entry ∙ ap (lookup (same_key key)) c.self.view_is

pub returns-in-Err : goal.returns-in-Err
returns-in-Err c =
    let key = c.args.key.now in
    let items = c.self.inside.entries.items in
    let none : None ≡ position (same_key key) (keys_of items) = c.in-Err.ensures.place ∙ ap (λ l. position (same_key key) (keys_of l)) c.deref.ensures.value in
    value_missing key items none ∙ ap (lookup (same_key key)) c.self.view_is
