use Rattle.std.proofs.Common.{rules, ◌≡◌, ◌<◌, length, ◌∙◌, ◌++◌, ◌∷◌, [], sym, ap, subst, get_or, set, insert, position, Some, None}
use Rattle.std.specs.Map.{keys_of, lookup}
use Rattle.std.proofs.lemmas.List.{map_push}
use Rattle.indexmap.specs.IndexMap.{insert_entry, set_value_at}
use Rattle.model_values.specs.declared.key.Key.{Key}
use Rattle.model_values.specs.declared.value.Value.{Value}
use Rattle.model_values.specs.Keys.{same_key}
use Rattle.model_values.specs.KeyOrder.{IsKeyOrder}
use Rattle.model_values.proofs.KeyOrderLaws.{within, value_there, value_missing, put_there, put_behind, set_entry, keys_kept}
use Rattle.model_values.proofs.entries.Entries.put.Goals as goal

pub find-requires : goal.find-requires
find-requires c = subst (λ l. IsKeyOrder (keys_of l) c.self.inside.places.places.items) (sym c.deref.ensures.value) c.self.invariant

pub index_mut-requires : goal.index_mut-requires
index_mut-requires c =
    let key = c.args.key in
    let items = c.self.inside.entries.items in
    let has : Some c.get-at.result ≡ position (same_key key) (keys_of items) = ap Some c.get-at.ensures ∙ c.in-Ok.ensures.place ∙ ap (λ l. position (same_key key) (keys_of l)) c.deref.ensures.value in
    let short : c.get-at.result < length items = within key items c.get-at.result has in
    search rules

pub invariant_of-self : goal.invariant_of-self
invariant_of-self c =
    let key = c.args.key in
    let items = c.self.inside.entries.items in
    let at = c.get-at.result in
    let old = c.index_mut.result.now in
    let value = c.replace.new.dest in
    let has : Some at ≡ position (same_key key) (keys_of items) = ap Some c.get-at.ensures ∙ c.in-Ok.ensures.place ∙ ap (λ l. position (same_key key) (keys_of l)) c.deref.ensures.value in
    let read : old ≡ get_or items at old = search rules in
    let same : set items at (old.0, value) ≡ set_value_at items at value = ap (λ (e : Key × Value). set items at (e.0, value)) read ∙ set_entry items at old value (within key items at has) in
    subst (λ ks. IsKeyOrder ks c.self.inside.places.places.items) (sym (ap keys_of same ∙ keys_kept items at value)) c.self.invariant

pub returns-in-Ok-clause-old : goal.returns-in-Ok-clause-old
returns-in-Ok-clause-old c =
    let key = c.args.key in
    let items = c.self.inside.entries.items in
    let at = c.get-at.result in
    let old = c.index_mut.result.now in
    let has : Some at ≡ position (same_key key) (keys_of items) = ap Some c.get-at.ensures ∙ c.in-Ok.ensures.place ∙ ap (λ l. position (same_key key) (keys_of l)) c.deref.ensures.value in
    let read : old ≡ get_or items at old = search rules in
    ap Some c.replace.ensures.value ∙ ap (λ (e : Key × Value). Some e.1) read ∙ value_there key items at has old ∙ ap (lookup (same_key key)) c.self.view_is

pub returns-in-Ok-clause-put : goal.returns-in-Ok-clause-put
returns-in-Ok-clause-put c =
    let key = c.args.key in
    let items = c.self.inside.entries.items in
    let at = c.get-at.result in
    let old = c.index_mut.result.now in
    let value = c.replace.new.dest in
    let has : Some at ≡ position (same_key key) (keys_of items) = ap Some c.get-at.ensures ∙ c.in-Ok.ensures.place ∙ ap (λ l. position (same_key key) (keys_of l)) c.deref.ensures.value in
    let read : old ≡ get_or items at old = search rules in
    let same : set items at (old.0, value) ≡ set_value_at items at value = ap (λ (e : Key × Value). set items at (e.0, value)) read ∙ set_entry items at old value (within key items at has) in
    same ∙ ap (set_value_at items at) c.replace.ensures.after ∙ put_there key items at has c.args.value ∙ ap (λ l. insert_entry same_key l key c.args.value) c.self.view_is

pub invariant_of-self-2 : goal.invariant_of-self-2
invariant_of-self-2 c =
    let key = c.args.key in
    let items = c.self.inside.entries.items in
    let places = c.self.inside.places.places.items in
    let spot = c.in-Err.spot in
    let room : IsKeyOrder (keys_of items ++ key ∷ []) (insert places spot (length items)) = subst (λ l. IsKeyOrder (keys_of l ++ key ∷ []) (insert places spot (length l))) c.deref.ensures.value c.in-Err.ensures.room in
    let put : c.push.new.self.items ≡ items ++ (key, c.args.value) ∷ [] = c.in_ok-push.ensures.items ∙ ap (λ l. l ++ (key, c.args.value) ∷ []) c.reserve.ensures.items in
    let keyed : keys_of c.push.new.self.items ≡ keys_of items ++ key ∷ [] = ap keys_of put ∙ map_push (λ (e : Key × Value). e.0) items (key, c.args.value) in
    let many : c.len.result ≡ length items = search rules in
    let placed : c.insert.new.self.places.items ≡ insert places spot (length items) = c.in_ok-insert.ensures.inserted ∙ ap (insert places spot) many in
    subst (λ ks. IsKeyOrder ks c.insert.new.self.places.items) (sym keyed) (subst (IsKeyOrder (keys_of items ++ key ∷ [])) (sym placed) room)

pub returns-clause-old : goal.returns-clause-old
returns-clause-old c =
    let key = c.args.key in
    let items = c.self.inside.entries.items in
    let none : None ≡ position (same_key key) (keys_of items) = c.in-Err.ensures.place ∙ ap (λ l. position (same_key key) (keys_of l)) c.deref.ensures.value in
    value_missing key items none ∙ ap (lookup (same_key key)) c.self.view_is

pub returns-clause-put : goal.returns-clause-put
returns-clause-put c =
    let key = c.args.key in
    let items = c.self.inside.entries.items in
    let none : None ≡ position (same_key key) (keys_of items) = c.in-Err.ensures.place ∙ ap (λ l. position (same_key key) (keys_of l)) c.deref.ensures.value in
    let put : c.push.new.self.items ≡ items ++ (key, c.args.value) ∷ [] = c.in_ok-push.ensures.items ∙ ap (λ l. l ++ (key, c.args.value) ∷ []) c.reserve.ensures.items in
    put ∙ put_behind key items none c.args.value ∙ ap (λ l. insert_entry same_key l key c.args.value) c.self.view_is
