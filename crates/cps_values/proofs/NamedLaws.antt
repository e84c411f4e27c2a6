-- The arguments with names, one by one.
use Rattle.std.proofs.Common.{◌≡◌, ◌∙◌, ◌<◌, ◌+◌, ℕ, suc, true, false, List, [], ◌∷◌, ◌++◌, length, length-append, take, Some, None, refl, ap, arith}
use Rattle.std.specs.Prelude.{slice_get, zip}
use Rattle.std.proofs.lemmas.List.{append-nil}
use Rattle.std.proofs.lemmas.Option.{slice_get_within}
use Rattle.std.proofs.Math.Seq.{take-suc}
use Rattle.indexmap.specs.IndexMap.{insert_all, insert_entry}
use Rattle.model_syntax.specs.declared.node.NodeForm.{NodeForm}
use Rattle.model_syntax.specs.declared.node.NodeForm.TheVariants as form
use Rattle.model_values.specs.Keys.{same_key}
use Rattle.model_values.specs.declared.key.Key.{Key}
use Rattle.model_values.specs.declared.key.Key.TheVariants.{Text as TextKey}
use Rattle.model_values.specs.declared.value.Value.{Value}
use Rattle.model_run.specs.Around.{form_at}
use Rattle.model_run.specs.Gathering.{is_named, named_keys}

named_append : (fs gs : List NodeForm) → named_keys (fs ++ gs) ≡ named_keys fs ++ named_keys gs
named_append [] gs = refl
named_append (form.NamedEntry t ∷ fs) gs = ap (λ ks. TextKey t ∷ ks) (named_append fs gs)
named_append (f ∷ fs) gs = named_append fs gs

-- the names of the first n parts
abbrev pub names : List NodeForm → ℕ → List Key
names fs n = named_keys (take n fs)

names_by : (fs : List NodeForm) (n : ℕ) → n < length fs → names fs (n + 1) ≡ names fs n ++ named_keys (form_at fs n ∷ [])
names_by fs n lt =
    let on : n + 1 ≡ suc n = omega arith in
    ap (names fs) on ∙ ap named_keys (take-suc fs n form.Block lt) ∙ named_append (take n fs) (form_at fs n ∷ [])

pub names_more : (fs : List NodeForm) (n : ℕ) (t : List ℕ) → n < length fs → form_at fs n ≡ form.NamedEntry t → names fs (n + 1) ≡ names fs n ++ TextKey t ∷ []
names_more fs n t lt is = names_by fs n lt ∙ ap (λ f. names fs n ++ named_keys (f ∷ [])) is

no_name : (f : NodeForm) → is_named f ≡ false → named_keys (f ∷ []) ≡ []
no_name (form.NamedEntry t) h = absurd (cc h)
no_name f h = refl

pub names_same : (fs : List NodeForm) (n : ℕ) → n < length fs → is_named (form_at fs n) ≡ false → names fs (n + 1) ≡ names fs n
names_same fs n lt h = names_by fs n lt ∙ ap (λ ks. names fs n ++ ks) (no_name (form_at fs n) h) ∙ append-nil (names fs n)

one_name : (f : NodeForm) → is_named f ≡ true → length (named_keys (f ∷ [])) ≡ 1
one_name (form.NamedEntry t) h = refl
one_name f h = absurd (cc h)

pub count_more : (fs : List NodeForm) (n : ℕ) → n < length fs → is_named (form_at fs n) ≡ true → length (names fs (n + 1)) ≡ length (names fs n) + 1
count_more fs n lt h = omega (arith, ap length (names_by fs n lt), length-append (names fs n) (named_keys (form_at fs n ∷ [])), one_name (form_at fs n) h)

pub not_named : (f : NodeForm) → ((t : List ℕ) → f ≡ form.NamedEntry t → ⊥) → is_named f ≡ false
not_named (form.NamedEntry t) h = absurd (h t refl)
not_named f h = refl

-- one pair more
zip_more : (ks : List Key) (k : Key) (vs : List Value) (v : Value) → slice_get vs (length ks) ≡ Some v → zip (ks ++ k ∷ []) vs ≡ zip ks vs ++ (k, v) ∷ []
zip_more [] k [] v e = absurd (let lt = slice_get_within [] 0 v e in omega (arith, lt))
zip_more [] k (w ∷ vs) v e = let same : w ≡ v = cc e in ap (λ x. (k, x) ∷ []) same
zip_more (j ∷ ks) k [] v e = absurd (let lt = slice_get_within [] (length (j ∷ ks)) v e in omega (arith, lt))
zip_more (j ∷ ks) k (w ∷ vs) v e = ap (λ es. (j, w) ∷ es) (zip_more ks k vs v e)

zip_same : (ks : List Key) (k : Key) (vs : List Value) → slice_get vs (length ks) ≡ None → zip (ks ++ k ∷ []) vs ≡ zip ks vs
zip_same [] k [] e = refl
zip_same [] k (w ∷ vs) e = absurd (cc e)
zip_same (j ∷ ks) k [] e = refl
zip_same (j ∷ ks) k (w ∷ vs) e = ap (λ es. (j, w) ∷ es) (zip_same ks k vs e)

insert_more : (es xs : List (Key × Value)) (k : Key) (v : Value) → insert_all same_key es (xs ++ (k, v) ∷ []) ≡ insert_entry same_key (insert_all same_key es xs) k v
insert_more es [] k v = refl
insert_more es (x ∷ xs) k v = insert_more (insert_entry same_key es x.0 x.1) xs k v

-- the map of the names of the first n parts
abbrev pub named_map : List NodeForm → ℕ → List Value → List (Key × Value)
named_map fs n vs = insert_all same_key [] (zip (names fs n) vs)

pub map_more : (fs : List NodeForm) (n : ℕ) (t : List ℕ) (vs : List Value) (v : Value) → n < length fs → form_at fs n ≡ form.NamedEntry t → slice_get vs (length (names fs n)) ≡ Some v → named_map fs (n + 1) vs ≡ insert_entry same_key (named_map fs n vs) (TextKey t) v
map_more fs n t vs v lt is e =
    ap (λ ks. insert_all same_key [] (zip ks vs)) (names_more fs n t lt is) ∙ ap (insert_all same_key []) (zip_more (names fs n) (TextKey t) vs v e) ∙ insert_more [] (zip (names fs n) vs) (TextKey t) v

pub map_same : (fs : List NodeForm) (n : ℕ) (t : List ℕ) (vs : List Value) → n < length fs → form_at fs n ≡ form.NamedEntry t → slice_get vs (length (names fs n)) ≡ None → named_map fs (n + 1) vs ≡ named_map fs n vs
map_same fs n t vs lt is e =
    ap (λ ks. insert_all same_key [] (zip ks vs)) (names_more fs n t lt is) ∙ ap (insert_all same_key []) (zip_same (names fs n) (TextKey t) vs e)
