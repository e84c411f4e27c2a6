-- The arguments with names, one by one.
use Rattle.std.proofs.Common.{◌≡◌, ◌∙◌, ◌<◌, ◌+◌, ℕ, suc, true, false, List, [], ◌∷◌, ◌++◌, length, length-append, take, refl, ap, arith}
use Rattle.std.proofs.lemmas.List.{append-nil}
use Rattle.std.proofs.Math.Seq.{take-suc}
use Rattle.model_syntax.specs.declared.node.NodeForm.{NodeForm}
use Rattle.model_syntax.specs.declared.node.NodeForm.TheVariants as form
use Rattle.model_values.specs.declared.key.Key.{Key}
use Rattle.model_values.specs.declared.key.Key.TheVariants.{Text as TextKey}
use Rattle.model_run.specs.Around.{form_at}
use Rattle.model_run.specs.Gathering.{is_named, named_keys}

named_append : (fs gs : List NodeForm) → named_keys (fs ++ gs) ≡ named_keys fs ++ named_keys gs
named_append [] gs = refl
named_append (form.NamedEntry t ∷ fs) gs = ap (λ ks. TextKey t ∷ ks) (named_append fs gs)
named_append (f ∷ fs) gs = named_append fs gs

-- the names of the first n parts
abbrev pub names : List NodeForm → ℕ → List Key
names fs n = named_keys (take n fs)

names_by : (fs : List NodeForm) (n : ℕ) → n < length fs → names fs (n + 1) ≡ names fs n ++ named_keys (form_at fs n ∷ [])
names_by fs n lt =
    let on : n + 1 ≡ suc n = omega arith in
    ap (names fs) on ∙ ap named_keys (take-suc fs n form.Block lt) ∙ named_append (take n fs) (form_at fs n ∷ [])

pub names_more : (fs : List NodeForm) (n : ℕ) (t : List ℕ) → n < length fs → form_at fs n ≡ form.NamedEntry t → names fs (n + 1) ≡ names fs n ++ TextKey t ∷ []
names_more fs n t lt is = names_by fs n lt ∙ ap (λ f. names fs n ++ named_keys (f ∷ [])) is

no_name : (f : NodeForm) → is_named f ≡ false → named_keys (f ∷ []) ≡ []
no_name (form.NamedEntry t) h = absurd (cc h)
no_name f h = refl

pub names_same : (fs : List NodeForm) (n : ℕ) → n < length fs → is_named (form_at fs n) ≡ false → names fs (n + 1) ≡ names fs n
names_same fs n lt h = names_by fs n lt ∙ ap (λ ks. names fs n ++ ks) (no_name (form_at fs n) h) ∙ append-nil (names fs n)

one_name : (f : NodeForm) → is_named f ≡ true → length (named_keys (f ∷ [])) ≡ 1
one_name (form.NamedEntry t) h = refl
one_name f h = absurd (cc h)

pub count_more : (fs : List NodeForm) (n : ℕ) → n < length fs → is_named (form_at fs n) ≡ true → length (names fs (n + 1)) ≡ length (names fs n) + 1
count_more fs n lt h = omega (arith, ap length (names_by fs n lt), length-append (names fs n) (named_keys (form_at fs n ∷ [])), one_name (form_at fs n) h)

pub not_named : (f : NodeForm) → ((t : List ℕ) → f ≡ form.NamedEntry t → ⊥) → is_named f ≡ false
not_named (form.NamedEntry t) h = absurd (h t refl)
not_named f h = refl
