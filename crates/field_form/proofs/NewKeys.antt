-- Entries of maps: a new key goes last, and no key stands twice.
use Rattle.std.proofs.Common.{◌≡◌, ℕ, zero, suc, ◌<◌, Bool, true, false, cond, List, [], ◌∷◌, ◌++◌, length, get_or, take, Option, Some, None, refl, sym, ap, arith}
use Rattle.std.specs.Option.{is_none}
use Rattle.std.specs.List.{AllByRecursion, IsDistinct}
use Rattle.std.specs.Map.{lookup, keys_of}
use Rattle.indexmap.specs.IndexMap.{insert_entry}
use Rattle.model_values.specs.Keys.{same_key}
use Rattle.model_values.specs.KeyLaws.{same_key_decides}
use Rattle.model_values.specs.declared.key.Key.{Key}
use Rattle.model_values.specs.declared.value.Value.{Value}
use Rattle.field_form.specs.Forms.{AllBehind}
use Rattle.field_form.specs.Cells.{entry_form, entry_behind}

absent_first : (b : Bool) (v : Value) (rest : Option Value) → cond b (Some v) rest ≡ None → (b ≡ false) × (rest ≡ None)
absent_first true v rest h = absurd cc
absent_first false v rest h = (refl, h)

pub goes_last : (es : List (Key × Value)) (k : Key) (v : Value) → lookup (same_key k) es ≡ None → insert_entry same_key es k v ≡ es ++ (k, v) ∷ []
goes_last [] k v h = refl
goes_last (e ∷ es) k v h =
    let p = absent_first (same_key k e.0) e.1 (lookup (same_key k) es) h in
    rw (p.0, goes_last es k v p.1) refl

-- the entry's key is none of these
abbrev Differs : List (Key × Value) → Key × Value → Type 0
Differs before e = lookup (same_key e.0) before ≡ None

other_key : (a b : Key) → same_key a b ≡ false → same_key b a ≡ false
other_key a b h = by_cases (same_key b a) refl where
  by_cases : (t : Bool) → same_key b a ≡ t → same_key b a ≡ false
  by_cases false e = e
  by_cases true e =
      let same : b ≡ a = (same_key_decides b a).0 e in
      let back : same_key a b ≡ true = (same_key_decides a b).1 (sym same) in absurd cc

differs_more : (before : List (Key × Value)) (x e : Key × Value) → Differs before e → same_key x.0 e.0 ≡ false → Differs (before ++ x ∷ []) e
differs_more [] x e h t = let k = other_key x.0 e.0 t in rw k refl
differs_more (b ∷ before) x e h t =
    let p = absent_first (same_key e.0 b.0) b.1 (lookup (same_key e.0) before) h in
    rw (p.0, differs_more before x e p.1 t) refl

all_more : (before : List (Key × Value)) (x : Key × Value) (es : List (Key × Value)) → AllByRecursion (Differs before) es → AllByRecursion (λ y. same_key x.0 y ≡ false) (keys_of es) → AllByRecursion (Differs (before ++ x ∷ [])) es
all_more before x [] h t = tt
all_more before x (e ∷ es) h t = (differs_more before x e h.0 t.0, all_more before x es h.1 t.1)

fits_behind : (before es : List (Key × Value)) → AllByRecursion entry_form.Fits es → AllByRecursion (Differs before) es → IsDistinct same_key (keys_of es) → AllBehind (λ b e. (entry_behind b).Fits e) before es
unfolding IsDistinct
fits_behind before [] f h t = tt
fits_behind before (e ∷ es) f h t = (((ap is_none h.0, f.0.0), f.0.1), fits_behind (before ++ e ∷ []) es f.1 (all_more before e es h.1 t.0) t.1)

none_before : (es : List (Key × Value)) → AllByRecursion (Differs []) es
none_before [] = tt
none_before (e ∷ es) = (refl, none_before es)

-- entries of which no two have the same key fit, each behind those before it
pub all_fit : (es : List (Key × Value)) → AllByRecursion entry_form.Fits es → IsDistinct same_key (keys_of es) → AllBehind (λ b e. (entry_behind b).Fits e) [] es
all_fit es f h = fits_behind [] es f (none_before es) h

pub one_more_fits : (P : Key × Value → Type 0) (es : List (Key × Value)) (i : ℕ) (d : Key × Value) → i < length es → AllByRecursion P (take i es) → P (get_or es i d) → AllByRecursion P (take (suc i) es)
one_more_fits P [] i d lt h p = absurd (omega arith)
one_more_fits P (x ∷ xs) zero d lt h p = (p, tt)
one_more_fits P (x ∷ xs) (suc i) d lt h p = (h.0, one_more_fits P xs i d (omega arith) h.1 p)
