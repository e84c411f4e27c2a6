-- The requests that hold executors, in any order.
use Rattle.std.proofs.Common.{◌≡◌, ◌∙◌, ℕ, Bool, true, false, List, [], ◌∷◌, map, Option, Some, refl, sym, subst}
use Rattle.std.specs.Prelude.{◌||◌, nat_eq, cond, find, is_some}
use Rattle.std.specs.List.{list_any}
use Rattle.std.specs.List.Sorted.{IsPermutation}
use Rattle.std.proofs.lemmas.Bool.{eqb-true, eq-eqb}
use Rattle.std.specs.Cmp.{nat_eq_equiv}
use Rattle.std.proofs.lemmas.List.Sorted.{Contains-permutation, IsPermutation-sym}
use Rattle.std.proofs.lemmas.Map.Views.{Contains-from_any, list_any-from_Contains}
use Rattle.model_run.specs.declared.held.Held.{Held}
use Rattle.image_form.specs.declared.image.Image.{Image}
use Rattle.image_check.specs.Threads.{is_held}

one_held : (x : Held) (a b c : Bool) (o : Option Held) → a ≡ c → (b ≡ true → is_some o ≡ true) → (a || b) ≡ true → is_some (cond c (Some x) o) ≡ true
one_held x true b true o e to h = refl
one_held x false b false o e to h = to h
one_held x true b false o e to h = absurd (cc e)
one_held x false b true o e to h = absurd (cc e)

flipped : (n m : ℕ) (a b : Bool) → nat_eq n m ≡ a → nat_eq m n ≡ b → a ≡ b
flipped n m true true e d = refl
flipped n m false false e d = refl
flipped n m true false e d = absurd (cc (sym d ∙ eq-eqb m n (sym (eqb-true n m e))))
flipped n m false true e d = absurd (cc (sym e ∙ eq-eqb n m (sym (eqb-true m n d))))

held_found : (r : ℕ) (xs : List Held) → list_any (nat_eq r) (map (λ x. x.request) xs) ≡ true → is_some (find (λ x. nat_eq x.request r) xs) ≡ true
held_found r [] e = absurd (cc e)
held_found r (x ∷ xs) e =
    one_held x (nat_eq r x.request) (list_any (nat_eq r) (map (λ y. y.request) xs)) (nat_eq x.request r) (find (λ y. nat_eq y.request r) xs) (flipped r x.request (nat_eq r x.request) (nat_eq x.request r) refl refl) (held_found r xs) e

pub are_held : (i : Image) (ns ms : List ℕ) (r : ℕ) → ns ≡ map (λ x. x.request) i.held → IsPermutation ns ms → list_any (nat_eq r) ms ≡ true → is_held i r ≡ true
are_held i ns ms r is moved e =
    held_found r i.held (subst (λ ks. list_any (nat_eq r) ks ≡ true) is (list_any-from_Contains nat_eq_equiv r ns (Contains-permutation ms ns r (IsPermutation-sym ns ms moved) (Contains-from_any (λ x y d. eqb-true x y d) r ms e))))

first_holder : (x : Held) (b a : Bool) (o : Option Held) → a ≡ is_some o → (b || a) ≡ is_some (cond b (Some x) o)
first_holder x true a o e = refl
first_holder x false a o e = e

-- a request that some executor is held for
pub holder_found : (r : ℕ) (xs : List Held) → list_any (λ x. nat_eq x.request r) xs ≡ is_some (find (λ x. nat_eq x.request r) xs)
holder_found r [] = refl
holder_found r (x ∷ xs) = first_holder x (nat_eq x.request r) (list_any (λ y. nat_eq y.request r) xs) (find (λ y. nat_eq y.request r) xs) (holder_found r xs)
