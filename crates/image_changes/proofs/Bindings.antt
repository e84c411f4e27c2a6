-- Binding variables stay: what the walk over those before and those now has still to pass.
use Rattle.std.proofs.Common.{◌≡◌, ◌∙◌, ◌≤◌, ℕ, suc, List, [], ◌∷◌, length, drop, slice_get, Option, Some, None, refl, sym, ap, subst, add-one, inl, inr, arith, length-drop}
use Rattle.model_values.specs.declared.cell.Binding.{Binding}
use Rattle.model_run.specs.Among.{AreAmong}
use Rattle.image_changes.specs.Parts.{PutsBindings}
use Rattle.image_changes.specs.Walks.{NotesBinding}
use Rattle.image_changes.proofs.Gets.{from_end, from_item}

module _ {X : Type 0} where
  among_more : (xs : List X) (y : X) (ys : List X) → AreAmong xs ys → AreAmong xs (y ∷ ys)
  among_more [] y ys all = tt
  among_more (x ∷ xs) y ys all = inr all

  among_behind : (x : X) (xs ys : List X) → AreAmong (x ∷ xs) ys → AreAmong xs ys
  among_behind x xs [] all = absurd all
  among_behind x xs (y ∷ ys) (inl (is, all)) = among_more xs y ys all
  among_behind x xs (y ∷ ys) (inr all) = among_more xs y ys (among_behind x xs ys all)

  among_rest : (x y : X) (xs ys : List X) → AreAmong (x ∷ xs) (y ∷ ys) → AreAmong xs ys
  among_rest x y xs ys (inl (is, all)) = all
  among_rest x y xs ys (inr all) = among_behind x xs ys all

  -- a list keeps no more than it has
  among_fits : (xs ys : List X) → AreAmong xs ys → length xs ≤ length ys
  among_fits [] ys all = omega arith
  among_fits (x ∷ xs) [] all = absurd all
  among_fits (x ∷ xs) (y ∷ ys) (inl (is, all)) = omega (arith, among_fits xs ys all)
  among_fits (x ∷ xs) (y ∷ ys) (inr all) = omega (arith, among_fits (x ∷ xs) ys all)

  -- where it has no more, it is the same
  among_all : (xs ys : List X) → length ys ≤ length xs → AreAmong xs ys → xs ≡ ys
  among_all [] [] fits all = refl
  among_all [] (y ∷ ys) fits all = absurd (omega (arith, fits))
  among_all (x ∷ xs) [] fits all = absurd all
  among_all (x ∷ xs) (y ∷ ys) fits (inl (is, all)) = ap (λ (z : X). z ∷ xs) is ∙ ap (λ (l : List X). y ∷ l) (among_all xs ys (omega (arith, fits)) all)
  among_all (x ∷ xs) (y ∷ ys) fits (inr all) = let more = among_fits (x ∷ xs) ys all in absurd (omega (arith, fits, more))

-- where there are as many variables as before, none is new
pub none_new : (before now : List Binding) → length now ≤ length before → AreAmong before now → PutsBindings before now []
none_new before now fits all = (ap (λ (l : List Binding). Some l) (among_all before now fits all), refl)

-- the walk over both lists passes what stands among the rest
pub among_noted : (before now : List Binding) (had has next : ℕ) (binding : Binding) (old new : List Binding) → slice_get now has ≡ Some binding
    → NotesBinding before had binding old new next → AreAmong (drop had before) (drop has now) → AreAmong (drop next before) (drop (suc has) now)
among_noted before now had has next binding old new at (inl same) all =
    subst (λ (k : ℕ). AreAmong (drop k before) (drop (suc has) now)) (sym (same.1 ∙ add-one had))
    (among_rest binding binding (drop (suc had) before) (drop (suc has) now)
    (subst (λ (l : List Binding). AreAmong l (binding ∷ drop (suc has) now)) (from_item before had binding same.0)
    (subst (λ (l : List Binding). AreAmong (drop had before) l) (from_item now has binding at) all)))
among_noted before now had has next binding old new at (inr put) all =
    subst (λ (k : ℕ). AreAmong (drop k before) (drop (suc has) now)) (sym put.1) (go (slice_get before had) refl)
  where
    rest : (b : Binding) (bs : List Binding) → ¬ (b ≡ binding) → AreAmong (b ∷ bs) (binding ∷ drop (suc has) now) → AreAmong (b ∷ bs) (drop (suc has) now)
    rest b bs differs (inl (is, among)) = absurd (differs is)
    rest b bs differs (inr among) = among

    go : (o : Option Binding) → slice_get before had ≡ o → AreAmong (drop had before) (drop (suc has) now)
    go None e = subst (λ (l : List Binding). AreAmong l (drop (suc has) now)) (sym (from_end before had e)) tt
    go (Some b) e =
        let item = from_item before had b e in
        subst (λ (l : List Binding). AreAmong l (drop (suc has) now)) (sym item)
        (rest b (drop (suc had) before) (λ is. put.0 (e ∙ ap (λ (x : Binding). Some x) is))
        (subst (λ (l : List Binding). AreAmong l (binding ∷ drop (suc has) now)) item (subst (λ (l : List Binding). AreAmong (drop had before) l) (from_item now has binding at) all)))

-- where it ends, all from before are passed
pub among_end : (before now : List Binding) (had has : ℕ) → length now ≤ has → AreAmong (drop had before) (drop has now) → length before ≤ had
among_end before now had has all among =
    let fits = among_fits (drop had before) (drop has now) among in
    omega (arith, fits, all, length-drop had before, length-drop has now)
