-- Values by their numbers, from a list of all of them.
use Rattle.std.proofs.Common.{◌≡◌, ℕ, zero, suc, ◌+◌, ◌^◌, ◌<◌, Bool, true, false, eqb, List, [], ◌∷◌, length, Some, refl, sym, ap, ◌∙◌, arith}
use Rattle.std.specs.Prelude.{slice_get, ◌&&◌}
use Rattle.std.proofs.lemmas.Option.{slice_get_within}
use Rattle.std.proofs.lemmas.Bool.{eqb-true}
use Rattle.field_form.specs.Forms.{numbered, Lawful}
use Rattle.field_form.specs.FormLaws.{numbered_lawful}

-- the number of each is its place
abbrev pub are_at : {V : Type 0} → (V → ℕ) → ℕ → List V → Bool
are_at number i [] = true
are_at number i (v ∷ vs) = eqb (number v) i && are_at number (suc i) vs

both : (a b : Bool) → (a && b) ≡ true → (a ≡ true) × (b ≡ true)
both true b e = (refl, e)
both false b e = absurd cc

numbers_at : {V : Type 0} (number : V → ℕ) (vs : List V) (i k : ℕ) (v : V) → are_at number i vs ≡ true → slice_get vs k ≡ Some v → number v ≡ i + k
numbers_at number [] i k v e h = absurd cc
numbers_at number (w ∷ vs) i zero v e h =
    let q : w ≡ v = cc in
    let p = eqb-true (number w) i (both _ _ e).0 in ap number (sym q) ∙ p ∙ omega arith
numbers_at number (w ∷ vs) i (suc k) v e h = numbers_at number vs (suc i) k v (both _ _ e).1 h ∙ omega arith

-- one of a few values: they stand in the list at their numbers
pub few_lawful : {V : Type 0} (number : V → ℕ) (all : List V) → ((v : V) → slice_get all (number v) ≡ Some v) → are_at number 0 all ≡ true → length all < 2 ^ 8 → Lawful (numbered number all)
few_lawful number all found at few = numbered_lawful number all (record {
  found = found;
  numbers = λ n v e. numbers_at number all 0 n v at e ∙ omega arith;
  few = λ v. omega (arith, slice_get_within all (number v) v (found v), few);
})
