-- An id ends at the first blank.
use Rattle.std.proofs.Common.{◌≡◌, ◌≢◌, ◌≤◌, ◌++◌, ◌∷◌, [], ℕ, suc, Bool, true, false, List, length, take, drop, refl, sym, ap, ◌∙◌, subst, arith, append_assoc, if◌then◌else◌}
use Rattle.std.specs.Prelude.{codes, ◌==◌}
use Rattle.std.proofs.lemmas.List.Elements.{All-head, All-tail, All-cons}
use Rattle.agent_worker.specs.AnswerLine.{NoBlank, is_blank, blank_in, NamesInput}

abbrev IsPlain : ℕ → Type 0
IsPlain b = (b ≢ 32) × (b ≢ 9)

plain-is : (b : ℕ) → IsPlain b → is_blank b ≡ false
plain-is b is = let a : b ≢ 32 = is.0 in let c : b ≢ 9 = is.1 in grind (arith, a, c)

pub blank_in-plain : (id more : List ℕ) → NoBlank id → blank_in (id ++ 32 ∷ more) ≡ length id
blank_in-plain [] more plain = refl
blank_in-plain (b ∷ bs) more plain =
    subst (λ (t : Bool). (if t then 0 else suc (blank_in (bs ++ 32 ∷ more))) ≡ suc (length bs)) (sym (plain-is b (All-head IsPlain b bs plain))) (ap suc (blank_in-plain bs more (All-tail IsPlain b bs plain)))

pub blank-le : (bs : List ℕ) → blank_in bs ≤ length bs
blank-le [] = omega arith
blank-le (b ∷ bs) = on (is_blank b) (blank-le bs)
  where
    on : (t : Bool) → blank_in bs ≤ length bs → (if t then 0 else suc (blank_in bs)) ≤ suc (length bs)
    on true le = omega arith
    on false le = omega (arith, le)

-- An id and what stands behind it are the two parts at the first blank.
pub named-parts : (rest id name : List ℕ) (n : ℕ) → n ≡ blank_in rest → NamesInput rest id name → (take n rest ≡ id) × (drop n rest ≡ codes " by " ++ name)
named-parts rest id name n at s =
    let more : List ℕ = codes " by " ++ name in
    let whole : rest ≡ id ++ more = s.spelled ∙ append_assoc id (codes " by ") name in
    let length_is : n ≡ length id = at ∙ ap blank_in whole ∙ blank_in-plain id (98 ∷ 121 ∷ 32 ∷ name) s.id_plain in
    subst (λ (k : ℕ). (take k rest ≡ id) × (drop k rest ≡ more)) (sym length_is)
    (subst (λ (l : List ℕ). (take (length id) l ≡ id) × (drop (length id) l ≡ more)) (sym whole) (take_front id more, drop_front id more))
  where
    take_front : (xs ys : List ℕ) → take (length xs) (xs ++ ys) ≡ xs
    take_front [] ys = refl
    take_front (x ∷ xs) ys = ap (λ (l : List ℕ). x ∷ l) (take_front xs ys)

    drop_front : (xs ys : List ℕ) → drop (length xs) (xs ++ ys) ≡ ys
    drop_front [] ys = refl
    drop_front (x ∷ xs) ys = drop_front xs ys

-- no blank stands before the first
pub plain-front : (bs : List ℕ) → NoBlank (take (blank_in bs) bs)
plain-front bs = on bs
  where
    no_blank : (b : ℕ) → is_blank b ≡ false → IsPlain b
    no_blank b is = ((λ same. grind (arith, is, same)), (λ same. grind (arith, is, same)))

    nothing : NoBlank []
    nothing = λ i d less. absurd (omega (arith, less))

    on : (bs : List ℕ) → NoBlank (take (blank_in bs) bs)
    on [] = nothing
    on (b ∷ bs) = by (is_blank b) refl (on bs)
      where
        by : (t : Bool) → is_blank b ≡ t → NoBlank (take (blank_in bs) bs) → NoBlank (take (if t then 0 else suc (blank_in bs)) (b ∷ bs))
        by true is plain = nothing
        by false is plain = All-cons IsPlain b (take (blank_in bs) bs) (no_blank b is) plain

pub empty-is : (r : Bool) (xs : List ℕ) → r ≡ (length xs == 0) → r ≡ true → xs ≡ []
empty-is r [] is yes_is = refl
empty-is r (x ∷ xs) is yes_is = absurd (grind (arith, is, yes_is))

pub some-is : (r : Bool) (xs : List ℕ) → r ≡ (length xs == 0) → r ≡ false → xs ≡ [] → ⊥
some-is r [] is no_is none = absurd (grind (arith, is, no_is))
some-is r (x ∷ xs) is no_is none = cc
