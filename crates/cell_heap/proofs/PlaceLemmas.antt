-- Where a character begins, counted on from a place in front of it; and texts that stay where they are.
use Rattle.std.proofs.Common.{◌≡◌, ℕ, zero, suc, ◌+◌, ◌-◌, ◌<◌, ◌≤◌, ◌⊎◌, Bool, true, false, cond, List, [], ◌∷◌, ◌++◌, length, get_or, set, drop, Option, Some, slice_get, refl, sym, ap, ◌∙◌, inl, inr, arith}
use Rattle.std.proofs.lemmas.List.{drop_more}
use Rattle.std.specs.Fmt.{is_char_start}
use Rattle.model_values.specs.Fitting.{HasText}
use Rattle.cell_heap.specs.Places.{place_behind, place_of_character}
use Rattle.cell_heap.specs.ValueTypes.{Cell, TextCell}

pub true_or_false : (b : Bool) → (b ≡ true) ⊎ (b ≡ false)
true_or_false true = inl refl
true_or_false false = inr refl

by_start : (n b : ℕ) (bs : List ℕ) → is_char_start b ≡ true → place_behind (suc n) (b ∷ bs) ≡ 1 + place_behind n bs
by_start n b bs s = ap (λ t. cond t (1 + place_behind n bs) (1 + place_behind (suc n) bs)) s

first_start : (b : ℕ) (bs : List ℕ) → is_char_start b ≡ true → place_behind 0 (b ∷ bs) ≡ 0
first_start b bs s = ap (λ t. cond t 0 (1 + place_behind 0 bs)) s

by_inside : (n b : ℕ) (bs : List ℕ) → is_char_start b ≡ false → place_behind n (b ∷ bs) ≡ 1 + place_behind n bs
by_inside zero b bs s = ap (λ t. cond t 0 (1 + place_behind zero bs)) s
by_inside (suc n) b bs s = ap (λ t. cond t (1 + place_behind n bs) (1 + place_behind (suc n) bs)) s

-- one byte further: it begins the character that is looked for, an earlier one, or none
pub place_behind-found : (bs : List ℕ) (i d : ℕ) → i < length bs → is_char_start (get_or bs i d) ≡ true → place_behind 0 (drop i bs) ≡ 0
place_behind-found bs i d lt s = ap (place_behind 0) (drop_more bs i d lt) ∙ first_start (get_or bs i d) (drop (i + 1) bs) s

pub place_behind-start : (n : ℕ) (bs : List ℕ) (i d : ℕ) → 0 < n → i < length bs → is_char_start (get_or bs i d) ≡ true → place_behind n (drop i bs) ≡ 1 + place_behind (n - 1) (drop (i + 1) bs)
place_behind-start zero bs i d pos lt s = let no : ⊥ = omega (arith, pos) in absurd no
place_behind-start (suc n) bs i d pos lt s =
    let one : suc n - 1 ≡ n = omega arith in
    ap (place_behind (suc n)) (drop_more bs i d lt) ∙ by_start n (get_or bs i d) (drop (i + 1) bs) s ∙ ap (λ m. 1 + place_behind m (drop (i + 1) bs)) (sym one)

pub place_behind-inside : (n : ℕ) (bs : List ℕ) (i d : ℕ) → i < length bs → is_char_start (get_or bs i d) ≡ false → place_behind n (drop i bs) ≡ 1 + place_behind n (drop (i + 1) bs)
place_behind-inside n bs i d lt s = ap (place_behind n) (drop_more bs i d lt) ∙ by_inside n (get_or bs i d) (drop (i + 1) bs) s

pub place_of_character-behind : (s : List ℕ) (n : ℕ) → 0 < length s → 0 < n → place_of_character s n ≡ 1 + place_behind (n - 1) (drop 1 s)
place_of_character-behind [] n h k = let no : ⊥ = omega (arith, h) in absurd no
place_of_character-behind (b ∷ bs) zero h k = let no : ⊥ = omega (arith, k) in absurd no
place_of_character-behind (b ∷ bs) (suc n) h k =
    let one : suc n - 1 ≡ n = omega arith in ap (λ m. 1 + place_behind m bs) (sym one)

-- a place in a text lies within it
place_behind-le : (n : ℕ) (bs : List ℕ) → place_behind n bs ≤ length bs
place_behind-le n [] = omega arith
place_behind-le zero (b ∷ bs) =
    let more = place_behind-le zero bs in
    elim (true_or_false (is_char_start b)) [
      | inl s ↦ omega (arith, first_start b bs s)
      | inr s ↦ omega (arith, by_inside zero b bs s, more)
    ]
place_behind-le (suc n) (b ∷ bs) =
    elim (true_or_false (is_char_start b)) [
      | inl s ↦ omega (arith, by_start n b bs s, place_behind-le n bs)
      | inr s ↦ omega (arith, by_inside (suc n) b bs s, place_behind-le (suc n) bs)
    ]

pub place_of_character-le : (s : List ℕ) (n : ℕ) → place_of_character s n ≤ length s
place_of_character-le [] n = omega arith
place_of_character-le (b ∷ bs) zero = omega arith
place_of_character-le (b ∷ bs) (suc n) = omega (arith, place_behind-le n bs)

-- one byte in front, behind which both places move by one
one_further : (b : ℕ) (bs : List ℕ) (m p q near far : ℕ) → p ≡ 1 + near → q ≡ 1 + far → far ≡ near + place_of_character (drop near bs) m → q ≡ p + place_of_character (drop p (b ∷ bs)) m
one_further b bs m p q near far p_is q_is more =
    let same : 1 + near ≡ suc near = omega arith in
    let front : place_of_character (drop p (b ∷ bs)) m ≡ place_of_character (drop near bs) m = ap (λ (k : ℕ). place_of_character (drop k (b ∷ bs)) m) (p_is ∙ same) in
    omega (arith, p_is, q_is, more, front)

-- from a byte that begins a character on, the characters are counted from 0
from_start : (b : ℕ) (bs : List ℕ) (m : ℕ) → is_char_start b ≡ true → place_behind m (b ∷ bs) ≡ place_of_character (b ∷ bs) m
from_start b bs zero s = first_start b bs s
from_start b bs (suc m) s = by_start m b bs s

-- a character behind the first that begins here, or behind a later one
behind_first : (m : ℕ) (bs : List ℕ) → place_behind m bs ≡ place_behind 0 bs + place_of_character (drop (place_behind 0 bs) bs) m
behind_first m [] = refl
behind_first m (b ∷ bs) =
    elim (true_or_false (is_char_start b)) [
      | inl s ↦
          let front = ap (λ (k : ℕ). place_of_character (drop k (b ∷ bs)) m) (first_start b bs s) in
          omega (arith, front, first_start b bs s, from_start b bs m s)
      | inr s ↦ one_further b bs m _ _ (place_behind 0 bs) (place_behind m bs) (by_inside 0 b bs s) (by_inside m b bs s) (behind_first m bs)
    ]

behind_further : (n m k : ℕ) (bs : List ℕ) → k ≡ n + m → place_behind k bs ≡ place_behind n bs + place_of_character (drop (place_behind n bs) bs) m
behind_further n m k [] e = refl
behind_further zero m k (b ∷ bs) e =
    let same : k ≡ m = omega (arith, e) in
    rw same (behind_first m (b ∷ bs))
behind_further (suc n) m zero (b ∷ bs) e = let no : ⊥ = omega (arith, e) in absurd no
behind_further (suc n) m (suc k) (b ∷ bs) e =
    let less : k ≡ n + m = omega (arith, e) in
    elim (true_or_false (is_char_start b)) [
      | inl s ↦ one_further b bs m _ _ (place_behind n bs) (place_behind k bs) (by_start n b bs s) (by_start k b bs s) (behind_further n m k bs less)
      | inr s ↦ one_further b bs m _ _ (place_behind (suc n) bs) (place_behind (suc k) bs) (by_inside (suc n) b bs s) (by_inside (suc k) b bs s) (behind_further (suc n) m (suc k) bs e)
    ]

-- a later character, counted from the place of an earlier one
pub place_further : (s : List ℕ) (n m k : ℕ) → k ≡ n + m → place_of_character s k ≡ place_of_character s n + place_of_character (drop (place_of_character s n) s) m
place_further [] n m k e = refl
place_further (b ∷ bs) zero m k e =
    let same : k ≡ m = omega (arith, e) in
    omega (arith, ap (place_of_character (b ∷ bs)) same)
place_further (b ∷ bs) (suc n) m zero e = let no : ⊥ = omega (arith, e) in absurd no
place_further (b ∷ bs) (suc n) m (suc k) e =
    let less : k ≡ n + m = omega (arith, e) in
    one_further b bs m _ _ (place_behind n bs) (place_behind k bs) refl refl (behind_further n m k bs less)

-- a cell of another kind is no text
pub no_text : (P : Option Cell → Type 0) → ((s : List ℕ) → P (Some (TextCell s)) → ⊥) → (o : Option Cell) → P o → HasText o → ⊥
no_text P other (Some (TextCell s)) is text = other s is
no_text P other o is text = text

-- a text stays where it is when a cell is new, and when one is written that is no text
pub kept-push : (h : List Cell) (j : ℕ) (c : Cell) → HasText (slice_get h j) → slice_get (h ++ c ∷ []) j ≡ slice_get h j
kept-push [] j c text = absurd text
kept-push (x ∷ h) zero c text = refl
kept-push (x ∷ h) (suc j) c text = kept-push h j c text

pub kept-set : (h : List Cell) (i j : ℕ) (c : Cell) → (HasText (slice_get h i) → ⊥) → HasText (slice_get h j) → slice_get (set h i c) j ≡ slice_get h j
kept-set [] i j c none text = absurd text
kept-set (x ∷ h) zero zero c none text = absurd (none text)
kept-set (x ∷ h) zero (suc j) c none text = refl
kept-set (x ∷ h) (suc i) zero c none text = refl
kept-set (x ∷ h) (suc i) (suc j) c none text = kept-set h i j c none text
