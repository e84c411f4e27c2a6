-- Indexes of texts: what is read of one, one that grows, and those that a heap keeps.
use Rattle.std.proofs.Common.{◌≡◌, ℕ, zero, suc, ◌+◌, ◌-◌, ◌*◌, ◌≤◌, List, [], ◌∷◌, ◌++◌, length, get_or, set, take, drop, Option, Some, slice_get, refl, sym, ap, ◌∙◌, subst, inl, inr, arith}
use Rattle.std.proofs.lemmas.Bool.{cases_lt}
use Rattle.std.proofs.lemmas.List.{get_or_append_left, get_or_push, length_push, take_rest}
use Rattle.model_values.specs.Fitting.{HasText}
use Rattle.cell_heap.specs.Contents.{text_in}
use Rattle.cell_heap.specs.Places.{AreIndexesIn, IsIndexIn, IsIndexOf, place_of_character}
use Rattle.cell_heap.specs.ValueTypes.{Cell, TextCell}
use Rattle.cell_heap.proofs.PlaceLemmas.{kept-push, kept-set, place_further, place_of_character-le}

front : (s : List ℕ) → place_of_character s 0 ≡ 0
front [] = refl
front (b ∷ bs) = refl

-- where the character of the number 64 times count begins: at the entry in front of that number, or at the text's front
entry_in_front : (s bytes : List ℕ) (count : ℕ) → IsIndexOf s bytes → count ≤ length bytes → get_or (0 ∷ bytes) count 0 ≡ place_of_character s (64 * count)
entry_in_front s bytes zero is le = sym (front s)
entry_in_front s bytes (suc k) is le =
    let one : k + 1 ≡ suc k = omega arith in
    is k (omega (arith, le)) ∙ ap (λ (n : ℕ). place_of_character s (64 * n)) one

pub start_is : (s bytes : List ℕ) (count start : ℕ) → IsIndexOf s bytes → count ≤ length bytes → start ≡ get_or (0 ∷ bytes) count 0 → start ≡ place_of_character s (64 * count)
start_is s bytes count start is le read = read ∙ entry_in_front s bytes count is le

pub start_within : (s bytes : List ℕ) (count start : ℕ) → IsIndexOf s bytes → count ≤ length bytes → start ≡ get_or (0 ∷ bytes) count 0 → start ≤ length s
start_within s bytes count start is le read = omega (arith, start_is s bytes count start is le read, place_of_character-le s (64 * count))

-- the character that is found from a start on
pub found : (s : List ℕ) (start count at more : ℕ) → start ≡ place_of_character s (64 * count) → 64 * count ≤ at → more ≡ place_of_character (take (length s - start) (drop start s)) (at - count * 64) → start + more ≡ place_of_character s at
found s start count at more start_is le is =
    let rest : more ≡ place_of_character (drop (place_of_character s (64 * count)) s) (at - count * 64) = is ∙ ap (λ u. place_of_character u (at - count * 64)) (take_rest s start ∙ ap (λ (k : ℕ). drop k s) start_is) in
    let sum : at ≡ 64 * count + (at - count * 64) = omega (arith, le) in
    omega (arith, rest, start_is, place_further s (64 * count) (at - count * 64) at sum)

-- one entry more
pub IsIndexOf-push : (s bytes : List ℕ) (next : ℕ) → IsIndexOf s bytes → next ≡ place_of_character s ((length bytes + 1) * 64) → IsIndexOf s (bytes ++ next ∷ [])
IsIndexOf-push s bytes next is next_is k lt =
    elim (cases_lt k (length bytes)) [
      | inl in_front ↦ get_or_append_left bytes (next ∷ []) 0 k in_front ∙ is k in_front
      | inr behind ↦
          let last : length bytes ≡ k = omega (arith, behind, lt, length_push bytes next) in
          let number : (length bytes + 1) * 64 ≡ 64 * (k + 1) = omega (arith, last) in
          get_or_push bytes next 0 k last ∙ next_is ∙ ap (place_of_character s) number
    ]

-- what is kept of a text is an index of it
pub index_of_text : (o : Option Cell) (bytes : List ℕ) → HasText o → IsIndexIn o bytes → IsIndexOf (text_in o) bytes
index_of_text (Some (TextCell s)) bytes text is = is
index_of_text o bytes text is = absurd text

pub index_in_text : (o : Option Cell) (bytes : List ℕ) → HasText o → IsIndexOf (text_in o) bytes → IsIndexIn o bytes
index_in_text (Some (TextCell s)) bytes text is = is
index_in_text o bytes text is = absurd text

-- no entry is right of each cell
no_entry : (o : Option Cell) → IsIndexIn o []
no_entry (Some (TextCell s)) = λ k lt. let no : ⊥ = omega (arith, lt) in absurd no
no_entry o = refl

index_stays : (o p : Option Cell) (bytes : List ℕ) → (HasText o → p ≡ o) → IsIndexIn o bytes → IsIndexIn p bytes
index_stays (Some (TextCell s)) p bytes same is = subst (λ (q : Option Cell). IsIndexIn q bytes) (sym (same tt)) is
index_stays o p bytes same is = subst (λ (xs : List ℕ). IsIndexIn p xs) (sym is) (no_entry p)

pub AreIndexesIn-push : (h : List Cell) (c : Cell) (indexes : List (List ℕ)) → AreIndexesIn h indexes → AreIndexesIn (h ++ c ∷ []) indexes
AreIndexesIn-push h c indexes are i = index_stays (slice_get h i) (slice_get (h ++ c ∷ []) i) (get_or indexes i []) (kept-push h i c) (are i)

pub AreIndexesIn-set : (h : List Cell) (i : ℕ) (c : Cell) (indexes : List (List ℕ)) → (HasText (slice_get h i) → ⊥) → AreIndexesIn h indexes → AreIndexesIn (set h i c) indexes
AreIndexesIn-set h i c indexes none are j = index_stays (slice_get h j) (slice_get (set h i c) j) (get_or indexes j []) (kept-set h i j c none) (are j)
