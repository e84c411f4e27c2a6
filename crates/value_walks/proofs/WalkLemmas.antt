-- What a walk keeps behind a turn, and the entries that it gives at its end.
use Rattle.std.proofs.Common.{◌≡◌, ℕ, zero, suc, ◌+◌, ◌<◌, ◌≤◌, List, [], ◌∷◌, ◌++◌, length, get_or, drop, Option, Some, None, refl, arith}
use Rattle.std.specs.List.{All}
use Rattle.std.proofs.lemmas.List.Elements.{All-append, All-cons, All-head, All-nil, All-tail}
use Rattle.cell_heap.specs.Soundness.{ValueBelow}
use Rattle.cell_heap.proofs.EntryLemmas.{All-insert}
use Rattle.model_values.specs.Index.{key_of}
use Rattle.model_values.specs.Kinds.{kind}
use Rattle.model_values.specs.Limits.{product_limits}
use Rattle.model_values.specs.Walks.{kept_entries, with_entry}
use Rattle.model_values.specs.declared.cell.Cell.{Cell}
use Rattle.model_values.specs.declared.key.Key.{Key}
use Rattle.model_values.specs.declared.value.Value.{Value}
use Rattle.value_walks.specs.Turns.{PartsBelow, listed}
use Rattle.value_walks.specs.declared.turns.Parts.{Parts}
use Rattle.value_walks.specs.declared.turns.Parts.TheVariants.{One, Two}

-- what `findAll` found before, and the element of its turn, name what is there
pub kept_below : (n : ℕ) (e : Parts) (vs : List Value) → All (ValueBelow n) (listed e ++ vs) → All (ValueBelow n) vs
kept_below n (One x) vs all = All-tail (ValueBelow n) x vs all
kept_below n (Two x y) vs all = All-tail (ValueBelow n) y vs (All-tail (ValueBelow n) x (y ∷ vs) all)

element_below : (n : ℕ) (e : Parts) (vs : List Value) → All (ValueBelow n) (listed e ++ vs) → All (ValueBelow n) (listed e)
element_below n (One x) vs all = All-cons (ValueBelow n) x [] (All-head (ValueBelow n) x vs all) (All-nil (ValueBelow n))
element_below n (Two x y) vs all =
    let first = All-head (ValueBelow n) x (y ∷ vs) all in
    let second = All-head (ValueBelow n) y vs (All-tail (ValueBelow n) x (y ∷ vs) all) in
    All-cons (ValueBelow n) x (y ∷ []) first (All-cons (ValueBelow n) y [] second (All-nil (ValueBelow n)))

pub more_below : (n : ℕ) (e : Parts) (vs : List Value) → All (ValueBelow n) (listed e ++ vs) → All (ValueBelow n) (vs ++ listed e)
more_below n e vs all = All-append (ValueBelow n) vs (listed e) (kept_below n e vs all) (element_below n e vs all)

pub with_entry_below : (n : ℕ) (h : List Cell) (es : List (Key × Value)) (k : Option Key) (v : Value) → All (λ e. ValueBelow n e.1) es → ValueBelow n v → All (λ e. ValueBelow n e.1) (with_entry product_limits h es k v)
with_entry_below n h es None v all below = all
with_entry_below n h es (Some k) v all below = All-insert k v (ValueBelow n) es below all

-- the entries, one further
pub entries_more : (h : List Cell) (es : List (Key × Value)) (vs : List Value) (i : ℕ) (d : Value) → i + 1 < length vs → kept_entries product_limits h es (drop i vs) ≡ kept_entries product_limits h (with_entry product_limits h es (key_of (kind h (get_or vs i d))) (get_or vs (i + 1) d)) (drop (i + 2) vs)
entries_more h es [] i d lt = let no : ⊥ = omega (arith, lt) in absurd no
entries_more h es (v ∷ []) i d lt = let no : ⊥ = omega (arith, lt) in absurd no
entries_more h es (k ∷ v ∷ vs) zero d lt = refl
entries_more h es (k ∷ v ∷ vs) (suc i) d lt =
    let one : suc i + 1 ≡ suc (i + 1) = omega arith in
    let two : suc i + 2 ≡ suc (i + 2) = omega arith in
    rw (one, two) (entries_more h es (v ∷ vs) i d (omega (arith, lt)))

-- one value alone is no entry
pub entries_none : (h : List Cell) (es : List (Key × Value)) (vs : List Value) → length vs ≤ 1 → kept_entries product_limits h es vs ≡ es
entries_none h es [] le = refl
entries_none h es (k ∷ []) le = refl
entries_none h es (k ∷ v ∷ vs) le = let no : ⊥ = omega (arith, le) in absurd no

-- what a turn begins with, as a list
pub listed_below : (n : ℕ) (p : Parts) → PartsBelow n p → All (ValueBelow n) (listed p)
listed_below n (One x) below = All-cons (ValueBelow n) x [] below (All-nil (ValueBelow n))
listed_below n (Two x y) below = All-cons (ValueBelow n) x (y ∷ []) below.0 (All-cons (ValueBelow n) y [] below.1 (All-nil (ValueBelow n)))
