-- Lists by rising keys, changed at some of the keys.
use Rattle.std.specs.Prelude.{◌≡◌, ℕ, Bool, true, ◌&&◌, List, [], ◌∷◌, ◌++◌, Option, Some, None, if◌then◌else◌}
use Rattle.std.specs.declared.cmp.Ordering.{Ordering}
use Rattle.std.specs.Ordering.{is_lt, nat_cmp}
use Rattle.std.specs.Option.{ForSome, option_map, option_to_list}
use Rattle.std.specs.declared.cmp.Ordering.TheVariants.{Less, Equal, Greater}
use Rattle.delta_form.specs.Applying.{in_turn}

-- Changes of a list, each at a key.
pub record Changing (C X : Type 0) : Type 0 where
  -- how the key of an item stands to that of a change
  pub compare : X → C → Ordering
  -- how the key of a change stands to that of another
  pub order : C → C → Ordering
  -- What stands at the key then, or that nothing does, by what stood there. It may be undefined.
  pub made : C → Option X → Option (Option X)

-- A list by a key: the items in front, which are below it, the item that has it, and the items behind.
abbrev pub Parted : Type 0 → Type 0
Parted X = List X × (Option X × List X)

abbrev pub part_before : {X : Type 0} → Ordering → X → List X → Parted X → Parted X
part_before Less x xs p = (x ∷ p.0, p.1)
part_before Equal x xs p = ([], (Some x, xs))
part_before Greater x xs p = ([], (None, x ∷ xs))

abbrev pub parted : {X : Type 0} → (X → Ordering) → List X → Parted X
parted compare [] = ([], (None, []))
parted compare (x ∷ xs) = part_before (compare x) x xs (parted compare xs)

-- The list up to the key, with the change made at it, and the items behind.
abbrev pub halves : {C X : Type 0} → Changing C X → C → List X → Option (List X × List X)
halves how c xs =
    let p = parted (λ x. how.compare x c) xs in
    option_map (λ y. (p.0 ++ option_to_list y, p.1.1)) (how.made c p.1.0)

-- The list with the change made at its key.
abbrev pub changed_at : {C X : Type 0} → Changing C X → C → List X → Option (List X)
changed_at how c xs = option_map (λ h. h.0 ++ h.1) (halves how c xs)

-- The list with all these changes made, one after the other.
abbrev pub changed : {C X : Type 0} → Changing C X → List C → List X → Option (List X)
changed how cs xs = in_turn (changed_at how) cs xs

-- each is below the next one
abbrev pub EachBelow : {C : Type 0} → (C → C → Ordering) → List C → Type 0
EachBelow order [] = Unit {0}
EachBelow order (c ∷ []) = Unit {0}
EachBelow order (c ∷ d ∷ ds) = (order c d ≡ Less) × EachBelow order (d ∷ ds)

-- the same, as a test
abbrev pub rising : {C : Type 0} → (C → C → Ordering) → List C → Bool
rising order [] = true
rising order (c ∷ []) = true
rising order (c ∷ d ∷ ds) = is_lt (order c d) && rising order (d ∷ ds)

-- Keys are in an order, and what a change makes has its key.
pub record Keyed {C X : Type 0} (how : Changing C X) : Type 0 where
  pub chain : (c d e : C) → how.order c d ≡ Less → how.order d e ≡ Less → how.order c e ≡ Less
  pub front : (x : X) (c d : C) → how.compare x c ≡ Less → how.order c d ≡ Less → how.compare x d ≡ Less
  pub keeps : (c d : C) (stood : Option X) (y : X) → ForSome stood (λ x. how.compare x c ≡ Equal) → how.made c stood ≡ Some (Some y) → how.order c d ≡ Less → how.compare y d ≡ Less

-- what was done before, and what one change more does: the items up to its key, and the items behind
abbrev pub merged : {C X : Type 0} → Changing C X → C → List X × List X → Option (List X × List X)
merged how c m = option_map (λ h. (m.0 ++ h.0, h.1)) (halves how c m.1)

-- by numbers
abbrev pub by_number : {C X : Type 0} → (X → ℕ) → (C → ℕ) → (C → Option X → Option (Option X)) → Changing C X
by_number item_number number made = record {
  compare = λ x c. nat_cmp (item_number x) (number c);
  order = λ c d. nat_cmp (number c) (number d);
  made = made;
}

-- the first item, where it passes the test, and the others
abbrev pub first_if : {X : Type 0} → (X → Bool) → List X → Option X × List X
first_if test [] = (None, [])
first_if test (x ∷ xs) = if test x then (Some x, xs) else (None, x ∷ xs)
