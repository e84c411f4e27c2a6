-- The characters of a text, one after another, by the bytes at which they begin.
use Rattle.std.proofs.Common.{◌≡◌, ℕ, zero, suc, ◌+◌, ◌-◌, ◌<◌, ◌≤◌, List, [], ◌∷◌, length, take, drop, false, eqb, Option, Some, None, slice_get, refl, sym, ap, ◌∙◌, arith}
use Rattle.std.proofs.lemmas.List.{append-nil, drop-drop, drop_all, length-drop, length-take-le}
use Rattle.model_values.specs.Characters.{characters, concatenated, part_of}
use Rattle.model_values.specs.Kinds.{cell_kind}
use Rattle.cell_heap.specs.Contents.{text_in}
use Rattle.cell_heap.specs.ValueTypes.{Cell, TextCell}
use Rattle.cell_heap.specs.Places.{place_of_character}
use Rattle.value_view.proofs.CharacterLemmas.{cuts, length-characters-behind}
use Rattle.std.proofs.lemmas.Bool.Decides.{nat_tests}
use Rattle.value_view.specs.Seen.{seen}
use Rattle.value_view.specs.declared.kind.Kind.{Kind}
use Rattle.value_view.specs.declared.kind.Kind.TheVariants.{Null, Flag, Number, Text, List as Items, Map as Pairs, Closure, Thrown}
use Rattle.value_walks.specs.Places.{BeginsAt, IsLoopPlace}

-- where the definitions find a character it begins
begins_at : (s : List ℕ) (n k : ℕ) → k ≡ place_of_character s n → BeginsAt s n k
begins_at s n k is =
    let c = cuts s n in
    record { within = omega (arith, is, c.within); begins = ap (λ (k : ℕ). characters (drop k s)) is ∙ c.back }

-- the characters in front of a place end there
pub begins_behind : (s : List ℕ) (n : ℕ) (r : List ℕ) → r ≡ part_of s 0 n → BeginsAt s n (length r)
begins_behind s n r is =
    let c = cuts s n in
    let all : n - 0 ≡ n = omega arith in
    let front : r ≡ take (place_of_character s n) s = is ∙ ap (λ (m : ℕ). concatenated (take m (characters s))) all ∙ sym c.front in
    begins_at s n (length r) (ap length front ∙ length-take-le (place_of_character s n) s c.within)

-- a cell, by the place that is told of its text
pub cell_place : (c : ℕ) (o : Option Cell) (n k : ℕ) → k ≡ place_of_character (text_in o) n → IsLoopPlace (cell_kind c o) n k
cell_place c (Some (TextCell s)) n k is = begins_at s n k is
cell_place c o n k is = tt

-- and one that is no text
pub no_text_cell : (c : ℕ) (x : Cell) (n k : ℕ) → ((s : List ℕ) → x ≡ TextCell s → ⊥) → IsLoopPlace (cell_kind c (Some x)) n k
no_text_cell c (TextCell s) n k none = absurd (none s refl)
no_text_cell c x n k none = tt

-- a place is that of its character in the bytes from there on
first_here : (s : List ℕ) (n k : ℕ) → BeginsAt s n k → (m : ℕ) → drop m (characters (drop k s)) ≡ drop (n + m) (characters s)
first_here s n k b m = ap (λ (cs : List (List ℕ)). drop m cs) b.begins ∙ drop-drop m n (characters s)

-- the place of the next character
pub begins_next : (s : List ℕ) (n k : ℕ) (r : List ℕ) → BeginsAt s n k → r ≡ part_of (drop k s) 0 1 → BeginsAt s (n + 1) (k + length r)
begins_next s n k r b is =
    let here = begins_behind (drop k s) 1 r is in
    record {
      within = omega (arith, here.within, length-drop k s, b.within);
      begins = ap characters (sym (drop-drop (length r) k s)) ∙ here.begins ∙ first_here s n k b 1;
    }

none_left : (cs : List (List ℕ)) (n : ℕ) → drop n cs ≡ [] → slice_get cs n ≡ None
none_left [] n e = refl
none_left (c ∷ cs) zero e = absurd cc
none_left (c ∷ cs) (suc n) e = none_left cs n e

one_left : (cs : List (List ℕ)) (n : ℕ) (c : List ℕ) (rest : List (List ℕ)) → drop n cs ≡ c ∷ rest → slice_get cs n ≡ Some c
one_left [] zero c rest e = absurd cc
one_left [] (suc n) c rest e = absurd cc
one_left (d ∷ cs) zero c rest e = let same : d ≡ c = cc in ap Some same
one_left (d ∷ cs) (suc n) c rest e = one_left cs n c rest e

-- there is no such character
pub past_place : (s : List ℕ) (n k : ℕ) → BeginsAt s n k → length s ≤ k → slice_get (characters s) n ≡ None
past_place s n k b le =
    none_left (characters s) n (sym b.begins ∙ ap characters (drop_all k s le))

first_of : (cs whole : List (List ℕ)) (n : ℕ) (r : List ℕ) → 0 < length cs → cs ≡ drop n whole → r ≡ concatenated (take 1 cs) → slice_get whole n ≡ Some r
first_of [] whole n r some e is = let no : ⊥ = omega (arith, some) in absurd no
first_of (c ∷ cs) whole n r some e is = one_left whole n c cs (sym e) ∙ ap Some (sym (is ∙ append-nil c))

-- there is one
pub at_place : (s : List ℕ) (n k : ℕ) (r : List ℕ) → BeginsAt s n k → k < length s → r ≡ part_of (drop k s) 0 1 → slice_get (characters s) n ≡ Some r
at_place s n k r b lt is =
    let behind = drop k s in
    let long = length-drop k s in
    let some : false ≡ eqb (length behind) 0 = grind (arith, nat_tests) in
    let count = length-characters-behind behind some in
    first_of (characters behind) (characters s) n r (omega (arith, count)) b.begins is

-- a value that is no text
pub no_text_place : (k : Kind) (n m : ℕ) → ((x : _) → k ≡ Text x → ⊥) → IsLoopPlace (seen k) n m
no_text_place Null n m none = tt
no_text_place (Flag b) n m none = tt
no_text_place (Number x) n m none = tt
no_text_place (Text t) n m none = absurd (none t refl)
no_text_place (Items c vs) n m none = tt
no_text_place (Pairs c es) n m none = tt
no_text_place (Closure c) n m none = tt
no_text_place (Thrown c class m') n m none = tt
