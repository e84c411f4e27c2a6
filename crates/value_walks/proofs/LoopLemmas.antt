-- Whether a loop over a text has a turn.
use Rattle.std.proofs.Common.{◌≡◌, ℕ, true, ltb, List, length, drop, Option, Some, None, is_some, slice_get, refl, sym, ap, ◌∙◌, inl, inr}
use Rattle.std.proofs.lemmas.Bool.{cases_lt, lt-ltb, le-ltb}
use Rattle.model_values.specs.Characters.{characters, part_of}
use Rattle.model_values.specs.Limits.{product_limits}
use Rattle.model_values.specs.Walks.{Turns, character_turn, unless_full}
use Rattle.model_values.specs.declared.cell.Cell.{Cell}
use Rattle.model_values.specs.declared.limit.LimitKind.{LimitKind}
use Rattle.model_values.specs.declared.value.Value.{Value}
use Rattle.value_walks.specs.Places.{BeginsAt}
use Rattle.value_walks.specs.Turns.{has_turn}
use Rattle.value_walks.proofs.PlaceLemmas.{at_place, past_place}

has_full : (o : Option LimitKind) (h g : List Cell) (args element : List Value) → has_turn (unless_full product_limits h o (Turns g args element)) ≡ true
has_full None h g args element = refl
has_full (Some k) h g args element = refl

has_character : (h : List Cell) (o : Option (List ℕ)) → has_turn (character_turn product_limits h o) ≡ is_some o
has_character h None = refl
has_character h (Some c) = has_full _ h _ _ _

pub within_text : (h : List Cell) (s : List ℕ) (n k : ℕ) → BeginsAt s n k → ltb k (length s) ≡ has_turn (character_turn product_limits h (slice_get (characters s) n))
within_text h s n k b =
    elim (cases_lt k (length s)) [
      | inl lt ↦ lt-ltb k (length s) lt ∙ sym (has_character h (slice_get (characters s) n) ∙ ap is_some (at_place s n k (part_of (drop k s) 0 1) b lt refl))
      | inr le ↦ le-ltb k (length s) le ∙ sym (has_character h (slice_get (characters s) n) ∙ ap is_some (past_place s n k b le))
    ]
