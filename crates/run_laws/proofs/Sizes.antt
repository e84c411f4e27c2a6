-- How large positions and counts get: no larger than a text, a list or a map that is short.
use Rattle.std.proofs.Common.{arith, ◌≡◌, ◌<◌, ◌≤◌, ◌+◌, refl, subst, ℕ, zero, suc, Bool, true, false, List, [], ◌∷◌, ◌++◌, length, Option, Some, None}
use Rattle.std.specs.Prelude.{nat_eq, if◌then◌else◌, slice_get}
use Rattle.std.specs.Fmt.{is_char_start}
use Rattle.std.specs.List.{AllByRecursion as AllAre}
use Rattle.std.proofs.lemmas.Bool.{eqb-true}
use Rattle.std.proofs.lemmas.List.{length-map}
use Rattle.model_values.specs.Cells.{no_room, cell_size}
use Rattle.model_values.specs.Characters.{byte_before, characters}
use Rattle.model_values.specs.Kinds.{Kind, null, text, items, pairs, cell_kind, kind}
use Rattle.model_values.specs.Limits.{Limits}
use Rattle.model_values.specs.Walks.{Turn, Turns, Past, Stops, entry_map, key_value, key_cell, unless_full, element_turn, entry_turn, character_turn, loop_kind_turn, loop_turn}
use Rattle.model_values.proofs.CellGrowth.{all_get}
use Rattle.model_values.proofs.KindFacts.{KindFits, kind_fits}
use Rattle.model_values.specs.declared.value.Value.{Value}
use Rattle.model_values.specs.declared.value.Value.TheVariants.{Null, Bool as Truth, Int as Whole, Cell as InCell}
use Rattle.model_values.specs.declared.key.Key.{Key}
use Rattle.model_values.specs.declared.limit.LimitKind.{LimitKind}
use Rattle.model_values.specs.declared.cell.Cell.{Cell}
use Rattle.model_values.specs.declared.cell.Cell.TheVariants.{Variable, Text as TextCell, List as ListCell, Map as MapCell, Closure as ClosureCell, Thrown as ThrownCell}
use Rattle.model_run.specs.declared.result.BuildResult.{BuildResult}
use Rattle.model_run.specs.declared.result.BuildResult.TheVariants.{Success, Unstable, Failure, NotBuilt, Aborted}
use Rattle.model_run.specs.Results.{rank}
use Rattle.model_run.specs.Steps.{override_text, overrides_in, overrides_of}

pub rank_low : (r : BuildResult) → rank r ≤ 4
rank_low Success = omega arith
rank_low Unstable = omega arith
rank_low Failure = omega arith
rank_low NotBuilt = omega arith
rank_low Aborted = omega arith

-- no text has more characters than bytes
byte_more : (b : ℕ) (cs : List (List ℕ)) → length (byte_before b cs) ≤ length cs + 1
byte_more b [] = omega arith
byte_more b ([] ∷ cs) = omega arith
byte_more b ((d ∷ ds) ∷ cs) = one (is_char_start d)
  where
    one : (t : Bool) → length (if t then (b ∷ []) ∷ (d ∷ ds) ∷ cs else (b ∷ d ∷ ds) ∷ cs) ≤ length ((d ∷ ds) ∷ cs) + 1
    one true = omega arith
    one false = omega arith

few_characters : (s : List ℕ) → length (characters s) ≤ length s
few_characters [] = omega arith
few_characters (b ∷ bs) = omega (arith, byte_more b (characters bs), few_characters bs)

-- what is at a position lies before the end
found_below : {A : Type 0} (xs : List A) (i : ℕ) (x : A) → slice_get xs i ≡ Some x → i < length xs
found_below [] i x e = absurd (cc)
found_below (y ∷ xs) zero x e = omega arith
found_below (y ∷ xs) (suc i) x e = omega (arith, found_below xs i x e)

-- a further turn has a small position
abbrev pub TurnLow : ℕ → Turn → Type 0
TurnLow i (Turns h args element) = i ≤ 2147483646
TurnLow i Past = Unit {0}
TurnLow i (Stops k) = Unit {0}

module _ (l : Limits) (h : List Cell) (i : ℕ) where
  unless_low : (o : Option LimitKind) (t : Turn) → TurnLow i t → TurnLow i (unless_full l h o t)
  unless_low (Some k) t low = tt
  unless_low None t low = low

  element_low : (o : Option Value) → ((v : Value) → o ≡ Some v → i ≤ 2147483646) → TurnLow i (element_turn l h o)
  element_low None low = tt
  element_low (Some v) low = low v refl

  entry_low : (o : Option (Key × Value)) → ((e : Key × Value) → o ≡ Some e → i ≤ 2147483646) → TurnLow i (entry_turn l h false o)
  entry_low None low = tt
  entry_low (Some e) low = unless_low (no_room l h (key_cell e.0 ++ entry_map (key_value (length h) e.0) e.1 ∷ []))
      (Turns (h ++ key_cell e.0 ++ entry_map (key_value (length h) e.0) e.1 ∷ []) (InCell (length h + length (key_cell e.0)) ∷ []) (key_value (length h) e.0 ∷ e.1 ∷ [])) (low e refl)

  character_low : (o : Option (List ℕ)) → ((t : List ℕ) → o ≡ Some t → i ≤ 2147483646) → TurnLow i (character_turn l h o)
  character_low None low = tt
  character_low (Some t) low = unless_low (no_room l h (TextCell t ∷ [])) (Turns (h ++ TextCell t ∷ []) (InCell (length h) ∷ []) (InCell (length h) ∷ [])) (low t refl)

  once_low : (on : Value) (b : Bool) → nat_eq i 0 ≡ b → TurnLow i (if b then Turns h (on ∷ []) (on ∷ []) else Past)
  once_low on true e = omega (arith, eqb-true _ _ e)
  once_low on false e = tt

  -- the texts, lists and maps of these cells are short
  module _ (short : AllAre (λ c. cell_size c < 2147483648) h) where
    size_at : (c : ℕ) (x : Cell) → slice_get h c ≡ Some x → cell_size x < 2147483648
    size_at c x e = all_get (λ y. cell_size y < 2147483648) h c x e short

    text_short : (o : Option Cell) (c : ℕ) → slice_get h c ≡ o → (s : List ℕ) → cell_kind c o ≡ text s → length s < 2147483648
    text_short (Some (TextCell t)) c e s k = let same : t ≡ s = cc in subst (λ (x : List ℕ). length x < 2147483648) same (size_at c (TextCell t) e)
    text_short (Some (Variable v)) c e s k = absurd (cc)
    text_short (Some (ListCell vs)) c e s k = absurd (cc)
    text_short (Some (MapCell es)) c e s k = absurd (cc)
    text_short (Some (ClosureCell node env)) c e s k = absurd (cc)
    text_short (Some (ThrownCell class m)) c e s k = absurd (cc)
    text_short None c e s k = absurd (cc)

    text_of_short : (on : Value) (s : List ℕ) → kind h on ≡ text s → length s < 2147483648
    text_of_short (InCell c) s k = text_short (slice_get h c) c refl s k
    text_of_short Null s k = absurd (cc)
    text_of_short (Truth b) s k = absurd (cc)
    text_of_short (Whole z) s k = absurd (cc)

    kind_low : (on : Value) (k : Kind) → kind h on ≡ k → KindFits h k → TurnLow i (loop_kind_turn l h on k i)
    kind_low on null is fits = tt
    kind_low on (items c vs) is fits = element_low (slice_get vs i) (λ v e. omega (arith, size_at c (ListCell vs) fits, found_below vs i v e))
    kind_low on (pairs c es) is fits = entry_low (slice_get es i) (λ x e. omega (arith, size_at c (MapCell es) fits, found_below es i x e))
    kind_low on (text s) is fits = character_low (slice_get (characters s) i) (λ t e. omega (arith, text_of_short on s is, few_characters s, found_below (characters s) i t e))
    kind_low on k is fits = once_low on (nat_eq i 0) refl

    pub loop_low : (on : Value) → TurnLow i (loop_turn l h on i)
    loop_low on = kind_low on (kind h on) refl (kind_fits h on)

-- the variables of `withEnv` are the entries of a list
module _ (h : List Cell) (short : AllAre (λ c. cell_size c < 2147483648) h) where
  kind_overrides : (k : Kind) → KindFits h k → length (overrides_in h k) ≤ 2147483647
  kind_overrides (items c vs) fits =
      let low : length vs < 2147483648 = all_get (λ y. cell_size y < 2147483648) h c (ListCell vs) fits short in
      omega (arith, low, length-map vs (λ v. override_text (kind h v)))
  kind_overrides k fits = omega arith

  pub overrides_low : (o : Option Value) → length (overrides_of h o) ≤ 2147483647
  overrides_low None = omega arith
  overrides_low (Some v) = kind_overrides (kind h v) (kind_fits h v)
