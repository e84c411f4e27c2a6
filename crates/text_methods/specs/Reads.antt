-- What is read before anything changes: the effect of a method, whatever the cells are.
use Rattle.std.specs.Prelude.{◌≡◌, ◌<◌, ◌≤◌, ℕ, length, true, Result, Ok, Err, List, Option, Some, None, is_some}
use Rattle.model_values.specs.Cells.{Answer, Meets}
use Rattle.model_values.specs.Limits.{product_limits}
use Rattle.model_values.specs.declared.cell.Cell.{Cell}
use Rattle.value_view.specs.declared.refusal.OpRefusal.{OpRefusal}
use Rattle.value_view.specs.declared.refusal.OpRefusal.TheVariants.{Memory, Thrown, Limit}
use Rattle.value_ops.specs.declared.effect.Effect.{Effect}
use Rattle.value_ops.specs.Effects.{EffectBelow, HasAnswer, NamesNone, effect_answer}

-- an effect whose answer is the table's whatever the cells are, or the limit that the table meets then
abbrev pub Reads : (List Cell → Answer) → Result Effect OpRefusal → Type 0
Reads a (Ok effect) = HasAnswer a effect × NamesNone effect
Reads a (Err (Limit k)) = (h : List Cell) → a h ≡ Meets k
Reads a (Err (Thrown c)) = ⊥
Reads a (Err Memory) = Unit {0}

-- the same where there are n cells
abbrev pub ReadsAt : ℕ → (List Cell → Answer) → Result Effect OpRefusal → Type 0
ReadsAt n a (Ok effect) = ((h : List Cell) → length h ≡ n → effect_answer product_limits h effect ≡ a h) × EffectBelow n effect
ReadsAt n a (Err (Limit k)) = (h : List Cell) → length h ≡ n → a h ≡ Meets k
ReadsAt n a (Err (Thrown c)) = ⊥
ReadsAt n a (Err Memory) = Unit {0}

-- the same of a method that the table may not have
abbrev pub ReadsMethod : ℕ → (List Cell → Option Answer) → Result (Option Effect) OpRefusal → Type 0
ReadsMethod n o (Ok None) = (h : List Cell) → o h ≡ None
ReadsMethod n o (Ok (Some effect)) = ((h : List Cell) → length h ≡ n → o h ≡ Some (effect_answer product_limits h effect)) × EffectBelow n effect
ReadsMethod n o (Err (Limit k)) = (h : List Cell) → length h ≡ n → o h ≡ Some (Meets k)
ReadsMethod n o (Err (Thrown c)) = ⊥
ReadsMethod n o (Err Memory) = (h : List Cell) → is_some (o h) ≡ true

-- the same whatever the cells are
abbrev pub ReadsAlways : (List Cell → Option Answer) → Result (Option Effect) OpRefusal → Type 0
ReadsAlways o (Ok None) = (h : List Cell) → o h ≡ None
ReadsAlways o (Ok (Some effect)) = ((h : List Cell) → o h ≡ Some (effect_answer product_limits h effect)) × NamesNone effect
ReadsAlways o (Err (Limit k)) = (h : List Cell) → o h ≡ Some (Meets k)
ReadsAlways o (Err (Thrown c)) = ⊥
ReadsAlways o (Err Memory) = (h : List Cell) → is_some (o h) ≡ true

-- there is such a method
abbrev pub found : Result Effect OpRefusal → Result (Option Effect) OpRefusal
found (Ok effect) = Ok (Some effect)
found (Err refusal) = Err refusal

-- texts for a list, or none where they are more than a list may have
abbrev pub IsListOf : List (List ℕ) → Option (List (List ℕ)) → Type 0
IsListOf ts None = 65536 < length ts
IsListOf ts (Some texts) = (texts ≡ ts) × (length ts ≤ 65536)
