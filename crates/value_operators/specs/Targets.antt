-- What an assignment writes to, as the program has read it.
use Rattle.std.specs.Prelude.{◌≡◌, ◌<◌, Result, Ok, Err, List, length, slice_get, slice_set}
use Rattle.model_values.specs.Cells.{Answer, Gives, Meets, map_put}
use Rattle.model_values.specs.Index as model
use Rattle.model_values.specs.Limits.{Limits}
use Rattle.model_values.specs.declared.cell.Cell.{Cell}
use Rattle.model_values.specs.declared.cell.Cell.TheVariants.{List as ListCell}
use Rattle.model_values.specs.declared.value.Value.{Value}
use Rattle.model_values.specs.Fitting.{HasList, HasMap}
use Rattle.cell_heap.specs.Contents.{values_in, pairs_in}
use Rattle.value_ops.specs.Effects.{EffectBelow, effect_answer}
use Rattle.value_operators.specs.declared.index.Place.{Place}
use Rattle.value_operators.specs.declared.index.Place.TheVariants.{At, Past, Below}
use Rattle.value_operators.specs.declared.index.Target.{Target}
use Rattle.value_operators.specs.declared.index.Target.TheVariants.{Entry, Key, Nothing}
use Rattle.value_view.specs.declared.refusal.OpRefusal.{OpRefusal}
use Rattle.value_view.specs.declared.refusal.OpRefusal.TheVariants.{Memory, Thrown, Limit}

abbrev pub place_seen : Place → model.Place
place_seen (At j) = model.at j
place_seen Past = model.past
place_seen Below = model.below

-- what writing a value to a target answers
abbrev pub target_answer : Limits → List Cell → Target → Value → Answer
target_answer l h (Entry c j) v = Gives (slice_set h c (ListCell (slice_set (values_in (slice_get h c)) j v))) v
target_answer l h (Key c k) v = map_put l h c (pairs_in (slice_get h c)) k v v
target_answer l h (Nothing effect) v = effect_answer l h effect

-- the target is there
abbrev pub TargetBelow : List Cell → Target → Type 0
TargetBelow h (Entry c j) = (c < length h) × HasList (slice_get h c) × (j < length (values_in (slice_get h c)))
TargetBelow h (Key c k) = (c < length h) × HasMap (slice_get h c)
TargetBelow h (Nothing effect) = EffectBelow (length h) effect

-- the target of an assignment that answers this for each value
abbrev pub IsTarget : Limits → List Cell → (Value → Answer) → Result Target OpRefusal → Type 0
IsTarget l h a (Ok target) = (v : Value) → target_answer l h target v ≡ a v
IsTarget l h a (Err (Limit k)) = (v : Value) → a v ≡ Meets k
IsTarget l h a (Err (Thrown c)) = ⊥
IsTarget l h a (Err Memory) = Unit {0}
