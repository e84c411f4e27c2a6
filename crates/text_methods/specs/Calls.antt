-- What a call of a method answers.
use Rattle.std.specs.Prelude.{◌≡◌, ◌<◌, ℕ, length, map, is_some, [], Bool, true, false, if◌then◌else◌, Result, Ok, Err, List, Option, Some, None}
use Rattle.cell_heap.specs.Follows.{Follows}
use Rattle.cell_heap.specs.Region.{Region}
use Rattle.cell_heap.specs.Soundness.{ValueBelow}
use Rattle.value_ops.specs.declared.effect.Effect.{Effect}
use Rattle.value_ops.specs.Effects.{EffectBelow, effect_answer}
use Rattle.model_values.specs.MethodNames.{Method, ToString}
use Rattle.model_values.specs.Methods.{number_method, text_value, thrown_method}
use Rattle.model_values.specs.TextMethods.{text_method}
use Rattle.model_values.specs.Cells.{Answer, Meets}
use Rattle.model_values.specs.Kinds.{Kind, number, text, items, pairs, thrown, kind}
use Rattle.model_values.specs.Limits.{product_limits}
use Rattle.model_values.specs.declared.cell.Cell.{Cell}
use Rattle.model_values.specs.declared.value.Value.{Value}
use Rattle.model_values.specs.MethodTable.{has_named, own_call}
use Rattle.value_view.specs.Answers.{CountedAnswers}
use Rattle.value_view.specs.declared.refusal.OpRefusal.{OpRefusal}
use Rattle.value_view.specs.declared.refusal.OpRefusal.TheVariants.{Memory, Thrown, Limit}

-- lists and maps have their methods in a crate of their own
abbrev pub is_collection : Kind → Bool
is_collection (items c vs) = true
is_collection (pairs c es) = true
is_collection _ = false

-- what `a.name(args)` gives of a value that is no list and no map, by a method that takes no closure
abbrev pub single_call : List Cell → Value → List ℕ → List Value → ℕ → Option (Answer × ℕ)
single_call h a name args n = if is_collection (kind h a) then None else own_call product_limits h a name args n

-- a call answers what the table gives, with the count of evaluated nodes; where the table has no such method, it gives
-- none and nothing changes
abbrev pub CallAnswers : Option (Answer × ℕ) → Region → Region → ℕ → ℕ → Result (Option Value) OpRefusal → Type 0
CallAnswers None old new n count result = (result ≡ Ok None) × (new ≡ old) × (count ≡ n)
CallAnswers (Some r) old new n count (Ok (Some v)) = CountedAnswers r old new count (Ok v)
CallAnswers (Some r) old new n count (Ok None) = ⊥
CallAnswers (Some r) old new n count (Err e) = CountedAnswers r old new count (Err e)

-- whether such a value has a method of this name with so many arguments
abbrev pub has_single : Kind → List ℕ → ℕ → Bool
has_single on name n = if is_collection on then false else has_named on name n

-- what every call leaves: cells are added or marked as changed, and what it answers is there
abbrev pub CallBelow : ℕ → Result (Option Value) OpRefusal → Type 0
CallBelow n (Ok (Some v)) = ValueBelow n v
CallBelow n (Ok None) = Unit {0}
CallBelow n (Err (Thrown c)) = c < n
CallBelow n (Err e) = Unit {0}

pub record CallLeaves (old new : Region) (result : Result (Option Value) OpRefusal) : Type 0 where
  pub follows : Follows old new
  pub below : CallBelow (length new.cells) result

-- the methods that read no other cell's number and compare nothing: all but `equals`
abbrev pub read_method : List Cell → Value → Kind → Method → List Value → Option Answer
read_method h a on ToString [] = Some (text_value product_limits h a on)
read_method h a (text s) m args = text_method product_limits h s m (map (kind h) args)
read_method h a (number x) m args = number_method product_limits h x m (map (kind h) args)
read_method h a (thrown c class message) m args = thrown_method product_limits h message m (map (kind h) args)
read_method h a on m args = None

-- what was read of a method, where these are the cells
abbrev pub ReadsHere : List Cell → Option Answer → Result (Option Effect) OpRefusal → Type 0
ReadsHere h o (Ok None) = o ≡ None
ReadsHere h o (Ok (Some effect)) = (o ≡ Some (effect_answer product_limits h effect)) × EffectBelow (length h) effect
ReadsHere h o (Err (Limit k)) = o ≡ Some (Meets k)
ReadsHere h o (Err (Thrown c)) = ⊥
ReadsHere h o (Err Memory) = is_some o ≡ true
