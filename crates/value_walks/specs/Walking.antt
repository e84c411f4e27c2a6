-- What a walk keeps from turn to turn, as the program has it.
use Rattle.std.specs.Prelude.{◌≡◌, ℕ, List, [], ◌++◌, All, length}
use Rattle.cell_heap.specs.Soundness.{ValueBelow}
use Rattle.model_run.specs.Calls.{held_arguments, held_element, held_kept}
use Rattle.model_values.specs.Limits.{product_limits}
use Rattle.model_values.specs.MethodNames as table
use Rattle.model_values.specs.Walks as model
use Rattle.model_values.specs.declared.cell.Cell.{Cell}
use Rattle.model_values.specs.declared.value.Value.{Value}
use Rattle.value_ops.specs.Effects.{EffectBelow, effect_answer}
use Rattle.value_walks.specs.Turns.{listed}
use Rattle.value_walks.specs.declared.walk.Next.{Next}
use Rattle.value_walks.specs.declared.walk.Next.TheVariants.{GoesOn, Ends}
use Rattle.value_walks.specs.declared.walk.WalkInTurn.{WalkInTurn}
use Rattle.value_walks.specs.declared.walk.WalkInTurn.TheVariants as held
use Rattle.value_walks.specs.declared.walk.Walk.{Walk}
use Rattle.value_walks.specs.declared.walk.Walk.TheVariants as walk

-- between two turns: the method, and what it keeps
abbrev pub walk_method : Walk → table.Method
walk_method walk.Each = table.Each
walk_method (walk.Collect vs) = table.Collect
walk_method walk.Find = table.Find
walk_method (walk.FindAll vs) = table.FindAll
walk_method walk.Any = table.Any
walk_method walk.Every = table.Every
walk_method walk.Times = table.Times

abbrev pub walk_kept : Walk → List Value
walk_kept (walk.Collect vs) = vs
walk_kept (walk.FindAll vs) = vs
walk_kept _ = []

-- while the closure of a turn runs
abbrev pub held_method : WalkInTurn → table.Method
held_method held.Each = table.Each
held_method (held.Collect vs) = table.Collect
held_method (held.Find a) = table.Find
held_method (held.FindAll e vs) = table.FindAll
held_method held.Any = table.Any
held_method held.Every = table.Every
held_method held.Times = table.Times

abbrev pub held_values : WalkInTurn → List Value
held_values (held.Collect vs) = vs
held_values (held.Find a) = listed a
held_values (held.FindAll e vs) = listed e ++ vs
held_values _ = []

-- how many of the values that `findAll` keeps are the element of the turn
abbrev pub element_length : WalkInTurn → ℕ
element_length (held.FindAll e vs) = length (listed e)
element_length _ = 1

-- what a walk has kept between two turns, of the values that its next turn is begun with
abbrev pub kept_between : table.Method → List Value → List Value
kept_between table.Collect vs = vs
kept_between table.FindAll vs = vs
kept_between m vs = []

-- a walk behind the turn whose closure gave v, by what a saved build has in the frame of the turn, where the element has n values
abbrev pub frame_after : List Cell → table.Method → ℕ → List Value → Value → model.After
frame_after h m n values v = model.after product_limits h m (held_arguments m values) (held_element m n values) v (held_kept m n values)

-- the same of a walk
abbrev pub held_after : List Cell → WalkInTurn → Value → model.After
held_after h held v = frame_after h (held_method held) (element_length held) (held_values held) v

-- the walk goes on with what it keeps, or ends with what an effect gives
abbrev pub IsAfter : List Cell → table.Method → model.After → Next → Type 0
IsAfter h m a (GoesOn walk) = (walk_method walk ≡ m) × (a ≡ model.Keeps (walk_kept walk))
IsAfter h m a (Ends effect) = a ≡ model.Ends (effect_answer product_limits h effect)

-- what it names is among the first n cells
abbrev pub NextBelow : ℕ → Next → Type 0
NextBelow n (GoesOn walk) = All (ValueBelow n) (walk_kept walk)
NextBelow n (Ends effect) = EffectBelow n effect
