-- What a turn begins with, as the program has it.
use Rattle.std.specs.Prelude.{◌≡◌, ℕ, Bool, true, false, List, [], ◌∷◌, Result, Ok, Err, Option, Some, None, length}
use Rattle.cell_heap.specs.Follows.{Follows}
use Rattle.cell_heap.specs.Region.{Region}
use Rattle.cell_heap.specs.Soundness.{ValueBelow}
use Rattle.model_values.specs.Limits.{product_limits}
use Rattle.model_values.specs.Walks as model
use Rattle.model_values.specs.declared.cell.Cell.{Cell}
use Rattle.model_values.specs.declared.value.Value.{Value}
use Rattle.value_view.specs.declared.refusal.OpRefusal.{OpRefusal}
use Rattle.value_view.specs.declared.refusal.OpRefusal.TheVariants.{Memory, Thrown, Limit}
use Rattle.value_walks.specs.declared.turns.Parts.{Parts}
use Rattle.value_walks.specs.declared.turns.Parts.TheVariants.{One, Two}
use Rattle.value_walks.specs.declared.turns.Turn.{Turn}
use Rattle.value_walks.specs.declared.place.Place.{Place}
use Rattle.value_walks.specs.declared.place.Place.TheVariants.{Past, Value as At, Entry, Character}

abbrev pub listed : Parts → List Value
listed (One v) = v ∷ []
listed (Two v w) = v ∷ w ∷ []

-- the turn that the tables have, with the cells that it needs; past the end and at a limit every cell is as it was,
-- and so after want of memory, which no table has
abbrev pub TurnAnswers : model.Turn → Region → Region → Result (Option Turn) OpRefusal → Type 0
TurnAnswers t old new (Ok (Some turn)) = t ≡ model.Turns new.cells (listed turn.arguments) (listed turn.element)
TurnAnswers t old new (Ok None) = (t ≡ model.Past) × (new.cells ≡ old.cells)
TurnAnswers t old new (Err (Limit k)) = (t ≡ model.Stops k) × (new.cells ≡ old.cells)
TurnAnswers t old new (Err (Thrown c)) = ⊥
TurnAnswers t old new (Err Memory) = new.cells ≡ old.cells

-- what one value or two name is among the first n cells
abbrev pub PartsBelow : ℕ → Parts → Type 0
PartsBelow n (One v) = ValueBelow n v
PartsBelow n (Two v w) = ValueBelow n v × ValueBelow n w

abbrev pub TurnBelow : ℕ → Result (Option Turn) OpRefusal → Type 0
TurnBelow n (Ok (Some turn)) = PartsBelow n turn.arguments × PartsBelow n turn.element
TurnBelow n _ = Unit {0}

-- what every turn leaves: cells are added or marked as changed, and what it begins with is there
pub record TurnLeaves (old new : Region) (result : Result (Option Turn) OpRefusal) : Type 0 where
  pub follows : Follows old new
  pub below : TurnBelow (length new.cells) result

-- the turn that begins with what was read, where `two` says that the closure has two parameters
abbrev pub place_turn : List Cell → Bool → Place → model.Turn
place_turn h two Past = model.Past
place_turn h two (At v) = model.element_turn product_limits h (Some v)
place_turn h two (Entry k v) = model.entry_turn product_limits h two (Some (k, v))
place_turn h two (Character t) = model.character_turn product_limits h (Some t)

-- whatever the cells are and what the closure takes, this turn begins with it
abbrev pub BeginsTurn : (List Cell → Bool → model.Turn) → Place → Type 0
BeginsTurn t place = (h : List Cell) (two : Bool) → place_turn h two place ≡ t h two

-- what it names is among the first n cells
abbrev pub PlaceBelow : ℕ → Place → Type 0
PlaceBelow n (At v) = ValueBelow n v
PlaceBelow n (Entry k v) = ValueBelow n v
PlaceBelow n _ = Unit {0}

-- whether there is such a turn, be it that a limit is met as it begins
abbrev pub has_turn : model.Turn → Bool
has_turn (model.Turns h args element) = true
has_turn model.Past = false
has_turn (model.Stops k) = true
