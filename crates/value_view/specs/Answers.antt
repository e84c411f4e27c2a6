-- What a call on values answers: the one form of all contracts of operators, methods, indexes and properties.
use Rattle.std.specs.Prelude.{◌≡◌, ℕ, ◌<◌, Bool, Result, Ok, Err, List, length}
use Rattle.model_values.specs.Cells.{Answer, Gives, Throws, Meets}
use Rattle.model_values.specs.Equality.{Equality, Is, Stops as Halts}
use Rattle.model_values.specs.TextOf.{Writing, Wrote, Stops}
use Rattle.model_values.specs.declared.value.Value.{Value}
use Rattle.model_values.specs.declared.limit.LimitKind.{LimitKind}
use Rattle.cell_heap.specs.Follows.{Follows}
use Rattle.cell_heap.specs.Region.{Region}
use Rattle.cell_heap.specs.Soundness.{ValueBelow}
use Rattle.value_view.specs.declared.refusal.OpRefusal.{OpRefusal}
use Rattle.value_view.specs.declared.refusal.OpRefusal.TheVariants.{Memory, Thrown, Limit}

-- A call answers what the table gives: the value or the throwable, with the cells afterwards, or the limit, and then
-- every cell is as it was. Want of memory is the one answer that no table gives, and it changes no cell either
abbrev pub Answers : Answer → Region → Region → Result Value OpRefusal → Type 0
Answers a old new (Ok v) = a ≡ Gives new.cells v
Answers a old new (Err (Thrown c)) = a ≡ Throws new.cells c
Answers a old new (Err (Limit k)) = (a ≡ Meets k) × (new.cells ≡ old.cells)
Answers a old new (Err Memory) = new.cells ≡ old.cells

-- the same with the count of evaluated nodes, where the table has one; for want of memory it is open
abbrev pub CountsTo : ℕ → ℕ → Result Value OpRefusal → Type 0
CountsTo n count (Err Memory) = Unit {0}
CountsTo n count _ = count ≡ n

abbrev pub CountedAnswers : Answer × ℕ → Region → Region → ℕ → Result Value OpRefusal → Type 0
CountedAnswers r old new count result = Answers r.0 old new result × CountsTo r.1 count result

-- what is given or thrown names a cell that is there
abbrev pub ResultBelow : ℕ → Result Value OpRefusal → Type 0
ResultBelow n (Ok v) = ValueBelow n v
ResultBelow n (Err (Thrown c)) = c < n
ResultBelow n _ = Unit {0}

-- what every call leaves, whatever it answers: cells are added or marked as changed, and what it answers is there
pub record Leaves (old new : Region) (result : Result Value OpRefusal) : Type 0 where
  pub follows : Follows old new
  pub below : ResultBelow (length new.cells) result

-- A text that is built answers what the table writes, and nothing is thrown. Want of memory may come whatever the
-- table writes, since the text is built before its end is known
abbrev pub IsWritten : Writing → Result (List ℕ) OpRefusal → Type 0
IsWritten w (Ok text) = w ≡ Wrote text
IsWritten w (Err (Limit k)) = w ≡ Stops k
IsWritten w (Err (Thrown c)) = ⊥
IsWritten w (Err Memory) = Unit {0}

-- the same where the text is written behind another
abbrev pub Writes : Writing → List ℕ → Result (Unit {0}) OpRefusal → Type 0
Writes w text (Ok done) = w ≡ Wrote text
Writes w text (Err (Limit k)) = w ≡ Stops k
Writes w text (Err (Thrown c)) = ⊥
Writes w text (Err Memory) = Unit {0}

-- an equality answers what the table gives, with the count of compared pairs
abbrev pub Compares : Equality → ℕ → Result Bool LimitKind → Type 0
Compares e count (Ok b) = e ≡ Is b count
Compares e count (Err k) = e ≡ Halts k count
