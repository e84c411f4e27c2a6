-- One entry of a list whose texts are joined.
use Rattle.std.specs.Prelude.{ℕ, Bool, true, false, List}
use Rattle.model_values.specs.Limits.{Limits}
use Rattle.model_values.specs.TextOf.{Writing, behind, text_behind, write_then}
use Rattle.model_values.specs.declared.cell.Cell.{Cell}
use Rattle.model_values.specs.declared.value.Value.{Value}

module _ (l : Limits) (h : List Cell) where
  -- Groovy: the text of an entry behind a text, with t in front of it unless it is the first
  abbrev pub joined_entry : List ℕ → Bool → Value → List ℕ → Writing
  joined_entry t true v s = text_behind l h v s
  joined_entry t false v s = write_then (behind l h t s) (text_behind l h v)
