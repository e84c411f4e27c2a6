-- A walk before its next turn, as the program has it.
use Rattle.std.specs.Prelude.{◌≡◌, ◌<◌, List, All, length, pos}
use Rattle.cell_heap.specs.Soundness.{ValueBelow}
use Rattle.model_values.specs.Fitting.{CellsFit, HasClosure, IsIn}
use Rattle.model_values.specs.declared.cell.Cell.{Cell}
use Rattle.model_values.specs.declared.value.Value.{Value}
use Rattle.model_values.specs.declared.value.Value.TheVariants.{Int as Whole}
use Rattle.model_run.specs.Calls.{walk_method}
use Rattle.model_run.specs.Fitting.{closure_rule}
use Rattle.model_run.specs.Nesting.{shape_at}
use Rattle.model_run.specs.Terms.{Term, nodes_of}
use Rattle.value_walks.specs.Walking.{walk_kept, walk_method as method_of}
use Rattle.cps_calls.specs.declared.walks.WalkAt.{WalkAt}

-- its method is that of its node, its closure is one, and what it names is there; and closures have bodies in the script
pub record WalkStands (root : Term) (h : List Cell) (p : WalkAt) : Type 0 where
  pub node : p.node < length (nodes_of root)
  pub method : method_of p.walk ≡ walk_method (shape_at root p.node).form
  pub on : ValueBelow (length h) p.on
  pub closure : IsIn HasClosure h p.closure
  pub kept : All (ValueBelow (length h)) (walk_kept p.walk)
  pub cells : CellsFit (closure_rule root) h

-- a whole number from 0 on
abbrev pub IsCount : Value → Type 0
IsCount (Whole (pos n)) = Unit {0}
IsCount v = ⊥
