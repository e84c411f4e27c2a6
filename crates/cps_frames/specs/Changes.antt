-- What a change of a world does that may meet a limit, and an operation on values.
use Rattle.std.specs.Prelude.{◌≡◌, ℕ, List, Result as Outcome, Ok, Err, Option, Some, None}
use Rattle.model_values.specs.Cells.{Answer, Gives, Throws, Meets}
use Rattle.model_values.specs.declared.limit.LimitKind.{LimitKind}
use Rattle.model_values.specs.declared.cell.Cell.{Cell}
use Rattle.model_values.specs.declared.value.Value.{Value}
use Rattle.model_run.specs.FlowNodes.{line_limit, node_limit}
use Rattle.model_run.specs.State.{World, put_cells}
use Rattle.value_view.specs.declared.refusal.OpRefusal.{OpRefusal}
use Rattle.value_view.specs.declared.refusal.OpRefusal.TheVariants as op
use Rattle.cps_frames.specs.Standing.{Standing, Beside}
use Rattle.cps_frames.specs.declared.halt.Halt.{Halt}
use Rattle.cps_frames.specs.declared.halt.Halt.TheVariants.{Memory, Ends, Limit}

-- an answer without a value: it throws, or meets a limit
abbrev pub GivesNothing : Answer → Type 0
GivesNothing (Gives h v) = ⊥
GivesNothing answer = Unit {0}

-- what a change makes of a world, whose setting stays
abbrev pub changed_by : (World → World) → World → World
changed_by g w = record { setting = w.setting; shared = (g w).shared; own = (g w).own }

-- no limit was met, and the change was made
pub record Passed (limit : World → Option LimitKind) (g : World → World) (u v : Standing) : Type 0 where
  pub free : limit u.world ≡ None
  pub made : v.world ≡ changed_by g u.world
  pub stack : v.stack ≡ u.stack
  pub parent : v.parent ≡ u.parent
  pub heap : v.heap ≡ u.heap

-- this limit was met, and nothing was changed
pub record Met (limit : World → Option LimitKind) (k : LimitKind) (u v : Standing) : Type 0 where
  pub met : limit u.world ≡ Some k
  pub world : v.world ≡ u.world
  pub stack : v.stack ≡ u.stack
  pub parent : v.parent ≡ u.parent
  pub heap : v.heap ≡ u.heap

-- The change was made, or a limit was met; nothing is said where the memory was refused.
abbrev pub Passes : (World → Option LimitKind) → (World → World) → Standing → Outcome (Unit {0}) Halt → Standing → Type 0
Passes limit g u (Ok done) v = Passed limit g u v
Passes limit g u (Err (Limit k)) v = Met limit k u v
Passes limit g u (Err (Ends e)) v = ⊥
Passes limit g u (Err Memory) v = Unit {0}

-- the same where the change has given something
abbrev pub done : {T : Type 0} → Outcome T Halt → Outcome (Unit {0}) Halt
done (Ok x) = Ok tt
done (Err h) = Err h

-- there is room for a flow node, and for this line
pub record HasRoom (line : List ℕ) (u : Standing) : Type 0 where
  pub node : node_limit u.world ≡ None
  pub line_fits : line_limit line u.world ≡ None

-- an operation answers so, and leaves these cells, of which each that is written or new is marked
pub record Leaves (a answer : Answer) (h : List Cell) (u v : Standing) : Type 0 where
  pub answers : a ≡ answer
  pub world : v.world ≡ put_cells h u.world
  pub stack : v.stack ≡ u.stack
  pub beside : Beside u v

-- An operation on values did what the definitions say: it has given a value or thrown, with the cells afterwards, or met a limit, and
-- then the cells are as they were. Nothing is said where the memory was refused.
abbrev pub Done : (World → Answer) → Standing → Outcome Value OpRefusal → Standing → Type 0
Done f u (Ok x) v = Leaves (f u.world) (Gives v.world.shared.cells x) v.world.shared.cells u v
Done f u (Err (op.Thrown c)) v = Leaves (f u.world) (Throws v.world.shared.cells c) v.world.shared.cells u v
Done f u (Err (op.Limit k)) v = Leaves (f u.world) (Meets k) u.world.shared.cells u v
Done f u (Err op.Memory) v = Unit {0}
