-- What is entered inside frames: the body of a closure, where a name is not called (this product's own).
use Rattle.std.specs.Prelude.{◌≡◌, ◌⊎◌, ℕ, true, List, [], ◌∷◌, Some, slice_get}
use Rattle.model_values.specs.Later.{CellsLater}
use Rattle.model_values.specs.declared.cell.Cell.{Cell}
use Rattle.model_values.specs.declared.cell.Cell.TheVariants.{Closure as ClosureCell}
use Rattle.model_run.specs.declared.ending.Asked.{Asked}
use Rattle.model_run.specs.declared.frame.Frame.{Frame}
use Rattle.model_run.specs.declared.frame.FrameKind.{FrameKind}
use Rattle.model_run.specs.declared.frame.FrameKind.TheVariants as kind
use Rattle.model_run.specs.Terms.{Term}
use Rattle.model_run.specs.State.{Env, State, Result, Ended, Waits, Limited, Unfinished}
use Rattle.model_run.specs.FrameTable.{is_closure_form}
use Rattle.model_run.specs.Nesting.{Spot, Begun, Any_body, Body_of, CallsByName, CallsClosures, Enters, WaitsFor, shape_at, spot_in}

-- a closure at node n is among the cells
abbrev pub HasClosureAt : List Cell → ℕ → Type 0
HasClosureAt h n = (c : ℕ) × (env : Env) × (slice_get h c ≡ Some (ClosureCell n env))

-- node n is a closure of the script, or that of one among the cells
abbrev pub IsCallee : Term → List Cell → ℕ → Type 0
IsCallee root h n = (is_closure_form (shape_at root n).form ≡ true) ⊎ HasClosureAt h n

-- in the place of node k stands the body of a closure, or of what is called by its name there, or no body
abbrev pub BeginsAt : Term → List Cell → ℕ → ℕ → FrameKind → Type 0
BeginsAt root h k n kind.CallBody = IsCallee root h n ⊎ CallsByName root k
BeginsAt root h k n d = Unit {0}

-- What stands at a spot: inside a step or a walk a closure, and as the body of a node that node.
abbrev pub EnteredAt : Term → List Cell → Spot → Frame → Type 0
EnteredAt root h Any_body f = IsCallee root h f.node
EnteredAt root h (Body_of k) f = f.node ≡ k
EnteredAt root h (Begun k) f = BeginsAt root h k f.node f.kind
EnteredAt root h at f = Unit {0}

-- so of all frames of a path, which stand one inside the other, up to the wait inside the last
abbrev pub Entered : Term → List Cell → Spot → List Frame → Asked → Type 0
Entered root h at [] asked = WaitsFor at asked
Entered root h at (f ∷ fs) asked = Enters root f at × EnteredAt root h at f × Entered root h (spot_in root f) fs asked

-- a state with later cells, in which no answer is still to come
abbrev pub Behind : List Cell → State → Type 0
Behind h s = (s.replies ≡ []) × CellsLater h s.world.shared.cells

-- What is evaluated at a spot behind such cells comes to: an end behind them, or a wait inside frames that are entered so. What is
-- called is a closure of the script, or one among the cells at the wait, which may have been made on the way.
abbrev pub ComesTo : Term → List Cell → Spot → Result → Type 0
ComesTo root h at (Ended e s) = Behind h s
ComesTo root h at (Waits asked path s) = CellsLater h s.world.shared.cells × Entered root s.world.shared.cells at path asked
ComesTo root h at (Limited k s) = Unit {0}
ComesTo root h at Unfinished = Unit {0}

-- where it waits, each step and each walk has called a closure, and a function's body stands only where a name may be called
abbrev pub PathCalls : Term → Spot → Result → Type 0
PathCalls root at (Ended e s) = Unit {0}
PathCalls root at (Waits asked path s) = CallsClosures root at path
PathCalls root at (Limited k s) = Unit {0}
PathCalls root at Unfinished = Unit {0}
