-- What may stand inside what: frames that meet the table, one inside the other, and the wait inside the last.
use Rattle.std.specs.Prelude.{◌≡◌, ◌<◌, ℕ, Bool, true, false, List, [], ◌∷◌, length}
use Rattle.model_run.specs.ValueTypes.{Value}
use Rattle.model_run.specs.RunTypes.{FrameKind}
use Rattle.model_run.specs.declared.frame.FrameKind.TheVariants as kind
use Rattle.model_run.specs.Terms.{Term, nodes_of, number_of, part_of, term_at}
use Rattle.model_run.specs.State.{Frame, Asked, For_request, For_branches as For_branching}
use Rattle.model_run.specs.Around.{Shape}
use Rattle.model_run.specs.Meaning.{shape_of}
use Rattle.model_run.specs.FrameTable.{Sort, Further, No_more, One_more, Any_more, Within, Part, Inner, Suffix, Called, Own_body, Executor_wait, Task_wait, Person_wait, Branches_wait, Row, row_of, passes, enters_body, is_closure_form, is_function_form, is_name_call}

-- the shape of node k, and the row of a frame
abbrev pub shape_at : Term → ℕ → Shape
shape_at root k = shape_of (term_at root k)

abbrev pub row_at : Term → Frame → Row
row_at root f = row_of (shape_at root f.node) f

-- the number of part i of node k
abbrev pub part_number : Term → ℕ → ℕ → ℕ
part_number root k i = number_of (part_of root (term_at root k) i)

-- What a value of a sort is: it depends on the state, and is a parameter here.
abbrev pub Sorts : Type 1
Sorts = Sort → Value → Type 0

-- where it does not matter what the values are
abbrev pub anything : Sorts
anything sort v = Unit {0}

-- so many further values, of any sort
abbrev pub FurtherFit : Sorts → Further → List Value → Type 0
FurtherFit fits further [] = Unit {0}
FurtherFit fits No_more (v ∷ vs) = ⊥
FurtherFit fits One_more (v ∷ vs) = fits Sort.Any v × (vs ≡ [])
FurtherFit fits Any_more (v ∷ vs) = fits Sort.Any v × FurtherFit fits Any_more vs

-- a value of each sort in turn, and then the further ones
abbrev pub ValuesFit : Sorts → Further → List Sort → List Value → Type 0
ValuesFit fits further [] vs = FurtherFit fits further vs
ValuesFit fits further (x ∷ xs) [] = ⊥
ValuesFit fits further (x ∷ xs) (v ∷ vs) = fits x v × ValuesFit fits further xs vs

-- it stands at a node of its kind, at one of its parts, with the values that its row lists
pub record MeetsRow (fits : Sorts) (sh : Shape) (f : Frame) : Type 0 where
  pub stands : (row_of sh f).stands ≡ true
  pub left : f.left < (row_of sh f).limit
  pub values : ValuesFit fits (row_of sh f).further (row_of sh f).values f.values

-- What is being evaluated, or waited for, at a place inside frames.
pub data Spot : Type 0 where
  -- a node from its beginning, in a further turn, or as a suffix on a value
  Begun : ℕ → Spot
  -- the body of any closure or function
  Any_body : Spot
  -- the body of the closure at this node
  Body_of : ℕ → Spot
  -- any branch of a `parallel`
  Any_branch : Spot
  For_executor : Spot
  For_task : Spot
  For_person : Spot
  For_branches : Spot

-- what stands inside a frame at node k
abbrev pub spot : Term → ℕ → Within → Spot
spot root k (Part i) = Begun (part_number root k i)
spot root k (Inner i j) = Begun (part_number root (part_number root k i) j)
spot root k (Suffix i) = Begun (part_number root k i)
spot root k Called = Any_body
spot root k Own_body = Body_of k
spot root k Executor_wait = For_executor
spot root k Task_wait = For_task
spot root k Person_wait = For_person
spot root k Branches_wait = For_branches

abbrev pub spot_in : Term → Frame → Spot
spot_in root f = spot root f.node (row_at root f).inside

-- A node that may stand in the place of another, since those between are passed through.
pub data Leads (root : Term) : ℕ → ℕ → Type 0 where
  itself : {k : ℕ} → Leads root k k
  through_part : {k j : ℕ} (i : ℕ) → passes (shape_at root k) (Part i) ≡ true → Leads root (part_number root k i) j → Leads root k j
  through_inner : {k j : ℕ} (i : ℕ) → passes (shape_at root k) (Inner i 1) ≡ true → Leads root (part_number root (part_number root k i) 1) j → Leads root k j

-- the frames that a node puts up by itself
abbrev pub is_own : FrameKind → Bool
is_own kind.CallBody = false
is_own kind.BranchBody = false
is_own f = true

-- A frame that may stand at a spot: one of a node's own, or that of the body which a call enters.
pub data Enters (root : Term) (f : Frame) : Spot → Type 0 where
  own_frame : {k : ℕ} → is_own f.kind ≡ true → Leads root k f.node → Enters root f (Begun k)
  entered : {k : ℕ} (j : ℕ) → f.kind ≡ kind.CallBody → Leads root k j → enters_body (shape_at root j).form ≡ true → Enters root f (Begun k)
  any_body : f.kind ≡ kind.CallBody → Enters root f Any_body
  body_of : {k : ℕ} → f.kind ≡ kind.CallBody → f.node ≡ k → Enters root f (Body_of k)
  any_branch : f.kind ≡ kind.BranchBody → Enters root f Any_branch

-- its node is one of the script's, and it meets its row there
pub record FrameFits (fits : Sorts) (root : Term) (f : Frame) : Type 0 where
  pub node : f.node < length (nodes_of root)
  pub meets : MeetsRow fits (shape_at root f.node) f

-- a wait that may stand at a spot
abbrev pub WaitsFor : Spot → Asked → Type 0
WaitsFor For_executor (For_request r) = Unit {0}
WaitsFor For_task (For_request r) = Unit {0}
WaitsFor For_person (For_request r) = Unit {0}
WaitsFor For_branches (For_branching bs) = Unit {0}
WaitsFor at asked = ⊥

-- Frames one inside the other from a spot on, and the wait inside the last.
abbrev pub Nested : Term → Spot → List Frame → Asked → Type 0
Nested root at [] asked = WaitsFor at asked
Nested root at (f ∷ fs) asked = Enters root f at × FrameFits anything root f × Nested root (spot_in root f) fs asked

-- The same without the rows and the wait.
abbrev pub Chained : Term → Spot → List Frame → Type 0
Chained root at [] = Unit {0}
Chained root at (f ∷ fs) = Enters root f at × Chained root (spot_in root f) fs

-- a call of a name may stand in the place of node k
abbrev pub CallsByName : Term → ℕ → Type 0
CallsByName root k = (j : ℕ) × Leads root k j × (is_name_call (shape_at root j).form ≡ true)

-- What a step or a walk calls is a closure. A function is called by its name alone, so by no method `call`.
abbrev pub IsClosureAt : Term → Spot → Frame → Type 0
IsClosureAt root Any_body f = is_closure_form (shape_at root f.node).form ≡ true
IsClosureAt root (Begun k) f = is_function_form (shape_at root f.node).form ≡ true → CallsByName root k
IsClosureAt root at f = Unit {0}

abbrev pub CallsClosures : Term → Spot → List Frame → Type 0
CallsClosures root at [] = Unit {0}
CallsClosures root at (f ∷ fs) = IsClosureAt root at f × CallsClosures root (spot_in root f) fs

-- the spot inside the last frame
abbrev pub innermost : Term → Spot → List Frame → Spot
innermost root at [] = at
innermost root at (f ∷ fs) = innermost root (spot_in root f) fs
