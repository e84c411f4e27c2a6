-- Which node stands in the place of another, and what may stand inside what, as the program tests it (this product's own).
use Rattle.std.specs.Prelude.{◌≡◌, ◌<◌, ℕ, nat_eq, Bool, true, false, length, Option, Some, None, if◌then◌else◌}
use Rattle.model_run.specs.declared.frame.FrameKind.{FrameKind}
use Rattle.model_run.specs.declared.frame.FrameKind.TheVariants as kind
use Rattle.model_run.specs.declared.request.Request.{Request}
use Rattle.model_run.specs.declared.request.Request.TheVariants.{Node as NodeRequest, Task as TaskRequest, Input as InputRequest}
use Rattle.model_run.specs.Terms.{Term, nodes_of}
use Rattle.model_run.specs.FrameTable.{Part, Inner, enters_body, is_name_call, passes}
use Rattle.model_run.specs.Nesting as nesting
use Rattle.model_run.specs.Nesting.{Leads, shape_at}
use Rattle.cps_code.specs.Rows.{part_number}
use Rattle.frame_rows.specs.declared.nesting.Spot.{Spot}
use Rattle.frame_rows.specs.declared.nesting.Spot.TheVariants as spot
use Rattle.frame_rows.specs.declared.leading.Wanted.{Wanted}
use Rattle.frame_rows.specs.declared.leading.Wanted.TheVariants as wanted

-- a test decides a statement
abbrev pub Decides : Bool → Type 0 → Type 0
Decides true P = P
Decides false P = P → ⊥

-- the program's spots as those of the definitions
abbrev pub spot_seen : Spot → nesting.Spot
spot_seen (spot.Begun k) = nesting.Begun k
spot_seen spot.AnyBody = nesting.Any_body
spot_seen (spot.BodyOf k) = nesting.Body_of k
spot_seen spot.AnyBranch = nesting.Any_branch
spot_seen spot.Executor = nesting.For_executor
spot_seen spot.Task = nesting.For_task
spot_seen spot.Person = nesting.For_person
spot_seen spot.Branches = nesting.For_branches

-- the kinds of bodies that are called, and of branches
abbrev pub is_body : FrameKind → Bool
is_body kind.CallBody = true
is_body k = false

abbrev pub is_branch : FrameKind → Bool
is_branch kind.BranchBody = true
is_branch k = false

-- whether a node is the one, or one of those, that are looked for
abbrev pub is_wanted : Wanted → Term → ℕ → Bool
is_wanted (wanted.Node n) root j = nat_eq j n
is_wanted wanted.Entering root j = enters_body (shape_at root j).form
is_wanted wanted.NameCall root j = is_name_call (shape_at root j).form

-- what is looked for is no node outside the script
abbrev pub IsInside : Wanted → Term → Type 0
IsInside (wanted.Node n) root = n < length (nodes_of root)
IsInside w root = Unit {0}

-- such a node may stand in the place of node k
abbrev pub LeadsTo : Term → Wanted → ℕ → Type 0
LeadsTo root w k = (j : ℕ) × Leads root k j × (is_wanted w root j ≡ true)

-- the second part of a part
abbrev pub value_part : Term → Option ℕ → Option ℕ
value_part root None = None
value_part root (Some p) = part_number root p 1

-- the node that a part, or the value in it, puts in the place of its node, where it is there
abbrev pub passed : Term → ℕ → ℕ → Option ℕ
passed root k i =
    if passes (shape_at root k) (Part i) then part_number root k i
    else (if passes (shape_at root k) (Inner i 1) then value_part root (part_number root k i) else None)

-- whether a thread may wait for a request of this kind at a spot
abbrev pub may_ask : nesting.Spot → Request → Bool
may_ask nesting.For_executor (NodeRequest label) = true
may_ask nesting.For_task (TaskRequest executor workspace folder env script status keep taken out) = true
may_ask nesting.For_person (InputRequest id) = true
may_ask at r = false
