-- What may stand at a spot, as a test (this product's own).
use Rattle.std.specs.Prelude.{ℕ, zero, suc, nat_eq, Bool, true, false, not, ◌&&◌, ◌||◌, if◌then◌else◌, length, Option, Some, None}
use Rattle.model_run.specs.declared.frame.Frame.{Frame}
use Rattle.model_run.specs.FrameTable.{enters_body, is_closure_form, is_function_form, is_name_call}
use Rattle.model_run.specs.Nesting.{Spot, Begun, Any_body, Body_of, Any_branch, shape_at}
use Rattle.model_run.specs.Terms.{Term, nodes_of}
use Rattle.cps_code.specs.Rows.{part_count}
use Rattle.frame_rows.specs.Leading.{is_body, is_branch, passed}

-- for some number below this one
abbrev pub some_below : (ℕ → Bool) → ℕ → Bool
some_below test zero = false
some_below test (suc n) = test n || some_below test n

-- there is a number, and it passes
abbrev pub is_one : (ℕ → Bool) → Option ℕ → Bool
is_one test None = false
is_one test (Some n) = test n

-- a node for which a test holds may stand in the place of node k, with fewer than so many nodes on the way
abbrev pub leads_in : ℕ → Term → (ℕ → Bool) → ℕ → Bool
leads_in zero root t k = false
leads_in (suc n) root t k = t k || some_below (λ i. is_one (leads_in n root t) (passed root k i)) (part_count root k)

abbrev pub leads : Term → (ℕ → Bool) → ℕ → Bool
leads root t k = leads_in (length (nodes_of root)) root t k

-- a body is entered by a call, any other frame is a node's own
abbrev pub is_for : Term → Frame → ℕ → Bool
is_for root f j = if is_body f.kind then enters_body (shape_at root j).form else nat_eq j f.node

-- a frame may stand at a spot
abbrev pub enters_at : Term → Frame → Spot → Bool
enters_at root f (Begun k) = not (is_branch f.kind) && leads root (is_for root f) k
enters_at root f Any_body = is_body f.kind
enters_at root f (Body_of k) = is_body f.kind && nat_eq f.node k
enters_at root f Any_branch = is_branch f.kind
enters_at root f at = false

-- and its body may be called there
abbrev pub is_called_at : Term → Frame → Spot → Bool
is_called_at root f Any_body = is_closure_form (shape_at root f.node).form
is_called_at root f (Begun k) = not (is_function_form (shape_at root f.node).form) || leads root (λ j. is_name_call (shape_at root j).form) k
is_called_at root f at = true

abbrev pub stands_at : Term → Frame → Spot → Bool
stands_at root f at = enters_at root f at && is_called_at root f at
