-- Which task a claim gives, and what is open (this product's own).
use Rattle.std.specs.Prelude.{◌≡◌, ◌<◌, ◌^◌, ◌-◌, ◌&&◌, ℕ, suc, nat_eq, Bool, false, not, if◌then◌else◌, List, [], ◌∷◌, length, min, Option, Some, None}
use Rattle.agent_worker.specs.declared.gate.Claim.{Claim}
use Rattle.agent_worker.specs.declared.gate.Claim.TheVariants as claim
use Rattle.model_run.specs.declared.request.OpenRequest.{OpenRequest}
use Rattle.model_run.specs.declared.request.Request.{Request}
use Rattle.model_run.specs.declared.request.Request.TheVariants.{Node as NodeRequest, Task as TaskRequest, Input as InputRequest}
use Rattle.model_run.specs.Taking.{is_task}
use Rattle.task_host.specs.declared.order.Order.{Order}
use Rattle.locked_build.specs.declared.ask.Entry.{Entry}
use Rattle.locked_build.specs.declared.ask.Entry.TheVariants.{Claimed}
use Rattle.locked_build.specs.Histories.{is_claimed}

-- the order of a task with this number
abbrev pub order_as : ℕ → Request → Option Order
order_as number (TaskRequest executor workspace folder env script status keep_out taken out) =
    Some (record { task = number; executor = executor; workspace = workspace; folder = folder; env = env; script = script; keep_out = keep_out; kept_log = taken; kept_out = length out })
order_as number (NodeRequest label) = None
order_as number (InputRequest id) = None

-- a task of this executor
abbrev pub is_task_of : ℕ → Request → Bool
is_task_of x (TaskRequest executor workspace folder env script status keep_out taken out) = nat_eq executor x
is_task_of x (NodeRequest label) = false
is_task_of x (InputRequest id) = false

-- the first open task of an executor that no entry claimed; open requests stand by rising numbers
abbrev pub is_free : List Entry → ℕ → OpenRequest → Bool
is_free history executor r = is_task_of executor r.request && not (is_claimed r.number history)

abbrev pub first_free : List Entry → ℕ → List OpenRequest → Option OpenRequest
first_free history executor [] = None
first_free history executor (r ∷ rs) = if is_free history executor r then Some r else first_free history executor rs

-- how many pass
abbrev pub count_of : (OpenRequest → Bool) → List OpenRequest → ℕ
count_of test [] = 0
count_of test (r ∷ rs) = if test r then suc (count_of test rs) else count_of test rs

-- a claim is open while its task is
abbrev pub is_busy : List Entry → OpenRequest → Bool
is_busy history r = is_task (Some r.request) && is_claimed r.number history

-- a number, or the greatest of 32 bits where it is above that
abbrev pub within_u32 : ℕ → ℕ
within_u32 n = min n (2 ^ 32 - 1)

abbrev pub busy_of : List Entry → List OpenRequest → ℕ
busy_of history requests = within_u32 (count_of (is_busy history) requests)

-- The reply to a claim, and its entries, while no fault is kept.
abbrev pub ClaimSays : List OpenRequest → List Entry → ℕ → Claim → List Entry → Type 0
ClaimSays requests history executor (claim.Order order) new =
    (r : OpenRequest) × (first_free history executor requests ≡ Some r) × (order_as r.number r.request ≡ Some order) × (new ≡ Claimed executor r.number order.keep_out order.kept_log order.kept_out ∷ [])
ClaimSays requests history executor (claim.Idle busy) new = (first_free history executor requests ≡ None) × (busy ≡ busy_of history requests) × (0 < busy) × (new ≡ [])
ClaimSays requests history executor claim.Rest new = (first_free history executor requests ≡ None) × (busy_of history requests ≡ 0) × (new ≡ [])
ClaimSays requests history executor claim.Memory new = new ≡ []
ClaimSays requests history executor claim.Stopped new = ⊥
