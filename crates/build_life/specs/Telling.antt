-- What the members of a life were told, and what was heard of the operator, said of the events (this product's own).
use Rattle.std.specs.Prelude.{◌≡◌, ◌<◌, ℕ, false, not, List, [], ◌∷◌, ◌++◌, Option, Some}
use Rattle.std.specs.Io.KnownBytes.{Consumes}
use Rattle.task_host.specs.declared.order.Order.{Order}
use Rattle.agent_worker.specs.AnswerBytes.{begun_after}
use Rattle.agent_worker.specs.declared.gate.Claim.TheVariants as claim
use Rattle.agent_worker.specs.declared.gate.GateCall.{GateCall}
use Rattle.agent_worker.specs.declared.gate.GateCall.TheVariants.{Claim, Report, Inputs, Answer, Halt}
use Rattle.agent_worker.specs.declared.member.Member.{Member}
use Rattle.agent_worker.specs.declared.member.Member.TheVariants.{Executor, Operator}
use Rattle.build_requests.specs.Waiting.{waiting_inputs}
use Rattle.model_run.specs.declared.event.Event.{Event}
use Rattle.model_run.specs.Fitting.{Some_of}
use Rattle.model_run.specs.Requests.{IsTaskOf}
use Rattle.model_run.specs.State.{Setting}
use Rattle.model_run.specs.World.{world_in}
use Rattle.member_turns.specs.Lower.locked_build.declared.ask.Entry.{Entry}
use Rattle.member_turns.specs.Lower.locked_build.declared.ask.Entry.TheVariants.{Took, Claimed, Line, Failed}
use Rattle.member_turns.specs.Lower.locked_build.Claims.{order_as}
use Rattle.member_turns.specs.Lower.locked_build.Histories.{lines, tooks}
use Rattle.build_life.specs.Going.{heard_in}
use Rattle.jp_io.specs.View.{SourceView}

-- the orders that the claims among these calls gave
abbrev pub orders_in : List GateCall → List Order
orders_in [] = []
orders_in (Claim executor (claim.Order order) ∷ calls) = order ∷ orders_in calls
orders_in (Claim executor (claim.Idle busy) ∷ calls) = orders_in calls
orders_in (Claim executor claim.Rest ∷ calls) = orders_in calls
orders_in (Claim executor claim.Stopped ∷ calls) = orders_in calls
orders_in (Claim executor claim.Memory ∷ calls) = orders_in calls
orders_in (Report event r ∷ calls) = orders_in calls
orders_in (Inputs there ∷ calls) = orders_in calls
orders_in (Answer line r ∷ calls) = orders_in calls
orders_in (Halt ∷ calls) = orders_in calls

-- The order is that of a task which was open in this life, with its script, folder and environment: in the world of the events from before it and
-- the first ones of those taken in it.
pub record IsOrderOf (setting : Setting) (begun taken : List Event) (order : Order) : Type 0 where
  pub front : List Event
  pub rest : List Event
  pub is : taken ≡ front ++ rest
  pub of_task : Some_of (λ r. order_as r.number r.request ≡ Some order) (world_in setting (begun ++ front)).shared.requests

-- so an entry, behind these, where it is a claim: its task was an open one of its executor in the world of the events taken before it
abbrev pub ClaimedInTime : Setting → List Event → List Entry → Entry → Type 0
ClaimedInTime setting begun before (Claimed executor task keep_out kept_log kept_out) = IsTaskOf executor task (world_in setting (begun ++ tooks before)).shared
ClaimedInTime setting begun before (Took event) = Unit {0}
ClaimedInTime setting begun before (Line line) = Unit {0}
ClaimedInTime setting begun before (Failed fault event) = Unit {0}

-- At a moment behind the last line among these entries, or behind the opening, an input was open.
pub record HadInput (setting : Setting) (begun : List Event) (before : List Entry) : Type 0 where
  pub at : List Entry
  pub later : List Entry
  pub begins : at ++ later ≡ before
  pub no_line : lines later ≡ []
  pub open_then : 0 < waiting_inputs (world_in setting (begun ++ tooks at)).shared.requests

-- so an entry, behind these, where it is a line
abbrev pub HeardInTime : Setting → List Event → List Entry → Entry → Type 0
HeardInTime setting begun before (Line line) = HadInput setting begun before
HeardInTime setting begun before (Took event) = Unit {0}
HeardInTime setting begun before (Claimed executor task keep_out kept_log kept_out) = Unit {0}
HeardInTime setting begun before (Failed fault event) = Unit {0}

module _ {H A : Type 0} (source : SourceView A) where
  -- These lines were heard: the whole lines, each of at most 1,024 bytes, in what an operator read of its answers; and the last one, where they
  -- ended within it. Nothing of another line was read, but where the answers could not be read. It is said of an operator behind whom no other
  -- member stands, of whose answers nothing was read before.
  abbrev pub AreHeard : List (List ℕ) → List (Member H A) → List (Member H A) → Type 0
  AreHeard heard [] [] = heard ≡ []
  AreHeard heard (Executor number host ∷ old) (Executor now next ∷ new) = AreHeard heard old new
  AreHeard heard (Operator answers line ended failed ∷ []) (Operator next kept now_ended now_failed ∷ []) =
      line ≡ [] → ended ≡ false → (read : List ℕ) × Consumes (source.left answers) (source.left next) read × (heard ≡ heard_in read (not now_ended))
      × (now_failed ≡ false → now_ended ≡ false → begun_after [] read ≡ [])
  AreHeard heard (Operator answers line ended failed ∷ (o ∷ old)) (Operator next kept now_ended now_failed ∷ (m ∷ new)) = Unit {0}
  AreHeard heard (Executor number host ∷ old) (Operator next kept now_ended now_failed ∷ new) = ⊥
  AreHeard heard (Operator answers line ended failed ∷ old) (Executor now next ∷ new) = ⊥
  AreHeard heard (Operator answers line ended failed ∷ []) (Operator next kept now_ended now_failed ∷ (m ∷ new)) = ⊥
  AreHeard heard (Operator answers line ended failed ∷ (o ∷ old)) (Operator next kept now_ended now_failed ∷ []) = ⊥
  AreHeard heard [] (member ∷ new) = ⊥
  AreHeard heard (member ∷ old) [] = ⊥
