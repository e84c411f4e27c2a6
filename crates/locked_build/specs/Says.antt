-- What a site state replies to each ask, and what it adds to its history, by the build at its opening and its history (this
-- product's own).
use Rattle.std.specs.Prelude.{◌≡◌, true, false, List, [], ◌∷◌, Option, Some, None, Err}
use Rattle.journal_core.specs.declared.faults.TakeFault.{TakeFault}
use Rattle.journal_core.specs.declared.faults.TakeFault.TheVariants.{Memory, Stopped}
use Rattle.agent_worker.specs.declared.gate.Claim.TheVariants as claim
use Rattle.durable_build.specs.Lower.build_core.Builds.{Parts}
use Rattle.durable_build.specs.Lower.build_core.Phases.{has_ended}
use Rattle.build_requests.specs.Waiting.{waiting_inputs, open_tasks}
use Rattle.settle_laws.specs.Stances.{Stance}
use Rattle.locked_build.specs.declared.ask.Ask.{Ask}
use Rattle.locked_build.specs.declared.ask.Ask.TheVariants.{Take, Claim, Inputs, Answer, Look, Halt}
use Rattle.locked_build.specs.declared.ask.Entry.{Entry}
use Rattle.locked_build.specs.declared.ask.Entry.TheVariants.{Failed}
use Rattle.locked_build.specs.declared.ask.Reply.{Reply}
use Rattle.locked_build.specs.declared.ask.Reply.TheVariants as reply
use Rattle.locked_build.specs.Claims.{ClaimSays, busy_of, within_u32}
use Rattle.locked_build.specs.Grants.{TakeSays}
use Rattle.locked_build.specs.Hearing.{AnswerSays}
use Rattle.locked_build.specs.Histories.{tooks, kept_fault}
use Rattle.locked_build.specs.Showing.{IsSettled, IsShown}

-- what is said where a fault is kept; nothing is added then
abbrev pub stopped_reply : Ask → Reply
stopped_reply (Take e) = reply.Taken (Err Stopped)
stopped_reply (Claim executor) = reply.Claimed claim.Stopped
stopped_reply Inputs = reply.Inputs (record { waiting = 0; busy = 0 })
stopped_reply (Answer line) = reply.Heard (Err Stopped)
stopped_reply Look = reply.Progress (record { ended = false; stopped = true; tasks = 0; waiting = 0 })
stopped_reply Halt = reply.Halted

module _ {T : Type 0} (stance : T → Stance) (opening : Parts T) (history : List Entry) where
  -- this is said of the build behind the history
  abbrev pub Now : (Parts T → Type 0) → Type 0
  Now Says = (b : Parts T) × ∥ IsShown stance opening (tooks history) b ∥₁ × Says b

  -- The table, while no fault is kept.
  abbrev pub Answers : Ask → Reply → List Entry → Type 0
  Answers (Take e) (reply.Taken r) new = Now (λ b. IsSettled b × TakeSays stance b e r new)
  Answers (Claim executor) (reply.Claimed c) new = Now (λ b. ClaimSays b.shared.requests history executor c new)
  Answers Inputs (reply.Inputs there) new = Now (λ b. (there.waiting ≡ within_u32 (waiting_inputs b.shared.requests)) × (there.busy ≡ busy_of history b.shared.requests)) × (new ≡ [])
  Answers (Answer line) (reply.Heard r) new = Now (λ b. IsSettled b × AnswerSays stance b line r new)
  Answers Look (reply.Progress come) new =
      Now (λ b. come ≡ record { ended = has_ended b.phase; stopped = false; tasks = within_u32 (open_tasks b.shared.requests); waiting = within_u32 (waiting_inputs b.shared.requests) }) × (new ≡ [])
  Answers Halt reply.Halted new = new ≡ Failed Memory None ∷ []
  Answers ask r new = ⊥

  -- For each ask its reply, and the entries that it adds. A fault that is kept is tried before all else.
  abbrev pub SaysAt : Option TakeFault → Ask → Reply → List Entry → Type 0
  SaysAt (Some kept) ask r new = (r ≡ stopped_reply ask) × (new ≡ [])
  SaysAt None ask r new = Answers ask r new

  abbrev pub Says : Ask → Reply → List Entry → Type 0
  Says ask r new = SaysAt (kept_fault history) ask r new
