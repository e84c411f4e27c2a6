-- What the state of a life replies to each ask, and what it adds to its history, by the events alone: those from before the life, and those
-- that its history tells (this product's own).
use Rattle.std.specs.Prelude.{◌≡◌, ◌<◌, ◌+◌, ◌^◌, ℕ, false, List, [], ◌∷◌, ◌++◌, Option, Some, None, Result, Ok, Err}
use Rattle.journal_core.specs.declared.faults.TakeFault.{TakeFault}
use Rattle.journal_core.specs.declared.faults.TakeFault.TheVariants.{Memory, Disk, Full, Stopped}
use Rattle.agent_worker.specs.declared.gate.Claim.{Claim}
use Rattle.agent_worker.specs.declared.gate.Heard.{Heard}
use Rattle.agent_worker.specs.declared.gate.Heard.TheVariants.{Decided, Skipped}
use Rattle.agent_worker.specs.declared.gate.Inputs.{Inputs}
use Rattle.build_requests.specs.Waiting.{open_tasks, waiting_inputs}
use Rattle.model_run.specs.declared.event.Event.{Event}
use Rattle.model_run.specs.declared.event.Event.TheVariants.{Granted}
use Rattle.model_run.specs.declared.taken.Taken.{Taken}
use Rattle.model_run.specs.declared.taken.Taken.TheVariants.{Accepted, NotOpen, WrongPlace, Finished}
use Rattle.model_run.specs.State.{Setting}
use Rattle.model_run.specs.World.{Build, answer_to, next_grant, world_in}
use Rattle.build_store.specs.Lower.delta_records.declared.weights.Weights.{Weights}
use Rattle.build_store.specs.Lower.durable_build.Taking.{DueAdds}
use Rattle.program_lock.specs.Legal.{Answers}
use Rattle.build_store.specs.Lives.{image_after}
use Rattle.member_turns.specs.Lower.locked_build.declared.ask.Ask.{Ask}
use Rattle.member_turns.specs.Lower.locked_build.declared.ask.Ask.TheVariants as ask
use Rattle.member_turns.specs.Lower.locked_build.declared.ask.Entry.{Entry}
use Rattle.member_turns.specs.Lower.locked_build.declared.ask.Entry.TheVariants.{Took, Line, Failed}
use Rattle.member_turns.specs.Lower.locked_build.declared.ask.Progress.{Progress}
use Rattle.member_turns.specs.Lower.locked_build.declared.ask.Reply.{Reply}
use Rattle.member_turns.specs.Lower.locked_build.declared.ask.Reply.TheVariants as reply
use Rattle.member_turns.specs.Lower.locked_build.Claims.{ClaimSays, busy_of, within_u32}
use Rattle.member_turns.specs.Lower.locked_build.Grants.{noted}
use Rattle.member_turns.specs.Lower.locked_build.Histories.{kept_fault, tooks}
use Rattle.member_turns.specs.Lower.locked_build.Says.{stopped_reply}
use Rattle.build_life.specs.Going.{Decides, IsPassedOver}

module _ (setting : Setting) where
  -- An event that was not taken with this fault: it is accepted, but for want of memory; `Full` says what was too much: the length of a journal, and what the record
  -- that is due for the event adds to it, by some weights of the records.
  abbrev pub MayFail : List Event → Event → TakeFault → Type 0
  MayFail events e Memory = Unit {0}
  MayFail events e Disk = answer_to setting (world_in setting events) e ≡ Accepted
  MayFail events e (Full len add) =
      (answer_to setting (world_in setting events) e ≡ Accepted) × (2 ^ 30 < len + add) × ((w : Weights) × DueAdds w (Some (image_after setting events)) e (image_after setting (events ++ e ∷ [])) add)
  MayFail events e Stopped = ⊥

  -- The entries of the grants that are due behind these events, one after the other, until none is or one fails. Memory may be wanted where it
  -- is looked for one.
  pub data GrantsBehind : List Event → List Entry → Type 0 where
    none_due : {events : List Event} → next_grant setting (world_in setting events) ≡ None → GrantsBehind events []
    granted : {events : List Event} {entries : List Entry} (request executor : ℕ) → next_grant setting (world_in setting events) ≡ Some (request, executor)
        → answer_to setting (world_in setting events) (Granted request executor) ≡ Accepted → GrantsBehind (events ++ Granted request executor ∷ []) entries
        → GrantsBehind events (Took (Granted request executor) ∷ entries)
    failed : {events : List Event} (request executor : ℕ) (fault : TakeFault) → next_grant setting (world_in setting events) ≡ Some (request, executor)
        → MayFail events (Granted request executor) fault → GrantsBehind events (noted (Granted request executor) (Err fault))
    not_found : {events : List Event} → GrantsBehind events (Failed Memory None ∷ [])

  -- The answer to an event, and its entries: where it is accepted, it and the grants behind it.
  abbrev pub Takes : List Event → Event → Result Taken TakeFault → List Entry → Type 0
  Takes events e (Ok Accepted) new =
      (entries : List Entry) × (answer_to setting (world_in setting events) e ≡ Accepted) × GrantsBehind (events ++ e ∷ []) entries × (new ≡ Took e ∷ entries)
  Takes events e (Ok answer) new = (answer_to setting (world_in setting events) e ≡ answer) × (new ≡ [])
  Takes events e (Err fault) new = MayFail events e fault × (new ≡ noted e (Err fault))

  -- An answer line and its decision are heard in one step. A fault of its event is noted alone.
  abbrev pub Hears : List Event → List ℕ → Result Heard TakeFault → List Entry → Type 0
  Hears events line (Ok (Decided request)) new =
      (e : Event) × (entries : List Entry) × ((d : Decides (world_in setting events) line e) × (d.request ≡ request)) × Takes events e (Ok Accepted) entries × (new ≡ Line line ∷ entries)
  Hears events line (Ok Skipped) new = IsPassedOver (world_in setting events) line × (new ≡ Line line ∷ [])
  Hears events line (Err Memory) new = new ≡ Failed Memory None ∷ []
  Hears events line (Err fault) new = (e : Event) × Decides (world_in setting events) line e × Takes events e (Err fault) new

  -- how far the build of these events has come
  abbrev pub come_by : List Event → Progress
  come_by events =
      let b : Build = world_in setting events in
      record { ended = b.ended; stopped = false; tasks = within_u32 (open_tasks b.shared.requests); waiting = within_u32 (waiting_inputs b.shared.requests) }

  -- The table, while no fault is kept. No grant is due where an event is asked for.
  pub data Calm (events : List Event) (history : List Entry) : Ask → Reply → List Entry → Type 0 where
    takes : {new : List Entry} (e : Event) (r : Result Taken TakeFault) → next_grant setting (world_in setting events) ≡ None → Takes events e r new → Calm events history (ask.Take e) (reply.Taken r) new
    claims : {new : List Entry} (x : ℕ) (c : Claim) → ClaimSays (world_in setting events).shared.requests history x c new → Calm events history (ask.Claim x) (reply.Claimed c) new
    counts : (there : Inputs) → there.waiting ≡ within_u32 (waiting_inputs (world_in setting events).shared.requests) → there.busy ≡ busy_of history (world_in setting events).shared.requests
        → Calm events history ask.Inputs (reply.Inputs there) []
    hears : {new : List Entry} (line : List ℕ) (r : Result Heard TakeFault) → next_grant setting (world_in setting events) ≡ None → Hears events line r new → Calm events history (ask.Answer line) (reply.Heard r) new
    looks : (come : Progress) → come ≡ come_by events → Calm events history ask.Look (reply.Progress come) []
    halts : Calm events history ask.Halt reply.Halted (Failed Memory None ∷ [])

  -- For each ask its reply, and the entries that it adds. A fault that is kept is tried before all else.
  abbrev pub RepliesAt : List Event → List Entry → Option TakeFault → Ask → Reply → List Entry → Type 0
  RepliesAt events history (Some kept) a r new = (r ≡ stopped_reply a) × (new ≡ [])
  RepliesAt events history None a r new = Calm events history a r new

  -- by the events from before and the history
  abbrev pub replies : Answers (List Event) Entry Ask Reply
  replies begun history a r new = ∥ RepliesAt (begun ++ tooks history) history (kept_fault history) a r new ∥₁
