-- What the parts of the code that take an event tell one another.
use Rattle.std.specs.Prelude.{◌≡◌, ◌<◌, ◌+◌, ◌⊎◌, ℕ, Bool, true, List, [], ◌∷◌, length, Option}
use Rattle.script_thread.specs.Names.{Event, OutputEvent, LogStream, OutStream, Answer, Ready, Accepted}
use Rattle.script_thread.specs.Events.{EndsNot, seats_after, shared_after}
use Rattle.model_values.specs.declared.limit.LimitKind.{LimitKind}
use Rattle.model_values.specs.declared.limit.LimitKind.TheVariants.{LogSize, TextLength}
use Rattle.model_values.specs.Limits.{limit_line}
use Rattle.model_run.specs.declared.result.BuildResult.TheVariants.{Failure}
use Rattle.model_run.specs.Results.{worse}
use Rattle.model_run.specs.Taking.{Standing, request_of, taken}
use Rattle.model_run.specs.World as W
use Rattle.build_requests.specs.Memory.{NeedsMemory}
use Rattle.green_threads.specs.declared.runner.Seated.{Seated}
use Rattle.green_threads.specs.declared.runner.Stop.{Stop}
use Rattle.green_threads.specs.declared.settled.Settled.{Settled}
use Rattle.green_threads.specs.declared.settled.Settled.TheVariants.{AllWait, Ended as ScriptEnded, Limit as LimitMet}
use Rattle.green_threads.specs.Order.{Settles, turns_left}
use Rattle.green_threads.specs.Threads.{Threads, with_seat, waits_as, waits_for_request}
use Rattle.cps_frames.specs.declared.shared.Shared.{Shared}
use Rattle.cps_frames.specs.Standing.{setting_of, common_of}
use Rattle.settle_laws.specs.Stances.{Stance}
use Rattle.settle_laws.specs.Standing.{causes, end_result, first_head, heads}
use Rattle.build_core.specs.declared.phase.Phase.{Phase}
use Rattle.build_core.specs.declared.phase.Phase.TheVariants.{Unbegun, Running, Ended, Stopped}
use Rattle.build_core.specs.Endings.{IsOver}
use Rattle.build_core.specs.Phases.{StandsIn, GoOn, recounted}

-- From threads that wait to where all have come that go on for an accepted event, as the definitions say.
abbrev pub GoesOn : {T : Type 0} → (T → Stance) → Event → Threads T → Shared → Phase → Threads T → Shared → Type 0
GoesOn stance event g u p g' u' =
    (w : W.Build) → StandsIn stance Running g u (recounted u.count w) →
    StandsIn stance p g' u' (W.settle (W.turn_bound W.run_limits) (setting_of u) (W.changed_by (setting_of u) event (W.uncounted w)))

-- the threads of a group where this one is ready with an answer
abbrev pub answered_group : {T : Type 0} → ℕ → Answer → Threads T → Threads T
answered_group n x g = record { seats = with_seat (waits_as (Ready x)) n g.seats; next = g.next }

-- A thread waits that may be given this answer, and with it the threads go on.
pub record MayAnswer {T : Type 0} (number : T → ℕ) (parent : T → Option ℕ) (branch : T → Bool) (fits : List (Seated T) → Shared → Type 0) (n : ℕ) (x : Answer) (g : Threads T) (u : Shared) : Type 0 where
  pub waits : waits_for_request n g.seats ≡ true
  pub go : GoOn number parent branch (λ xs v. fits (with_seat (waits_as (Ready x)) n xs) v) 0 g u

-- What a build comes to whose threads have settled so: they wait, or it is over with the end of its script or with a limit.
abbrev pub EndsAs : {T : Type 0} → (T → Stance) → Settled → Threads T → Shared → Phase → Threads T → Shared → Type 0
EndsAs stance AllWait g u p g' u' = (p ≡ Running) × (g' ≡ g) × (u' ≡ u)
EndsAs stance (ScriptEnded o) g u p g' u' = IsOver p g u (W.finished (first_head stance g.seats ∷ []) (causes o u.heap.cells) (end_result o u.result u.heap.cells) (common_of u)) g' u'
EndsAs stance (LimitMet k) g u p g' u' = IsOver p g u (W.finished (heads stance g.seats) (limit_line k ∷ []) (worse u.result Failure) (common_of u)) g' u'

-- The threads of a build go on, turn by turn, until they have settled; the build is then what that comes to.
pub record GoesOnBy {T : Type 0} (stance : T → Stance) (seated : T → ℕ → Option ℕ → T) (head : T → ℕ) (turns : T → Shared → Answer → Stop T → T → Shared → Type 0) (room : Shared → ℕ) (g : Threads T) (u : Shared) (p : Phase) (g' : Threads T) (u' : Shared) : Type 0 where
  pub out : Settled
  pub threads : Threads T
  pub shared : Shared
  pub settles : Settles W.run_limits.threads seated head turns (turns_left room g u) g u out threads shared
  pub ends : EndsAs stance out threads shared p g' u'

-- output passes this limit
abbrev pub Passes : Shared → Event → LimitKind → Type 0
Passes u (OutputEvent task LogStream from bytes) k = (k ≡ LogSize) × (W.run_limits.log < length u.log + length bytes)
Passes u (OutputEvent task OutStream from bytes) k = (k ≡ TextLength) × (W.run_limits.values.text < length (W.kept_output (request_of u.requests task)) + length bytes)
Passes u event k = ⊥

-- What an accepted event makes of a build that goes on, also where no world is at hand: output beyond a limit ends it; after any other
-- event what the threads share is changed, the thread that is answered is ready, and they go on.
pub record StepsOn {T : Type 0} (stance : T → Stance) (seated : T → ℕ → Option ℕ → T) (head : T → ℕ) (turns : T → Shared → Answer → Stop T → T → Shared → Type 0) (room : Shared → ℕ) (event : Event) (g : Threads T) (u : Shared) (p : Phase) (g' : Threads T) (u' : Shared) : Type 0 where
  pub goes_on : EndsNot u event → GoesOnBy stance seated head turns room (record { seats = seats_after event u.requests g.seats; next = g.next }) (shared_after event u) p g' u'
  pub limited : (k : LimitKind) → Passes u event k → IsOver p g u (W.finished (heads stance g.seats) (limit_line k ∷ []) (worse u.result Failure) (common_of (record u { count = 0 }))) g' u'

-- When memory may be wanted for an event: never by a build that has ended; else where the event is accepted, or is a grant that has to be
-- looked up; and always by a build that want of memory has stopped.
abbrev pub MayWant : Phase → Standing → Event → Type 0
MayWant Unbegun build event = taken build event ≡ Accepted
MayWant Running build event = (taken build event ≡ Accepted) ⊎ NeedsMemory build event
MayWant Ended build event = ⊥
MayWant Stopped build event = Unit {0}
