-- Why a life with hosts rests (this product's own).
use Rattle.std.specs.Prelude.{◌≡◌, ◌⊎◌, ◌<◌, Bool, true, false, ◌&&◌, ◌||◌, nat_lt, if◌then◌else◌, List, [], ◌∷◌, Option, Some, None, Result, Ok, Err}
use Rattle.program_lock.specs.declared.program.Memory.{Memory}
use Rattle.journal_core.specs.declared.faults.TakeFault.{TakeFault}
use Rattle.journal_core.specs.declared.faults.TakeFault.TheVariants as take
use Rattle.agent_worker.specs.declared.member.Member.{Member}
use Rattle.agent_worker.specs.declared.member.Member.TheVariants.{Executor, Operator}
use Rattle.build_requests.specs.Waiting.{open_tasks, waiting_inputs}
use Rattle.model_run.specs.State.{Setting}
use Rattle.model_run.specs.World.{Build, next_grant}
use Rattle.build_life.specs.declared.resting.Rest.{Rest}
use Rattle.build_life.specs.declared.resting.Rest.TheVariants.{Ended, Waits, AnswersFailed}
use Rattle.member_turns.specs.Lower.locked_build.declared.ask.Progress.{Progress}

module _ {H A : Type 0} where
  -- an operator whose answers could not be read
  abbrev pub has_failed : Member H A → Bool
  has_failed (Executor number host) = false
  has_failed (Operator answers line ended failed) = failed

  -- one of them is such an operator
  abbrev pub any_failed : List (Member H A) → Bool
  any_failed [] = false
  any_failed (member ∷ members) = has_failed member || any_failed members

  -- the answers of every operator among them were read to their end
  abbrev pub AllReadOut : List (Member H A) → Type 0
  AllReadOut [] = Unit {0}
  AllReadOut (Executor number host ∷ members) = AllReadOut members
  AllReadOut (Operator answers line ended failed ∷ members) = (ended ≡ true) × AllReadOut members

  -- why it rests, by what a last look said
  abbrev pub rest_of : Progress → List (Member H A) → Rest
  rest_of come members = if come.ended then Ended else if nat_lt 0 come.waiting && any_failed members then AnswersFailed else Waits

  -- How a life has ended: by the fault that is kept; and else for want of memory, or at rest.
  abbrev pub ended_as : Option TakeFault → Result Progress Memory → List (Member H A) → Result Rest TakeFault
  ended_as (Some fault) how members = Err fault
  ended_as None (Ok come) members = Ok (rest_of come members)
  ended_as None (Err memory) members = Err take.Memory

  -- Why it rests, by its build: that has ended; or no task is open and no grant is due, and no input is open or the answers were read to
  -- their end; or an input is open, and its answers could not be read.
  abbrev pub RestsWith : Rest → Setting → Build → List (Member H A) → Type 0
  RestsWith Ended setting b members = b.ended ≡ true
  RestsWith Waits setting b members =
      (b.ended ≡ false) × (next_grant setting b ≡ None) × (open_tasks b.shared.requests ≡ 0) × ((waiting_inputs b.shared.requests ≡ 0) ⊎ AllReadOut members)
  RestsWith AnswersFailed setting b members =
      (b.ended ≡ false) × (next_grant setting b ≡ None) × (open_tasks b.shared.requests ≡ 0) × (0 < waiting_inputs b.shared.requests) × (any_failed members ≡ true)
