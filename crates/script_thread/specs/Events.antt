-- What an event changes of what the threads of a build share, and which thread it answers, before any thread goes on.
use Rattle.std.specs.Prelude.{◌≡◌, ◌≤◌, ◌+◌, ℕ, List, [], length, Option, Some, None}
use Rattle.script_thread.specs.Names.{Event, StartEvent, GrantedEvent, OutputEvent, ExitedEvent, LostEvent, DecidedEvent, LogStream, OutStream, OpenRequest, Answer, Begin, GrantedAnswer, Done, DecidedAnswer, Ready}
use Rattle.model_run.specs.Grants.{executor_of}
use Rattle.model_run.specs.LogText.{raw}
use Rattle.model_run.specs.Taking.{request_of}
use Rattle.model_run.specs.State.{Setting, Common}
use Rattle.model_run.specs.World as W
use Rattle.green_threads.specs.declared.runner.Seated.{Seated}
use Rattle.green_threads.specs.Threads.{with_seat, waits_as}
use Rattle.cps_code.specs.Script.{IsScript, script_of}
use Rattle.cps_frames.specs.declared.shared.Shared.{Shared}
use Rattle.cps_frames.specs.Standing.{setting_of, common_of}

-- the shared state of the definitions behind an event that does not end the build (`World`, `changed_by`); none that goes on takes a start
abbrev pub common_after : Setting → Event → Common → Common
common_after g (StartEvent script agents) u = u
common_after g (GrantedEvent request executor) u = W.without_request request (W.held_as g.site request executor (executor_of g.site executor) u)
common_after g (OutputEvent task LogStream from bytes) u = W.change_request (W.with_taken (length bytes)) task (record u { log = raw bytes u.log })
common_after g (OutputEvent task OutStream from bytes) u = W.change_request (W.with_kept bytes) task u
common_after g (ExitedEvent task code) u = W.without_request task u
common_after g (LostEvent task why) u = W.without_request task u
common_after g (DecidedEvent request proceed name) u = W.without_request request u

-- The same of what threads share: requests, held executors and log are those of the definitions, the count begins anew, and all else stays.
abbrev pub shared_after : Event → Shared → Shared
shared_after event u = record u {
  requests = (common_after (setting_of u) event (common_of u)).requests;
  held = (common_after (setting_of u) event (common_of u)).held;
  log = (common_after (setting_of u) event (common_of u)).log;
  count = 0;
}

-- the event passes no limit
abbrev pub EndsNot : Shared → Event → Type 0
EndsNot u (OutputEvent task LogStream from bytes) = length u.log + length bytes ≤ W.run_limits.log
EndsNot u (OutputEvent task OutStream from bytes) = length (W.kept_output (request_of u.requests task)) + length bytes ≤ W.run_limits.values.text
EndsNot u event = Unit {0}

-- the request that an event answers, with the answer; output answers none
abbrev pub answer_by : Event → List OpenRequest → Option (ℕ × Answer)
answer_by (StartEvent script agents) rs = None
answer_by (GrantedEvent request executor) rs = Some (request, GrantedAnswer executor)
answer_by (OutputEvent task stream from bytes) rs = None
answer_by (ExitedEvent task code) rs = Some (task, Done code (W.kept_output (request_of rs task)))
answer_by (LostEvent task why) rs = Some (task, Done (W.lost_code why) (W.kept_output (request_of rs task)))
answer_by (DecidedEvent request proceed name) rs = Some (request, DecidedAnswer proceed name)

-- a thread is ready with an answer
abbrev pub seats_answered : {T : Type 0} → List OpenRequest → Option (ℕ × Answer) → List (Seated T) → List (Seated T)
seats_answered rs None xs = xs
seats_answered rs (Some (n, x)) xs = with_seat (waits_as (Ready x)) (W.thread_of n rs) xs

abbrev pub seats_after : {T : Type 0} → Event → List OpenRequest → List (Seated T) → List (Seated T)
seats_after event rs xs = seats_answered rs (answer_by event rs) xs

-- The shared state of a build of a script that begins: that of the definitions, over a new heap.
pub record IsBegun (u : Shared) : Type 0 where
  pub script : IsScript (script_of u.code)
  pub shared : common_of u ≡ W.begun.shared
  pub heap : u.heap ≡ record { cells = []; changed = []; spare = 0 }

-- the thread of the script in its seat
abbrev pub first_seat : {T : Type 0} → T → Seated T
first_seat t = record { number = 0; parent = None; wait = Ready Begin; thread = t }
