-- A build of the definitions that has ended has no thread, no open request and no held executor.
use Rattle.std.proofs.Common.{◌≡◌, ◌+◌, ℕ, zero, suc, Bool, true, false, List, [], ◌∷◌, length, Option, Some, None, refl, sym, ap, ◌∙◌}
use Rattle.std.specs.Prelude.{if◌then◌else◌, nat_lt, fold}
use Rattle.model_values.specs.declared.limit.LimitKind.{LimitKind}
use Rattle.model_values.specs.declared.limit.LimitKind.TheVariants.{TextLength, LogSize, GreenThreads}
use Rattle.model_run.specs.declared.ending.Ending.{Ending}
use Rattle.model_run.specs.declared.ending.Ending.TheVariants.{Normal, Thrown, Returned, Broke, Continued, Declared, Answered}
use Rattle.model_run.specs.declared.ending.Asked.{Asked}
use Rattle.model_run.specs.declared.ending.Asked.TheVariants.{ForRequest as For_request, ForBranches as For_branches}
use Rattle.model_run.specs.declared.ending.Branch.{Branch}
use Rattle.model_run.specs.declared.event.Event.{Event}
use Rattle.model_run.specs.declared.event.Event.TheVariants.{Start as StartEvent, Granted as GrantedEvent, Output as OutputEvent, Exited as ExitedEvent, Lost as LostEvent, Decided as DecidedEvent}
use Rattle.model_run.specs.declared.event.Stream.{Stream}
use Rattle.model_run.specs.declared.event.Stream.TheVariants.{Log as LogStream, Out as OutStream}
use Rattle.model_run.specs.declared.taken.Taken.{Taken}
use Rattle.model_run.specs.declared.taken.Taken.TheVariants.{Accepted, NotOpen, WrongPlace, Finished}
use Rattle.model_run.specs.Taking.{answered, answered_first, request_of}
use Rattle.model_run.specs.Threads.{Thread, stands}
use Rattle.model_run.specs.LogText.{raw}
use Rattle.model_run.specs.State.{RunLimits, Setting, Common, Own, World, Result, Ended, Waits, Limited, Unfinished}
use Rattle.model_run.specs.World.{Build, unbegun, script_ended, limit_met, forked, forks, thread_ended, stopped_at, asked_by, stopped, given_answer, with_thread, resumed, Turn, first_ready, take_turn, settle, turn_bound, uncounted, changed_by, kept_output, with_taken, with_kept, change_request, output, after_event, after_one, answer_to, standing, world_in}

pub record IsCleared (b : Build) : Type 0 where
  pub threads : b.threads ≡ []
  pub requests : b.shared.requests ≡ []
  pub held : b.shared.held ≡ []

abbrev pub ClearsUp : Build → Type 0
ClearsUp b = b.ended ≡ true → IsCleared b

goes_on : (b : Build) → b.ended ≡ false → ClearsUp b
goes_on b going over = let bad : true ≡ false = sym over ∙ going in absurd (cc)

limit_clears : (k : LimitKind) (u : Common) (b : Build) → ClearsUp (limit_met k u b)
limit_clears k u b over = record { threads = refl; requests = refl; held = refl }

script_clears : (e : Ending) (head : ℕ) (u : Common) (b : Build) → ClearsUp (script_ended e head u b)
script_clears (Normal v) head u b over = record { threads = refl; requests = refl; held = refl }
script_clears (Thrown c) head u b over = record { threads = refl; requests = refl; held = refl }
script_clears (Returned v) head u b over = record { threads = refl; requests = refl; held = refl }
script_clears Broke head u b over = record { threads = refl; requests = refl; held = refl }
script_clears Continued head u b over = record { threads = refl; requests = refl; held = refl }
script_clears (Declared x) head u b over = record { threads = refl; requests = refl; held = refl }
script_clears (Answered x) head u b over = record { threads = refl; requests = refl; held = refl }

forks_clear : (limits : RunLimits) (n : ℕ) (own : Own) (bs : List Branch) (b : Build) → b.ended ≡ false → ClearsUp (forks limits n own bs b)
forks_clear limits n own bs b going = one (nat_lt limits.threads (length b.threads + length bs))
  where
    one : (past : Bool) → ClearsUp (if past then limit_met GreenThreads b.shared b else forked n own bs b)
    one true = limit_clears GreenThreads b.shared b
    one false = goes_on (forked n own bs b) going

ended_clears : (parent : Option ℕ) (n : ℕ) (e : Ending) (head : ℕ) (u : Common) (b : Build) → b.ended ≡ false → ClearsUp (thread_ended parent n e head u b)
ended_clears None n e head u b going = script_clears e head u b
ended_clears (Some parent) n e head u b going = goes_on (thread_ended (Some parent) n e head u b) going

asked_clears : (limits : RunLimits) (w : World) (asked : Asked) (b : Build) → b.ended ≡ false → ClearsUp (asked_by limits w asked b)
asked_clears limits w (For_request r) b going = goes_on (asked_by limits w (For_request r) b) going
asked_clears limits w (For_branches bs) b going = forks_clear limits w.own.number w.own bs b going

stopped_clears : (limits : RunLimits) (parent : Option ℕ) (n : ℕ) (r : Result) (b : Build) → b.ended ≡ false → ClearsUp (stopped limits parent n r b)
stopped_clears limits parent n (Ended e s) b going = ended_clears parent n e s.world.own.head s.world.shared (stopped_at s.world b) going
stopped_clears limits parent n (Waits asked path s) b going = asked_clears limits s.world asked (stopped_at s.world b) going
stopped_clears limits parent n (Limited k s) b going = limit_clears k s.world.shared (stopped_at s.world b)
stopped_clears limits parent n Unfinished b going = goes_on (record b { threads = [] }) going

-- a build with a thread that is ready has not ended
turn_going : (b : Build) (turn : Turn) → ClearsUp b → first_ready b.threads ≡ Some turn → b.ended ≡ false
turn_going b turn clears is = one b.ended refl
  where
    one : (ended : Bool) → b.ended ≡ ended → b.ended ≡ false
    one true over = let none : first_ready b.threads ≡ None = ap first_ready (clears over).threads in absurd (cc)
    one false going = going

turn_clears : (setting : Setting) (n : ℕ) → ((b : Build) → ClearsUp b → ClearsUp (settle n setting b)) → (b : Build) → ClearsUp b → (o : Option Turn) → first_ready b.threads ≡ o → ClearsUp (take_turn (settle n setting) setting b o)
turn_clears setting n more b clears None is = clears
turn_clears setting n more b clears (Some turn) is =
    let t : Thread = given_answer b.shared turn.answer turn.thread in
    more (resumed setting t b)
    (stopped_clears setting.limits t.parent t.own.number (stands setting t) (record b { threads = with_thread (λ old. t) t.own.number b.threads }) (turn_going b turn clears is))

settle_clears : (setting : Setting) (n : ℕ) (b : Build) → ClearsUp b → ClearsUp (settle n setting b)
unfolding settle
settle_clears setting zero b clears = clears
settle_clears setting (suc n) b clears = turn_clears setting n (settle_clears setting n) b clears (first_ready b.threads) refl

output_clears : (limits : RunLimits) (task : ℕ) (stream : Stream) (bytes : List ℕ) (b : Build) → b.ended ≡ false → ClearsUp (output limits task stream bytes b)
output_clears limits task LogStream bytes b going = one (nat_lt limits.log (length b.shared.log + length bytes))
  where
    one : (past : Bool) → ClearsUp (if past then limit_met LogSize b.shared b else record b { shared = change_request (with_taken (length bytes)) task (record b.shared { log = raw bytes b.shared.log }) })
    one true = limit_clears LogSize b.shared b
    one false = goes_on (record b { shared = change_request (with_taken (length bytes)) task (record b.shared { log = raw bytes b.shared.log }) }) going
output_clears limits task OutStream bytes b going = one (nat_lt limits.values.text (length (kept_output (request_of b.shared.requests task)) + length bytes))
  where
    one : (past : Bool) → ClearsUp (if past then limit_met TextLength b.shared b else record b { shared = change_request (with_kept bytes) task b.shared })
    one true = limit_clears TextLength b.shared b
    one false = goes_on (record b { shared = change_request (with_kept bytes) task b.shared }) going

changed_clears : (setting : Setting) (e : Event) (b : Build) → b.ended ≡ false → ClearsUp (changed_by setting e b)
changed_clears setting (StartEvent script agents) b going = goes_on (changed_by setting (StartEvent script agents) b) refl
changed_clears setting (GrantedEvent request executor) b going = goes_on (changed_by setting (GrantedEvent request executor) b) going
changed_clears setting (OutputEvent task stream from bytes) b going = output_clears setting.limits task stream bytes b going
changed_clears setting (ExitedEvent task code) b going = goes_on (changed_by setting (ExitedEvent task code) b) going
changed_clears setting (LostEvent task why) b going = goes_on (changed_by setting (LostEvent task why) b) going
changed_clears setting (DecidedEvent request proceed name) b going = goes_on (changed_by setting (DecidedEvent request proceed name) b) going

-- a build that has ended accepts nothing
accepted_going : (setting : Setting) (b : Build) (e : Event) → answer_to setting b e ≡ Accepted → b.ended ≡ false
accepted_going setting b e = one b.ended
  where
    one : (ended : Bool) → (if ended then Finished else if b.started then answered (standing setting b) e else answered_first e) ≡ Accepted → ended ≡ false
    one true is = absurd (cc)
    one false is = refl

event_clears : (setting : Setting) (b : Build) (e : Event) (a : Taken) → answer_to setting b e ≡ a → ClearsUp b → ClearsUp (after_event setting b e a)
event_clears setting b e Accepted is clears = settle_clears setting (turn_bound setting.limits) (changed_by setting e (uncounted b)) (changed_clears setting e (uncounted b) (accepted_going setting b e is))
event_clears setting b e NotOpen is clears = clears
event_clears setting b e (WrongPlace kept) is clears = clears
event_clears setting b e Finished is clears = clears

fold_clears : (setting : Setting) (b : Build) (events : List Event) → ClearsUp b → ClearsUp (fold (after_one setting) b events)
fold_clears setting b [] clears = clears
fold_clears setting b (e ∷ es) clears = fold_clears setting (after_one setting b e) es (event_clears setting b e (answer_to setting b e) refl clears)

pub world_clears : (setting : Setting) (events : List Event) → ClearsUp (world_in setting events)
world_clears setting events = fold_clears setting unbegun events (goes_on unbegun refl)
