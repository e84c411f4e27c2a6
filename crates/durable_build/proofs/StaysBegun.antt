-- A build that has begun stays begun.
use Rattle.std.proofs.Common.{◌≡◌, ◌+◌, ◌∙◌, refl, sym, subst, ℕ, zero, suc, Bool, true, false, List, [], ◌∷◌, ◌++◌, length, Option, Some, None}
use Rattle.std.specs.Prelude.{if◌then◌else◌, nat_lt}
use Rattle.std.proofs.lemmas.List.Sums.{fold-append}
use Rattle.model_values.specs.declared.limit.LimitKind.TheVariants.{TextLength, LogSize, GreenThreads}
use Rattle.model_run.specs.declared.ending.Ending.{Ending}
use Rattle.model_run.specs.declared.ending.Ending.TheVariants.{Normal, Thrown, Returned, Broke, Continued, Declared, Answered}
use Rattle.model_run.specs.declared.ending.Asked.{Asked}
use Rattle.model_run.specs.declared.ending.Asked.TheVariants.{ForRequest as For_request, ForBranches as For_branches}
use Rattle.model_run.specs.declared.ending.Branch.{Branch}
use Rattle.model_run.specs.declared.event.Event.{Event}
use Rattle.model_run.specs.declared.event.Event.TheVariants.{Start as StartEvent, Granted as GrantedEvent, Output as OutputEvent, Exited as ExitedEvent, Lost as LostEvent, Decided as DecidedEvent}
use Rattle.model_run.specs.declared.event.Stream.{Stream}
use Rattle.model_run.specs.declared.event.Stream.TheVariants.{Log as LogStream, Out as OutStream}
use Rattle.model_run.specs.declared.taken.Taken.{Taken}
use Rattle.model_run.specs.declared.taken.Taken.TheVariants.{Accepted, NotOpen, WrongPlace, Finished}
use Rattle.model_run.specs.LogText.{raw}
use Rattle.model_run.specs.Taking.{request_of}
use Rattle.model_run.specs.Threads.{stands}
use Rattle.model_run.specs.State.{RunLimits, Setting, Common, Own, State, Result, Ended, Waits, Limited, Unfinished}
use Rattle.model_run.specs.World.{Build, unbegun, begun, script_ended, limit_met, forked, forks, thread_ended, stopped_at, asked_by, stopped, given_answer, with_thread, resumed, Turn, first_ready, take_turn, settle, turn_bound, uncounted, changed_by, kept_output, with_taken, with_kept, change_request, output, after_event, after_one, answer_to, world_in}

-- No event takes back that a build has begun.
forks_started : (limits : RunLimits) (n : ℕ) (own : Own) (bs : List Branch) (b : Build) → (forks limits n own bs b).started ≡ b.started
forks_started limits n own bs b = one (nat_lt limits.threads (length b.threads + length bs))
  where
    one : (past : Bool) → (if past then limit_met GreenThreads b.shared b else forked n own bs b).started ≡ b.started
    one true = refl
    one false = refl

script_started : (x : Ending) (head : ℕ) (u : Common) (b : Build) → (script_ended x head u b).started ≡ b.started
script_started (Normal y) head u b = refl
script_started (Thrown c) head u b = refl
script_started (Returned y) head u b = refl
script_started Broke head u b = refl
script_started Continued head u b = refl
script_started (Declared y) head u b = refl
script_started (Answered y) head u b = refl

ended_started : (parent : Option ℕ) (n : ℕ) (x : Ending) (head : ℕ) (u : Common) (b : Build) → (thread_ended parent n x head u b).started ≡ b.started
ended_started None n x head u b = script_started x head u b
ended_started (Some parent) n x head u b = refl

asked_started : (limits : RunLimits) (s : State) (asked : Asked) (b : Build) → (asked_by limits s.world asked b).started ≡ b.started
asked_started limits s (For_request r) b = refl
asked_started limits s (For_branches bs) b = forks_started limits s.world.own.number s.world.own bs b

stopped_started : (limits : RunLimits) (parent : Option ℕ) (n : ℕ) (r : Result) (b : Build) → (stopped limits parent n r b).started ≡ b.started
stopped_started limits parent n (Ended x s) b = ended_started parent n x s.world.own.head s.world.shared (stopped_at s.world b)
stopped_started limits parent n (Waits asked path s) b = asked_started limits s asked (stopped_at s.world b)
stopped_started limits parent n (Limited k s) b = refl
stopped_started limits parent n Unfinished b = refl

taken_started : (setting : Setting) (n : ℕ) → ((b : Build) → (settle n setting b).started ≡ b.started) → (b : Build) (o : Option Turn) → (take_turn (settle n setting) setting b o).started ≡ b.started
taken_started setting n more b None = refl
taken_started setting n more b (Some turn) =
    more (resumed setting (given_answer b.shared turn.answer turn.thread) b)
    ∙ stopped_started setting.limits turn.thread.parent turn.thread.own.number (stands setting (given_answer b.shared turn.answer turn.thread)) (record b { threads = with_thread (λ old. given_answer b.shared turn.answer turn.thread) turn.thread.own.number b.threads })

settle_started : (setting : Setting) (n : ℕ) (b : Build) → (settle n setting b).started ≡ b.started
unfolding settle
settle_started setting zero b = refl
settle_started setting (suc n) b = taken_started setting n (settle_started setting n) b (first_ready b.threads)

output_started : (limits : RunLimits) (task : ℕ) (stream : Stream) (bytes : List ℕ) (b : Build) → (output limits task stream bytes b).started ≡ b.started
output_started limits task LogStream bytes b = one (nat_lt limits.log (length b.shared.log + length bytes))
  where
    one : (past : Bool) → (if past then limit_met LogSize b.shared b else record b { shared = change_request (with_taken (length bytes)) task (record b.shared { log = raw bytes b.shared.log }) }).started ≡ b.started
    one true = refl
    one false = refl
output_started limits task OutStream bytes b = one (nat_lt limits.values.text (length (kept_output (request_of b.shared.requests task)) + length bytes))
  where
    one : (past : Bool) → (if past then limit_met TextLength b.shared b else record b { shared = change_request (with_kept bytes) task b.shared }).started ≡ b.started
    one true = refl
    one false = refl

changed_started : (setting : Setting) (x : Event) (b : Build) → b.started ≡ true → (changed_by setting x b).started ≡ true
changed_started setting (StartEvent script agents) b s = refl
changed_started setting (GrantedEvent request executor) b s = s
changed_started setting (OutputEvent task stream from bytes) b s = output_started setting.limits task stream bytes b ∙ s
changed_started setting (ExitedEvent task code) b s = s
changed_started setting (LostEvent task why) b s = s
changed_started setting (DecidedEvent request proceed name) b s = s

event_started : (setting : Setting) (b : Build) (x : Event) (answer : Taken) → b.started ≡ true → (after_event setting b x answer).started ≡ true
event_started setting b x Accepted s = settle_started setting (turn_bound setting.limits) (changed_by setting x (uncounted b)) ∙ changed_started setting x (uncounted b) s
event_started setting b x NotOpen s = s
event_started setting b x (WrongPlace kept) s = s
event_started setting b x Finished s = s

pub behind : (setting : Setting) (events : List Event) (x : Event) → world_in setting (events ++ x ∷ []) ≡ after_one setting (world_in setting events) x
behind setting events x = fold-append (after_one setting) unbegun events (x ∷ [])

pub stays_begun : (setting : Setting) (events : List Event) (x : Event) → (world_in setting events).started ≡ true → (world_in setting (events ++ x ∷ [])).started ≡ true
stays_begun setting events x s = subst (λ (b : Build). b.started ≡ true) (sym (behind setting events x)) (event_started setting (world_in setting events) x (answer_to setting (world_in setting events) x) s)

pub starts_begun : (setting : Setting) (script agents : List ℕ) → (world_in setting (StartEvent script agents ∷ [])).started ≡ true
starts_begun setting script agents = settle_started setting (turn_bound setting.limits) begun
