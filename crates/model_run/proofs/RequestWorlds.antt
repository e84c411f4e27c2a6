-- Requests and tasks of worlds: a request that was closed is never opened again, a task keeps its executor, and an event that is accepted
-- closes the request that it answers.
use Rattle.std.proofs.Common.{arith, ◌≡◌, ◌≤◌, ◌<◌, ◌+◌, ◌∙◌, refl, sym, subst, inl, inr, ℕ, zero, suc, Bool, true, false, fold, List, [], ◌∷◌, ◌++◌, length, Option, Some, None}
use Rattle.std.specs.Prelude.{if◌then◌else◌, nat_lt}
use Rattle.std.specs.List.{AllByRecursion as AllAre}
use Rattle.model_syntax.specs.Nodes.{Node}
use Rattle.model_run.specs.ValueTypes.{TextLength, LogSize, GreenThreads}
use Rattle.model_run.specs.RunTypes.{Event, StartEvent, GrantedEvent, OutputEvent, ExitedEvent, LostEvent, DecidedEvent, Stream, LogStream, OutStream, Taken, Accepted, NotOpen, WrongPlace, Finished, Request, NodeRequest, TaskRequest, InputRequest, OpenRequest}
use Rattle.model_run.specs.Terms.{term}
use Rattle.model_run.specs.State.{RunLimits, Setting, Common, Own, State, Ending, Normal, Thrown, Returned, Broke, Continued, Declared, Answered, Asked, For_request, For_branches, Branch, Result, Ended, Waits, Limited, Unfinished}
use Rattle.model_run.specs.Below.{Small}
use Rattle.model_run.specs.Fitting.{Rise, Some_of}
use Rattle.model_run.specs.Grants.{executor_of}
use Rattle.model_run.specs.LogText.{raw}
use Rattle.model_run.specs.Requests.{numbers_of, RequestsFit, SameRequest, WasOpen, RequestsGoOn, IsOpenRequest, RunsOn, IsTaskOf, Closes}
use Rattle.model_run.specs.Since.{Continues}
use Rattle.model_run.specs.Taking.{request_of, granted, accepted_if, is_task, is_input}
use Rattle.model_run.specs.Threads.{stands}
use Rattle.model_run.specs.Waiting.{Stood}
use Rattle.model_run.specs.World.{Build, unbegun, script_ended, limit_met, forked, forks, thread_ended, stopped_at, asked_by, stopped, given_answer, with_thread, resumed, Turn, first_ready, take_turn, settle, turn_bound, uncounted, standing, changed_by, held_as, kept_output, with_taken, with_kept, change_request, output, after_event, after_one, answer_to, world_in}
use Rattle.model_run.proofs.LaterWorlds.{accepted_answer, if_accepted, accepted_grant, open_of, settle_goes, changed_goes, Goes_on, goes_itself, goes_then, one_goes, world_requests}
use Rattle.model_run.proofs.RequestLaws.{some_weaker, some_all, NoneOf, rise_from, rise_below, closed_now}
use Rattle.model_run.proofs.WaitingLaws.{event_stood, changed_stood, world_stood}

-- No event takes back that a build has begun.
forks_started : (limits : RunLimits) (n : ℕ) (own : Own) (bs : List Branch) (b : Build) → (forks limits n own bs b).started ≡ b.started
forks_started limits n own bs b = one (nat_lt limits.threads (length b.threads + length bs))
  where
    one : (past : Bool) → (if past then limit_met GreenThreads b.shared b else forked n own bs b).started ≡ b.started
    one true = refl
    one false = refl

script_started : (x : Ending) (head : ℕ) (u : Common) (b : Build) → (script_ended x head u b).started ≡ b.started
script_started (Normal y) head u b = refl
script_started (Thrown c) head u b = refl
script_started (Returned y) head u b = refl
script_started Broke head u b = refl
script_started Continued head u b = refl
script_started (Declared y) head u b = refl
script_started (Answered y) head u b = refl

ended_started : (parent : Option ℕ) (n : ℕ) (x : Ending) (head : ℕ) (u : Common) (b : Build) → (thread_ended parent n x head u b).started ≡ b.started
ended_started None n x head u b = script_started x head u b
ended_started (Some parent) n x head u b = refl

asked_started : (limits : RunLimits) (s : State) (asked : Asked) (b : Build) → (asked_by limits s.world asked b).started ≡ b.started
asked_started limits s (For_request r) b = refl
asked_started limits s (For_branches bs) b = forks_started limits s.world.own.number s.world.own bs b

stopped_started : (limits : RunLimits) (parent : Option ℕ) (n : ℕ) (r : Result) (b : Build) → (stopped limits parent n r b).started ≡ b.started
stopped_started limits parent n (Ended x s) b = ended_started parent n x s.world.own.head s.world.shared (stopped_at s.world b)
stopped_started limits parent n (Waits asked path s) b = asked_started limits s asked (stopped_at s.world b)
stopped_started limits parent n (Limited k s) b = refl
stopped_started limits parent n Unfinished b = refl

taken_started : (setting : Setting) (n : ℕ) → ((b : Build) → (settle n setting b).started ≡ b.started) → (b : Build) (o : Option Turn) → (take_turn (settle n setting) setting b o).started ≡ b.started
taken_started setting n more b None = refl
taken_started setting n more b (Some turn) =
    more (resumed setting (given_answer b.shared turn.answer turn.thread) b)
    ∙ stopped_started setting.limits turn.thread.parent turn.thread.own.number (stands setting (given_answer b.shared turn.answer turn.thread)) (record b { threads = with_thread (λ old. given_answer b.shared turn.answer turn.thread) turn.thread.own.number b.threads })

settle_started : (setting : Setting) (n : ℕ) (b : Build) → (settle n setting b).started ≡ b.started
unfolding settle
settle_started setting zero b = refl
settle_started setting (suc n) b = taken_started setting n (settle_started setting n) b (first_ready b.threads)

output_started : (limits : RunLimits) (task : ℕ) (stream : Stream) (bytes : List ℕ) (b : Build) → (output limits task stream bytes b).started ≡ b.started
output_started limits task LogStream bytes b = one (nat_lt limits.log (length b.shared.log + length bytes))
  where
    one : (past : Bool) → (if past then limit_met LogSize b.shared b else record b { shared = change_request (with_taken (length bytes)) task (record b.shared { log = raw bytes b.shared.log }) }).started ≡ b.started
    one true = refl
    one false = refl
output_started limits task OutStream bytes b = one (nat_lt limits.values.text (length (kept_output (request_of b.shared.requests task)) + length bytes))
  where
    one : (past : Bool) → (if past then limit_met TextLength b.shared b else record b { shared = change_request (with_kept bytes) task b.shared }).started ≡ b.started
    one true = refl
    one false = refl

changed_started : (setting : Setting) (x : Event) (b : Build) → b.started ≡ true → (changed_by setting x b).started ≡ true
changed_started setting (StartEvent script agents) b s = refl
changed_started setting (GrantedEvent request executor) b s = s
changed_started setting (OutputEvent task stream from bytes) b s = output_started setting.limits task stream bytes b ∙ s
changed_started setting (ExitedEvent task code) b s = s
changed_started setting (LostEvent task why) b s = s
changed_started setting (DecidedEvent request proceed name) b s = s

event_started : (setting : Setting) (b : Build) (x : Event) (answer : Taken) → b.started ≡ true → (after_event setting b x answer).started ≡ true
event_started setting b x Accepted s = settle_started setting (turn_bound setting.limits) (changed_by setting x (uncounted b)) ∙ changed_started setting x (uncounted b) s
event_started setting b x NotOpen s = s
event_started setting b x (WrongPlace kept) s = s
event_started setting b x Finished s = s

-- What an event that is accepted answers is open.
open_if : (n : ℕ) (rs : List OpenRequest) (test : Option Request → Bool) → test None ≡ false → (o : Option Request) → request_of rs n ≡ o → test o ≡ true → Some_of (λ r. r.number ≡ n) rs
open_if n rs test fails None found t = (let bad : false ≡ true = sym fails ∙ t in absurd (cc))
open_if n rs test fails (Some q) found t = open_of n rs q found

answer_of : (setting : Setting) (b : Build) (a : Taken) → (if b.ended then Finished else if b.started then a else NotOpen) ≡ Accepted → a ≡ Accepted
answer_of setting b a e = accepted_answer b.ended b.started a NotOpen (λ no. absurd (cc)) e

accepted_open : (setting : Setting) (b : Build) (x : Event) (n : ℕ) → Closes n x → answer_to setting b x ≡ Accepted → IsOpenRequest n b.shared
accepted_open setting b (StartEvent script agents) n closes e = absurd closes
accepted_open setting b (GrantedEvent request executor) n closes e =
    let w = accepted_grant (standing setting b) executor (request_of b.shared.requests request) (answer_of setting b (granted (standing setting b) executor (request_of b.shared.requests request)) e) in
    subst (λ m. IsOpenRequest m b.shared) closes (open_of request b.shared.requests (NodeRequest w.0) w.1)
accepted_open setting b (OutputEvent task stream from bytes) n closes e = absurd closes
accepted_open setting b (ExitedEvent task code) n closes e =
    subst (λ m. IsOpenRequest m b.shared) closes (open_if task b.shared.requests is_task refl (request_of b.shared.requests task) refl (if_accepted _ (answer_of setting b (accepted_if (is_task (request_of b.shared.requests task))) e)))
accepted_open setting b (LostEvent task why) n closes e =
    subst (λ m. IsOpenRequest m b.shared) closes (open_if task b.shared.requests is_task refl (request_of b.shared.requests task) refl (if_accepted _ (answer_of setting b (accepted_if (is_task (request_of b.shared.requests task))) e)))
accepted_open setting b (DecidedEvent request proceed name) n closes e =
    subst (λ m. IsOpenRequest m b.shared) closes (open_if request b.shared.requests is_input refl (request_of b.shared.requests request) refl (if_accepted _ (answer_of setting b (accepted_if (is_input (request_of b.shared.requests request))) e)))

closed_by : (setting : Setting) (x : Event) (n : ℕ) → Closes n x → (b : Build) → NoneOf n (changed_by setting x b).shared.requests
closed_by setting (StartEvent script agents) n closes b = absurd closes
closed_by setting (GrantedEvent request executor) n closes b = subst (λ m. NoneOf m (changed_by setting (GrantedEvent request executor) b).shared.requests) closes (closed_now request (held_as setting.site request executor (executor_of setting.site executor) b.shared).requests)
closed_by setting (OutputEvent task stream from bytes) n closes b = absurd closes
closed_by setting (ExitedEvent task code) n closes b = subst (λ m. NoneOf m (changed_by setting (ExitedEvent task code) b).shared.requests) closes (closed_now task b.shared.requests)
closed_by setting (LostEvent task why) n closes b = subst (λ m. NoneOf m (changed_by setting (LostEvent task why) b).shared.requests) closes (closed_now task b.shared.requests)
closed_by setting (DecidedEvent request proceed name) n closes b = subst (λ m. NoneOf m (changed_by setting (DecidedEvent request proceed name) b).shared.requests) closes (closed_now request b.shared.requests)

-- A closed number stays closed.
number_was : (u : Common) (n : ℕ) → n < u.next_request → (r : OpenRequest) → WasOpen u r → r.number ≡ n → IsOpenRequest n u
number_was u n lt r (inl was) at = some_weaker _ _ (λ q same. same.number ∙ at) u.requests was
number_was u n lt r (inr le) at = absurd (omega (arith, lt, le, at))

was_open : (u v : Common) → RequestsGoOn u v → (n : ℕ) → n < u.next_request → IsOpenRequest n v → IsOpenRequest n u
was_open u v h n lt is = some_all (WasOpen u) (λ r. r.number ≡ n) (IsOpenRequest n u) (number_was u n lt) v.requests h.were is

-- A task's executor.
same_runs : (x : ℕ) (q r : Request) → SameRequest q r → RunsOn x r → RunsOn x q
same_runs x (TaskRequest x1 w1 f1 e1 s1 st1 k1 t1 o1) (TaskRequest x2 w2 f2 e2 s2 st2 k2 t2 o2) same runs = same.0 ∙ runs
same_runs x (TaskRequest x1 w1 f1 e1 s1 st1 k1 t1 o1) r same runs = absurd same
same_runs x (NodeRequest l) (NodeRequest k) same runs = absurd runs
same_runs x (NodeRequest l) r same runs = absurd same
same_runs x (InputRequest i) (InputRequest j) same runs = absurd runs
same_runs x (InputRequest i) r same runs = absurd same

task_was_by : (u : Common) (x n : ℕ) → n < u.next_request → (r : OpenRequest) → WasOpen u r → (r.number ≡ n) × RunsOn x r.request → IsTaskOf x n u
task_was_by u x n lt r (inl was) is = some_weaker _ _ (λ q same. (same.number ∙ is.0, same_runs x q.request r.request same.request is.1)) u.requests was
task_was_by u x n lt r (inr le) is = absurd (omega (arith, lt, le, is.0))

task_was : (u v : Common) → RequestsGoOn u v → (x n : ℕ) → n < u.next_request → IsTaskOf x n v → IsTaskOf x n u
task_was u v h x n lt is = some_all (WasOpen u) (λ r. (r.number ≡ n) × RunsOn x r.request) (IsTaskOf x n u) (task_was_by u x n lt) v.requests h.were is

runs_one : (x y : ℕ) (q : Request) → RunsOn x q → RunsOn y q → x ≡ y
runs_one x y (TaskRequest z w f e s st k t o) h g = sym h ∙ g
runs_one x y (NodeRequest l) h g = absurd h
runs_one x y (InputRequest i) h g = absurd h

number_twice : (n k m : ℕ) (rs : List OpenRequest) (P : OpenRequest → Type 0) → n < k → Rise k m (numbers_of rs) → Some_of (λ r. (r.number ≡ n) × P r) rs → ⊥
number_twice n k m rs P lt rise is = some_all (λ r. k ≤ r.number) (λ r. (r.number ≡ n) × P r) ⊥ (λ r le at. omega (arith, lt, le, at.0)) rs (rise_from k m rs rise) is

tasks_one : (x y n k m : ℕ) (rs : List OpenRequest) → Rise k m (numbers_of rs) → Some_of (λ r. (r.number ≡ n) × RunsOn x r.request) rs → Some_of (λ r. (r.number ≡ n) × RunsOn y r.request) rs → x ≡ y
tasks_one x y n k m [] rise h g = absurd h
tasks_one x y n k m (r ∷ rs) rise (inl h) (inl g) = runs_one x y r.request h.1 g.1
tasks_one x y n k m (r ∷ rs) rise (inl h) (inr g) = absurd (number_twice n (suc r.number) m rs (λ q. RunsOn y q.request) (omega (arith, h.0)) rise.2 g)
tasks_one x y n k m (r ∷ rs) rise (inr h) (inl g) = absurd (number_twice n (suc r.number) m rs (λ q. RunsOn x q.request) (omega (arith, g.0)) rise.2 h)
tasks_one x y n k m (r ∷ rs) rise (inr h) (inr g) = tasks_one x y n (suc r.number) m rs rise.2 h g

module _ (setting : Setting) (p : Node) (e : setting.script ≡ term 0 p) (small : Small setting) where
  continues_from : (b : Build) → AllAre (Stood setting) b.threads → b.started ≡ true → (es : List Event) → Continues setting.site b.shared (fold (after_one setting) b es).shared
  continues_from b all s [] = goes_itself setting p e small b.shared
  continues_from b all s (x ∷ es) =
      goes_then setting p e small b.shared (after_one setting b x).shared (fold (after_one setting) (after_one setting b x) es).shared (one_goes setting p e small b all s x)
      (continues_from (after_one setting b x) (event_stood setting b x (answer_to setting b x) all) (event_started setting b x (answer_to setting b x) s) es)

  fold_append : (b : Build) (es more : List Event) → fold (after_one setting) b (es ++ more) ≡ fold (after_one setting) (fold (after_one setting) b es) more
  fold_append b [] more = refl
  fold_append b (x ∷ es) more = fold_append (after_one setting b x) es more

  -- what any further events leave of a build that has begun
  pub worlds_continue : (events more : List Event) → (world_in setting events).started ≡ true → Continues setting.site (world_in setting events).shared (world_in setting (events ++ more)).shared
  worlds_continue events more s = subst (λ (b : Build). Continues setting.site (world_in setting events).shared b.shared) (sym (fold_append unbegun events more)) (continues_from (world_in setting events) (world_stood setting events) s more)

  -- an open request has a number below the next one
  pub request_below : (events : List Event) (n : ℕ) → IsOpenRequest n (world_in setting events).shared → n < (world_in setting events).shared.next_request
  request_below events n is =
      some_all (λ r. r.number < (world_in setting events).shared.next_request) (λ r. r.number ≡ n) (n < (world_in setting events).shared.next_request) (λ r lt at. omega (arith, lt, at)) (world_in setting events).shared.requests
      (rise_below 1 (world_in setting events).shared.next_request (world_in setting events).shared.requests (world_requests setting p e small events).requests) is

  -- a number that was given and is not open is never opened again
  pub never_again : (events more : List Event) → (world_in setting events).started ≡ true → (n : ℕ) → n < (world_in setting events).shared.next_request → (IsOpenRequest n (world_in setting events).shared → ⊥) → IsOpenRequest n (world_in setting (events ++ more)).shared → ⊥
  never_again events more s n lt closed is = closed (was_open (world_in setting events).shared (world_in setting (events ++ more)).shared (worlds_continue events more s).requests n lt is)

  -- a task of an executor is one of no other, now and later
  pub same_executor : (events more : List Event) → (world_in setting events).started ≡ true → (x y n : ℕ) → IsTaskOf x n (world_in setting events).shared → IsTaskOf y n (world_in setting (events ++ more)).shared → x ≡ y
  same_executor events more s x y n was is =
      let lt : n < (world_in setting events).shared.next_request = request_below events n (some_weaker _ _ (λ r h. h.0) (world_in setting events).shared.requests was) in
      tasks_one x y n 1 (world_in setting events).shared.next_request (world_in setting events).shared.requests (world_requests setting p e small events).requests was
      (task_was (world_in setting events).shared (world_in setting (events ++ more)).shared (worlds_continue events more s).requests y n lt is)

  -- a task that is open was open before, or has a new number
  pub task_came : (events more : List Event) → (world_in setting events).started ≡ true → (x n : ℕ) → n < (world_in setting events).shared.next_request → IsTaskOf x n (world_in setting (events ++ more)).shared → IsTaskOf x n (world_in setting events).shared
  task_came events more s x n lt is = task_was (world_in setting events).shared (world_in setting (events ++ more)).shared (worlds_continue events more s).requests x n lt is

  goes_on : (n : ℕ) (x : Event) → Closes n x → Goes_on setting p e small x
  goes_on n (StartEvent script agents) closes = closes
  goes_on n (GrantedEvent request executor) closes = tt
  goes_on n (OutputEvent task stream from bytes) closes = absurd closes
  goes_on n (ExitedEvent task code) closes = tt
  goes_on n (LostEvent task why) closes = tt
  goes_on n (DecidedEvent request proceed name) closes = tt

  closed_after : (b : Build) → AllAre (Stood setting) b.threads → RequestsFit setting.site b.shared → (x : Event) (n : ℕ) → Closes n x → answer_to setting b x ≡ Accepted → (answer : Taken) → answer_to setting b x ≡ answer → IsOpenRequest n (after_event setting b x answer).shared → ⊥
  closed_after b all fit x n closes a NotOpen same is = (let bad : Accepted ≡ NotOpen = sym a ∙ same in absurd (cc))
  closed_after b all fit x n closes a (WrongPlace kept) same is = (let bad : Accepted ≡ WrongPlace kept = sym a ∙ same in absurd (cc))
  closed_after b all fit x n closes a Finished same is = (let bad : Accepted ≡ Finished = sym a ∙ same in absurd (cc))
  closed_after b all fit x n closes a Accepted same is =
      let was : IsOpenRequest n b.shared = accepted_open setting b x n closes a in
      let lt : n < b.shared.next_request = some_all (λ r. r.number < b.shared.next_request) (λ r. r.number ≡ n) (n < b.shared.next_request) (λ r lt at. omega (arith, lt, at)) b.shared.requests (rise_below 1 b.shared.next_request b.shared.requests fit.requests) was in
      let to : RequestsGoOn (uncounted b).shared (changed_by setting x (uncounted b)).shared = (changed_goes setting p e small x (goes_on n x closes) (uncounted b) a).requests in
      let on : RequestsGoOn (changed_by setting x (uncounted b)).shared (after_event setting b x Accepted).shared = (settle_goes setting p e small (turn_bound setting.limits) (changed_by setting x (uncounted b)) (changed_stood setting x (uncounted b) all)).requests in
      some_all (λ r. r.number ≡ n → ⊥) (λ r. r.number ≡ n) ⊥ (λ r never at. never at) (changed_by setting x (uncounted b)).shared.requests (closed_by setting x n closes (uncounted b))
      (was_open (changed_by setting x (uncounted b)).shared (after_event setting b x Accepted).shared on n (omega (arith, lt, to.next)) is)

  -- an accepted `Granted`, `Exited`, `Lost` or `Decided` closes its request
  pub closes_request : (events : List Event) (x : Event) (n : ℕ) → Closes n x → answer_to setting (world_in setting events) x ≡ Accepted → IsOpenRequest n (world_in setting (events ++ x ∷ [])).shared → ⊥
  closes_request events x n closes a is =
      closed_after (world_in setting events) (world_stood setting events) (world_requests setting p e small events) x n closes a (answer_to setting (world_in setting events) x) refl
      (subst (λ (b : Build). IsOpenRequest n b.shared) (fold_append unbegun events (x ∷ [])) is)
