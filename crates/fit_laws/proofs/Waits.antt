-- In every world a thread that waits for branches has asked for them; and a branch has a parent, the script has none.
use Rattle.std.proofs.Common.{◌≡◌, ◌+◌, sym, subst, refl, ℕ, zero, suc, Bool, true, false, List, [], ◌∷◌, map, length, Option, Some, None}
use Rattle.std.specs.Prelude.{nat_lt, if◌then◌else◌, fold}
use Rattle.std.specs.List.{AllByRecursion as AllAre}
use Rattle.model_values.specs.declared.limit.LimitKind.TheVariants.{GreenThreads, LogSize, TextLength}
use Rattle.model_values.specs.declared.value.Outcome.{Outcome}
use Rattle.model_run.specs.LogText.{raw}
use Rattle.model_run.specs.Taking.{request_of}
use Rattle.model_run.specs.declared.wait.Answer.{Answer}
use Rattle.model_run.specs.declared.wait.BranchEnd.{BranchEnd}
use Rattle.model_run.specs.declared.wait.Join.{Join}
use Rattle.model_run.specs.declared.wait.Wait.{Wait}
use Rattle.model_run.specs.declared.wait.Wait.TheVariants.{Ready, Request as RequestWait, Branches as BranchesWait}
use Rattle.model_run.specs.declared.event.Event.{Event}
use Rattle.model_run.specs.declared.event.Event.TheVariants.{Start as StartEvent, Granted as GrantedEvent, Output as OutputEvent, Exited as ExitedEvent, Lost as LostEvent, Decided as DecidedEvent}
use Rattle.model_run.specs.declared.event.Stream.{Stream}
use Rattle.model_run.specs.declared.event.Stream.TheVariants.{Log as LogStream, Out as OutStream}
use Rattle.model_run.specs.declared.taken.Taken.{Taken}
use Rattle.model_run.specs.declared.taken.Taken.TheVariants.{Accepted, NotOpen, WrongPlace, Finished}
use Rattle.model_run.specs.declared.ending.Ending.{Ending}
use Rattle.model_run.specs.declared.ending.Ending.TheVariants.{Normal, Thrown, Returned, Broke, Continued, Declared, Answered}
use Rattle.model_run.specs.declared.ending.Branch.{Branch}
use Rattle.model_run.specs.declared.ending.Asked.{Asked}
use Rattle.model_run.specs.declared.ending.Asked.TheVariants.{ForRequest as For_request, ForBranches as For_branches}
use Rattle.model_run.specs.State.{RunLimits, Setting, Common, Own, State, Result, Ended, Waits, Limited, Unfinished}
use Rattle.model_run.specs.Opened.{Owns}
use Rattle.model_run.specs.Threads.{Thread, stands}
use Rattle.model_run.specs.World.{Build, unbegun, with_thread, waits_as, with_head, ready, branch_threads, joins_of, forked, forks, limit_met, join_end, ends_before, all_ended, joined_wait, join_wait, joins, outcome_of, thread_ended, script_ended, stopped_at, asked_by, stopped, given_answer, resumed, Turn, turn_if, first_ready, take_turn, settle, turn_bound, uncounted, changed_by, kept_output, with_taken, with_kept, change_request, output, after_event, after_one, answer_to, world_in}
use Rattle.model_run.proofs.WaitingLaws.{with_all}
use Rattle.run_laws.proofs.SoundWorlds.{Mid, mid_with, mid_begins, mid_ends, without_thread_all, all_more}
use Rattle.world_laws.proofs.Turns.{turn_owns}
use Rattle.fit_laws.specs.Stands.{AsksBranches, WaitAsks, HasParent, WaitsSo}

-- branches that have ended
joined_asks : (js : List Join) (o : Option (List BranchEnd)) (r : Result) → AsksBranches r → WaitAsks (joined_wait js o) r
joined_asks js None r h = h
joined_asks js (Some ends) r h = tt

join_asks : (n head : ℕ) (o : Outcome) (w : Wait) (r : Result) → WaitAsks w r → WaitAsks (join_wait n head o w) r
join_asks n head o (BranchesWait js) r h = joined_asks (map (join_end n (record { node = head; outcome = o; place = ends_before js })) js) (all_ended (map (join_end n (record { node = head; outcome = o; place = ends_before js })) js)) r h
join_asks n head o (Ready x) r h = h
join_asks n head o (RequestWait k) r h = h

module _ (g : Setting) where
  abbrev AllSo : Build → Type 0
  AllSo b = AllAre (WaitsSo g) b.threads

  -- the same thread with another wait
  with_wait : (t : Thread) (w : Wait) → WaitAsks w (stands g t) → WaitsSo g t → WaitsSo g (waits_as w t)
  with_wait t w asks h = record { parent = h.parent; asks = asks }

  new_branches : (parent : ℕ) (own : Own) (n : ℕ) (bs : List Branch) → AllAre (WaitsSo g) (branch_threads parent own n bs)
  new_branches parent own n [] = tt
  new_branches parent own n (b ∷ bs) = (record { parent = tt; asks = tt }, new_branches parent own (suc n) bs)

  script_so : (e : Ending) (head : ℕ) (u : Common) (b : Build) → AllSo (script_ended e head u b)
  script_so (Normal x) head u b = tt
  script_so (Thrown c) head u b = tt
  script_so (Returned x) head u b = tt
  script_so Broke head u b = tt
  script_so Continued head u b = tt
  script_so (Declared x) head u b = tt
  script_so (Answered x) head u b = tt

  forks_so : (limits : RunLimits) (n : ℕ) (own : Own) (bs : List Branch) (b : Build) → AllSo (forked n own bs b) → AllSo (forks limits n own bs b)
  forks_so limits n own bs b h = one (nat_lt limits.threads (length b.threads + length bs))
    where
      one : (x : Bool) → AllSo (if x then limit_met GreenThreads b.shared b else forked n own bs b)
      one true = tt
      one false = h

  -- a thread that has stopped
  module _ (t : Thread) (parent : HasParent t.runs t.parent) where
    abbrev Middle : Thread → List Thread → Type 0
    Middle x ts = AllAre (Mid (WaitsSo g) t.own.number x) ts

    headed : (s : State) → s.world.own.number ≡ t.own.number → (b : Build) → Middle t b.threads → Middle (with_head s.world.own.head t) (stopped_at s.world b).threads
    headed s number b m = subst (λ n. Middle (with_head s.world.own.head t) (with_thread (with_head s.world.own.head) n b.threads)) (sym number) (mid_with (WaitsSo g) t.own.number t (with_head s.world.own.head) (λ x. refl) b.threads m)

    waiting : (s : State) → s.world.own.number ≡ t.own.number → (w : Wait) → WaitAsks w (stands g t) → (ts : List Thread) → Middle (with_head s.world.own.head t) ts → AllAre (WaitsSo g) (with_thread (waits_as w) s.world.own.number ts)
    waiting s number w asks ts m =
        mid_ends (WaitsSo g) (WaitsSo g) (λ x h. h) t.own.number (waits_as w (with_head s.world.own.head t)) (record { parent = parent; asks = asks }) (with_thread (waits_as w) s.world.own.number ts)
        (subst (λ n. Middle (waits_as w (with_head s.world.own.head t)) (with_thread (waits_as w) n ts)) (sym number) (mid_with (WaitsSo g) t.own.number (with_head s.world.own.head t) (waits_as w) (λ x. refl) ts m))

    asked_so : (asked : Asked) (s : State) → s.world.own.number ≡ t.own.number → ((bs : List Branch) → asked ≡ For_branches bs → AsksBranches (stands g t)) → (limits : RunLimits) (b : Build) → Middle (with_head s.world.own.head t) b.threads → AllSo (asked_by limits s.world asked b)
    asked_so (For_request r) s number is limits b m = waiting s number (RequestWait r) tt b.threads m
    asked_so (For_branches bs) s number is limits b m =
        forks_so limits s.world.own.number s.world.own bs b
        (all_more (WaitsSo g) (with_thread (waits_as (BranchesWait (joins_of b.next_thread bs))) s.world.own.number b.threads) (branch_threads s.world.own.number s.world.own b.next_thread bs)
        (waiting s number (BranchesWait (joins_of b.next_thread bs)) (is bs refl) b.threads m) (new_branches s.world.own.number s.world.own b.next_thread bs))

    ended_so : (parent : Option ℕ) (e : Ending) (s : State) (b : Build) → Middle (with_head s.world.own.head t) (stopped_at s.world b).threads → AllSo (thread_ended parent t.own.number e s.world.own.head s.world.shared (stopped_at s.world b))
    ended_so None e s b m = script_so e s.world.own.head s.world.shared (stopped_at s.world b)
    ended_so (Some p) e s b m =
        with_all (WaitsSo g) (WaitsSo g) (joins t.own.number s.world.own.head (outcome_of e)) p
        (λ x is h. with_wait x _ (join_asks t.own.number s.world.own.head (outcome_of e) x.wait (stands g x) h.asks) h) (λ x never h. h) _
        (without_thread_all (Mid (WaitsSo g) t.own.number (with_head s.world.own.head t)) (WaitsSo g) t.own.number (λ x never mid. mid.others never) (stopped_at s.world b).threads m)

    asks_them : (asked : Asked) (bs : List Branch) (path : List _) (s : State) → stands g t ≡ Waits asked path s → asked ≡ For_branches bs → AsksBranches (stands g t)
    asks_them asked bs path s is same = subst AsksBranches (sym is) (subst (λ a. AsksBranches (Waits a path s)) (sym same) tt)

    stopped_so : (r : Result) → stands g t ≡ r → Owns g t.own.number t.own.calls r → (b : Build) → Middle t b.threads → AllSo (stopped g.limits t.parent t.own.number r b)
    stopped_so (Ended e s) is owns b m = ended_so t.parent e s b (headed s owns.number b m)
    stopped_so (Waits asked path s) is owns b m = asked_so asked s owns.number (λ bs same. asks_them asked bs path s is same) g.limits (stopped_at s.world b) (headed s owns.number b m)
    stopped_so (Limited k s) is owns b m = tt
    stopped_so Unfinished is owns b m = tt

  resumed_so : (b : Build) (x : Answer) (t : Thread) → WaitsSo g t → AllSo b → AllSo (resumed g (given_answer b.shared x t) b)
  resumed_so b x t h all =
      stopped_so (given_answer b.shared x t) h.parent (stands g (given_answer b.shared x t)) refl (turn_owns g t b.shared x)
      (record b { threads = with_thread (λ old. given_answer b.shared x t) t.own.number b.threads }) (mid_begins (WaitsSo g) (given_answer b.shared x t) b.threads all)

  abbrev TurnSo : Option Turn → Type 0
  TurnSo None = Unit {0}
  TurnSo (Some turn) = WaitsSo g turn.thread

  turn_so : (t : Thread) (w : Wait) (rest : Option Turn) → WaitsSo g t → TurnSo rest → TurnSo (turn_if t w rest)
  turn_so t (Ready x) rest h more = h
  turn_so t (RequestWait r) rest h more = more
  turn_so t (BranchesWait js) rest h more = more

  first_so : (ts : List Thread) → AllAre (WaitsSo g) ts → TurnSo (first_ready ts)
  first_so [] h = tt
  first_so (t ∷ ts) h = turn_so t t.wait (first_ready ts) h.0 (first_so ts h.1)

  taken_so : (n : ℕ) → ((b : Build) → AllSo b → AllSo (settle n g b)) → (b : Build) → AllSo b → (o : Option Turn) → TurnSo o → AllSo (take_turn (settle n g) g b o)
  taken_so n more b all None h = all
  taken_so n more b all (Some turn) h = more (resumed g (given_answer b.shared turn.answer turn.thread) b) (resumed_so b turn.answer turn.thread h all)

  settle_so : (n : ℕ) (b : Build) → AllSo b → AllSo (settle n g b)
  unfolding settle
  settle_so zero b all = all
  settle_so (suc n) b all = taken_so n (settle_so n) b all (first_ready b.threads) (first_so b.threads all)

  ready_so : (n : ℕ) (x : Answer) (b : Build) → AllSo b → AllSo (ready n x b)
  ready_so n x b all = with_all (WaitsSo g) (WaitsSo g) (waits_as (Ready x)) n (λ t at h. with_wait t (Ready x) tt h) (λ t never h. h) b.threads all

  output_so : (task : ℕ) (stream : Stream) (bytes : List ℕ) (b : Build) → AllSo b → AllSo (output g.limits task stream bytes b)
  output_so task LogStream bytes b all = one (nat_lt g.limits.log (length b.shared.log + length bytes))
    where
      one : (x : Bool) → AllSo (if x then limit_met LogSize b.shared b else record b { shared = change_request (with_taken (length bytes)) task (record b.shared { log = raw bytes b.shared.log }) })
      one true = tt
      one false = all
  output_so task OutStream bytes b all = one (nat_lt g.limits.values.text (length (kept_output (request_of b.shared.requests task)) + length bytes))
    where
      one : (x : Bool) → AllSo (if x then limit_met TextLength b.shared b else record b { shared = change_request (with_kept bytes) task b.shared })
      one true = tt
      one false = all

  changed_so : (e : Event) (b : Build) → AllSo b → AllSo (changed_by g e b)
  changed_so (StartEvent script agents) b all = (record { parent = tt; asks = tt }, tt)
  changed_so (GrantedEvent request executor) b all = ready_so _ _ b all
  changed_so (OutputEvent task stream from bytes) b all = output_so task stream bytes b all
  changed_so (ExitedEvent task code) b all = ready_so _ _ b all
  changed_so (LostEvent task why) b all = ready_so _ _ b all
  changed_so (DecidedEvent request proceed name) b all = ready_so _ _ b all

  event_so : (b : Build) (e : Event) (x : Taken) → AllSo b → AllSo (after_event g b e x)
  event_so b e Accepted all = settle_so (turn_bound g.limits) (changed_by g e (uncounted b)) (changed_so e (uncounted b) all)
  event_so b e NotOpen all = all
  event_so b e (WrongPlace kept) all = all
  event_so b e Finished all = all

  fold_so : (b : Build) (es : List Event) → AllSo b → AllSo (fold (after_one g) b es)
  fold_so b [] all = all
  fold_so b (e ∷ es) all = fold_so (after_one g b e) es (event_so b e (answer_to g b e) all)

  pub world_so : (events : List Event) → AllAre (WaitsSo g) (world_in g events).threads
  world_so events = fold_so unbegun events tt
