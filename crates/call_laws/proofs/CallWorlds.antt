-- In every world what the steps and walks of each thread have called are closures.
use Rattle.std.proofs.Common.{◌≡◌, ◌∙◌, ◌+◌, ap, sym, subst, refl, inl, inr, ℕ, zero, suc, Bool, true, false, fold, List, [], ◌∷◌, ◌++◌, length, Option, Some, None}
use Rattle.std.specs.Prelude.{nat_lt, if◌then◌else◌}
use Rattle.std.specs.List.{AllByRecursion as AllAre}
use Rattle.model_syntax.specs.declared.tree.Tree.{Tree}
use Rattle.model_syntax.specs.TreeNodes.{tree_node}
use Rattle.model_values.specs.declared.cell.Cell.{Cell}
use Rattle.model_values.specs.declared.limit.LimitKind.TheVariants.{GreenThreads, LogSize, TextLength}
use Rattle.model_values.proofs.LaterLaws.{later_itself}
use Rattle.model_run.specs.LogText.{raw}
use Rattle.model_run.specs.Taking.{request_of}
use Rattle.model_run.specs.declared.wait.Answer.{Answer}
use Rattle.model_run.specs.declared.wait.Answer.TheVariants.{Granted as GrantedAnswer, Done, Decided as DecidedAnswer}
use Rattle.model_run.specs.declared.wait.Wait.{Wait}
use Rattle.model_run.specs.declared.wait.Wait.TheVariants.{Ready, Request as RequestWait, Branches as BranchesWait}
use Rattle.model_run.specs.declared.event.Event.{Event}
use Rattle.model_run.specs.declared.event.Event.TheVariants.{Start as StartEvent, Granted as GrantedEvent, Output as OutputEvent, Exited as ExitedEvent, Lost as LostEvent, Decided as DecidedEvent}
use Rattle.model_run.specs.declared.event.Stream.{Stream}
use Rattle.model_run.specs.declared.event.Stream.TheVariants.{Log as LogStream, Out as OutStream}
use Rattle.model_run.specs.declared.taken.Taken.{Taken}
use Rattle.model_run.specs.declared.taken.Taken.TheVariants.{Accepted, NotOpen, WrongPlace, Finished}
use Rattle.model_run.specs.declared.ending.Ending.{Ending}
use Rattle.model_run.specs.declared.ending.Ending.TheVariants.{Normal, Thrown, Returned, Broke, Continued, Declared, Answered}
use Rattle.model_run.specs.declared.ending.Entry.TheVariants.{First, Branched}
use Rattle.model_run.specs.declared.ending.Branch.{Branch}
use Rattle.model_run.specs.declared.ending.Asked.{Asked}
use Rattle.model_run.specs.declared.ending.Asked.TheVariants.{ForRequest as For_request, ForBranches as For_branches}
use Rattle.model_run.specs.declared.frame.Frame.{Frame}
use Rattle.model_run.specs.Below.{Small, with_answer}
use Rattle.model_run.specs.Meaning.{fuel}
use Rattle.model_run.specs.Nesting.{Begun, Nested, CallsClosures}
use Rattle.model_run.specs.State.{RunLimits, Setting, Common, Own, Reply, State, Result, Ended, Waits, Limited, Unfinished}
use Rattle.model_run.specs.Terms.{term, term_at}
use Rattle.model_run.specs.Threads.{Runs, Script, Closure, Thread, stands, stands_from}
use Rattle.model_run.specs.Waiting.{Stood}
use Rattle.model_run.specs.World.{Build, unbegun, with_thread, waits_as, with_head, ready, branch_threads, joins_of, forked, forks, limit_met, joins, outcome_of, thread_ended, script_ended, stopped_at, asked_by, stopped, given_answer, resumed, Turn, first_ready, turn_if, take_turn, settle, turn_bound, uncounted, changed_by, grant_to, without_request, thread_of, kept_output, lost_code, with_taken, with_kept, change_request, output, after_event, after_one, answer_to, world_in}
use Rattle.model_run.proofs.Found.{term_found}
use Rattle.model_run.proofs.PathLaws.{PathFrom, outer_spot, stands_paths}
use Rattle.model_run.proofs.Structure.{thread_goes_on}
use Rattle.model_run.proofs.WaitingLaws.{with_all, given_stood, changed_stood, event_stood}
use Rattle.model_run.proofs.WorldLaws.{frames_fit, frames_chained}
use Rattle.run_laws.specs.Bounds.{Narrow}
use Rattle.model_values.specs.Fitting.{CellsFit}
use Rattle.model_run.specs.Fitting.{closure_rule}
use Rattle.run_laws.specs.Soundness.{Base}
use Rattle.run_laws.specs.Evaluation.{AnswerThere, HoldsAt}
use Rattle.run_laws.specs.Worlds.{SoundThread}
use Rattle.run_laws.proofs.SoundThreads.{going_on, waits_block, script_facts}
use Rattle.run_laws.proofs.SoundWorlds.{AllSound, AllStand, TurnSound, without_thread_all, all_more, given_runs, resumed_sound, first_sound, aside, changed_sound, event_sound}
use Rattle.run_laws.proofs.EventBounds.{bounds_uncounted}
use Rattle.call_laws.specs.Entering.{ComesTo, PathCalls}
use Rattle.call_laws.proofs.Evaluations.{ev_comes}
use Rattle.call_laws.proofs.Continuations.{entered_closures, unwind_comes}
use Rattle.call_laws.proofs.CallSeats.{tree_found, tree_numbers}

module _ (g : Setting) (tree : Tree) (is : g.script ≡ term 0 (tree_node tree)) (small : Small g) (narrow : Narrow g.limits) where
  -- A thread as it begins, and as it goes on with an answer.
  begun_comes : (runs : Runs) (own : Own) (first : Reply) → ComesTo g.script first.shared.cells (outer_spot runs) (stands_from g runs own (first ∷ []))
  begun_comes Script own first = subst (λ n. ComesTo g.script first.shared.cells (Begun n) (stands_from g Script own (first ∷ []))) (script_facts g.script tree is).zero_first
      (ev_comes g.script (tree_found g.script tree is) (tree_numbers g.script tree is) (fuel 0) First g.script (tree_found g.script tree is) first.shared.cells [] (going_on g first.shared own) (refl, later_itself first.shared.cells))
  begun_comes (Closure k env start) own first = ev_comes g.script (tree_found g.script tree is) (tree_numbers g.script tree is) (fuel 0) (Branched start) (term_at g.script k) (term_found g.script (tree_found g.script tree is) k) first.shared.cells env (going_on g first.shared own) (refl, later_itself first.shared.cells)

  answered_comes : (runs : Runs) (own : Own) (first : Reply) (rs : List Reply) (r : Reply) (asked : Asked) (path : List Frame) (s : State) → stands_from g runs own (first ∷ rs) ≡ Waits asked path s → CallsClosures g.script (outer_spot runs) path → ComesTo g.script r.shared.cells (outer_spot runs) (stands_from g runs own (first ∷ (rs ++ r ∷ [])))
  answered_comes runs own first rs r asked path s stood calls =
      let nested : Nested g.script (outer_spot runs) path asked = subst (PathFrom g.script (outer_spot runs)) stood (stands_paths g (tree_node tree) is runs own first rs) in
      subst (ComesTo g.script r.shared.cells (outer_spot runs)) (sym (thread_goes_on g (tree_node tree) is small runs own first rs r ∙ ap (with_answer g.script (fuel (length (rs ++ r ∷ []))) r) stood))
      (unwind_comes g.script (tree_found g.script tree is) (tree_numbers g.script tree is) (fuel (length (rs ++ r ∷ []))) r.shared.cells (outer_spot runs) path (frames_chained g.script (outer_spot runs) path asked nested) (frames_fit g.script (outer_spot runs) path asked nested) calls
      (Ended (Answered r.answer) (record { world = record { setting = s.world.setting; shared = r.shared; own = s.world.own }; replies = [] })) (refl, later_itself r.shared.cells))

  -- where a thread waits soundly
  come_calls : (b : Base) (runs : Runs) (u : Common) (h : List Cell) → b.script ≡ g.script → (r : Result) → ComesTo g.script h (outer_spot runs) r → PathFrom g.script (outer_spot runs) r → HoldsAt b (outer_spot runs) u r → PathCalls g.script (outer_spot runs) r
  come_calls b runs u h same (Ended e s) comes path holds = tt
  come_calls b runs u h same (Waits asked path s) comes nested holds =
      entered_closures g.script s.world.shared.cells (subst (λ root. CellsFit (closure_rule root) s.world.shared.cells) same ((waits_block b runs u asked path s holds).0).sound.cells) (outer_spot runs) path
      asked (frames_fit g.script (outer_spot runs) path asked nested) comes.1
  come_calls b runs u h same (Limited k s) comes path holds = tt
  come_calls b runs u h same Unfinished comes path holds = tt

  abbrev pub ThreadCalls : Thread → Type 0
  ThreadCalls t = PathCalls g.script (outer_spot t.runs) (stands_from g t.runs t.own t.history)

  module _ (u : Common) (x : Answer) (t : Thread) where
    abbrev reply : Reply
    reply = record { shared = u; answer = x }

    given_paths : (hs : List Reply) → t.history ≡ hs → PathFrom g.script (outer_spot t.runs) (stands_from g t.runs t.own (t.history ++ reply ∷ []))
    given_paths [] e = subst (λ (hs : List Reply). PathFrom g.script (outer_spot t.runs) (stands_from g t.runs t.own (hs ++ reply ∷ []))) (sym e) (stands_paths g (tree_node tree) is t.runs t.own reply [])
    given_paths (first ∷ rs) e = subst (λ (hs : List Reply). PathFrom g.script (outer_spot t.runs) (stands_from g t.runs t.own (hs ++ reply ∷ []))) (sym e) (stands_paths g (tree_node tree) is t.runs t.own first (rs ++ reply ∷ []))

    given_comes : Stood g t → ThreadCalls t → (hs : List Reply) → t.history ≡ hs → ComesTo g.script u.cells (outer_spot t.runs) (stands_from g t.runs t.own (t.history ++ reply ∷ []))
    given_comes st calls [] e = subst (λ (hs : List Reply). ComesTo g.script u.cells (outer_spot t.runs) (stands_from g t.runs t.own (hs ++ reply ∷ []))) (sym e) (begun_comes t.runs t.own reply)
    given_comes st calls (first ∷ rs) e = elim st.is [
      | inl new ↦ (let none : first ∷ rs ≡ [] = sym e ∙ new.none in absurd (cc))
      | inr w ↦ subst (λ (hs : List Reply). ComesTo g.script u.cells (outer_spot t.runs) (stands_from g t.runs t.own (hs ++ reply ∷ []))) (sym e)
          (answered_comes t.runs t.own first rs reply w.asked w.path w.state (sym (ap (stands_from g t.runs t.own) e) ∙ w.stands_so) (subst (PathCalls g.script (outer_spot t.runs)) w.stands_so calls))
    ]

    given_calls : AnswerThere u x → SoundThread g u t → Stood g t → ThreadCalls t → ThreadCalls (given_answer u x t)
    given_calls there h st calls = come_calls _ t.runs u u.cells refl (stands g (given_answer u x t)) (given_comes st calls t.history refl) (given_paths t.history refl) (given_runs g tree is small narrow u x there t h st)

  -- What a build does with its threads.
  abbrev AllCall : Build → Type 0
  AllCall b = AllAre ThreadCalls b.threads

  -- a change of threads that leaves what they run and what they were given
  with_calls : (f : Thread → Thread) → ((t : Thread) → ThreadCalls t → ThreadCalls (f t)) → (n : ℕ) (ts : List Thread) → AllAre ThreadCalls ts → AllAre ThreadCalls (with_thread f n ts)
  with_calls f keeps n ts h = with_all ThreadCalls ThreadCalls f n (λ t at q. keeps t q) (λ t never q. q) ts h

  new_calls : (parent : ℕ) (own : Own) (n : ℕ) (bs : List Branch) → AllAre ThreadCalls (branch_threads parent own n bs)
  new_calls parent own n [] = tt
  new_calls parent own n (b ∷ bs) = (tt, new_calls parent own (suc n) bs)

  forks_call : (limits : RunLimits) (n : ℕ) (own : Own) (bs : List Branch) (b : Build) → AllCall b → AllCall (forks limits n own bs b)
  forks_call limits n own bs b h = one (nat_lt limits.threads (length b.threads + length bs))
    where
      one : (x : Bool) → AllCall (if x then limit_met GreenThreads b.shared b else forked n own bs b)
      one true = tt
      one false = all_more ThreadCalls (with_thread (waits_as (BranchesWait (joins_of b.next_thread bs))) n b.threads) (branch_threads n own b.next_thread bs) (with_calls (waits_as (BranchesWait (joins_of b.next_thread bs))) (λ t q. q) n b.threads h) (new_calls n own b.next_thread bs)

  asked_call : (limits : RunLimits) (s : State) (asked : Asked) (b : Build) → AllCall b → AllCall (asked_by limits s.world asked b)
  asked_call limits s (For_request r) b h = with_calls (waits_as (RequestWait r)) (λ t q. q) s.world.own.number b.threads h
  asked_call limits s (For_branches bs) b h = forks_call limits s.world.own.number s.world.own bs b h

  script_call : (e : Ending) (head : ℕ) (u : Common) (b : Build) → AllCall (script_ended e head u b)
  script_call (Normal v) head u b = tt
  script_call (Thrown c) head u b = tt
  script_call (Returned v) head u b = tt
  script_call Broke head u b = tt
  script_call Continued head u b = tt
  script_call (Declared x) head u b = tt
  script_call (Answered x) head u b = tt

  ended_call : (parent : Option ℕ) (n : ℕ) (e : Ending) (head : ℕ) (u : Common) (b : Build) → AllCall b → AllCall (thread_ended parent n e head u b)
  ended_call None n e head u b h = script_call e head u b
  ended_call (Some p) n e head u b h = with_calls (joins n head (outcome_of e)) (λ t q. q) p _ (without_thread_all ThreadCalls ThreadCalls n (λ t never q. q) b.threads h)

  stopped_call : (limits : RunLimits) (parent : Option ℕ) (n : ℕ) (r : Result) (b : Build) → AllCall b → AllCall (stopped limits parent n r b)
  stopped_call limits parent n (Ended e s) b h = ended_call parent n e s.world.own.head s.world.shared (stopped_at s.world b) (with_calls (with_head s.world.own.head) (λ t q. q) s.world.own.number b.threads h)
  stopped_call limits parent n (Waits asked path s) b h = asked_call limits s asked (stopped_at s.world b) (with_calls (with_head s.world.own.head) (λ t q. q) s.world.own.number b.threads h)
  stopped_call limits parent n (Limited k s) b h = tt
  stopped_call limits parent n Unfinished b h = tt

  abbrev TurnCalls : Option Turn → Type 0
  TurnCalls None = Unit {0}
  TurnCalls (Some turn) = ThreadCalls turn.thread

  turn_calls : (t : Thread) (w : Wait) (rest : Option Turn) → ThreadCalls t → TurnCalls rest → TurnCalls (turn_if t w rest)
  turn_calls t (Ready x) rest h more = h
  turn_calls t (RequestWait r) rest h more = more
  turn_calls t (BranchesWait js) rest h more = more

  first_calls : (ts : List Thread) → AllAre ThreadCalls ts → TurnCalls (first_ready ts)
  first_calls [] h = tt
  first_calls (t ∷ ts) h = turn_calls t t.wait (first_ready ts) h.0 (first_calls ts h.1)

  abbrev Stand : Build → Type 0
  Stand = AllStand g tree is small narrow

  abbrev Sounds : Build → Type 0
  Sounds = AllSound g tree is small narrow

  taken_call : (n : ℕ) → ((b : Build) → Stand b → Sounds b → AllCall b → AllCall (settle n g b)) → (b : Build) → Stand b → Sounds b → AllCall b → (o : Option Turn) → TurnSound g tree is small narrow b.shared o → TurnCalls o → AllCall (take_turn (settle n g) g b o)
  taken_call n more b st all calls None h q = calls
  taken_call n more b st all calls (Some turn) h q =
      more (resumed g (given_answer b.shared turn.answer turn.thread) b) (given_stood g b.shared turn.answer turn.thread turn.thread.history refl (h.2).calls b st)
      (resumed_sound g tree is small narrow b turn.answer turn.thread h.0 h.1 h.2 all)
      (stopped_call g.limits turn.thread.parent turn.thread.own.number (stands g (given_answer b.shared turn.answer turn.thread)) (record b { threads = with_thread (λ old. given_answer b.shared turn.answer turn.thread) turn.thread.own.number b.threads })
      (with_calls (λ old. given_answer b.shared turn.answer turn.thread) (λ t k. given_calls b.shared turn.answer turn.thread h.0 h.1 h.2 q) turn.thread.own.number b.threads calls))

  settle_calls : (n : ℕ) (b : Build) → Stand b → Sounds b → AllCall b → AllCall (settle n g b)
  unfolding settle
  settle_calls zero b st all calls = calls
  settle_calls (suc n) b st all calls = taken_call n (settle_calls n) b st all calls (first_ready b.threads) (first_sound g tree is small narrow b.shared b.threads all st) (first_calls b.threads calls)

  output_calls : (task : ℕ) (stream : Stream) (bytes : List ℕ) (b : Build) → AllCall b → AllCall (output g.limits task stream bytes b)
  output_calls task LogStream bytes b calls = one (nat_lt g.limits.log (length b.shared.log + length bytes))
    where
      one : (x : Bool) → AllCall (if x then limit_met LogSize b.shared b else record b { shared = change_request (with_taken (length bytes)) task (record b.shared { log = raw bytes b.shared.log }) })
      one true = tt
      one false = calls
  output_calls task OutStream bytes b calls = one (nat_lt g.limits.values.text (length (kept_output (request_of b.shared.requests task)) + length bytes))
    where
      one : (x : Bool) → AllCall (if x then limit_met TextLength b.shared b else record b { shared = change_request (with_kept bytes) task b.shared })
      one true = tt
      one false = calls

  ready_calls : (n : ℕ) (x : Answer) (b : Build) → AllCall b → AllCall (ready n x b)
  ready_calls n x b calls = with_calls (waits_as (Ready x)) (λ t q. q) n b.threads calls

  changed_calls : (e : Event) (b : Build) → AllCall b → AllCall (changed_by g e b)
  changed_calls (StartEvent script agents) b calls = (tt, tt)
  changed_calls (GrantedEvent request executor) b calls = ready_calls (thread_of request (grant_to g.site request executor b).shared.requests) (GrantedAnswer executor) (record (grant_to g.site request executor b) { shared = without_request request (grant_to g.site request executor b).shared }) calls
  changed_calls (OutputEvent task stream from bytes) b calls = output_calls task stream bytes b calls
  changed_calls (ExitedEvent task code) b calls = ready_calls (thread_of task b.shared.requests) (Done code (kept_output (request_of b.shared.requests task))) (record b { shared = without_request task b.shared }) calls
  changed_calls (LostEvent task why) b calls = ready_calls (thread_of task b.shared.requests) (Done (lost_code why) (kept_output (request_of b.shared.requests task))) (record b { shared = without_request task b.shared }) calls
  changed_calls (DecidedEvent request proceed name) b calls = ready_calls (thread_of request b.shared.requests) (DecidedAnswer proceed name) (record b { shared = without_request request b.shared }) calls

  event_calls : (b : Build) (e : Event) (x : Taken) → Stand b → Sounds b → AllCall b → AllCall (after_event g b e x)
  event_calls b e Accepted st all calls =
      settle_calls (turn_bound g.limits) (changed_by g e (uncounted b)) (changed_stood g e (uncounted b) st)
      (changed_sound g tree is small narrow e (uncounted b) (aside g tree is small narrow b.shared (uncounted b).shared refl refl refl (λ h. h) (bounds_uncounted false g.site b.shared) b.threads all)) (changed_calls e (uncounted b) calls)
  event_calls b e NotOpen st all calls = calls
  event_calls b e (WrongPlace kept) st all calls = calls
  event_calls b e Finished st all calls = calls

  fold_calls : (b : Build) (es : List Event) → Stand b → Sounds b → AllCall b → AllCall (fold (after_one g) b es)
  fold_calls b [] st all calls = calls
  fold_calls b (e ∷ es) st all calls = fold_calls (after_one g b e) es (event_stood g b e (answer_to g b e) st) (event_sound g tree is small narrow b e (answer_to g b e) st all) (event_calls b e (answer_to g b e) st all calls)

  -- Each thread of every world, after every list of events: where it waits, each step and each walk on its path has called a closure,
  -- and the body of a function stands only where a name may be called.
  pub world_calls : (events : List Event) → AllAre (λ t. PathCalls g.script (outer_spot t.runs) (stands g t)) (world_in g events).threads
  world_calls events = fold_calls unbegun events tt tt tt
