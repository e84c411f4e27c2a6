-- What each event leaves: a later shared state, in which open requests go on and fit.
use Rattle.std.proofs.Common.{arith, ◌≡◌, ◌+◌, ◌∙◌, ap, refl, sym, subst, inl, inr, ℕ, zero, suc, Bool, true, false, fold, List, [], ◌∷◌, ◌++◌, map, length, Option, Some, None}
use Rattle.std.specs.Prelude.{if◌then◌else◌, nat_eq, nat_lt, not, ◌||◌, find, option_map, slice_get}
use Rattle.std.proofs.lemmas.Bool.{eqb-true, eqb-false}
use Rattle.std.specs.List.{AllByRecursion as AllAre}
use Rattle.model_syntax.specs.Nodes.{Node}
use Rattle.model_values.specs.Later.{CellsLater}
use Rattle.model_values.specs.Limits.{limit_line}
use Rattle.model_values.proofs.LaterLaws.{later_itself}
use Rattle.model_run.specs.ValueTypes.{Cell, LimitKind, TextLength, LogSize, GreenThreads}
use Rattle.model_run.specs.RunTypes.{Answer, BuildResult, Failure, Wait, Ready, RequestWait, BranchesWait, Event, StartEvent, GrantedEvent, OutputEvent, ExitedEvent, LostEvent, DecidedEvent, Stream, LogStream, OutStream, Taken, Accepted, NotOpen, WrongPlace, Finished, Executor, Held, Request, NodeRequest, TaskRequest, InputRequest, OpenRequest}
use Rattle.model_run.specs.Terms.{Term, term, term_at, part_of}
use Rattle.model_run.specs.State.{RunLimits, Setting, Common, Own, Reply, State, Ending, Normal, Thrown, Returned, Broke, Continued, Declared, Answered, Frame, Asked, For_request, For_branches, Branch, Result, Ended, Waits, Limited, Unfinished}
use Rattle.model_run.specs.Around.{Turn as Turns, Body, Shape}
use Rattle.model_run.specs.Grants.{executor_of, is_held, workspace_number}
use Rattle.model_run.specs.Below.{Small, with_answer}
use Rattle.model_run.specs.Fitting.{Later, Some_of}
use Rattle.model_run.specs.FlowNodes.{IsFront}
use Rattle.model_run.specs.LogText.{raw}
use Rattle.model_run.specs.Meaning.{shape_of, fuel, around, continue, unwind}
use Rattle.model_run.specs.Nesting.{FrameFits, MeetsRow, Nested, anything}
use Rattle.model_run.specs.Results.{worse}
use Rattle.model_run.specs.Since.{Follows, Since, StopsSince, Continues}
use Rattle.model_run.specs.Taking.{Standing, request_of, granted, may_get, accepted_if}
use Rattle.model_run.specs.Threads.{Runs, Thread, stands, stands_from}
use Rattle.model_run.specs.Waiting.{Stood}
use Rattle.model_run.specs.World.{Build, unbegun, begun, standing, end_node, finished, uncaught, uncaught_result, script_ended, limit_met, forked, forks, thread_ended, stopped_at, asked_by, stopped, given_answer, with_thread, resumed, Turn, turn_if, first_ready, take_turn, settle, turn_bound, uncounted, changed_by, held_as, without_request, change_if, kept_output, with_taken, with_kept, change_request, output, after_event, after_one, answer_to, world_in}
use Rattle.model_run.specs.Requests.{SameRequest, RequestsFit}
use Rattle.model_run.proofs.Asking.{asks_nothing, keeps_same}
use Rattle.model_run.proofs.RequestLaws.{goes_on_itself, goes_on_if, goes_on_then, all_open, asks_go_on, asks_fit, close_goes_on, close_fits, grant_fits, change_goes_on, change_fits, taken_same, kept_same}
use Rattle.model_run.proofs.Under.{first_of_both}
use Rattle.model_run.proofs.AmongLaws.{among_itself, among_on, among_same}
use Rattle.model_run.proofs.Front.{front_itself, front_same, front_new, front_on, front_ended}
use Rattle.model_run.proofs.Relation.{Agree}
use Rattle.model_run.proofs.FormLaws.{after_law}
use Rattle.model_run.proofs.PathLaws.{PathFrom, outer_spot, stands_paths}
use Rattle.model_run.proofs.SinceLaws.{shared_itself, shared_on, follows_itself, since_relation, plain_since, since_through, ev_since, stands_since}
use Rattle.model_run.proofs.Structure.{thread_goes_on}
use Rattle.model_run.proofs.WaitingLaws.{given_stood, changed_stood, event_stood, world_stood}
use Rattle.model_run.proofs.WorldLaws.{frames_fit}

-- A path goes on to a later state.
module _ (root : Term) (n : ℕ) (u : Common) (rs : List Reply) where
  around_since : (t : Term) (sh : Shape) (k : ℕ) → Agree (since_relation u rs) sh k (around root n t) (around root n t)
  around_since t sh k = record {
    parts = λ e part i env s s' q. ev_since root (suc n) e (part_of root t i) env s u rs q;
    agains = λ i kept env s s' q. ev_since root n (Turns i kept) t env s u rs q;
    calls = λ c args env s s' q. ev_since root n (Body args) (term_at root c) env s u rs q;
    fits = λ f at m. tt;
    stands = λ f at own m. tt;
    passed = λ w pass r r' q. q;
    called = λ at r r' q. q;
  }

  continue_since : (f : Frame) → MeetsRow anything (shape_of (term_at root f.node)) f → (e : Ending) (s : State) → Since u rs s → StopsSince u rs (continue root n f e s)
  unfolding continue
  continue_since f meets e s q = after_law (since_relation u rs) (λ s s' q. q) (plain_since u rs).closes (shape_of (term_at root f.node)) (around root n (term_at root f.node)) (around root n (term_at root f.node)) f meets (around_since (term_at root f.node) (shape_of (term_at root f.node)) f.node) e s s q

  unwind_since : (fs : List Frame) → AllAre (FrameFits anything root) fs → (r : Result) → StopsSince u rs r → StopsSince u rs (unwind root n fs r)
  unfolding unwind
  unwind_since [] h r q = q
  unwind_since (f ∷ fs) h r q = since_through u rs f (continue root n f) (λ e s q. continue_since f (h.0).meets e s q) (unwind root n fs r) (unwind_since fs h.1 r q)

-- What an accepted event says.
pub accepted_answer : (ended started : Bool) (a f : Taken) → (f ≡ Accepted → ⊥) → (if ended then Finished else if started then a else f) ≡ Accepted → a ≡ Accepted
accepted_answer true started a f never e = absurd (cc)
accepted_answer false true a f never e = e
accepted_answer false false a f never e = absurd (never e)

pub if_accepted : (b : Bool) → accepted_if b ≡ Accepted → b ≡ true
if_accepted true e = refl
if_accepted false e = absurd (cc)

pub accepted_grant : (s : Standing) (executor : ℕ) (o : Option Request) → granted s executor o ≡ Accepted → (label : Option (List ℕ)) × (o ≡ Some (NodeRequest label)) × (may_get label s.held (executor_of s.site executor) ≡ true)
accepted_grant s executor (Some (NodeRequest label)) e = (label, refl, if_accepted _ e)
accepted_grant s executor (Some (TaskRequest x w f env script st k t o)) e = absurd (cc)
accepted_grant s executor (Some (InputRequest id)) e = absurd (cc)
accepted_grant s executor None e = absurd (cc)

pub open_of : (n : ℕ) (rs : List OpenRequest) (q : Request) → request_of rs n ≡ Some q → Some_of (λ r. r.number ≡ n) rs
open_of n [] q e = absurd (cc)
open_of n (r ∷ rs) q e = one (nat_eq r.number n) refl e (open_of n rs q)
  where
    one : (b : Bool) → nat_eq r.number n ≡ b → option_map (λ x. x.request) (if b then Some r else find (λ x. nat_eq x.number n) rs) ≡ Some q → (request_of rs n ≡ Some q → Some_of (λ x. x.number ≡ n) rs) → Some_of (λ x. x.number ≡ n) (r ∷ rs)
    one true same e more = inl (eqb-true _ _ same)
    one false other e more = inr (more e)

found_number : (n : ℕ) (xs : List Executor) (x : Executor) → find (λ y. nat_eq y.number n) xs ≡ Some x → x.number ≡ n
found_number n [] x e = absurd (cc)
found_number n (y ∷ xs) x e = one (nat_eq y.number n) refl e (found_number n xs x)
  where
    one : (b : Bool) → nat_eq y.number n ≡ b → (if b then Some y else find (λ z. nat_eq z.number n) xs) ≡ Some x → (find (λ z. nat_eq z.number n) xs ≡ Some x → x.number ≡ n) → x.number ≡ n
    one true same e more = let is : y ≡ x = cc in subst (λ (z : Executor). z.number ≡ n) is (eqb-true _ _ same)
    one false other e more = more e

not_held : (n : ℕ) (xs : List Held) → not (is_held xs n) ≡ true → AllAre (λ h. h.executor ≡ n → ⊥) xs
not_held n [] e = tt
not_held n (x ∷ xs) e = one (nat_eq x.executor n) refl e (not_held n xs)
  where
    one : (b : Bool) → nat_eq x.executor n ≡ b → not (b || is_held xs n) ≡ true → (not (is_held xs n) ≡ true → AllAre (λ h. h.executor ≡ n → ⊥) xs) → AllAre (λ h. h.executor ≡ n → ⊥) (x ∷ xs)
    one true same e more = absurd (cc)
    one false other e more = (eqb-false _ _ other, more e)

module _ (setting : Setting) (p : Node) (e : setting.script ≡ term 0 p) (small : Small setting) where
  -- a thread that waits and gets an answer stops later than the shared state with which the answer comes
  answered_since : (runs : Runs) (own : Own) (first : Reply) (rs : List Reply) (asked : Asked) (path : List Frame) (s : State) → stands_from setting runs own (first ∷ rs) ≡ Waits asked path s → (r : Reply) → StopsSince r.shared [] (stands_from setting runs own (first ∷ (rs ++ r ∷ [])))
  answered_since runs own first rs asked path s waits r =
      let on : stands_from setting runs own (first ∷ (rs ++ r ∷ [])) ≡ with_answer setting.script (fuel (length (rs ++ r ∷ []))) r (Waits asked path s) = thread_goes_on setting p e small runs own first rs r ∙ ap (with_answer setting.script (fuel (length (rs ++ r ∷ []))) r) waits in
      let nested : Nested setting.script (outer_spot runs) path asked = subst (PathFrom setting.script (outer_spot runs)) waits (stands_paths setting p e runs own first rs) in
      subst (StopsSince r.shared []) (sym on) (unwind_since setting.script (fuel (length (rs ++ r ∷ []))) r.shared [] path (frames_fit setting.script (outer_spot runs) path asked nested) _ (refl, follows_itself r.shared))

  given_since : (t : Thread) (hs : List Reply) → t.history ≡ hs → Stood setting t → (u : Common) (x : Answer) → StopsSince u [] (stands setting (given_answer u x t))
  given_since t [] h st u x =
      let r : Reply = record { shared = u; answer = x } in
      subst (λ (hs : List Reply). StopsSince u [] (stands_from setting t.runs t.own (hs ++ (record { shared = u; answer = x }) ∷ []))) (sym h) (stands_since setting t.runs t.own (record { shared = u; answer = x }) [])
  given_since t (first ∷ rs) h st u x = elim st.is [
    | inl new ↦ (let none : first ∷ rs ≡ [] = sym h ∙ new.none in absurd (cc))
    | inr w ↦ subst (λ (hs : List Reply). StopsSince u [] (stands_from setting t.runs t.own (hs ++ (record { shared = u; answer = x }) ∷ []))) (sym h)
        (answered_since t.runs t.own first rs w.asked w.path w.state (sym (ap (stands_from setting t.runs t.own) h) ∙ w.stands_so) (record { shared = u; answer = x }))
  ]

  -- What a build does with a thread that has stopped.
  abbrev pub GoesTo : Common → Common → Type 0
  GoesTo u v = Continues setting.site u v

  pub goes_itself : (u : Common) → GoesTo u u
  goes_itself u = record { later = shared_itself u; log = front_itself u.log; binding = among_itself u.binding; requests = goes_on_itself u; fit = λ h. h }

  pub goes_then : (u v w : Common) → GoesTo u v → GoesTo v w → GoesTo u w
  goes_then u v w h k = record { later = shared_on u v w h.later k.later; log = front_on u.log v.log w.log h.log k.log; binding = among_on u.binding v.binding w.binding h.binding k.binding; requests = goes_on_then u v w h.requests k.requests; fit = λ x. k.fit (h.fit x) }

  goes_as : (u v : Common) → Follows u v → GoesTo u v
  goes_as u v f = record { later = f.later; log = f.log; binding = f.binding; requests = asks_go_on u v f.asks; fit = asks_fit setting.site u v f.asks f.held }

  goes_finished : (u : Common) (heads : List ℕ) (causes : List (List ℕ)) (result : BuildResult) → GoesTo u (finished heads causes result u)
  goes_finished u heads causes result = record {
    later = record { cells = later_itself u.cells; nodes = front_new u.nodes (end_node u heads) };
    log = front_ended causes result u.log;
    binding = among_itself u.binding;
    requests = record { next = omega arith; were = tt };
    fit = λ h. record { some = h.some; requests = tt; rising = tt; held = tt; differ = tt };
  }

  goes_to_limit : (k : LimitKind) (u v : Common) (b : Build) → GoesTo u v → GoesTo u (limit_met k v b).shared
  goes_to_limit k u v b f = goes_then u v _ f (goes_finished v (map (λ t. t.head) b.threads) (limit_line k ∷ []) (worse v.result Failure))

  goes_to_end : (x : Ending) (head : ℕ) (u v : Common) (b : Build) → GoesTo u v → GoesTo u (script_ended x head v b).shared
  goes_to_end (Normal y) head u v b f = goes_then u v _ f (goes_finished v (head ∷ []) [] v.result)
  goes_to_end (Thrown c) head u v b f = goes_then u v _ f (goes_finished v (head ∷ []) (uncaught (slice_get v.cells c)) (worse v.result (uncaught_result (slice_get v.cells c))))
  goes_to_end (Returned y) head u v b f = goes_then u v _ f (goes_finished v (head ∷ []) [] v.result)
  goes_to_end Broke head u v b f = goes_then u v _ f (goes_finished v (head ∷ []) [] v.result)
  goes_to_end Continued head u v b f = goes_then u v _ f (goes_finished v (head ∷ []) [] v.result)
  goes_to_end (Declared y) head u v b f = goes_then u v _ f (goes_finished v (head ∷ []) [] v.result)
  goes_to_end (Answered y) head u v b f = goes_then u v _ f (goes_finished v (head ∷ []) [] v.result)

  ended_goes : (parent : Option ℕ) (n : ℕ) (x : Ending) (head : ℕ) (u v : Common) (b : Build) → GoesTo u v → GoesTo u b.shared → GoesTo u (thread_ended parent n x head v b).shared
  ended_goes None n x head u v b f g = goes_to_end x head u v b f
  ended_goes (Some parent) n x head u v b f g = g

  forks_go : (limits : RunLimits) (n : ℕ) (own : Own) (bs : List Branch) (u : Common) (b : Build) → GoesTo u b.shared → GoesTo u (forks limits n own bs b).shared
  forks_go limits n own bs u b f = one (nat_lt limits.threads (length b.threads + length bs))
    where
      one : (past : Bool) → GoesTo u (if past then limit_met GreenThreads b.shared b else forked n own bs b).shared
      one true = goes_to_limit GreenThreads u b.shared b f
      one false = f

  asked_goes : (limits : RunLimits) (s : State) (asked : Asked) (u : Common) (b : Build) → GoesTo u b.shared → GoesTo u (asked_by limits s.world asked b).shared
  asked_goes limits s (For_request r) u b f = f
  asked_goes limits s (For_branches bs) u b f = forks_go limits s.world.own.number s.world.own bs u b f

  stopped_goes : (limits : RunLimits) (parent : Option ℕ) (n : ℕ) (r : Result) (u : Common) (b : Build) → StopsSince u [] r → GoesTo u b.shared → GoesTo u (stopped limits parent n r b).shared
  stopped_goes limits parent n (Ended x s) u b q f = ended_goes parent n x s.world.own.head u s.world.shared (stopped_at s.world b) (goes_as u s.world.shared q.1) (goes_as u s.world.shared q.1)
  stopped_goes limits parent n (Waits asked path s) u b q f = asked_goes limits s asked u (stopped_at s.world b) (goes_as u s.world.shared q.1)
  stopped_goes limits parent n (Limited k s) u b q f = goes_to_limit k u s.world.shared (stopped_at s.world b) (goes_as u s.world.shared q.1)
  stopped_goes limits parent n Unfinished u b q f = f

  abbrev AllStand : Build → Type 0
  AllStand b = AllAre (Stood setting) b.threads

  abbrev TurnStands : Option Turn → Type 0
  TurnStands None = Unit {0}
  TurnStands (Some turn) = Stood setting turn.thread

  turn_stands : (t : Thread) (w : Wait) (rest : Option Turn) → Stood setting t → TurnStands rest → TurnStands (turn_if t w rest)
  turn_stands t (Ready x) rest st h = st
  turn_stands t (RequestWait r) rest st h = h
  turn_stands t (BranchesWait js) rest st h = h

  first_stands : (ts : List Thread) → AllAre (Stood setting) ts → TurnStands (first_ready ts)
  first_stands [] h = tt
  first_stands (t ∷ ts) h = turn_stands t t.wait (first_ready ts) h.0 (first_stands ts h.1)

  resumed_goes : (b : Build) (turn : Turn) → Stood setting turn.thread → GoesTo b.shared (resumed setting (given_answer b.shared turn.answer turn.thread) b).shared
  resumed_goes b turn st =
      stopped_goes setting.limits turn.thread.parent turn.thread.own.number (stands setting (given_answer b.shared turn.answer turn.thread)) b.shared
      (record b { threads = with_thread (λ old. given_answer b.shared turn.answer turn.thread) turn.thread.own.number b.threads })
      (given_since turn.thread turn.thread.history refl st b.shared turn.answer) (goes_itself b.shared)

  taken_goes : (n : ℕ) → ((b : Build) → AllStand b → GoesTo b.shared (settle n setting b).shared) → (b : Build) → AllStand b → (o : Option Turn) → TurnStands o → GoesTo b.shared (take_turn (settle n setting) setting b o).shared
  taken_goes n more b all None st = goes_itself b.shared
  taken_goes n more b all (Some turn) st =
      goes_then b.shared (resumed setting (given_answer b.shared turn.answer turn.thread) b).shared _ (resumed_goes b turn st)
      (more (resumed setting (given_answer b.shared turn.answer turn.thread) b) (given_stood setting b.shared turn.answer turn.thread turn.thread.history refl st.calls b all))

  pub settle_goes : (n : ℕ) (b : Build) → AllStand b → GoesTo b.shared (settle n setting b).shared
  unfolding settle
  settle_goes zero b all = goes_itself b.shared
  settle_goes (suc n) b all = taken_goes n (settle_goes n) b all (first_ready b.threads) (first_stands b.threads all)

  -- What an accepted event does before a thread goes on.
  later_same : (u v : Common) → v.cells ≡ u.cells → v.nodes ≡ u.nodes → Later u v
  later_same u v c n = record { cells = subst (λ (g : List Cell). CellsLater u.cells g) (sym c) (later_itself u.cells); nodes = front_same u.nodes v.nodes n }

  close_goes : (n : ℕ) (u : Common) → GoesTo u (without_request n u)
  close_goes n u = record { later = later_same u (without_request n u) refl refl; log = front_itself u.log; binding = among_itself u.binding; requests = close_goes_on n u; fit = close_fits setting.site n u }

  change_goes : (g : Request → Request) → ((r : Request) → SameRequest r (g r)) → (n : ℕ) (u v : Common) → v.cells ≡ u.cells → v.nodes ≡ u.nodes → IsFront u.log v.log → v.binding ≡ u.binding → v.next_request ≡ u.next_request → v.requests ≡ map (change_if g n) u.requests → v.held ≡ u.held → GoesTo u v
  change_goes g same n u v c ns log b next rs held = record { later = later_same u v c ns; log = log; binding = among_same u.binding v.binding b; requests = change_goes_on g same n u v next rs; fit = change_fits g setting.site n u v next rs held }

  output_goes : (task : ℕ) (stream : Stream) (bytes : List ℕ) (b : Build) → GoesTo b.shared (output setting.limits task stream bytes b).shared
  output_goes task LogStream bytes b = one (nat_lt setting.limits.log (length b.shared.log + length bytes))
    where
      one : (past : Bool) → GoesTo b.shared (if past then limit_met LogSize b.shared b else record b { shared = change_request (with_taken (length bytes)) task (record b.shared { log = raw bytes b.shared.log }) }).shared
      one true = goes_to_limit LogSize b.shared b.shared b (goes_itself b.shared)
      one false = change_goes (with_taken (length bytes)) (taken_same (length bytes)) task b.shared (change_request (with_taken (length bytes)) task (record b.shared { log = raw bytes b.shared.log })) refl refl (bytes, refl) refl refl refl refl
  output_goes task OutStream bytes b = one (nat_lt setting.limits.values.text (length (kept_output (request_of b.shared.requests task)) + length bytes))
    where
      one : (past : Bool) → GoesTo b.shared (if past then limit_met TextLength b.shared b else record b { shared = change_request (with_kept bytes) task b.shared }).shared
      one true = goes_to_limit TextLength b.shared b.shared b (goes_itself b.shared)
      one false = change_goes (with_kept bytes) (kept_same bytes) task b.shared (change_request (with_kept bytes) task b.shared) refl refl (front_itself b.shared.log) refl refl refl refl

  -- a grant that is accepted: its request is open, and its executor is one of the site's and not held
  grants : (request executor : ℕ) (label : Option (List ℕ)) (u : Common) → Some_of (λ r. r.number ≡ request) u.requests → (o : Option Executor) → executor_of setting.site executor ≡ o → may_get label u.held o ≡ true → GoesTo u (without_request request (held_as setting.site request executor o u))
  grants request executor label u were None found may = absurd (cc)
  grants request executor label u were (Some x) found may =
      let y : Held = record { executor = executor; request = request; workspace = workspace_number setting.site u.held x } in
      let free : AllAre (λ (h : Held). h.executor ≡ executor → ⊥) u.held = not_held executor u.held (subst (λ n. not (is_held u.held n) ≡ true) (found_number executor setting.site.executors x found) (first_of_both _ _ may)) in
      record {
        later = later_same u (without_request request (held_as setting.site request executor (Some x) u)) refl refl;
        log = front_itself u.log;
        binding = among_itself u.binding;
        requests = goes_on_then u (without_request request u) (without_request request (held_as setting.site request executor (Some x) u)) (close_goes_on request u) (goes_on_if (without_request request u) (without_request request (held_as setting.site request executor (Some x) u)) (omega arith) (all_open (without_request request u).requests));
        fit = grant_fits setting.site (record { executor = executor; request = request; workspace = workspace_number setting.site u.held x }) u (λ none. (let no : None ≡ Some x = sym none ∙ found in absurd (cc))) were free;
      }

  -- every event but `Start`
  abbrev pub Goes_on : Event → Type 0
  Goes_on (StartEvent script agents) = ⊥
  Goes_on x = Unit {0}

  pub changed_goes : (x : Event) → Goes_on x → (b : Build) → answer_to setting b x ≡ Accepted → GoesTo b.shared (changed_by setting x b).shared
  changed_goes (StartEvent script agents) on b a = absurd on
  changed_goes (GrantedEvent request executor) on b a =
      let w = accepted_grant (standing setting b) executor (request_of b.shared.requests request) (accepted_answer b.ended b.started (granted (standing setting b) executor (request_of b.shared.requests request)) NotOpen (λ no. absurd (cc)) a) in
      grants request executor w.0 b.shared (open_of request b.shared.requests (NodeRequest w.0) w.1) (executor_of setting.site executor) refl w.2
  changed_goes (OutputEvent task stream from bytes) on b a = output_goes task stream bytes b
  changed_goes (ExitedEvent task code) on b a = close_goes task b.shared
  changed_goes (LostEvent task why) on b a = close_goes task b.shared
  changed_goes (DecidedEvent request proceed name) on b a = close_goes request b.shared

  pub uncounted_goes : (b : Build) → GoesTo b.shared (uncounted b).shared
  uncounted_goes b = goes_as b.shared (uncounted b).shared (record { later = later_same b.shared (uncounted b).shared refl refl; log = front_itself b.shared.log; binding = among_itself b.shared.binding; asks = asks_nothing b.shared (uncounted b).shared refl refl; held = keeps_same b.shared.held b.shared.held refl })

  event_goes : (b : Build) → AllStand b → (x : Event) → Goes_on x → (answer : Taken) → answer_to setting b x ≡ answer → GoesTo b.shared (after_event setting b x answer).shared
  event_goes b all x on Accepted a =
      goes_then b.shared (changed_by setting x (uncounted b)).shared _
      (goes_then b.shared (uncounted b).shared _ (uncounted_goes b) (changed_goes x on (uncounted b) a))
      (settle_goes (turn_bound setting.limits) (changed_by setting x (uncounted b)) (changed_stood setting x (uncounted b) all))
  event_goes b all x on NotOpen a = goes_itself b.shared
  event_goes b all x on (WrongPlace kept) a = goes_itself b.shared
  event_goes b all x on Finished a = goes_itself b.shared

  -- a build that has begun takes no second `Start`
  start_goes : (b : Build) (x : Event) (ended started : Bool) → started ≡ true → GoesTo b.shared (after_event setting b x (if ended then Finished else if started then NotOpen else Accepted)).shared
  start_goes b x true started s = goes_itself b.shared
  start_goes b x false true s = goes_itself b.shared
  start_goes b x false false s = absurd (cc)

  pub one_goes : (b : Build) → AllStand b → b.started ≡ true → (x : Event) → GoesTo b.shared (after_one setting b x).shared
  one_goes b all s (StartEvent script agents) = start_goes b (StartEvent script agents) b.ended b.started s
  one_goes b all s (GrantedEvent request executor) = event_goes b all (GrantedEvent request executor) tt (answer_to setting b (GrantedEvent request executor)) refl
  one_goes b all s (OutputEvent task stream from bytes) = event_goes b all (OutputEvent task stream from bytes) tt (answer_to setting b (OutputEvent task stream from bytes)) refl
  one_goes b all s (ExitedEvent task code) = event_goes b all (ExitedEvent task code) tt (answer_to setting b (ExitedEvent task code)) refl
  one_goes b all s (LostEvent task why) = event_goes b all (LostEvent task why) tt (answer_to setting b (LostEvent task why)) refl
  one_goes b all s (DecidedEvent request proceed name) = event_goes b all (DecidedEvent request proceed name) tt (answer_to setting b (DecidedEvent request proceed name)) refl

  -- the first `Start`
  abbrev Fit : Build → Type 0
  Fit b = RequestsFit setting.site b.shared

  start_fits : (b : Build) → AllStand b → Fit b → (script agents : List ℕ) (ended started : Bool) → Fit (after_event setting b (StartEvent script agents) (if ended then Finished else if started then NotOpen else Accepted))
  start_fits b all fit script agents true started = fit
  start_fits b all fit script agents false true = fit
  start_fits b all fit script agents false false =
      (settle_goes (turn_bound setting.limits) begun (changed_stood setting (StartEvent script agents) (uncounted b) all)).fit (record { some = omega arith; requests = tt; rising = tt; held = tt; differ = tt })

  one_fits : (b : Build) → AllStand b → Fit b → (x : Event) → Fit (after_one setting b x)
  one_fits b all fit (StartEvent script agents) = start_fits b all fit script agents b.ended b.started
  one_fits b all fit (GrantedEvent request executor) = (event_goes b all (GrantedEvent request executor) tt (answer_to setting b (GrantedEvent request executor)) refl).fit fit
  one_fits b all fit (OutputEvent task stream from bytes) = (event_goes b all (OutputEvent task stream from bytes) tt (answer_to setting b (OutputEvent task stream from bytes)) refl).fit fit
  one_fits b all fit (ExitedEvent task code) = (event_goes b all (ExitedEvent task code) tt (answer_to setting b (ExitedEvent task code)) refl).fit fit
  one_fits b all fit (LostEvent task why) = (event_goes b all (LostEvent task why) tt (answer_to setting b (LostEvent task why)) refl).fit fit
  one_fits b all fit (DecidedEvent request proceed name) = (event_goes b all (DecidedEvent request proceed name) tt (answer_to setting b (DecidedEvent request proceed name)) refl).fit fit

  fold_fits : (b : Build) → AllStand b → Fit b → (es : List Event) → Fit (fold (after_one setting) b es)
  fold_fits b all fit [] = fit
  fold_fits b all fit (e ∷ es) = fold_fits (after_one setting b e) (event_stood setting b e (answer_to setting b e) all) (one_fits b all fit e) es

  -- In every world open requests have rising numbers below the next one, and each held executor is one of the site's and has a request of
  -- its own, which is no longer open.
  pub world_requests : (events : List Event) → RequestsFit setting.site (world_in setting events).shared
  world_requests events = fold_fits unbegun tt (record { some = omega arith; requests = tt; rising = tt; held = tt; differ = tt }) events

  pub fold_behind : (b : Build) (es : List Event) (x : Event) → fold (after_one setting) b (es ++ x ∷ []) ≡ after_one setting (fold (after_one setting) b es) x
  fold_behind b [] x = refl
  fold_behind b (y ∷ es) x = fold_behind (after_one setting b y) es x

  -- No event takes anything away from a build that has begun: cells only grow and each stays what it is, flow nodes and the log are only
  -- added to, and each request that is open was open before or has a new number.
  pub world_continues : (events : List Event) (x : Event) → (world_in setting events).started ≡ true → Continues setting.site (world_in setting events).shared (world_in setting (events ++ x ∷ [])).shared
  world_continues events x s = subst (λ (b : Build). Continues setting.site (world_in setting events).shared b.shared) (sym (fold_behind unbegun events x)) (one_goes (world_in setting events) (world_stood setting events) s x)
