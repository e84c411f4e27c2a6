-- Each turn makes flow nodes for the turns that it brings about: so the turns of one event come to an end before its bound.
use Rattle.std.proofs.Common.{arith, ◌≡◌, ◌≤◌, ◌+◌, ◌-◌, ◌⊎◌, ◌∙◌, ap, sym, subst, refl, inl, inr, ℕ, zero, suc, Bool, true, false, List, [], ◌∷◌, ◌++◌, map, length, length-append, Option, Some, None}
use Rattle.std.specs.Prelude.{nat_lt, fold, if◌then◌else◌}
use Rattle.std.specs.List.{AllByRecursion as AllAre}
use Rattle.model_syntax.specs.declared.tree.Tree.{Tree}
use Rattle.model_syntax.specs.TreeNodes.{tree_node}
use Rattle.model_values.proofs.LaterLaws.{all_weaker}
use Rattle.model_values.specs.declared.limit.LimitKind.{LimitKind}
use Rattle.model_values.specs.declared.limit.LimitKind.TheVariants.{GreenThreads, LogSize, TextLength}
use Rattle.model_run.specs.declared.ending.Branch.{Branch}
use Rattle.model_run.specs.declared.ending.Ending.{Ending}
use Rattle.model_run.specs.declared.ending.Ending.TheVariants.{Normal, Thrown, Returned, Broke, Continued, Declared, Answered}
use Rattle.model_run.specs.declared.ending.Asked.TheVariants.{ForRequest as For_request, ForBranches as For_branches}
use Rattle.model_run.specs.declared.event.Event.{Event}
use Rattle.model_run.specs.declared.event.Event.TheVariants.{Start as StartEvent, Granted as GrantedEvent, Output as OutputEvent, Exited as ExitedEvent, Lost as LostEvent, Decided as DecidedEvent}
use Rattle.model_run.specs.declared.event.Stream.{Stream}
use Rattle.model_run.specs.declared.event.Stream.TheVariants.{Log as LogStream, Out as OutStream}
use Rattle.model_run.specs.declared.site.Executor.{Executor}
use Rattle.model_run.specs.declared.taken.Taken.{Taken}
use Rattle.model_run.specs.declared.taken.Taken.TheVariants.{Accepted, NotOpen, WrongPlace, Finished}
use Rattle.model_run.specs.declared.wait.Answer.{Answer}
use Rattle.model_run.specs.declared.wait.Answer.TheVariants.{Granted as GrantedAnswer, Done, Decided as DecidedAnswer}
use Rattle.model_run.specs.declared.wait.Wait.{Wait}
use Rattle.model_run.specs.declared.wait.Wait.TheVariants.{Ready, Request as RequestWait, Branches as BranchesWait}
use Rattle.model_run.specs.Below.{Small}
use Rattle.model_run.specs.Fitting.{Rise, Later, NotReady}
use Rattle.model_run.specs.Grants.{executor_of}
use Rattle.model_run.specs.LogText.{raw}
use Rattle.model_run.specs.Opened.{calls_of, Owns, OwnIs}
use Rattle.model_run.specs.State.{RunLimits, Setting, Common, State, Result, Ended, Waits, Limited, Unfinished}
use Rattle.model_run.specs.Taking.{request_of}
use Rattle.model_run.specs.Terms.{term}
use Rattle.model_run.specs.Threads.{Runs, Script, Closure, Thread, stands}
use Rattle.model_run.specs.World.{Build, end_node, unbegun, script_ended, limit_met, with_thread, waits_as, joins, join_wait, joins_of, outcome_of, branch_threads, forked, forks, thread_ended, stopped_at, stopped, given_answer, Turn, turn_if, first_ready, take_turn, settle, turn_bound, uncounted, changed_by, held_as, thread_of, kept_output, lost_code, with_taken, with_kept, change_request, output, after_event, after_one, answer_to, world_in}
use Rattle.model_run.proofs.Front.{front_length}
use Rattle.model_run.proofs.PathLaws.{outer_spot}
use Rattle.model_run.proofs.RequestLaws.{some_weaker}
use Rattle.run_laws.specs.Bounds.{Narrow}
use Rattle.run_laws.specs.Soundness.{Open, Base, Holds}
use Rattle.run_laws.specs.Evaluation.{HoldsAt, based}
use Rattle.run_laws.specs.Worlds.{begun_open}
use Rattle.run_laws.proofs.Flow.{left_later}
use Rattle.model_syntax.specs.declared.node.NodeForm.TheVariants as form
use Rattle.run_laws.proofs.SoundThreads.{waits_block}
use Rattle.run_laws.proofs.SoundWorlds.{mine_of, opens_at, given_runs}
use Rattle.world_laws.specs.Agreement.{Place, place_of, places, place_numbers, HasPlace}
use Rattle.world_laws.proofs.Places.{others, waiting, only_place, places_append}
use Rattle.world_laws.proofs.Turns.{places_head, places_waiting, places_without, places_given, turn_owns}
use Rattle.seat_laws.specs.Seats.{nodes_left, turns_to_come, branches_to_end, sum_of, Bounded, Rests}
use Rattle.seat_laws.proofs.Known.{Known, HasTurn, after_turn, turn_goes, has_turn, turn_known, event_known, settle_keeps}
use Rattle.seat_laws.proofs.Weights.{sum_append, sum_no_more, sum_less, sum_one_more, sum_others, sum_without, join_turns, join_branches, new_turns, new_branches}

all_of : (P : Place → Type 0) → ((p : Place) → P p) → (ps : List Place) → AllAre P ps
all_of P h [] = tt
all_of P h (p ∷ ps) = (h p, all_of P h ps)

limit_more : (k : LimitKind) (u : Common) (b : Build) → length u.nodes ≤ length (limit_met k u b).shared.nodes
limit_more k u b = omega (arith, length-append u.nodes (end_node u (map (λ t. t.head) b.threads) ∷ []))

module _ (g : Setting) where
  -- the turns that are to come at most, in one event
  abbrev pub turns_of : Build → ℕ
  turns_of b = sum_of turns_to_come (places b.threads) + nodes_left g b.shared

  -- From a build to the one behind a turn.
  pub record Turned (b c : Build) : Type 0 where
    pub turns : turns_of c + 1 ≤ turns_of b
    pub waits : sum_of branches_to_end (places c.threads) + nodes_left g c.shared ≤ sum_of branches_to_end (places b.threads) + nodes_left g b.shared
    pub threads : c.next_thread + length b.shared.nodes ≤ b.next_thread + length c.shared.nodes

  -- or the build has ended
  pub record Over (b c : Build) : Type 0 where
    pub none : c.threads ≡ []
    pub next : c.next_thread ≡ b.next_thread

  pub script_over : (e : Ending) (head : ℕ) (u : Common) (b : Build) → Over b (script_ended e head u b)
  script_over (Normal v) head u b = record { none = refl; next = refl }
  script_over (Thrown c) head u b = record { none = refl; next = refl }
  script_over (Returned v) head u b = record { none = refl; next = refl }
  script_over Broke head u b = record { none = refl; next = refl }
  script_over Continued head u b = record { none = refl; next = refl }
  script_over (Declared x) head u b = record { none = refl; next = refl }
  script_over (Answered x) head u b = record { none = refl; next = refl }

  -- Thread n, which went on with an answer, has stopped; a is the build before its turn, and b the same with the answer.
  module _ (a b : Build) (n : ℕ) (x : Answer) (same : places b.threads ≡ places a.threads) (shared : b.shared ≡ a.shared) (next : b.next_thread ≡ a.next_thread)
      (is : HasPlace (λ p. p.wait ≡ Ready x) n (places a.threads)) (only : AllAre (λ p. p.number ≡ n → p.wait ≡ Ready x) (places a.threads)) where
    headed : (s : State) → places (stopped_at s.world b).threads ≡ places a.threads
    headed s = places_head s.world.own.head s.world.own.number b.threads ∙ same

    one_turn : HasPlace (λ p. 1 ≤ turns_to_come p.wait) n (places a.threads)
    one_turn = some_weaker _ _ (λ p at. (at.0, subst (λ w. 1 ≤ turns_to_come w) (sym at.1) (omega arith))) (places a.threads) is

    ended_turned : (m : ℕ) (e : Ending) (s : State) → nodes_left g s.world.shared ≤ nodes_left g a.shared → length a.shared.nodes ≤ length s.world.shared.nodes → Turned a (thread_ended (Some m) n e s.world.own.head s.world.shared (stopped_at s.world b))
    ended_turned m e s less more =
        let at : places (thread_ended (Some m) n e s.world.own.head s.world.shared (stopped_at s.world b)).threads ≡ map (waiting (join_wait n s.world.own.head (outcome_of e)) m) (others (λ p. p.number) n (places a.threads)) =
        places_waiting (joins n s.world.own.head (outcome_of e)) (join_wait n s.world.own.head (outcome_of e)) (λ t. refl) m _ ∙ ap (map (waiting (join_wait n s.world.own.head (outcome_of e)) m)) (places_without n (stopped_at s.world b).threads ∙ ap (others (λ p. p.number) n) (headed s)) in
        let t1 : sum_of turns_to_come (map (waiting (join_wait n s.world.own.head (outcome_of e)) m) (others (λ p. p.number) n (places a.threads))) ≤ sum_of turns_to_come (others (λ p. p.number) n (places a.threads)) =
        sum_no_more turns_to_come (join_wait n s.world.own.head (outcome_of e)) m (others (λ p. p.number) n (places a.threads)) (all_of (λ p. p.number ≡ m → turns_to_come (join_wait n s.world.own.head (outcome_of e) p.wait) ≤ turns_to_come p.wait) (λ p at. join_turns n s.world.own.head (outcome_of e) p.wait) (others (λ p. p.number) n (places a.threads))) in
        let b1 : sum_of branches_to_end (map (waiting (join_wait n s.world.own.head (outcome_of e)) m) (others (λ p. p.number) n (places a.threads))) ≤ sum_of branches_to_end (others (λ p. p.number) n (places a.threads)) =
        sum_no_more branches_to_end (join_wait n s.world.own.head (outcome_of e)) m (others (λ p. p.number) n (places a.threads)) (all_of (λ p. p.number ≡ m → branches_to_end (join_wait n s.world.own.head (outcome_of e) p.wait) ≤ branches_to_end p.wait) (λ p at. join_branches n s.world.own.head (outcome_of e) p.wait) (others (λ p. p.number) n (places a.threads))) in
        record {
          turns = omega (arith, ap (sum_of turns_to_come) at, t1, sum_without turns_to_come n (places a.threads) one_turn, less);
          waits = omega (arith, ap (sum_of branches_to_end) at, b1, sum_others branches_to_end n (places a.threads), less);
          threads = omega (arith, next, more);
        }

    asked_turned : (r : ℕ) (s : State) → s.world.own.number ≡ n → nodes_left g s.world.shared ≤ nodes_left g a.shared → length a.shared.nodes ≤ length s.world.shared.nodes → Turned a (record (stopped_at s.world b) { threads = with_thread (waits_as (RequestWait r)) s.world.own.number (stopped_at s.world b).threads })
    asked_turned r s number less more =
        let at : places (with_thread (waits_as (RequestWait r)) s.world.own.number (stopped_at s.world b).threads) ≡ map (waiting (λ w. RequestWait r) n) (places a.threads) =
        places_waiting (waits_as (RequestWait r)) (λ w. RequestWait r) (λ t. refl) s.world.own.number _ ∙ ap (map (waiting (λ w. RequestWait r) s.world.own.number)) (headed s) ∙ ap (λ k. map (waiting (λ w. RequestWait r) k) (places a.threads)) number in
        record {
          turns = omega (arith, ap (sum_of turns_to_come) at, less, sum_less turns_to_come (λ w. RequestWait r) n (places a.threads) (all_of (λ p. p.number ≡ n → 0 ≤ turns_to_come p.wait) (λ p e. omega arith) (places a.threads)) one_turn);
          waits = omega (arith, ap (sum_of branches_to_end) at, less, sum_no_more branches_to_end (λ w. RequestWait r) n (places a.threads) (all_of (λ p. p.number ≡ n → 0 ≤ branches_to_end p.wait) (λ p e. omega arith) (places a.threads)));
          threads = omega (arith, next, more);
        }

    forked_turned : (k m : ℕ) → Rise k m (place_numbers (places a.threads)) → (bs : List Branch) (s : State) → s.world.own.number ≡ n → nodes_left g s.world.shared + suc (length bs) ≤ nodes_left g a.shared → length a.shared.nodes ≤ length s.world.shared.nodes
        → Turned a (forked s.world.own.number s.world.own bs (stopped_at s.world b))
    forked_turned k m rise bs s number less more =
        let at : places (forked s.world.own.number s.world.own bs (stopped_at s.world b)).threads ≡ map (waiting (λ w. BranchesWait (joins_of (stopped_at s.world b).next_thread bs)) n) (places a.threads) ++ places (branch_threads s.world.own.number s.world.own (stopped_at s.world b).next_thread bs) =
        places_append _ _ ∙ ap (λ ps. ps ++ places (branch_threads s.world.own.number s.world.own (stopped_at s.world b).next_thread bs))
        (places_waiting (waits_as (BranchesWait (joins_of (stopped_at s.world b).next_thread bs))) (λ w. BranchesWait (joins_of (stopped_at s.world b).next_thread bs)) (λ t. refl) s.world.own.number _ ∙ ap (map (waiting (λ w. BranchesWait (joins_of (stopped_at s.world b).next_thread bs)) s.world.own.number)) (headed s) ∙ ap (λ i. map (waiting (λ w. BranchesWait (joins_of (stopped_at s.world b).next_thread bs)) i) (places a.threads)) number) in
        let t1 : sum_of turns_to_come (map (waiting (λ w. BranchesWait (joins_of (stopped_at s.world b).next_thread bs)) n) (places a.threads)) ≤ sum_of turns_to_come (places a.threads) =
        sum_no_more turns_to_come (λ w. BranchesWait (joins_of (stopped_at s.world b).next_thread bs)) n (places a.threads) (all_weaker _ _ (λ p e same. subst (λ w. 1 ≤ turns_to_come w) (sym (e same)) (omega arith)) (places a.threads) only) in
        let b1 : sum_of branches_to_end (map (waiting (λ w. BranchesWait (joins_of (stopped_at s.world b).next_thread bs)) n) (places a.threads)) ≤ sum_of branches_to_end (places a.threads) + 1 =
        sum_one_more branches_to_end (λ w. BranchesWait (joins_of (stopped_at s.world b).next_thread bs)) n (λ w. omega arith) k m (places a.threads) rise in
        record {
          turns = omega (arith, ap (sum_of turns_to_come) at, sum_append turns_to_come (map (waiting (λ w. BranchesWait (joins_of (stopped_at s.world b).next_thread bs)) n) (places a.threads)) (places (branch_threads s.world.own.number s.world.own (stopped_at s.world b).next_thread bs)), t1, new_turns s.world.own.number s.world.own (stopped_at s.world b).next_thread bs, less);
          waits = omega (arith, ap (sum_of branches_to_end) at, sum_append branches_to_end (map (waiting (λ w. BranchesWait (joins_of (stopped_at s.world b).next_thread bs)) n) (places a.threads)) (places (branch_threads s.world.own.number s.world.own (stopped_at s.world b).next_thread bs)), b1, new_branches s.world.own.number s.world.own (stopped_at s.world b).next_thread bs, less);
          threads = omega (arith, next, less, more);
        }

    forks_turned : (limits : RunLimits) (k m : ℕ) → Rise k m (place_numbers (places a.threads)) → (bs : List Branch) (s : State) → s.world.own.number ≡ n → nodes_left g s.world.shared + suc (length bs) ≤ nodes_left g a.shared → length a.shared.nodes ≤ length s.world.shared.nodes
        → Over a (forks limits s.world.own.number s.world.own bs (stopped_at s.world b)) ⊎ Turned a (forks limits s.world.own.number s.world.own bs (stopped_at s.world b))
    forks_turned limits k m rise bs s number less more = one (nat_lt limits.threads (length (stopped_at s.world b).threads + length bs))
      where
        one : (past : Bool) → Over a (if past then limit_met GreenThreads (stopped_at s.world b).shared (stopped_at s.world b) else forked s.world.own.number s.world.own bs (stopped_at s.world b))
            ⊎ Turned a (if past then limit_met GreenThreads (stopped_at s.world b).shared (stopped_at s.world b) else forked s.world.own.number s.world.own bs (stopped_at s.world b))
        one true = inl (record { none = refl; next = next })
        one false = inr (forked_turned k m rise bs s number less more)

    -- whatever the thread runs, it stops later than it began
    ended_later : (o : Base) (runs : Runs) (e : Ending) (s : State) → HoldsAt o (outer_spot runs) a.shared (Ended e s) → Later a.shared s.world.shared
    ended_later o Script e s h = (h.0).later
    ended_later o (Closure c env start) e s h = (h.0).later

    stopped_turned : (o : Open) (runs : Runs) (parent : Option ℕ) (calls : ℕ) (k m : ℕ) → Rise k m (place_numbers (places a.threads)) → (r : Result) → HoldsAt (based g o) (outer_spot runs) a.shared r → Owns g n calls r
        → Over a (stopped g.limits parent n r b) ⊎ Turned a (stopped g.limits parent n r b)
    stopped_turned o runs None calls k m rise (Ended e s) h owns = inl (let over : Over (stopped_at s.world b) (script_ended e s.world.own.head s.world.shared (stopped_at s.world b)) = script_over e s.world.own.head s.world.shared (stopped_at s.world b) in record { none = over.none; next = over.next ∙ next })
    stopped_turned o runs (Some parent) calls k m rise (Ended e s) h owns =
        let later : Later a.shared s.world.shared = ended_later (based g o) runs e s h in
        inr (ended_turned parent e s (left_later (based g o) a.shared s.world.shared later) (front_length a.shared.nodes s.world.shared.nodes later.nodes))
    stopped_turned o runs parent calls k m rise (Waits (For_request r) path s) h owns =
        let w : Holds (based g o) form.Block a.shared (Waits (For_request r) path s) = waits_block (based g o) runs a.shared (For_request r) path s h in
        let own : OwnIs g n (calls + calls_of path) s = owns in
        inr (asked_turned r s own.number (left_later (based g o) a.shared s.world.shared (w.0).later) (front_length a.shared.nodes s.world.shared.nodes ((w.0).later).nodes))
    stopped_turned o runs parent calls k m rise (Waits (For_branches bs) path s) h owns =
        let w : Holds (based g o) form.Block a.shared (Waits (For_branches bs) path s) = waits_block (based g o) runs a.shared (For_branches bs) path s h in
        let own : OwnIs g n (calls + calls_of path) s = owns in
        forks_turned g.limits k m rise bs s own.number (w.0).spent (front_length a.shared.nodes s.world.shared.nodes ((w.0).later).nodes)
    stopped_turned o runs parent calls k m rise (Limited l s) h owns = inl (record { none = refl; next = next })
    stopped_turned o runs parent calls k m rise Unfinished h owns = inl (record { none = refl; next = next })

  -- a build at rest
  turns_none : (ts : List Thread) → sum_of turns_to_come (places ts) ≡ 0 → AllAre (λ t. NotReady t.wait) ts
  turns_none [] e = tt
  turns_none (t ∷ ts) e = (one t.wait (omega (arith, e)), turns_none ts (omega (arith, e)))
    where
      one : (w : Wait) → turns_to_come w ≡ 0 → NotReady w
      one (Ready x) e = absurd (cc)
      one (RequestWait r) e = tt
      one (BranchesWait js) e = tt

  none_ready : (ts : List Thread) → first_ready ts ≡ None → AllAre (λ t. NotReady t.wait) ts
  none_ready [] e = tt
  none_ready (t ∷ ts) e = one t.wait refl e (none_ready ts)
    where
      one : (w : Wait) → t.wait ≡ w → turn_if t w (first_ready ts) ≡ None → (first_ready ts ≡ None → AllAre (λ t. NotReady t.wait) ts) → NotReady t.wait × AllAre (λ t. NotReady t.wait) ts
      one (Ready x) is e more = absurd (cc)
      one (RequestWait r) is e more = (subst NotReady (sym is) tt, more e)
      one (BranchesWait js) is e more = (subst NotReady (sym is) tt, more e)

  -- at rest the turns to come are those of the waits for branches
  at_rest : (ts : List Thread) → AllAre (λ t. NotReady t.wait) ts → sum_of turns_to_come (places ts) ≡ sum_of branches_to_end (places ts)
  at_rest [] h = refl
  at_rest (t ∷ ts) h = omega (arith, one t.wait h.0, at_rest ts h.1)
    where
      one : (w : Wait) → NotReady w → turns_to_come w ≡ branches_to_end w
      one (Ready x) n = absurd n
      one (RequestWait r) n = refl
      one (BranchesWait js) n = refl

module _ (g : Setting) (tree : Tree) (is : g.script ≡ term 0 (tree_node tree)) (small : Small g) (narrow : Narrow g.limits) where
  turn_turned : (b : Build) → Known g tree is small narrow b → (turn : Turn) → HasTurn g tree is small narrow b turn → Over g b (after_turn g tree is small narrow b turn) ⊎ Turned g b (after_turn g tree is small narrow b turn)
  turn_turned b k turn h =
      stopped_turned g b (record b { threads = with_thread (λ old. given_answer b.shared turn.answer turn.thread) turn.thread.own.number b.threads }) turn.thread.own.number turn.answer
      (places_given (given_answer b.shared turn.answer turn.thread) turn.thread.own.number b.threads (only_place (λ p. p ≡ place_of turn.thread) turn.thread.own.number 0 b.next_thread (places b.threads) ((k.agree).agree).numbers (h.is_turn).there))
      refl refl
      (some_weaker _ _ (λ p at. (at.0, ap (λ (q : Place). q.wait) at.1 ∙ (h.is_turn).ready)) (places b.threads) (h.is_turn).there)
      (only_place (λ p. p.wait ≡ Ready turn.answer) turn.thread.own.number 0 b.next_thread (places b.threads) ((k.agree).agree).numbers (some_weaker _ _ (λ p at. (at.0, ap (λ (q : Place). q.wait) at.1 ∙ (h.is_turn).ready)) (places b.threads) (h.is_turn).there))
      (begun_open turn.thread.own b.shared.held (mine_of g tree is small narrow turn.thread (stands g turn.thread) ++ opens_at g tree is small narrow turn.thread.runs (stands g turn.thread) b.shared.held turn.answer)) turn.thread.runs turn.thread.parent turn.thread.own.calls 0 b.next_thread ((k.agree).agree).numbers
      (stands g (given_answer b.shared turn.answer turn.thread)) (given_runs g tree is small narrow b.shared turn.answer h.answer turn.thread h.sound (h.is_turn).stood) (turn_owns g turn.thread b.shared turn.answer)

  -- what a turn keeps of the bounds
  bounds_turn : (b : Build) → Known g tree is small narrow b → Bounded g b → (turn : Turn) → HasTurn g tree is small narrow b turn → Bounded g (after_turn g tree is small narrow b turn)
  bounds_turn b k w turn h = elim (turn_turned b k turn h) [
    | inl over ↦ record {
      waits = subst (λ ts. sum_of branches_to_end (places ts) + nodes_left g (after_turn g tree is small narrow b turn).shared ≤ g.limits.flow_nodes) (sym over.none) (omega arith);
      threads = omega (arith, over.next, w.threads, front_length b.shared.nodes (after_turn g tree is small narrow b turn).shared.nodes ((turn_goes g tree is small narrow b k turn h).later).nodes);
    }
    | inr t ↦ record { waits = omega (arith, t.waits, w.waits); threads = omega (arith, t.threads, w.threads) }
  ]

  -- a build that has ended has no turns
  over_rests : (n : ℕ) (b : Build) → b.threads ≡ [] → Rests (settle n g b)
  unfolding settle
  over_rests zero b e = subst (λ ts. AllAre (λ t. NotReady t.wait) ts) (sym e) tt
  over_rests (suc n) b e = subst (λ o. Rests (take_turn (settle n g) g b o)) (sym (ap first_ready e)) (subst (λ ts. AllAre (λ t. NotReady t.wait) ts) (sym e) tt)

  -- so many turns are enough
  rests_taken : (n : ℕ) → ((b : Build) → Known g tree is small narrow b → turns_of g b ≤ n → Rests (settle n g b)) → (b : Build) → Known g tree is small narrow b → turns_of g b ≤ suc n → (o : Option Turn) → first_ready b.threads ≡ o → Rests (take_turn (settle n g) g b o)
  rests_taken n more b k le None e = none_ready g b.threads e
  rests_taken n more b k le (Some turn) e =
      let h : HasTurn g tree is small narrow b turn = has_turn g tree is small narrow b k turn e in
      elim (turn_turned b k turn h) [
        | inl over ↦ over_rests n (after_turn g tree is small narrow b turn) over.none
        | inr t ↦ more (after_turn g tree is small narrow b turn) (turn_known g tree is small narrow b k turn h) (omega (arith, t.turns, le))
      ]

  settle_rests : (n : ℕ) (b : Build) → Known g tree is small narrow b → turns_of g b ≤ n → Rests (settle n g b)
  unfolding settle
  settle_rests zero b k le = turns_none g b.threads (omega (arith, le))
  settle_rests (suc n) b k le = rests_taken n (settle_rests n) b k le (first_ready b.threads) refl

  -- An accepted event, where no thread is ready: at most one thread goes on with it.
  record Begins (b c : Build) : Type 0 where
    turns : turns_of g c ≤ suc g.limits.flow_nodes
    bounds : Bounded g c

  begins_over : (b c : Build) → Bounded g b → c.threads ≡ [] → c.next_thread ≡ b.next_thread → length b.shared.nodes ≤ length c.shared.nodes → Begins b c
  begins_over b c w none next more = record {
    turns = subst (λ ts. sum_of turns_to_come (places ts) + nodes_left g c.shared ≤ suc g.limits.flow_nodes) (sym none) (omega arith);
    bounds = record { waits = subst (λ ts. sum_of branches_to_end (places ts) + nodes_left g c.shared ≤ g.limits.flow_nodes) (sym none) (omega arith); threads = omega (arith, next, w.threads, more) };
  }

  begins_same : (b c : Build) → Bounded g b → Rests b → c.threads ≡ b.threads → c.next_thread ≡ b.next_thread → c.shared.nodes ≡ b.shared.nodes → Begins b c
  begins_same b c w rests same next nodes =
      let left : nodes_left g c.shared ≡ nodes_left g b.shared = ap (λ ns. g.limits.flow_nodes - length ns) nodes in
      let t : sum_of turns_to_come (places c.threads) ≡ sum_of turns_to_come (places b.threads) = ap (λ ts. sum_of turns_to_come (places ts)) same in
      let e : sum_of branches_to_end (places c.threads) ≡ sum_of branches_to_end (places b.threads) = ap (λ ts. sum_of branches_to_end (places ts)) same in
      record { turns = omega (arith, t, at_rest g b.threads rests, left, w.waits); bounds = record { waits = omega (arith, e, left, w.waits); threads = omega (arith, next, w.threads, ap length nodes) } }

  begins_ready : (b c : Build) → Known g tree is small narrow b → Bounded g b → Rests b → (n : ℕ) (x : Answer) → c.threads ≡ with_thread (waits_as (Ready x)) n b.threads → c.next_thread ≡ b.next_thread → c.shared.nodes ≡ b.shared.nodes → Begins b c
  begins_ready b c k w rests n x same next nodes =
      let left : nodes_left g c.shared ≡ nodes_left g b.shared = ap (λ ns. g.limits.flow_nodes - length ns) nodes in
      let at : places c.threads ≡ map (waiting (λ v. Ready x) n) (places b.threads) = ap places same ∙ places_waiting (waits_as (Ready x)) (λ v. Ready x) (λ t. refl) n b.threads in
      let t : sum_of turns_to_come (map (waiting (λ v. Ready x) n) (places b.threads)) ≤ sum_of turns_to_come (places b.threads) + 1 = sum_one_more turns_to_come (λ v. Ready x) n (λ v. omega arith) 0 b.next_thread (places b.threads) ((k.agree).agree).numbers in
      let e : sum_of branches_to_end (map (waiting (λ v. Ready x) n) (places b.threads)) ≤ sum_of branches_to_end (places b.threads) = sum_no_more branches_to_end (λ v. Ready x) n (places b.threads) (all_of (λ p. p.number ≡ n → 0 ≤ branches_to_end p.wait) (λ p i. omega arith) (places b.threads)) in
      record {
        turns = omega (arith, ap (sum_of turns_to_come) at, t, at_rest g b.threads rests, left, w.waits);
        bounds = record { waits = omega (arith, ap (sum_of branches_to_end) at, e, left, w.waits); threads = omega (arith, next, w.threads, ap length nodes) };
      }

  held_nodes : (request executor : ℕ) (o : Option Executor) (u : Common) → (held_as g.site request executor o u).nodes ≡ u.nodes
  held_nodes request executor None u = refl
  held_nodes request executor (Some x) u = refl

  output_begins : (b : Build) → Bounded g b → Rests b → (task : ℕ) (stream : Stream) (bytes : List ℕ) → Begins b (output g.limits task stream bytes (uncounted b))
  output_begins b w rests task LogStream bytes = one (nat_lt g.limits.log (length b.shared.log + length bytes))
    where
      one : (past : Bool) → Begins b (if past then limit_met LogSize (uncounted b).shared (uncounted b) else record (uncounted b) { shared = change_request (with_taken (length bytes)) task (record (uncounted b).shared { log = raw bytes b.shared.log }) })
      one true = begins_over b (limit_met LogSize (uncounted b).shared (uncounted b)) w refl refl (limit_more LogSize (uncounted b).shared (uncounted b))
      one false = begins_same b (record (uncounted b) { shared = change_request (with_taken (length bytes)) task (record (uncounted b).shared { log = raw bytes b.shared.log }) }) w rests refl refl refl
  output_begins b w rests task OutStream bytes = one (nat_lt g.limits.values.text (length (kept_output (request_of b.shared.requests task)) + length bytes))
    where
      one : (past : Bool) → Begins b (if past then limit_met TextLength (uncounted b).shared (uncounted b) else record (uncounted b) { shared = change_request (with_kept bytes) task (uncounted b).shared })
      one true = begins_over b (limit_met TextLength (uncounted b).shared (uncounted b)) w refl refl (limit_more TextLength (uncounted b).shared (uncounted b))
      one false = begins_same b (record (uncounted b) { shared = change_request (with_kept bytes) task (uncounted b).shared }) w rests refl refl refl

  event_begins : (b : Build) → Known g tree is small narrow b → Bounded g b → Rests b → (x : Event) → Begins b (changed_by g x (uncounted b))
  event_begins b k w rests (StartEvent script agents) = record { turns = omega arith; bounds = record { waits = omega arith; threads = omega arith } }
  event_begins b k w rests (GrantedEvent request executor) =
      begins_ready b (changed_by g (GrantedEvent request executor) (uncounted b)) k w rests (thread_of request (held_as g.site request executor (executor_of g.site executor) (uncounted b).shared).requests) (GrantedAnswer executor) refl refl (held_nodes request executor (executor_of g.site executor) (uncounted b).shared)
  event_begins b k w rests (OutputEvent task stream from bytes) = output_begins b w rests task stream bytes
  event_begins b k w rests (ExitedEvent task code) = begins_ready b (changed_by g (ExitedEvent task code) (uncounted b)) k w rests (thread_of task b.shared.requests) (Done code (kept_output (request_of b.shared.requests task))) refl refl refl
  event_begins b k w rests (LostEvent task why) = begins_ready b (changed_by g (LostEvent task why) (uncounted b)) k w rests (thread_of task b.shared.requests) (Done (lost_code why) (kept_output (request_of b.shared.requests task))) refl refl refl
  event_begins b k w rests (DecidedEvent request proceed name) = begins_ready b (changed_by g (DecidedEvent request proceed name) (uncounted b)) k w rests (thread_of request b.shared.requests) (DecidedAnswer proceed name) refl refl refl

  -- a build between two events
  pub record Calm (b : Build) : Type 0 where
    pub known : Known g tree is small narrow b
    pub bounds : Bounded g b
    pub rests : Rests b

  pub event_calm : (b : Build) → Calm b → (x : Event) (a : Taken) → answer_to g b x ≡ a → Calm (after_event g b x a)
  event_calm b c x Accepted e =
      let k : Known g tree is small narrow (changed_by g x (uncounted b)) = event_known g tree is small narrow b c.known x e in
      let f : Begins b (changed_by g x (uncounted b)) = event_begins b c.known c.bounds c.rests x in
      let s : Known g tree is small narrow (settle (turn_bound g.limits) g (changed_by g x (uncounted b))) × Bounded g (settle (turn_bound g.limits) g (changed_by g x (uncounted b))) =
      settle_keeps g tree is small narrow (Bounded g) (λ b k w turn h. bounds_turn b k w turn h) (turn_bound g.limits) (changed_by g x (uncounted b)) k f.bounds in
      record { known = s.0; bounds = s.1; rests = settle_rests (turn_bound g.limits) (changed_by g x (uncounted b)) k (omega (arith, f.turns)) }
  event_calm b c x NotOpen e = c
  event_calm b c x (WrongPlace kept) e = c
  event_calm b c x Finished e = c

  pub unbegun_calm : Calm unbegun
  unbegun_calm = record {
    known = record {
      stood = tt;
      sound = tt;
      agree = record { agree = record { numbers = tt; requests = tt; parents = tt; waits = tt; awaited = tt }; kinds = tt; main = λ started going. absurd (cc) };
      fit = record { some = omega arith; requests = tt; rising = tt; held = tt; differ = tt };
    };
    bounds = record { waits = omega arith; threads = omega arith };
    rests = tt;
  }

  fold_calm : (b : Build) → Calm b → (es : List Event) → Calm (fold (after_one g) b es)
  fold_calm b c [] = c
  fold_calm b c (x ∷ es) = fold_calm (after_one g b x) (event_calm b c x (answer_to g b x) refl) es

  -- In every world no thread is ready: the turns of an event come to an end before their bound.
  pub world_rests : (events : List Event) → Rests (world_in g events)
  world_rests events = (fold_calm unbegun unbegun_calm events).rests

  -- and there are no more threads, ended ones included, than flow nodes
  pub world_bounded : (events : List Event) → Bounded g (world_in g events)
  world_bounded events = (fold_calm unbegun unbegun_calm events).bounds

  -- what holds before any event, through each turn, and through each change by an accepted event, holds in every world
  module _ (P : Build → Type 0) (turns : (b : Build) → Known g tree is small narrow b → P b → (turn : Turn) → HasTurn g tree is small narrow b turn → P (after_turn g tree is small narrow b turn))
      (changes : (b : Build) → Calm b → P b → (x : Event) → answer_to g b x ≡ Accepted → P (changed_by g x (uncounted b))) where
    event_keeps : (b : Build) → Calm b → P b → (x : Event) (a : Taken) → answer_to g b x ≡ a → P (after_event g b x a)
    event_keeps b c p x Accepted e = (settle_keeps g tree is small narrow P turns (turn_bound g.limits) (changed_by g x (uncounted b)) (event_known g tree is small narrow b c.known x e) (changes b c p x e)).1
    event_keeps b c p x NotOpen e = p
    event_keeps b c p x (WrongPlace kept) e = p
    event_keeps b c p x Finished e = p

    fold_keeps : (b : Build) → Calm b → P b → (es : List Event) → Calm (fold (after_one g) b es) × P (fold (after_one g) b es)
    fold_keeps b c p [] = (c, p)
    fold_keeps b c p (x ∷ es) = fold_keeps (after_one g b x) (event_calm b c x (answer_to g b x) refl) (event_keeps b c p x (answer_to g b x) refl) es

    pub world_keeps : P unbegun → (events : List Event) → Calm (world_in g events) × P (world_in g events)
    world_keeps p events = fold_keeps unbegun unbegun_calm p events
