-- The contexts of threads in every world: each is in the context of its parent, and holds the executors of its own open bodies.
use Rattle.std.proofs.Common.{arith, ◌≡◌, ◌≤◌, ◌<◌, ◌+◌, ◌∙◌, ap, sym, subst, refl, inl, inr, ℕ, suc, Bool, true, false, List, [], ◌∷◌, ◌++◌, map, length, append_assoc, Option, Some, None}
use Rattle.std.proofs.lemmas.List.{append-nil}
use Rattle.std.specs.Prelude.{nat_eq, nat_lt, not, drop, find, ◌&&◌, if◌then◌else◌}
use Rattle.std.proofs.lemmas.Bool.{eqb-true, eqb-false}
use Rattle.std.specs.List.{AllByRecursion as AllAre}
use Rattle.model_syntax.specs.declared.tree.Tree.{Tree}
use Rattle.model_syntax.specs.declared.node.NodeForm.TheVariants as form
use Rattle.model_syntax.specs.TreeNodes.{tree_node}
use Rattle.model_values.proofs.LaterLaws.{all_weaker}
use Rattle.model_values.specs.declared.limit.LimitKind.TheVariants.{GreenThreads, LogSize, TextLength}
use Rattle.model_values.specs.declared.value.Outcome.{Outcome}
use Rattle.model_run.specs.declared.context.Context.{Context}
use Rattle.model_run.specs.declared.ending.Branch.{Branch}
use Rattle.model_run.specs.declared.ending.Ending.{Ending}
use Rattle.model_run.specs.declared.ending.Asked.{Asked}
use Rattle.model_run.specs.declared.ending.Asked.TheVariants.{ForRequest as For_request, ForBranches as For_branches}
use Rattle.model_run.specs.declared.event.Event.{Event}
use Rattle.model_run.specs.declared.event.Event.TheVariants.{Start as StartEvent, Granted as GrantedEvent, Output as OutputEvent, Exited as ExitedEvent, Lost as LostEvent, Decided as DecidedEvent}
use Rattle.model_run.specs.declared.event.Stream.{Stream}
use Rattle.model_run.specs.declared.event.Stream.TheVariants.{Log as LogStream, Out as OutStream}
use Rattle.model_run.specs.declared.frame.Frame.{Frame}
use Rattle.model_run.specs.declared.held.Held.{Held}
use Rattle.model_run.specs.declared.request.Request.TheVariants.{Node as NodeRequest}
use Rattle.model_run.specs.declared.site.Executor.{Executor}
use Rattle.model_run.specs.declared.taken.Taken.TheVariants.{Accepted, NotOpen}
use Rattle.model_run.specs.declared.wait.Answer.{Answer}
use Rattle.model_run.specs.declared.wait.Answer.TheVariants.{Begin, Granted as GrantedAnswer, Done, Decided as DecidedAnswer, Joined}
use Rattle.model_run.specs.declared.wait.BranchEnd.{BranchEnd}
use Rattle.model_run.specs.declared.wait.Join.{Join}
use Rattle.model_run.specs.declared.wait.Wait.{Wait}
use Rattle.model_run.specs.declared.wait.Wait.TheVariants.{Ready, Request as RequestWait, Branches as BranchesWait}
use Rattle.model_run.specs.Below.{Small}
use Rattle.model_run.specs.Fitting.{Rise, Distinct, Some_of, NotReady, Waited, granted_request, seat_at}
use Rattle.model_run.specs.Grants.{executor_of, is_held, executor_fits, workspace_number, with_held}
use Rattle.model_run.specs.Nesting.{Spot, For_executor, innermost}
use Rattle.model_run.specs.Opened.{Owns, OwnIs, calls_of}
use Rattle.model_run.specs.State.{RunLimits, Setting, Common, Own, State, Result, Ended, Waits, Limited, Unfinished}
use Rattle.model_run.specs.Taking.{request_of, granted, may_get}
use Rattle.model_run.specs.Terms.{term}
use Rattle.model_run.specs.Threads.{Runs, Script, Closure, Thread, stands, stands_from}
use Rattle.model_run.specs.Waiting.{Stood}
use Rattle.model_run.specs.World.{Build, script_ended, limit_met, with_thread, without_thread, with_head, waits_as, joins, join_wait, joins_of, join_end, ends_before, all_ended, joined_wait, outcome_of, branch_threads, forked, forks, thread_ended, stopped_at, stopped, given_answer, Turn, uncounted, changed_by, held_as, thread_of, kept_output, lost_code, with_taken, with_kept, change_request, output, standing, answer_to, world_in}
use Rattle.model_run.specs.LogText.{raw}
use Rattle.model_run.proofs.LaterWorlds.{accepted_answer, accepted_grant, open_of}
use Rattle.model_run.proofs.PathLaws.{outer_spot}
use Rattle.model_run.proofs.RequestLaws.{some_weaker, some_all}
use Rattle.run_laws.specs.Bounds.{Narrow}
use Rattle.run_laws.specs.Soundness.{Open, Pausing, Holds, without_all, open_nodes, open_folders}
use Rattle.run_laws.specs.Evaluation.{HoldsAt, granted_of, opened_at, based}
use Rattle.run_laws.specs.Worlds.{begun_open, StandsSound, SoundThread}
use Rattle.run_laws.proofs.SoundThreads.{waits_block}
use Rattle.run_laws.proofs.SoundWorlds.{mine_of, opens_at, given_runs}
use Rattle.world_laws.specs.Agreement.{Place, place_of, places, place_numbers, HasPlace, ParentAgrees}
use Rattle.world_laws.proofs.Places.{others, only_place, rise_distinct}
use Rattle.world_laws.proofs.Turns.{turn_owns}
use Rattle.seat_laws.specs.Seats.{Room, room_of, rooms, mine, stands_for, IsHeld, Holding}
use Rattle.seat_laws.proofs.Known.{Known, HasTurn, after_turn}
use Rattle.seat_laws.proofs.Resting.{script_over, Calm, world_keeps}
use Rattle.seat_laws.proofs.Lists.{In, in_front, in_back, some_mapped}
use Rattle.seat_laws.proofs.Executors.{held_with, grant_given, open_free}
use Rattle.seat_laws.proofs.Rooms.{changing, rewaiting, IsSplit, IsBelow, IsNew, drop_behind, drop_all, changed_holds, ended_holds, forked_holds, given_holds}

-- lists of numbers
all_in : (ns : List ℕ) → AllAre (λ a. In a ns) ns
all_in [] = tt
all_in (n ∷ ns) = (inl refl, all_weaker _ _ (λ a i. inr i) ns (all_in ns))

if_true : {A : Type 0} (b : Bool) (x y : A) → b ≡ true → (if b then x else y) ≡ x
if_true true x y e = refl
if_true false x y e = absurd (cc)

-- rooms that change twice
changed_twice : (n : ℕ) (c : Context) (v : Wait) (f : Wait → Wait) (w : Wait) → f v ≡ w → (rs : List Room) → map (rewaiting f n) (map (changing n c v) rs) ≡ map (changing n c w) rs
changed_twice n c v f w is [] = refl
changed_twice n c v f w is (q ∷ rs) = ap (λ p. p ∷ map (rewaiting f n) (map (changing n c v) rs)) (one (nat_eq q.number n) refl) ∙ ap (λ ps. changing n c w q ∷ ps) (changed_twice n c v f w is rs)
  where
    one : (b : Bool) → nat_eq q.number n ≡ b → rewaiting f n (if b then record q { now = c; wait = v } else q) ≡ (if b then record q { now = c; wait = w } else q)
    one true e = if_true (nat_eq q.number n) (record q { now = c; wait = f v }) (record q { now = c; wait = v }) e ∙ ap (λ x. record q { now = c; wait = x }) is
    one false e = ap (λ b. if b then record q { wait = f q.wait } else q) e

changed_others : (n : ℕ) (c : Context) (v : Wait) (rs : List Room) → others (λ q. q.number) n (map (changing n c v) rs) ≡ others (λ q. q.number) n rs
changed_others n c v [] = refl
changed_others n c v (q ∷ rs) = one (nat_eq q.number n) refl (changed_others n c v rs)
  where
    one : (b : Bool) → nat_eq q.number n ≡ b → others (λ q. q.number) n (map (changing n c v) rs) ≡ others (λ q. q.number) n rs
        → (if not (nat_eq (if b then record q { now = c; wait = v } else q).number n) then (if b then record q { now = c; wait = v } else q) ∷ others (λ q. q.number) n (map (changing n c v) rs) else others (λ q. q.number) n (map (changing n c v) rs)) ≡ (if not b then q ∷ others (λ q. q.number) n rs else others (λ q. q.number) n rs)
    one true e more = ap (λ b. if not b then record q { now = c; wait = v } ∷ others (λ q. q.number) n (map (changing n c v) rs) else others (λ q. q.number) n (map (changing n c v) rs)) e ∙ more
    one false e more = ap (λ b. if not b then q ∷ others (λ q. q.number) n (map (changing n c v) rs) else others (λ q. q.number) n (map (changing n c v) rs)) e ∙ ap (λ ps. q ∷ ps) more

changed_there : (n : ℕ) (c : Context) (w : Wait) (rs : List Room) → Some_of (λ q. q.number ≡ n) rs → Some_of (λ p. (p.number ≡ n) × (p.now ≡ c)) (map (changing n c w) rs)
changed_there n c w rs is = some_mapped (λ q. q.number ≡ n) (λ p. (p.number ≡ n) × (p.now ≡ c)) (changing n c w) (λ q at. one q at (nat_eq q.number n) refl) rs is
  where
    one : (q : Room) → q.number ≡ n → (b : Bool) → nat_eq q.number n ≡ b → ((if b then record q { now = c; wait = w } else q).number ≡ n) × ((if b then record q { now = c; wait = w } else q).now ≡ c)
    one q at true e = (at, refl)
    one q at false e = absurd (eqb-false _ _ e at)

-- a join gives no executor
joined_none : (ys : List Held) (js : List Join) (o : Option (List BranchEnd)) → granted_request ys (joined_wait js o) ≡ []
joined_none ys js None = refl
joined_none ys js (Some ends) = refl

join_none : (n head : ℕ) (o : Outcome) (ys : List Held) (w : Wait) → granted_request ys (join_wait n head o w) ≡ granted_request ys w
join_none n head o ys (Ready x) = refl
join_none n head o ys (RequestWait r) = refl
join_none n head o ys (BranchesWait js) = joined_none ys (map (join_end n (record { node = head; outcome = o; place = ends_before js })) js) (all_ended (map (join_end n (record { node = head; outcome = o; place = ends_before js })) js))

granted_same : (xs : List Held) (x : Answer) → granted_of xs x ≡ granted_request xs (Ready x)
granted_same xs (GrantedAnswer y) = refl
granted_same xs Begin = refl
granted_same xs (Done code out) = refl
granted_same xs (DecidedAnswer proceed name) = refl
granted_same xs (Joined ends) = refl

-- what an answer opens is what it grants, or nothing
opened_front : (at : Spot) (xs : List Held) (x : Answer) → (more : List ℕ) × (granted_request xs (Ready x) ≡ opened_at at xs x ++ more)
opened_front For_executor xs x = ([], sym (granted_same xs x) ∙ sym (append-nil (granted_of xs x)))
opened_front at xs x = (granted_request xs (Ready x), refl)

module _ (g : Setting) where
  -- contexts of a thread with another wait or flow node
  now_same : (t u : Thread) (r : Result) → u.own ≡ t.own → (seat_at u r).context ≡ (seat_at t r).context
  now_same t u (Ended e s) is = ap (λ (o : Own). o.context) is
  now_same t u (Waits asked path s) is = refl
  now_same t u (Limited k s) is = ap (λ (o : Own). o.context) is
  now_same t u Unfinished is = ap (λ (o : Own). o.context) is

  rooms_rewait : (h : Thread → Thread) (f : Wait → Wait) → ((t : Thread) → room_of g (h t) ≡ record (room_of g t) { wait = f t.wait }) → (n : ℕ) (ts : List Thread) → rooms g (with_thread h n ts) ≡ map (rewaiting f n) (rooms g ts)
  rooms_rewait h f is n [] = refl
  rooms_rewait h f is n (t ∷ ts) = one (nat_eq t.own.number n) (rooms_rewait h f is n ts)
    where
      one : (b : Bool) → rooms g (with_thread h n ts) ≡ map (rewaiting f n) (rooms g ts) → room_of g (if b then h t else t) ∷ rooms g (with_thread h n ts) ≡ (if b then record (room_of g t) { wait = f t.wait } else room_of g t) ∷ map (rewaiting f n) (rooms g ts)
      one true more = ap (λ p. p ∷ rooms g (with_thread h n ts)) (is t) ∙ ap (λ ps. (record (room_of g t) { wait = f t.wait }) ∷ ps) more
      one false more = ap (λ ps. room_of g t ∷ ps) more

  wait_room : (w : Wait) (t : Thread) → room_of g (waits_as w t) ≡ record (room_of g t) { wait = w }
  wait_room w t = ap (λ (c : Context). record (room_of g t) { wait = w; now = c }) (now_same t (waits_as w t) (stands g t) refl)

  joins_room : (n head : ℕ) (o : Outcome) (t : Thread) → room_of g (joins n head o t) ≡ record (room_of g t) { wait = join_wait n head o t.wait }
  joins_room n head o t = ap (λ (c : Context). record (room_of g t) { wait = join_wait n head o t.wait; now = c }) (now_same t (joins n head o t) (stands g t) refl)

  rooms_head : (head n : ℕ) (ts : List Thread) → rooms g (with_thread (with_head head) n ts) ≡ rooms g ts
  rooms_head head n [] = refl
  rooms_head head n (t ∷ ts) = one (nat_eq t.own.number n) (rooms_head head n ts)
    where
      one : (b : Bool) → rooms g (with_thread (with_head head) n ts) ≡ rooms g ts → room_of g (if b then with_head head t else t) ∷ rooms g (with_thread (with_head head) n ts) ≡ room_of g t ∷ rooms g ts
      one true more = ap (λ (c : Context). record (room_of g t) { now = c } ∷ rooms g (with_thread (with_head head) n ts)) (now_same t (with_head head t) (stands g t) refl) ∙ ap (λ ps. room_of g t ∷ ps) more
      one false more = ap (λ ps. room_of g t ∷ ps) more

  rooms_without : (n : ℕ) (ts : List Thread) → rooms g (without_thread n ts) ≡ others (λ q. q.number) n (rooms g ts)
  rooms_without n [] = refl
  rooms_without n (t ∷ ts) = one (nat_eq t.own.number n) (rooms_without n ts)
    where
      one : (b : Bool) → rooms g (without_thread n ts) ≡ others (λ q. q.number) n (rooms g ts) → rooms g (if not b then t ∷ without_thread n ts else without_thread n ts) ≡ (if not b then room_of g t ∷ others (λ q. q.number) n (rooms g ts) else others (λ q. q.number) n (rooms g ts))
      one true more = more
      one false more = ap (λ ps. room_of g t ∷ ps) more

  rooms_append : (ts us : List Thread) → rooms g (ts ++ us) ≡ rooms g ts ++ rooms g us
  rooms_append [] us = refl
  rooms_append (t ∷ ts) us = ap (λ ps. room_of g t ∷ ps) (rooms_append ts us)

  -- a thread that is given an answer
  rooms_given : (t x : Thread) → x.own ≡ t.own → x.parent ≡ t.parent → (c : Context) → (seat_at x (stands g x)).context ≡ c → (ts : List Thread) → AllAre (λ u. u.own.number ≡ t.own.number → u ≡ t) ts → rooms g (with_thread (λ old. x) t.own.number ts) ≡ map (changing t.own.number c x.wait) (rooms g ts)
  rooms_given t x own parent c now [] all = refl
  rooms_given t x own parent c now (u ∷ ts) all = one (nat_eq u.own.number t.own.number) refl (rooms_given t x own parent c now ts all.1)
    where
      its : (v : Thread) → v ≡ t → room_of g x ≡ record (room_of g v) { now = c; wait = x.wait }
      its v is = ap (λ (y : Own). record { number = y.number; parent = x.parent; wait = x.wait; around = y.context; now = (seat_at x (stands g x)).context }) own
          ∙ ap (λ y. record { number = t.own.number; parent = y; wait = x.wait; around = t.own.context; now = (seat_at x (stands g x)).context }) parent
          ∙ ap (λ (y : Context). record { number = t.own.number; parent = t.parent; wait = x.wait; around = t.own.context; now = y }) now
          ∙ ap (λ (y : Thread). record { number = y.own.number; parent = y.parent; wait = x.wait; around = y.own.context; now = c }) (sym is)

      one : (b : Bool) → nat_eq u.own.number t.own.number ≡ b → rooms g (with_thread (λ old. x) t.own.number ts) ≡ map (changing t.own.number c x.wait) (rooms g ts)
          → room_of g (if b then x else u) ∷ rooms g (with_thread (λ old. x) t.own.number ts) ≡ (if b then record (room_of g u) { now = c; wait = x.wait } else room_of g u) ∷ map (changing t.own.number c x.wait) (rooms g ts)
      one true e more = ap (λ p. p ∷ rooms g (with_thread (λ old. x) t.own.number ts)) (its u (all.0 (eqb-true _ _ e))) ∙ ap (λ ps. (record (room_of g u) { now = c; wait = x.wait }) ∷ ps) more
      one false e more = ap (λ ps. room_of g u ∷ ps) more

  new_rooms : (n : ℕ) (own : Own) (k : ℕ) (bs : List Branch) → AllAre (IsNew n own.context) (rooms g (branch_threads n own k bs))
  new_rooms n own k [] = tt
  new_rooms n own k (b ∷ bs) = (record { parent = refl; around = refl; now = refl; wait = refl }, new_rooms n own (suc k) bs)

  -- what is known of the threads is known of the rooms
  of_places : (P : Place → Type 0) (ts : List Thread) → AllAre P (places ts) → AllAre (λ q. P (record { number = q.number; parent = q.parent; wait = q.wait })) (rooms g ts)
  of_places P [] h = tt
  of_places P (t ∷ ts) h = (h.0, of_places P ts h.1)

  of_threads : (P : Thread → Type 0) (Q : Room → Type 0) → ((t : Thread) → P t → Q (room_of g t)) → (ts : List Thread) → AllAre P ts → AllAre Q (rooms g ts)
  of_threads P Q on [] h = tt
  of_threads P Q on (t ∷ ts) h = (on t h.0, of_threads P Q on ts h.1)

  numbers_same : (ts : List Thread) → place_numbers (places ts) ≡ map (λ q. q.number) (rooms g ts)
  numbers_same [] = refl
  numbers_same (t ∷ ts) = ap (λ ns. t.own.number ∷ ns) (numbers_same ts)

  pub threads_from : (n m : ℕ) (ts : List Thread) → Rise n m (place_numbers (places ts)) → AllAre (λ t. n ≤ t.own.number) ts
  threads_from n m [] h = tt
  threads_from n m (t ∷ ts) h = (h.0, all_weaker _ _ (λ u le. omega (arith, le, h.0)) ts (threads_from (suc t.own.number) m ts h.2))

  -- a thread of a number is the one of that number
  only_thread : (t : Thread) (k m : ℕ) (ts : List Thread) → Rise k m (place_numbers (places ts)) → Some_of (λ u. u ≡ t) ts → AllAre (λ u. u.own.number ≡ t.own.number → u ≡ t) ts
  only_thread t k m [] rise is = absurd is
  only_thread t k m (u ∷ ts) rise (inl here) = ((λ same. here), all_weaker _ _ (λ v le same. absurd (omega (arith, le, same, ap (λ (y : Thread). y.own.number) here))) ts (threads_from (suc u.own.number) m ts rise.2))
  only_thread t k m (u ∷ ts) rise (inr later) = (
    (λ same. some_all (λ v. suc u.own.number ≤ v.own.number) (λ v. v ≡ t) (u ≡ t) (λ v le is. absurd (omega (arith, le, same, ap (λ (y : Thread). y.own.number) is))) ts (threads_from (suc u.own.number) m ts rise.2) later),
    only_thread t (suc u.own.number) m ts rise.2 later,
  )

  -- the executors and folders of a thread are those around it and then its own
  pub record OwnSeat (t : Thread) (r : Result) : Type 0 where
    pub split : (seat_at t r).context.held ≡ t.own.context.held ++ drop (length t.own.context.held) (seat_at t r).context.held
    pub many : length (drop (length t.own.context.held) (seat_at t r).context.held) ≡ open_nodes (seat_at t r).stack
    pub folders : length (seat_at t r).context.folders ≡ length t.own.context.folders + open_folders (seat_at t r).stack

  own_unfinished : (t : Thread) → OwnSeat t Unfinished
  own_unfinished t = record { split = sym (ap (λ ns. t.own.context.held ++ ns) (drop_all t.own.context.held) ∙ append-nil t.own.context.held); many = ap (λ (ns : List ℕ). length ns) (drop_all t.own.context.held); folders = omega arith }

  own_waits : (t : Thread) (u : Common) (asked : Asked) (path : List Frame) (s : State) → StandsSound g t.own u (Waits asked path s) → OwnSeat t (Waits asked path s)
  own_waits t u asked path s h =
      let p : Pausing (begun_open t.own h.was h.gone) path s.world = ((h.waits).0).pausing in
      let left : drop (length t.own.context.held) s.world.own.context.held ≡ p.own = ap (drop (length t.own.context.held)) p.nodes ∙ drop_behind t.own.context.held p.own in
      record { split = p.nodes ∙ ap (λ ns. t.own.context.held ++ ns) (sym left); many = ap (λ (ns : List ℕ). length ns) left ∙ p.many; folders = p.folders }

  pub own_seat : (t : Thread) (u : Common) → SoundThread g u t → Stood g t → OwnSeat t (stands g t)
  own_seat t u h st = elim st.is [
    | inl new ↦ subst (OwnSeat t) (sym (ap (stands_from g t.runs t.own) new.none)) (own_unfinished t)
    | inr w ↦ subst (OwnSeat t) (sym w.stands_so) (own_waits t u w.asked w.path w.state (subst (StandsSound g t.own u) w.stands_so h.stood))
  ]

module _ (g : Setting) (tree : Tree) (is : g.script ≡ term 0 (tree_node tree)) (small : Small g) (narrow : Narrow g.limits) where
  abbrev HoldingIn : Build → Type 0
  HoldingIn b = Holding b.shared.held (rooms g b.threads)

  no_rooms : (b : Build) → b.threads ≡ [] → HoldingIn b
  no_rooms b none = subst (λ ts. Holding b.shared.held (rooms g ts)) (sym none) (record { around = tt; held = tt; differ = tt })

  all_split : (u : Common) (ts : List Thread) → AllAre (SoundThread g u) ts → AllAre (Stood g) ts → AllAre IsSplit (rooms g ts)
  all_split u [] h st = tt
  all_split u (t ∷ ts) h st = ((own_seat g t u h.0 st.0).split, all_split u ts h.1 st.1)

  -- The turn of a thread: t, with this answer.
  module _ (b : Build) (known : Known g tree is small narrow b) (h : HoldingIn b) (t : Thread) (x : Answer) (inside : Some_of (λ u. u ≡ t) b.threads) (ready : t.wait ≡ Ready x) where
    abbrev n : ℕ
    n = t.own.number

    abbrev rs : List Room
    rs = rooms g b.threads

    abbrev given : Thread
    given = given_answer b.shared x t

    only : AllAre (λ u. u.own.number ≡ t.own.number → u ≡ t) b.threads
    only = only_thread g t 0 b.next_thread b.threads ((known.agree).agree).numbers inside

    there : Some_of (λ q. q.number ≡ n) rs
    there = some_mapped (λ u. u ≡ t) (λ q. q.number ≡ n) (room_of g) (λ u e. ap (λ (y : Thread). y.own.number) e) b.threads inside

    split : AllAre IsSplit rs
    split = all_split b.shared b.threads known.sound known.stood

    waits_ready : HasPlace (λ p. p.wait ≡ Ready x) n (places b.threads)
    waits_ready = some_mapped (λ u. u ≡ t) (λ p. (p.number ≡ n) × (p.wait ≡ Ready x)) place_of (λ u e. (ap (λ (y : Thread). y.own.number) e, ap (λ (y : Thread). y.wait) e ∙ ready)) b.threads inside

    one_below : (k : ℕ) (o : Option ℕ) → ParentAgrees (places b.threads) k o → (m : ℕ) → o ≡ Some m → (m < k) × (m ≡ n → ⊥)
    one_below k None agrees m e = absurd (cc)
    one_below k (Some p) agrees m e =
        let same : p ≡ m = cc in (
          subst (λ j. j < k) same agrees.0,
          λ at. some_all (λ q. q.number ≡ n → q.wait ≡ Ready x) (λ q. (q.number ≡ p) × Waited k q.wait) ⊥ (λ q always waits. subst (Waited k) (always (waits.0 ∙ same ∙ at)) waits.1) (places b.threads)
              (only_place (λ q. q.wait ≡ Ready x) n 0 b.next_thread (places b.threads) ((known.agree).agree).numbers waits_ready) agrees.1,
        )

    below : AllAre (IsBelow n) rs
    below = all_weaker _ _ (λ q agrees. one_below q.number q.parent agrees) rs (of_places g (λ p. ParentAgrees (places b.threads) p.number p.parent) b.threads ((known.agree).agree).parents)

    -- what it stood for is what it may give back, and more
    abbrev gone : List ℕ
    gone = mine_of g tree is small narrow t (stands g t) ++ opens_at g tree is small narrow t.runs (stands g t) b.shared.held x

    gone_front : (r : Result) → (more : List ℕ) × (granted_request b.shared.held (Ready x) ≡ opens_at g tree is small narrow t.runs r b.shared.held x ++ more)
    gone_front (Waits asked path s) = opened_front (innermost g.script (outer_spot t.runs) path) b.shared.held x
    gone_front (Ended e s) = (granted_request b.shared.held (Ready x), refl)
    gone_front (Limited k s) = (granted_request b.shared.held (Ready x), refl)
    gone_front Unfinished = (granted_request b.shared.held (Ready x), refl)

    stood_for : stands_for b.shared.held (room_of g t) ≡ gone ++ (gone_front (stands g t)).0
    stood_for = ap (λ w. mine (room_of g t) ++ granted_request b.shared.held w) ready ∙ ap (λ ns. mine (room_of g t) ++ ns) (gone_front (stands g t)).1 ∙ sym (append_assoc (mine (room_of g t)) (opens_at g tree is small narrow t.runs (stands g t) b.shared.held x) (gone_front (stands g t)).0)

    stood_all : AllAre (λ q. q.number ≡ n → stands_for b.shared.held q ≡ gone ++ (gone_front (stands g t)).0) rs
    stood_all = of_threads g (λ u. u.own.number ≡ t.own.number → u ≡ t) (λ q. q.number ≡ n → stands_for b.shared.held q ≡ gone ++ (gone_front (stands g t)).0) (λ u e at. ap (λ (y : Thread). stands_for b.shared.held (room_of g y)) (e at) ∙ stood_for) b.threads only

    its_own : (ns : List ℕ) → AllAre (λ a. In a gone) ns → AllAre (λ a. Some_of (λ q. (q.number ≡ n) × In a (stands_for b.shared.held q)) rs) ns
    its_own ns all = all_weaker _ _ (λ a i. some_weaker _ _ (λ q k. (k.0, subst (In a) (sym k.1) (in_front a gone (gone_front (stands g t)).0 i))) rs stood_some) ns all
      where
        stood_some : Some_of (λ q. (q.number ≡ n) × (stands_for b.shared.held q ≡ gone ++ (gone_front (stands g t)).0)) rs
        stood_some = some_mapped (λ u. u ≡ t) (λ q. (q.number ≡ n) × (stands_for b.shared.held q ≡ gone ++ (gone_front (stands g t)).0)) (room_of g) (λ u e. (ap (λ (y : Thread). y.own.number) e, ap (λ (y : Thread). stands_for b.shared.held (room_of g y)) e ∙ stood_for)) b.threads inside

    abbrev mid : Build
    mid = record b { threads = with_thread (λ old. given) t.own.number b.threads }

    mid_rooms : (c : Context) → (seat_at given (stands g given)).context ≡ c → (s : State) → rooms g (stopped_at s.world mid).threads ≡ map (changing n c t.wait) rs
    mid_rooms c now s = rooms_head g s.world.own.head s.world.own.number mid.threads ∙ rooms_given g t given refl refl c now b.threads only

    -- it waits again
    module _ (path : List Frame) (s : State) (number : s.world.own.number ≡ n) (p : Pausing (begun_open t.own b.shared.held gone) path s.world) (now : (seat_at given (stands g given)).context ≡ s.world.own.context) where
      facts : AllAre (λ q. q.number ≡ n → (s.world.own.context.held ≡ q.around.held ++ p.own) × (stands_for b.shared.held q ≡ (p.own ++ p.rest) ++ (gone_front (stands g t)).0)) rs
      facts = of_threads g (λ u. u.own.number ≡ t.own.number → u ≡ t) (λ q. q.number ≡ n → (s.world.own.context.held ≡ q.around.held ++ p.own) × (stands_for b.shared.held q ≡ (p.own ++ p.rest) ++ (gone_front (stands g t)).0))
          (λ u e at. (p.nodes ∙ ap (λ (y : Thread). y.own.context.held ++ p.own) (sym (e at)), ap (λ (y : Thread). stands_for b.shared.held (room_of g y)) (e at) ∙ stood_for ∙ ap (λ ns. ns ++ (gone_front (stands g t)).0) p.gone)) b.threads only

      rest_its : AllAre (λ a. Some_of (λ q. (q.number ≡ n) × In a (stands_for b.shared.held q)) rs) p.rest
      rest_its = its_own p.rest (all_weaker _ _ (λ a i. subst (In a) (sym p.gone) (in_back a p.own p.rest i)) p.rest (all_in p.rest))

      waiting_holds : (w : Wait) → ((ys : List Held) → granted_request ys w ≡ []) → Holding s.world.shared.held (map (changing n s.world.own.context w) rs)
      waiting_holds w empty = subst (λ ys. Holding ys (map (changing n s.world.own.context w) rs)) (sym p.held) (changed_holds n b.shared.held rs split below h p.rest rest_its s.world.own.context w p.own (gone_front (stands g t)).0 facts empty)

      waiting_rooms : (w : Wait) → rooms g (with_thread (waits_as w) s.world.own.number (stopped_at s.world mid).threads) ≡ map (changing n s.world.own.context w) rs
      waiting_rooms w = rooms_rewait g (waits_as w) (λ v. w) (wait_room g w) s.world.own.number (stopped_at s.world mid).threads ∙ ap (λ k. map (rewaiting (λ v. w) k) (rooms g (stopped_at s.world mid).threads)) number
          ∙ ap (map (rewaiting (λ v. w) n)) (mid_rooms s.world.own.context now s) ∙ changed_twice n s.world.own.context t.wait (λ v. w) w refl rs

      asked_holds : (r : ℕ) → HoldingIn (record (stopped_at s.world mid) { threads = with_thread (waits_as (RequestWait r)) s.world.own.number (stopped_at s.world mid).threads })
      asked_holds r = subst (Holding s.world.shared.held) (sym (waiting_rooms (RequestWait r))) (waiting_holds (RequestWait r) (λ ys. refl))

      own_waits_held : AllAre (IsHeld s.world.shared.held) s.world.own.context.held
      own_waits_held = of_changed (map (changing n s.world.own.context (BranchesWait [])) rs) (changed_there n s.world.own.context (BranchesWait []) rs there) (waiting_holds (BranchesWait []) (λ ys. refl)).held
        where
          of_changed : (qs : List Room) → Some_of (λ q. (q.number ≡ n) × (q.now ≡ s.world.own.context)) qs → AllAre (λ q. AllAre (IsHeld s.world.shared.held) q.now.held) qs → AllAre (IsHeld s.world.shared.held) s.world.own.context.held
          of_changed qs some all = some_all (λ q. AllAre (IsHeld s.world.shared.held) q.now.held) (λ q. (q.number ≡ n) × (q.now ≡ s.world.own.context)) (AllAre (IsHeld s.world.shared.held) s.world.own.context.held) (λ q held at. subst (λ (c : Context). AllAre (IsHeld s.world.shared.held) c.held) at.1 held) qs all some

      forked_in : (bs : List Branch) → HoldingIn (forked s.world.own.number s.world.own bs (stopped_at s.world mid))
      forked_in bs =
          subst (Holding s.world.shared.held) (sym (rooms_append g (with_thread (waits_as (BranchesWait (joins_of b.next_thread bs))) s.world.own.number (stopped_at s.world mid).threads) (branch_threads s.world.own.number s.world.own b.next_thread bs)
          ∙ ap (λ ps. ps ++ rooms g (branch_threads s.world.own.number s.world.own b.next_thread bs)) (waiting_rooms (BranchesWait (joins_of b.next_thread bs)))))
          (forked_holds n s.world.own.context s.world.shared.held (map (changing n s.world.own.context (BranchesWait (joins_of b.next_thread bs))) rs) (rooms g (branch_threads s.world.own.number s.world.own b.next_thread bs))
          (waiting_holds (BranchesWait (joins_of b.next_thread bs)) (λ ys. refl)) (changed_there n s.world.own.context (BranchesWait (joins_of b.next_thread bs)) rs there) own_waits_held
          (subst (λ k. AllAre (IsNew k s.world.own.context) (rooms g (branch_threads s.world.own.number s.world.own b.next_thread bs))) number (new_rooms g s.world.own.number s.world.own b.next_thread bs)))

      forks_in : (limits : RunLimits) (bs : List Branch) → HoldingIn (forks limits s.world.own.number s.world.own bs (stopped_at s.world mid))
      forks_in limits bs = one (nat_lt limits.threads (length (stopped_at s.world mid).threads + length bs))
        where
          one : (past : Bool) → HoldingIn (if past then limit_met GreenThreads (stopped_at s.world mid).shared (stopped_at s.world mid) else forked s.world.own.number s.world.own bs (stopped_at s.world mid))
          one true = no_rooms (limit_met GreenThreads (stopped_at s.world mid).shared (stopped_at s.world mid)) refl
          one false = forked_in bs

    -- it ends
    ended_in : (m : ℕ) (e : Ending) (s : State) → s.world.shared.held ≡ without_all gone b.shared.held → HoldingIn (thread_ended (Some m) t.own.number e s.world.own.head s.world.shared (stopped_at s.world mid))
    ended_in m e s held =
        subst (Holding s.world.shared.held)
        (sym (rooms_rewait g (joins n s.world.own.head (outcome_of e)) (join_wait n s.world.own.head (outcome_of e)) (joins_room g n s.world.own.head (outcome_of e)) m (without_thread n (stopped_at s.world mid).threads)
        ∙ ap (map (rewaiting (join_wait n s.world.own.head (outcome_of e)) m)) (rooms_without g n (stopped_at s.world mid).threads ∙ ap (others (λ q. q.number) n) (mid_rooms (seat_at given (stands g given)).context refl s) ∙ changed_others n (seat_at given (stands g given)).context t.wait rs)))
        (subst (λ ys. Holding ys (map (rewaiting (join_wait n s.world.own.head (outcome_of e)) m) (others (λ q. q.number) n rs))) (sym held)
        (ended_holds n b.shared.held rs split below h gone (its_own gone (all_in gone)) (join_wait n s.world.own.head (outcome_of e)) m (λ ys w. join_none n s.world.own.head (outcome_of e) ys w)))

    ended_held : (o : Open) (runs : Runs) (e : Ending) (s : State) → HoldsAt (based g o) (outer_spot runs) b.shared (Ended e s) → s.world.shared.held ≡ without_all o.gone o.was
    ended_held o Script e s k = ((k.0).same).held
    ended_held o (Closure c env start) e s k = ((k.0).same).held

    stopped_in : (r : Result) → stands g given ≡ r → HoldsAt (based g (begun_open t.own b.shared.held gone)) (outer_spot t.runs) b.shared r → Owns g n t.own.calls r → (parent : Option ℕ) → HoldingIn (stopped g.limits parent n r mid)
    stopped_in (Ended e s) at k owns None = no_rooms (script_ended e s.world.own.head s.world.shared (stopped_at s.world mid)) (script_over g e s.world.own.head s.world.shared (stopped_at s.world mid)).none
    stopped_in (Ended e s) at k owns (Some m) = ended_in m e s (ended_held (begun_open t.own b.shared.held gone) t.runs e s k)
    stopped_in (Waits (For_request r) path s) at k owns parent =
        let w : Holds (based g (begun_open t.own b.shared.held gone)) form.Block b.shared (Waits (For_request r) path s) = waits_block (based g (begun_open t.own b.shared.held gone)) t.runs b.shared (For_request r) path s k in
        let own : OwnIs g n (t.own.calls + calls_of path) s = owns in
        asked_holds path s own.number (w.0).pausing (ap (λ y. (seat_at given y).context) at) r
    stopped_in (Waits (For_branches bs) path s) at k owns parent =
        let w : Holds (based g (begun_open t.own b.shared.held gone)) form.Block b.shared (Waits (For_branches bs) path s) = waits_block (based g (begun_open t.own b.shared.held gone)) t.runs b.shared (For_branches bs) path s k in
        let own : OwnIs g n (t.own.calls + calls_of path) s = owns in
        forks_in path s own.number (w.0).pausing (ap (λ y. (seat_at given y).context) at) g.limits bs
    stopped_in (Limited l s) at k owns parent = no_rooms (limit_met l s.world.shared (stopped_at s.world mid)) refl
    stopped_in Unfinished at k owns parent = no_rooms (record mid { threads = [] }) refl

  turn_holds : (b : Build) → Known g tree is small narrow b → HoldingIn b → (turn : Turn) → HasTurn g tree is small narrow b turn → HoldingIn (after_turn g tree is small narrow b turn)
  turn_holds b k h turn x =
      stopped_in b k h turn.thread turn.answer x.inside (x.is_turn).ready (stands g (given_answer b.shared turn.answer turn.thread)) refl
      (given_runs g tree is small narrow b.shared turn.answer x.answer turn.thread x.sound (x.is_turn).stood) (turn_owns g turn.thread b.shared turn.answer) turn.thread.parent

  -- where no thread is ready none is about to open a body
  plain_wait : (w : Wait) → NotReady w → (zs : List Held) → granted_request zs w ≡ []
  plain_wait (Ready x) h zs = absurd h
  plain_wait (RequestWait r) h zs = refl
  plain_wait (BranchesWait js) h zs = refl

  -- a request is answered
  answered_holds : (b : Build) → Calm g tree is small narrow b → HoldingIn b → (ys : List Held) (x : Answer) (k : ℕ) (new : List ℕ) → granted_request ys (Ready x) ≡ new → Distinct new → ((r : ℕ) → IsHeld b.shared.held r → IsHeld ys r) → AllAre (λ a. IsHeld b.shared.held a → ⊥) new
      → Holding ys (rooms g (with_thread (waits_as (Ready x)) k b.threads))
  answered_holds b c h ys x k new gives differ keeps free =
      subst (Holding ys) (sym (rooms_rewait g (waits_as (Ready x)) (λ v. Ready x) (wait_room g (Ready x)) k b.threads))
      (given_holds b.shared.held ys (Ready x) k new gives differ (rooms g b.threads) (of_threads g (λ t. NotReady t.wait) (λ q. (zs : List Held) → granted_request zs q.wait ≡ []) (λ t rests. plain_wait t.wait rests) b.threads c.rests)
      (subst Distinct (numbers_same g b.threads) (rise_distinct 0 b.next_thread (place_numbers (places b.threads)) (((c.known).agree).agree).numbers)) keeps free (all_split b.shared b.threads (c.known).sound (c.known).stood) h)

  output_holds : (b : Build) → HoldingIn b → (task : ℕ) (stream : Stream) (bytes : List ℕ) → HoldingIn (output g.limits task stream bytes (uncounted b))
  output_holds b h task LogStream bytes = one (nat_lt g.limits.log (length b.shared.log + length bytes))
    where
      one : (past : Bool) → HoldingIn (if past then limit_met LogSize (uncounted b).shared (uncounted b) else record (uncounted b) { shared = change_request (with_taken (length bytes)) task (record (uncounted b).shared { log = raw bytes b.shared.log }) })
      one true = no_rooms (limit_met LogSize (uncounted b).shared (uncounted b)) refl
      one false = h
  output_holds b h task OutStream bytes = one (nat_lt g.limits.values.text (length (kept_output (request_of b.shared.requests task)) + length bytes))
    where
      one : (past : Bool) → HoldingIn (if past then limit_met TextLength (uncounted b).shared (uncounted b) else record (uncounted b) { shared = change_request (with_kept bytes) task (uncounted b).shared })
      one true = no_rooms (limit_met TextLength (uncounted b).shared (uncounted b)) refl
      one false = h

  -- an executor that is found has its number
  numbered : (n : ℕ) (es : List Executor) (x : Executor) → find (λ y. nat_eq y.number n) es ≡ Some x → x.number ≡ n
  numbered n [] x e = absurd (cc)
  numbered n (y ∷ es) x e = one (nat_eq y.number n) refl e (numbered n es x)
    where
      one : (b : Bool) → nat_eq y.number n ≡ b → (if b then Some y else find (λ z. nat_eq z.number n) es) ≡ Some x → (find (λ z. nat_eq z.number n) es ≡ Some x → x.number ≡ n) → x.number ≡ n
      one true is e more = let it : y ≡ x = cc in ap (λ (z : Executor). z.number) (sym it) ∙ eqb-true _ _ is
      one false is e more = more e

  first_of : (a b : Bool) → (a && b) ≡ true → a ≡ true
  first_of true b e = refl
  first_of false b e = absurd (cc)

  grant_holds : (b : Build) → Calm g tree is small narrow b → HoldingIn b → (request executor : ℕ) (label : Option (List ℕ)) → Some_of (λ r. r.number ≡ request) b.shared.requests → (o : Option Executor) → executor_of g.site executor ≡ o → may_get label b.shared.held o ≡ true → (k : ℕ)
      → Holding (held_as g.site request executor o (uncounted b).shared).held (rooms g (with_thread (waits_as (Ready (GrantedAnswer executor))) k b.threads))
  grant_holds b c h request executor label were None found may k = absurd (cc)
  grant_holds b c h request executor label were (Some x) found may k =
      let y : Held = record { executor = executor; request = request; workspace = workspace_number g.site b.shared.held x } in
      let free : not (is_held b.shared.held executor) ≡ true = subst (λ m. not (is_held b.shared.held m) ≡ true) (numbered executor g.site.executors x found) (first_of (not (is_held b.shared.held x.number)) (executor_fits label x) may) in
      answered_holds b c h (with_held (record { executor = executor; request = request; workspace = workspace_number g.site b.shared.held x }) b.shared.held) (GrantedAnswer executor) k (request ∷ [])
      (grant_given (record { executor = executor; request = request; workspace = workspace_number g.site b.shared.held x }) b.shared.held free) (tt, tt)
      (λ r held. held_with r (record { executor = executor; request = request; workspace = workspace_number g.site b.shared.held x }) b.shared.held held) ((λ held. open_free g.site b.shared ((c.known).fit).held request were held), tt)

  event_holds : (b : Build) → Calm g tree is small narrow b → HoldingIn b → (x : Event) → answer_to g b x ≡ Accepted → HoldingIn (changed_by g x (uncounted b))
  event_holds b c h (StartEvent script agents) a = record { around = ((refl, refl), tt); held = (tt, tt); differ = tt }
  event_holds b c h (GrantedEvent request executor) a =
      let w = accepted_grant (standing g (uncounted b)) executor (request_of b.shared.requests request) (accepted_answer b.ended b.started (granted (standing g (uncounted b)) executor (request_of b.shared.requests request)) NotOpen (λ none. absurd (cc)) a) in
      grant_holds b c h request executor w.0 (open_of request b.shared.requests (NodeRequest w.0) w.1) (executor_of g.site executor) refl w.2 (thread_of request (held_as g.site request executor (executor_of g.site executor) (uncounted b).shared).requests)
  event_holds b c h (OutputEvent task stream from bytes) a = output_holds b h task stream bytes
  event_holds b c h (ExitedEvent task code) a = answered_holds b c h b.shared.held (Done code (kept_output (request_of b.shared.requests task))) (thread_of task b.shared.requests) [] refl tt (λ r held. held) tt
  event_holds b c h (LostEvent task why) a = answered_holds b c h b.shared.held (Done (lost_code why) (kept_output (request_of b.shared.requests task))) (thread_of task b.shared.requests) [] refl tt (λ r held. held) tt
  event_holds b c h (DecidedEvent request proceed name) a = answered_holds b c h b.shared.held (DecidedAnswer proceed name) (thread_of request b.shared.requests) [] refl tt (λ r held. held) tt

  -- In every world each thread is in the context of its parent and its own; the executors of these bodies are held; and all differ.
  pub world_holding : (events : List Event) → Calm g tree is small narrow (world_in g events) × Holding (world_in g events).shared.held (rooms g (world_in g events).threads)
  world_holding events = world_keeps g tree is small narrow HoldingIn turn_holds event_holds (record { around = tt; held = tt; differ = tt }) events
