-- A turn of a group's threads is a turn of the definitions, and so all turns of an event are.
use Rattle.std.proofs.Common.{◌≡◌, ℕ, zero, suc, ◌+◌, ◌≤◌, ◌<◌, List, [], ◌∷◌, ◌++◌, Bool, true, false, refl, sym, ap, subst, ◌∙◌, length, Option, Some, None, arith, slice_get}
use Rattle.std.specs.Prelude.{nat_eq, nat_lt, map, not, if◌then◌else◌}
use Rattle.std.proofs.lemmas.Bool.{le-ltb, lt-ltb, eq-eqb}
use Rattle.model_values.specs.declared.value.Outcome.{Outcome}
use Rattle.model_values.specs.declared.limit.LimitKind.{LimitKind}
use Rattle.model_values.specs.declared.limit.LimitKind.TheVariants.{GreenThreads}
use Rattle.model_values.specs.Limits.{limit_line}
use Rattle.model_run.specs.declared.wait.Answer.{Answer}
use Rattle.model_run.specs.declared.wait.Wait.{Wait}
use Rattle.model_run.specs.declared.wait.Wait.TheVariants.{Request as RequestWait, Branches as BranchesWait}
use Rattle.model_run.specs.declared.ending.Branch.{Branch}
use Rattle.model_run.specs.declared.ending.Ending.{Ending}
use Rattle.model_run.specs.declared.ending.Asked.TheVariants.{ForRequest as For_request, ForBranches as For_branches}
use Rattle.model_run.specs.declared.site.Site.{Site}
use Rattle.model_run.specs.declared.result.BuildResult.TheVariants.{Failure}
use Rattle.model_run.specs.Results.{worse}
use Rattle.model_run.specs.Terms.{Term}
use Rattle.model_run.specs.State.{Setting, Common, Own, State, Result, Ended as REnded, Waits as RWaits}
use Rattle.model_run.specs.Threads.{Thread, stands}
use Rattle.model_run.specs.World as W
use Rattle.green_threads.specs.declared.runner.Stop.{Stop}
use Rattle.green_threads.specs.declared.runner.Stop.TheVariants as stop
use Rattle.green_threads.specs.declared.runner.NewBranch.{NewBranch}
use Rattle.green_threads.specs.declared.runner.Seated.{Seated}
use Rattle.green_threads.specs.declared.settled.Settled.{Settled}
use Rattle.green_threads.specs.declared.settled.Settled.TheVariants.{AllWait, Ended, Limit}
use Rattle.green_threads.specs.Threads as G
use Rattle.green_threads.specs.Order.{Settles, all_wait, next_turn, ends, limit_met, too_many}
use Rattle.settle_laws.specs.Stances.{Stance, seated_as, Turns, StopsAs, Left, AllNew}
use Rattle.settle_laws.specs.Standing.{Rising, OnlyScript, Same, Matches, Stand, causes, end_result, over, heads, first_head, Comes}
use Rattle.settle_laws.proofs.Link.{script_with, script_without, script_append, script_new, script_first, rising_with, rising_without, rising_append, rising_new, matches_length, matches_both, matches_at, matches_without, matches_append, matches_first, matches_none, heads_both, Found, with_with, same_length, script_is, rests, takes, stands_later, names_are, many_are, matches_new}

without_with : (k : Thread → Thread) (n : ℕ) → ((y : Thread) → (k y).own.number ≡ n) → (hs : List Thread) → W.without_thread n (W.with_thread k n hs) ≡ W.without_thread n hs
without_with k n e [] = refl
without_with k n e (h ∷ hs) = go (nat_eq h.own.number n) refl ∙ ap (λ us. if not (nat_eq h.own.number n) then h ∷ us else us) (without_with k n e hs)
  where
    go : (c : Bool) → nat_eq h.own.number n ≡ c → W.without_thread n (W.with_thread k n (h ∷ hs)) ≡ (if not (nat_eq h.own.number n) then h ∷ W.without_thread n (W.with_thread k n hs) else W.without_thread n (W.with_thread k n hs))
    go true q =
        ap (λ c. if not (nat_eq (if c then k h else h).own.number n) then (if c then k h else h) ∷ W.without_thread n (W.with_thread k n hs) else W.without_thread n (W.with_thread k n hs)) q
        ∙ ap (λ c. if not c then k h ∷ W.without_thread n (W.with_thread k n hs) else W.without_thread n (W.with_thread k n hs)) (eq-eqb (k h).own.number n (e h))
        ∙ ap (λ c. if not c then h ∷ W.without_thread n (W.with_thread k n hs) else W.without_thread n (W.with_thread k n hs)) (sym q)
    go false q = ap (λ c. if not (nat_eq (if c then k h else h).own.number n) then (if c then k h else h) ∷ W.without_thread n (W.with_thread k n hs) else W.without_thread n (W.with_thread k n hs)) q

module _ {T S : Type 0} (stance : T → Stance) (common : S → Common) (script : S → Term) (site : S → Site) (seated : T → ℕ → Option ℕ → T) (seated_is : (t : T) (n : ℕ) (q : Option ℕ) → stance (seated t n q) ≡ seated_as n q (stance t)) where
  abbrev pub setting_in : S → Setting
  setting_in u = W.setting_of W.run_limits (script u) (site u)

  abbrev pub hd : T → ℕ
  hd t = (stance t).own.head

  abbrev pub turn_is : T → S → Answer → Stop T → T → S → Type 0
  turn_is = Turns stance common setting_in

  -- one turn
  module _ (g : G.Threads T) (u u' : S) (b : W.Build) (st : Stand stance (setting_in u) g (common u) b) (v : G.Turn T) (first : G.first_ready g.seats ≡ Some v) (stopped : Stop T) (t' : T) (tu : turn_is v.seat.thread u v.answer stopped t' u') where
    abbrev pub setting : Setting
    setting = setting_in u

    found : Found stance setting v g.seats b.threads
    found = matches_first stance setting g.seats b.threads v st.threads first

    abbrev pub x : Seated T
    x = v.seat

    -- the thread with one answer more, by the name of the shared state that the code has
    h1 : Thread → Thread
    h1 h = W.given_answer (common u) v.answer h

    -- the definition goes on from this build, for which these threads stand
    pub record Goes (g2 : G.Threads T) : Type 0 where
      pub build : W.Build
      pub settles : (n : ℕ) → W.settle (suc n) setting b ≡ W.settle n setting build
      pub started : build.started ≡ b.started
      pub ended : build.ended ≡ b.ended
      pub stand : Stand stance (setting_in u') g2 (common u') build

    module _ (f : Found stance setting v g.seats b.threads) where
      abbrev pub h : Thread
      h = f.thread

      abbrev pub next_h : Thread
      next_h = W.given_answer (common u) v.answer f.thread

      num : f.thread.own.number ≡ x.number
      num = sym f.same.number

      num' : (stance t').own.number ≡ x.number
      num' = tu.number ∙ f.same.stands.number ∙ sym f.same.number

      abbrev pub resumed_from : W.Build
      resumed_from = record b { threads = W.with_thread (λ old. next_h) f.thread.own.number b.threads }

      begins : (n : ℕ) → W.settle (suc n) setting b ≡ W.settle n setting (W.stopped W.run_limits f.thread.parent f.thread.own.number (stands setting next_h) resumed_from)
      begins n =
          takes n setting b f.thread v.answer f.first
          ∙ ap (λ c. W.settle n setting (W.resumed setting (W.given_answer c v.answer f.thread) b)) st.shared

      -- the build behind the stop, with its head
      abbrev pub mid : W.Build
      mid = record { shared = common u'; threads = W.with_thread (λ old. W.with_head (hd t') next_h) x.number b.threads; next_thread = b.next_thread; started = b.started; ended = b.ended }

      stopped_is : (s : State) → Left s (stance t') (common u') → W.stopped_at s.world resumed_from ≡ mid
      stopped_is s l =
          ap (λ c. record { shared = c; threads = W.with_thread (W.with_head s.world.own.head) s.world.own.number resumed_from.threads; next_thread = b.next_thread; started = b.started; ended = b.ended }) l.shared
          ∙ ap (λ (o : Own). record { shared = common u'; threads = W.with_thread (W.with_head o.head) o.number resumed_from.threads; next_thread = b.next_thread; started = b.started; ended = b.ended }) l.own
          ∙ ap (λ ts. record { shared = common u'; threads = ts; next_thread = b.next_thread; started = b.started; ended = b.ended })
          (ap (λ n. W.with_thread (W.with_head (hd t')) n resumed_from.threads) num'
          ∙ ap (λ n. W.with_thread (W.with_head (hd t')) x.number (W.with_thread (λ old. next_h) n b.threads)) num
          ∙ with_with (W.with_head (hd t')) (λ old. next_h) x.number (λ y. num) b.threads)

      -- the thread waits
      same_waiting : (w : Wait) → (asked : _) (s : State) → stands setting next_h ≡ RWaits asked ((stance t').frames) s → Left s (stance t') (common u') → Same stance setting (G.turned_seat w t' x) (W.waits_as w (W.with_head (hd t') next_h))
      same_waiting w asked s e l = record {
        number = f.same.number;
        parent = f.same.parent;
        wait = refl;
        stands = record {
          number = num' ∙ f.same.number;
          parent = tu.parent ∙ f.same.stands.parent;
          head = refl;
          at = stands_later stance setting (stance t') (W.waits_as w (W.with_head (hd t') next_h)) f.thread.history (record { shared = common u; answer = v.answer }) (tu.begun, asked, s, e, l.own);
        };
      }

      waiting_threads : (w : Wait) → W.with_thread (W.waits_as w) x.number mid.threads ≡ W.with_thread (λ old. W.waits_as w (W.with_head (hd t') next_h)) x.number b.threads
      waiting_threads w = with_with (W.waits_as w) (λ old. W.with_head (hd t') next_h) x.number (λ y. num) b.threads

      matches_waiting : (w : Wait) → (asked : _) (s : State) → stands setting next_h ≡ RWaits asked ((stance t').frames) s → Left s (stance t') (common u') → Matches stance setting (G.with_seat (G.turned_seat w t') x.number g.seats) (W.with_thread (λ old. W.waits_as w (W.with_head (hd t') next_h)) x.number b.threads)
      matches_waiting w asked s e l = matches_at stance setting (G.turned_seat w t') (λ old. W.waits_as w (W.with_head (hd t') next_h)) 0 g.seats b.threads g.next f.place x f.thread st.rising st.threads f.at f.at' (same_waiting w asked s e l)

      mid_heads : (w : Wait) → map (λ t. t.head) mid.threads ≡ heads stance (G.with_seat (G.turned_seat w t') x.number g.seats)
      mid_heads w = heads_both stance setting (G.turned_seat w t') (λ old. W.with_head (hd t') next_h) x.number (hd t') (λ z. refl) (λ y. refl) g.seats b.threads st.threads

      as_stopped : (k : Stop T) → stopped ≡ k → StopsAs stance (stands setting next_h) k (stance t') (common u')
      as_stopped k e = subst (λ j. StopsAs stance (stands setting next_h) j (stance t') (common u')) e (tu.stops f.thread f.same.stands)

      after_stop : (r : Result) → stands setting next_h ≡ r → (b2 : W.Build) → W.stopped W.run_limits f.thread.parent f.thread.own.number r resumed_from ≡ b2 → (n : ℕ) → W.settle (suc n) setting b ≡ W.settle n setting b2
      after_stop r e b2 q n = begins n ∙ ap (λ c. W.settle n setting c) (ap (λ k. W.stopped W.run_limits f.thread.parent f.thread.own.number k resumed_from) e ∙ q)

      pub waits_on : (q : ℕ) → stopped ≡ stop.Waits q → Goes (record { seats = G.with_seat (G.turned_seat (RequestWait q) t') x.number g.seats; next = g.next })
      waits_on q e =
          let k = as_stopped (stop.Waits q) e in
          let s : State = k.0 in
          let l : Left s (stance t') (common u') = k.2 in
          let w : Wait = RequestWait q in
          let b2 : W.Build = record mid { threads = W.with_thread (W.waits_as (RequestWait q)) x.number mid.threads } in
          let is : W.stopped W.run_limits f.thread.parent f.thread.own.number (RWaits (For_request q) ((stance t').frames) s) resumed_from ≡ record mid { threads = W.with_thread (W.waits_as (RequestWait q)) x.number mid.threads } =
          ap (λ (c : W.Build). record c { threads = W.with_thread (W.waits_as (RequestWait q)) s.world.own.number c.threads }) (stopped_is s l)
          ∙ ap (λ (o : Own). record mid { threads = W.with_thread (W.waits_as (RequestWait q)) o.number mid.threads }) l.own
          ∙ ap (λ m. record mid { threads = W.with_thread (W.waits_as (RequestWait q)) m mid.threads }) num' in
          record {
            build = b2;
            settles = λ n. after_stop _ k.1 _ is n;
            started = refl;
            ended = refl;
            stand = record {
              shared = refl;
              next = st.next;
              script = script_with (G.turned_seat (RequestWait q) t') (λ z. refl) (λ z. refl) x.number g.seats st.script;
              rising = rising_with (G.turned_seat (RequestWait q) t') (λ z. refl) x.number 0 g.seats g.next st.rising;
              threads = subst (λ j. Matches stance j (G.with_seat (G.turned_seat (RequestWait q) t') x.number g.seats) b2.threads) (sym tu.same_setting)
                  (subst (λ ts. Matches stance setting (G.with_seat (G.turned_seat (RequestWait q) t') x.number g.seats) ts) (sym (waiting_threads (RequestWait q))) (matches_waiting (RequestWait q) (For_request q) s k.1 l));
            };
          }

      forks_is : (ds : List Branch) (s : State) → Left s (stance t') (common u') → W.stopped W.run_limits f.thread.parent f.thread.own.number (RWaits (For_branches ds) ((stance t').frames) s) resumed_from ≡ W.forks W.run_limits x.number ((stance t').own) ds mid
      forks_is ds s l =
          ap (λ (c : W.Build). W.forks W.run_limits s.world.own.number s.world.own ds c) (stopped_is s l)
          ∙ ap (λ (o : Own). W.forks W.run_limits o.number o ds mid) l.own
          ∙ ap (λ m. W.forks W.run_limits m ((stance t').own) ds mid) num'

      how_many : (bs : List (NewBranch T)) (ds : List Branch) → AllNew stance ((stance t').own) bs ds → length mid.threads + length ds ≡ length g.seats + length bs
      how_many bs ds a = omega (arith, same_length (λ old. W.with_head (hd t') next_h) x.number b.threads, matches_length stance setting g.seats b.threads st.threads, many_are stance ((stance t').own) bs ds a)

      pub forks_on : (bs : List (NewBranch T)) → stopped ≡ stop.Forks bs → length g.seats + length bs ≤ 256 → Goes (record { seats = G.with_seat (G.turned_seat (BranchesWait (G.new_joins g.next bs)) t') x.number g.seats ++ G.new_seats seated x.number g.next bs; next = g.next + length bs })
      forks_on bs e few =
          let k = as_stopped (stop.Forks bs) e in
          let ds : List Branch = k.0 in
          let s : State = k.1 in
          let l : Left s (stance t') (common u') = k.3 in
          let a : AllNew stance ((stance t').own) bs ds = k.4 in
          let room : nat_lt 256 (length mid.threads + length ds) ≡ false = le-ltb 256 (length mid.threads + length ds) (omega (arith, few, how_many bs ds a)) in
          let is : W.stopped W.run_limits f.thread.parent f.thread.own.number (RWaits (For_branches ds) ((stance t').frames) s) resumed_from ≡ W.forked x.number ((stance t').own) ds mid =
          forks_is ds s l ∙ ap (λ c. if c then W.limit_met GreenThreads mid.shared mid else W.forked x.number ((stance t').own) ds mid) room in
          let names : G.new_joins g.next bs ≡ W.joins_of b.next_thread ds = names_are stance ((stance t').own) g.next bs ds a ∙ ap (λ m. W.joins_of m ds) (sym st.next) in
          record {
            build = W.forked x.number ((stance t').own) ds mid;
            settles = λ n. after_stop _ k.2 _ is n;
            started = refl;
            ended = refl;
            stand = record {
              shared = refl;
              next = omega (arith, st.next, many_are stance ((stance t').own) bs ds a);
              script = script_append _ _ (script_with (G.turned_seat (BranchesWait (G.new_joins g.next bs)) t') (λ z. refl) (λ z. refl) x.number g.seats st.script) (script_new seated x.number g.next bs);
              rising = rising_append 0 _ _ g.next (g.next + length bs) (rising_with (G.turned_seat (BranchesWait (G.new_joins g.next bs)) t') (λ z. refl) x.number 0 g.seats g.next st.rising) (rising_new seated x.number g.next bs);
              threads = subst (λ j. Matches stance j (G.with_seat (G.turned_seat (BranchesWait (G.new_joins g.next bs)) t') x.number g.seats ++ G.new_seats seated x.number g.next bs) (W.forked x.number ((stance t').own) ds mid).threads) (sym tu.same_setting)
                  (matches_append stance setting _ _ _ _
                  (subst (λ js. Matches stance setting (G.with_seat (G.turned_seat (BranchesWait js) t') x.number g.seats) (W.with_thread (W.waits_as (BranchesWait (W.joins_of b.next_thread ds))) x.number mid.threads)) (sym names)
                  (subst (λ ts. Matches stance setting (G.with_seat (G.turned_seat (BranchesWait (W.joins_of b.next_thread ds)) t') x.number g.seats) ts) (sym (waiting_threads (BranchesWait (W.joins_of b.next_thread ds))))
                  (matches_waiting (BranchesWait (W.joins_of b.next_thread ds)) (For_branches ds) s k.2 l)))
                  (subst (λ m. Matches stance setting (G.new_seats seated x.number g.next bs) (W.branch_threads x.number ((stance t').own) m ds)) (sym st.next) (matches_new stance seated seated_is setting x.number g.next ((stance t').own) bs ds a)));
            };
          }

      ended_is : (o : Outcome) (e : Ending) (s : State) → Left s (stance t') (common u') → W.outcome_of e ≡ o → W.stopped W.run_limits f.thread.parent f.thread.own.number (REnded e s) resumed_from ≡ W.thread_ended x.parent x.number e (hd t') (common u') mid
      ended_is o e s l q =
          ap (λ c. W.thread_ended f.thread.parent f.thread.own.number e s.world.own.head s.world.shared c) (stopped_is s l)
          ∙ ap (λ c. W.thread_ended f.thread.parent f.thread.own.number e s.world.own.head c mid) l.shared
          ∙ ap (λ (o : Own). W.thread_ended f.thread.parent f.thread.own.number e o.head (common u') mid) l.own
          ∙ ap (λ m. W.thread_ended f.thread.parent m e (hd t') (common u') mid) num
          ∙ ap (λ m. W.thread_ended m x.number e (hd t') (common u') mid) (sym f.same.parent)

      pub ends_on : (o : Outcome) (p : ℕ) → stopped ≡ stop.Ended o → x.parent ≡ Some p → Goes (record { seats = G.ended_branch x.number (hd t') o x.parent g.seats; next = g.next })
      ends_on o p e par =
          let k = as_stopped (stop.Ended o) e in
          let s : State = k.1 in
          let l : Left s (stance t') (common u') = k.4 in
          let b2 : W.Build = record mid { threads = W.with_thread (W.joins x.number (hd t') o) p (W.without_thread x.number mid.threads) } in
          let is : W.stopped W.run_limits f.thread.parent f.thread.own.number (REnded k.0 s) resumed_from ≡ record mid { threads = W.with_thread (W.joins x.number (hd t') o) p (W.without_thread x.number mid.threads) } =
          ended_is o k.0 s l k.3 ∙ ap (λ m. W.thread_ended m x.number k.0 (hd t') (common u') mid) par
          ∙ ap (λ q. record mid { threads = W.with_thread (W.joins x.number (hd t') q) p (W.without_thread x.number mid.threads) }) k.3 in
          let gone : W.without_thread x.number mid.threads ≡ W.without_thread x.number b.threads = without_with (λ old. W.with_head (hd t') next_h) x.number (λ y. num) b.threads in
          let ms : Matches stance setting (G.with_seat (G.joined_seat x.number (hd t') o) p (G.without_seat x.number g.seats)) (W.with_thread (W.joins x.number (hd t') o) p (W.without_thread x.number b.threads)) =
          matches_both stance setting (G.joined_seat x.number (hd t') o) (W.joins x.number (hd t') o) p
          (λ z y same. record { number = same.number; parent = same.parent; wait = ap (λ w. W.join_wait x.number (hd t') o w) same.wait; stands = record { number = same.stands.number; parent = same.stands.parent; head = same.stands.head; at = same.stands.at } })
          _ _ (matches_without stance setting x.number g.seats b.threads st.threads) in
          record {
            build = b2;
            settles = λ n. after_stop _ k.2 _ is n;
            started = refl;
            ended = refl;
            stand = record {
              shared = refl;
              next = st.next;
              script = subst (λ m. OnlyScript (G.ended_branch x.number (hd t') o m g.seats)) (sym par) (script_with (G.joined_seat x.number (hd t') o) (λ z. refl) (λ z. refl) p (G.without_seat x.number g.seats) (script_without x.number g.seats st.script));
              rising = subst (λ m. Rising 0 (G.ended_branch x.number (hd t') o m g.seats) g.next) (sym par)
                  (rising_with (G.joined_seat x.number (hd t') o) (λ z. refl) p 0 (G.without_seat x.number g.seats) g.next (rising_without x.number 0 g.seats g.next st.rising));
              threads = subst (λ m. Matches stance (setting_in u') (G.ended_branch x.number (hd t') o m g.seats) b2.threads) (sym par)
                  (subst (λ j. Matches stance j (G.with_seat (G.joined_seat x.number (hd t') o) p (G.without_seat x.number g.seats)) b2.threads) (sym tu.same_setting)
                  (subst (λ ts. Matches stance setting (G.with_seat (G.joined_seat x.number (hd t') o) p (G.without_seat x.number g.seats)) (W.with_thread (W.joins x.number (hd t') o) p ts)) (sym gone) ms));
            };
          }

      -- all is over
      finishes : (n : ℕ) (r : Result) → stands setting next_h ≡ r → (hs : List ℕ) (cs : List (List ℕ)) (br : _) → W.stopped W.run_limits f.thread.parent f.thread.own.number r resumed_from ≡ W.finish hs cs br (common u') mid → W.settle (suc n) setting b ≡ over b g.next (W.finished hs cs br (common u'))
      finishes n r e hs cs br q =
          after_stop r e (W.finish hs cs br (common u') mid) q n
          ∙ rests n setting (W.finish hs cs br (common u') mid) refl
          ∙ ap (λ m. over b m (W.finished hs cs br (common u'))) st.next

      pub ended_all : (n : ℕ) (o : Outcome) → stopped ≡ stop.Ended o → x.parent ≡ None → W.settle (suc n) setting b ≡ over b g.next (W.finished (hd t' ∷ []) (causes o (common u').cells) (end_result o (common u').result (common u').cells) (common u'))
      ended_all n o e par =
          let k = as_stopped (stop.Ended o) e in
          finishes n _ k.2 (hd t' ∷ []) (causes o (common u').cells) (end_result o (common u').result (common u').cells)
          (ended_is o k.0 k.1 k.4 k.3 ∙ ap (λ m. W.thread_ended m x.number k.0 (hd t') (common u') mid) par ∙ script_is k.0 o (hd t') (common u') mid k.3)

      pub limit_all : (n : ℕ) (k : LimitKind) (w : Wait) → stopped ≡ stop.Limit k → W.settle (suc n) setting b ≡ over b g.next (W.finished (heads stance (G.with_seat (G.turned_seat w t') x.number g.seats)) (limit_line k ∷ []) (worse (common u').result Failure) (common u'))
      limit_all n k w e =
          let d = as_stopped (stop.Limit k) e in
          let s : State = d.0 in
          let l : Left s (stance t') (common u') = d.2 in
          finishes n _ d.1 (heads stance (G.with_seat (G.turned_seat w t') x.number g.seats)) (limit_line k ∷ []) (worse (common u').result Failure)
          (ap (λ c. W.limit_met k s.world.shared c) (stopped_is s l) ∙ ap (λ c. W.limit_met k c mid) l.shared
          ∙ ap (λ hs. W.finish hs (limit_line k ∷ []) (worse (common u').result Failure) (common u') mid) (mid_heads w))

      pub crowded_all : (n : ℕ) (bs : List (NewBranch T)) (w : Wait) → stopped ≡ stop.Forks bs → 256 < length g.seats + length bs → W.settle (suc n) setting b ≡ over b g.next (W.finished (heads stance (G.with_seat (G.turned_seat w t') x.number g.seats)) (limit_line GreenThreads ∷ []) (worse (common u').result Failure) (common u'))
      crowded_all n bs w e many =
          let k = as_stopped (stop.Forks bs) e in
          let ds : List Branch = k.0 in
          let full : nat_lt 256 (length mid.threads + length ds) ≡ true = lt-ltb 256 (length mid.threads + length ds) (omega (arith, many, how_many bs ds k.4)) in
          finishes n _ k.2 (heads stance (G.with_seat (G.turned_seat w t') x.number g.seats)) (limit_line GreenThreads ∷ []) (worse (common u').result Failure)
          (forks_is ds k.1 k.3 ∙ ap (λ c. if c then W.limit_met GreenThreads mid.shared mid else W.forked x.number ((stance t').own) ds mid) full
          ∙ ap (λ hs. W.finish hs (limit_line GreenThreads ∷ []) (worse (common u').result Failure) (common u') mid) (mid_heads w))

  turned_at_if : (w : Wait) (t : T) (x : Seated T) (xs : List (Seated T)) (i : ℕ) → slice_get xs i ≡ Some x → slice_get (G.with_seat (G.turned_seat w t) x.number xs) i ≡ Some (G.turned_seat w t x)
  turned_at_if w t x [] i e = absurd (cc e)
  turned_at_if w t x (z ∷ zs) zero e =
      let q : z ≡ x = cc e in
      subst (λ (u : Seated T). Some (G.seat_if (G.turned_seat w t) u.number z) ≡ Some (G.turned_seat w t u)) q (ap (λ c. Some (if c then G.turned_seat w t z else z)) (eq-eqb z.number z.number refl))
  turned_at_if w t x (z ∷ zs) (suc i) e = turned_at_if w t x zs i e

  first_of : (xs : List (Seated T)) (x : Seated T) → slice_get xs 0 ≡ Some x → first_head stance xs ≡ hd x.thread
  first_of [] x e = absurd (cc e)
  first_of (z ∷ zs) x e = let q : z ≡ x = cc e in ap (λ (u : Seated T). hd u.thread) q

  turned_at : (setting : Setting) (g : G.Threads T) (v : G.Turn T) (i : ℕ) (w : Wait) (t : T) → slice_get g.seats i ≡ Some v.seat → Rising 0 g.seats g.next → slice_get (G.with_seat (G.turned_seat w t) v.seat.number g.seats) i ≡ Some (G.turned_seat w t v.seat)
  turned_at st g v i w t at r = turned_at_if w t v.seat g.seats i at

  -- All turns of an event: what the threads settle to in at most n turns, the definition comes to with this bound.
  pub settles_world : (n : ℕ) (g : G.Threads T) (u : S) (out : Settled) (g' : G.Threads T) (u' : S) → Settles 256 seated hd turn_is n g u out g' u' → (b : W.Build) → Stand stance (setting_in u) g (common u) b → Comes stance (setting_in u') out g' (common u') b (W.settle n (setting_in u) b)
  settles_world _ _ _ _ _ _ (all_wait n g u none) b st =
      subst (λ c. Comes stance (setting_in u) AllWait g (common u) b c) (sym (rests n (setting_in u) b (matches_none stance (setting_in u) g.seats b.threads st.threads none))) (st, refl, refl, none)
  settles_world _ _ _ _ _ _ (next_turn n g g' u u' u'' v stopped t out first tu more adm rest) b st =
      go (λ b2 st2. settles_world n (G.turned seated hd g v.seat stopped t) u' out g' u'' rest b2 st2) stopped refl more adm
    where
      f : Found stance (setting_in u) v g.seats b.threads
      f = matches_first stance (setting_in u) g.seats b.threads v st.threads first

      carried : (b2 : W.Build) → b2.started ≡ b.started → b2.ended ≡ b.ended → (o : Settled) (c : W.Build) → Comes stance (setting_in u'') o g' (common u'') b2 c → Comes stance (setting_in u'') o g' (common u'') b c
      carried b2 es ee AllWait c k = (k.0, k.1 ∙ es, k.2 ∙ ee, k.3)
      carried b2 es ee (Ended o) c k = k ∙ ap (λ m. record { shared = W.finished (first_head stance g'.seats ∷ []) (causes o (common u'').cells) (end_result o (common u'').result (common u'').cells) (common u''); threads = []; next_thread = g'.next; started = m; ended = true }) es
      carried b2 es ee (Limit j) c k = k ∙ ap (λ m. record { shared = W.finished (heads stance g'.seats) (limit_line j ∷ []) (worse (common u'').result Failure) (common u''); threads = []; next_thread = g'.next; started = m; ended = true }) es

      on : (g2 : G.Threads T) → G.turned seated hd g v.seat stopped t ≡ g2 → Goes g u u' b st v first stopped t tu g2 → ((b2 : W.Build) → Stand stance (setting_in u') (G.turned seated hd g v.seat stopped t) (common u') b2 → Comes stance (setting_in u'') out g' (common u'') b2 (W.settle n (setting_in u') b2)) → Comes stance (setting_in u'') out g' (common u'') b (W.settle (suc n) (setting_in u) b)
      on g2 e k later =
          subst (λ c. Comes stance (setting_in u'') out g' (common u'') b c) (sym (k.settles n))
          (subst (λ j. Comes stance (setting_in u'') out g' (common u'') b (W.settle n j k.build)) tu.same_setting (carried k.build k.started k.ended out (W.settle n (setting_in u') k.build) (later k.build (subst (λ m. Stand stance (setting_in u') m (common u') k.build) (sym e) k.stand))))

      go : ((b2 : W.Build) → Stand stance (setting_in u') (G.turned seated hd g v.seat stopped t) (common u') b2 → Comes stance (setting_in u'') out g' (common u'') b2 (W.settle n (setting_in u') b2)) → (k : Stop T) → stopped ≡ k → G.GoesOn v.seat.parent k → G.WithinLimit 256 g.seats k → Comes stance (setting_in u'') out g' (common u'') b (W.settle (suc n) (setting_in u) b)
      go later (stop.Waits q) e more adm = on _ (ap (λ k. G.turned seated hd g v.seat k t) e) (waits_on g u u' b st v first stopped t tu f q e) later
      go later (stop.Forks bs) e more adm = on _ (ap (λ k. G.turned seated hd g v.seat k t) e) (forks_on g u u' b st v first stopped t tu f bs e adm) later
      go later (stop.Ended o) e more adm = parented v.seat.parent refl more
        where
          parented : (q : Option ℕ) → v.seat.parent ≡ q → G.HasParent q → Comes stance (setting_in u'') out g' (common u'') b (W.settle (suc n) (setting_in u) b)
          parented None d m = absurd m
          parented (Some p) d m = on _ (ap (λ k. G.turned seated hd g v.seat k t) e) (ends_on g u u' b st v first stopped t tu f o p e d) later
      go later (stop.Limit j) e more adm = absurd more
  settles_world _ _ _ _ _ _ (ends n g u u' v o t w first tu par) b st =
      let f = matches_first stance (setting_in u) g.seats b.threads v st.threads first in
      let at : slice_get (G.with_seat (G.turned_seat w t) v.seat.number g.seats) 0 ≡ Some (G.turned_seat w t v.seat) = script_first (G.with_seat (G.turned_seat w t) v.seat.number g.seats) g.next f.place (G.turned_seat w t v.seat) (rising_with (G.turned_seat w t) (λ z. refl) v.seat.number 0 g.seats g.next st.rising) (script_with (G.turned_seat w t) (λ z. refl) (λ z. refl) v.seat.number g.seats st.script) (turned_at (setting_in u) g v f.place w t f.at st.rising) par in
      ended_all g u u' b st v first (stop.Ended o) t tu f n o refl par ∙ ap (λ m. over b g.next (W.finished (m ∷ []) (causes o (common u').cells) (end_result o (common u').result (common u').cells) (common u'))) (sym (first_of _ _ at))
  settles_world _ _ _ _ _ _ (limit_met n g u u' v k t w first tu) b st =
      limit_all g u u' b st v first (stop.Limit k) t tu (matches_first stance (setting_in u) g.seats b.threads v st.threads first) n k w refl
  settles_world _ _ _ _ _ _ (too_many n g u u' v bs t w first tu many) b st =
      crowded_all g u u' b st v first (stop.Forks bs) t tu (matches_first stance (setting_in u) g.seats b.threads v st.threads first) n bs w refl many
