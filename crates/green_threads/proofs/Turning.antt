-- What one turn of the lowest-numbered ready thread keeps, for each way in which it stops.
use Rattle.std.proofs.Common.{◌≡◌, ℕ, suc, ◌+◌, ◌≤◌, ◌<◌, List, ◌++◌, Bool, true, false, refl, sym, ap, subst, ◌∙◌, length, Option, Some, None, arith, slice_get, slice_set, slice_index_or, remove}
use Rattle.std.specs.Prelude.{is_some}
use Rattle.green_threads.specs.WaitTypes.{LimitKind, GreenThreads, Answer, Wait, Ready, RequestWait, BranchesWait, Outcome}
use Rattle.green_threads.specs.declared.runner.Stop.{Stop}
use Rattle.green_threads.specs.declared.runner.Stop.TheVariants as stop
use Rattle.green_threads.specs.declared.runner.Seated.{Seated}
use Rattle.green_threads.specs.declared.runner.NewBranch.{NewBranch}
use Rattle.green_threads.specs.declared.settled.Settled.TheVariants.{Ended, Limit}
use Rattle.green_threads.specs.Threads.{Threads, Turn, first_ready, with_seat, without_seat, waits_as, turned_seat, joined_seat, ended_branch, new_joins, new_seats, turned, GoesOn, HasParent}
use Rattle.green_threads.specs.Resuming.{Lowers, Begins, AllBranches, MayResume}
use Rattle.green_threads.specs.Grouping.{FewBranches, IsSeated, Grouped, one_ready, ready_count}
use Rattle.green_threads.specs.Order.{Settles, ends, limit_met, too_many}
use Rattle.green_threads.specs.Places.{ready_place}
use Rattle.green_threads.specs.Turns.{Rules, InGroup, Resumed, OneTurn, LastTurn}
use Rattle.green_threads.proofs.Seats.{below_of, index_is, get_set, set_set, set_length, remove_set, ready_at, joins_length, set_count, remove_count, append_count, new_count, with_at, without_at, seated_at, all_below, grouped_set, grouped_remove, grouped_append, grouped_joined, joined_count}

ready_inj : (a b : Answer) → Ready a ≡ Ready b → a ≡ b
ready_inj a b h = cc h

lowers_end : (T : Type 0) (o : Outcome) (b : Bool) (old new : ℕ) → b ≡ true → Lowers {T = T} (stop.Ended o) b old new → suc new ≤ old
lowers_end T o true old new e h = h
lowers_end T o false old new e h = absurd (cc e)

some_is : (q : Option ℕ) (p : ℕ) → q ≡ Some p → is_some q ≡ true
some_is q p e = ap (λ o. is_some o) e

goes_end : (q : Option ℕ) (p : ℕ) → q ≡ Some p → HasParent q
goes_end None p e = absurd (cc e)
goes_end (Some q) p e = tt

-- the thread at the ready place
module _ {T S : Type 0} (r : Rules T S) (g : Threads T) (xs : List (Seated T)) (next : ℕ) (v : (record { seats = xs; next = next }) ≡ g) (i : ℕ) (ready : Some i ≡ ready_place g.seats) where
  pub place_below : i < length xs
  place_below = let a = ready_at g.seats i (sym ready) in subst (λ (m : Threads T). i < length m.seats) (sym v) (below_of g.seats i a.seat a.at)

  pub place_in_set : (y : Seated T) → i < length (slice_set xs i y)
  place_in_set y = omega (arith, place_below, set_length xs i y)

  pub at_place : (x : Seated T) → x ≡ slice_index_or xs i x → slice_get g.seats i ≡ Some x
  at_place x val =
      let a = ready_at g.seats i (sym ready) in
      a.at ∙ ap Some (sym (val ∙ ap (λ (m : Threads T). slice_index_or m.seats i x) v ∙ index_is g.seats i a.seat x a.at))

  pub fitting_here : (x : Seated T) (s : S) → x ≡ slice_index_or xs i x → r.fits g.seats s → (a : Answer) × (x.wait ≡ Ready a) × MayResume r.fits x.thread s a
  fitting_here x s val fi =
      let a = ready_at g.seats i (sym ready) in
      let same : x ≡ a.seat = val ∙ ap (λ (m : Threads T). slice_index_or m.seats i x) v ∙ index_is g.seats i a.seat x a.at in
      let w : x.wait ≡ Ready a.answer = ap (λ (u : Seated T). u.wait) same ∙ a.ready in
      (a.answer, w, (g.seats, x, i, fi, at_place x val, refl, w))

  module _ (x x' : Seated T) (s s' : S) (stopped : Stop T) (val : x ≡ slice_index_or xs i x) (h : InGroup r g) (fi : r.fits g.seats s) (bound : g.next + r.room s ≤ 4294967295) (re : Resumed r x s stopped x' s') where
    at_x : slice_get g.seats i ≡ Some x
    at_x = at_place x val

    abbrev pub turn : Turn T
    turn = record { seat = x; answer = re.answer }

    first : first_ready g.seats ≡ Some turn
    first =
        let a = ready_at g.seats i (sym ready) in
        let same : x ≡ a.seat = val ∙ ap (λ (m : Threads T). slice_index_or m.seats i x) v ∙ index_is g.seats i a.seat x a.at in
        let ans : a.answer ≡ re.answer = ready_inj a.answer re.answer (sym a.ready ∙ ap (λ (u : Seated T). u.wait) (sym same) ∙ re.was) in
        a.first ∙ ap (λ u. Some (record { seat = u; answer = a.answer })) (sym same) ∙ ap (λ b. Some (record { seat = x; answer = b })) ans

    was_ready : one_ready x.wait ≡ 1
    was_ready = ap one_ready re.was

    is_ready : 1 ≤ ready_count g.seats
    is_ready = omega (arith, set_count g.seats i x x' at_x, was_ready, ap (λ (u : Seated T). one_ready u.wait) re.seat)

    turned_is : (w : Wait) → waits_as w x' ≡ turned_seat w x'.thread x
    turned_is w = ap (λ u. waits_as w u) re.seat

    seated_turned : (w : Wait) → FewBranches w → IsSeated r.number r.parent r.branch (turned_seat w x'.thread x)
    seated_turned w n =
        let st = seated_at r.number r.parent r.branch 0 g.seats g.next i x h at_x in
        record { number_is = re.number_same ∙ st.number_is; parent_is = re.parent_same ∙ st.parent_is; branch_is = re.branch_same ∙ st.branch_is; few_branches = n }

    with_is : (w : Wait) → with_seat (turned_seat w x'.thread) x.number g.seats ≡ slice_set g.seats i (turned_seat w x'.thread x)
    with_is w = with_at r.number r.parent r.branch (turned_seat w x'.thread) 0 g.seats g.next i x h at_x

    grouped_with : (w : Wait) → FewBranches w → Grouped r.number r.parent r.branch 0 (with_seat (turned_seat w x'.thread) x.number g.seats) g.next
    grouped_with w n = subst (λ us. Grouped r.number r.parent r.branch 0 us g.next) (sym (with_is w)) (grouped_set r.number r.parent r.branch 0 g.seats g.next i x (turned_seat w x'.thread x) h at_x refl (seated_turned w n))

    count_with : (w : Wait) → ready_count (with_seat (turned_seat w x'.thread) x.number g.seats) + 1 ≡ ready_count g.seats + one_ready w
    count_with w = omega (arith, ap ready_count (with_is w), set_count g.seats i x (turned_seat w x'.thread x) at_x, was_ready)

    -- the seats behind the resume
    set_get : slice_get (slice_set xs i x') i ≡ Some x'
    set_get = ap (λ (m : Threads T). slice_get (slice_set m.seats i x') i) v ∙ get_set g.seats i x x' at_x

    set_as : (w : Wait) → slice_set (slice_set xs i x') i (waits_as w x') ≡ with_seat (turned_seat w x'.thread) x.number g.seats
    set_as w = ap (λ (m : Threads T). slice_set (slice_set m.seats i x') i (waits_as w x')) v ∙ set_set g.seats i x' (waits_as w x') ∙ ap (λ u. slice_set g.seats i u) (turned_is w) ∙ sym (with_is w)

    over_as : ◌≡◌ {A = Threads T} (record { seats = slice_set xs i x'; next = next }) (record { seats = with_seat (turned_seat (RequestWait 0) x'.thread) x.number g.seats; next = g.next })
    over_as =
        ap (λ (m : Threads T). record { seats = slice_set m.seats i x'; next = m.next }) v
        ∙ ap (λ us. record { seats = us; next = g.next }) (ap (λ u. slice_set g.seats i u) re.seat ∙ sym (with_is (RequestWait 0)))

    turns_as : (k : Stop T) → stopped ≡ k → r.turns x.thread s re.answer k x'.thread s'
    turns_as k e = subst (λ j. r.turns x.thread s re.answer j x'.thread s') e re.turns_so

    fits_as : (k : Stop T) → stopped ≡ k → GoesOn x.parent k → r.fits (turned r.seated r.head g x k x'.thread).seats s'
    fits_as k e more = subst (λ j. GoesOn x.parent j → r.fits (turned r.seated r.head g x j x'.thread).seats s') e (re.keeps g x i fi (all_below r.number r.parent r.branch 0 g.seats g.next h) at_x refl re.was) more

    lowers_as : (k : Stop T) → stopped ≡ k → Lowers k (r.branch x.thread) (r.room s) (r.room s')
    lowers_as k e = subst (λ j. Lowers j (r.branch x.thread) (r.room s) (r.room s')) e re.lowers

    begins_as : (k : Stop T) → stopped ≡ k → Begins r.branch k
    begins_as k e = subst (λ j. Begins r.branch j) e re.begins

    pub waits_turn : (q : ℕ) (g' : Threads T) → stopped ≡ stop.Waits q → ((y : Seated T) → slice_get (slice_set xs i x') i ≡ Some y → g' ≡ record { seats = slice_set (slice_set xs i x') i (waits_as (RequestWait q) y); next = next }) → OneTurn 256 r g s g' s'
    waits_turn q g' e k =
        let is : g' ≡ record { seats = with_seat (turned_seat (RequestWait q) x'.thread) x.number g.seats; next = g.next } =
        k x' set_get ∙ ap (λ us. record { seats = us; next = next }) (set_as (RequestWait q)) ∙ ap (λ (m : Threads T). record { seats = with_seat (turned_seat (RequestWait q) x'.thread) x.number g.seats; next = m.next }) v in
        let low : r.room s' ≤ r.room s = lowers_as (stop.Waits q) e in
        record {
          turn = turn;
          stopped = stop.Waits q;
          thread = x'.thread;
          first = first;
          turns_so = turns_as (stop.Waits q) e;
          goes_on = tt;
          within_limit = tt;
          threads = is;
          grouped = subst (λ (m : Threads T). InGroup r m) (sym is) (grouped_with (RequestWait q) tt);
          fitting = subst (λ (m : Threads T). r.fits m.seats s') (sym is) (fits_as (stop.Waits q) e tt);
          bounded = omega (arith, low, ap (λ (m : Threads T). m.next) is);
          smaller = omega (arith, low, ap (λ (m : Threads T). ready_count m.seats) is, count_with (RequestWait q));
        }

    pub ended_over : (o : Outcome) → stopped ≡ stop.Ended o → x'.parent ≡ None → LastTurn 256 r g s (Ended o) (record { seats = slice_set xs i x'; next = next }) s'
    ended_over o e alone =
        let par : x.parent ≡ None = sym (ap (λ (u : Seated T). u.parent) re.seat) ∙ alone in
        let low : r.room s' ≤ r.room s = lowers_le (r.branch x.thread) (lowers_as (stop.Ended o) e) in
        record {
          settles = λ n. subst (λ (m : Threads T). Settles 256 r.seated r.head r.turns (suc n) g s (Ended o) m s') (sym over_as) (ends n g s s' turn o x'.thread (RequestWait 0) first (turns_as (stop.Ended o) e) par);
          over = λ q. cc q;
          grouped = subst (λ (m : Threads T). InGroup r m) (sym over_as) (grouped_with (RequestWait 0) tt);
          bounded = omega (arith, low, ap (λ (m : Threads T). m.next) v);
          ready = is_ready;
        }
      where
        lowers_le : (b : Bool) → Lowers {T = T} (stop.Ended o) b (r.room s) (r.room s') → r.room s' ≤ r.room s
        lowers_le true k = omega (arith, k)
        lowers_le false k = k

    pub limit_over : (k : LimitKind) → stopped ≡ stop.Limit k → LastTurn 256 r g s (Limit k) (record { seats = slice_set xs i x'; next = next }) s'
    limit_over k e =
        let low : r.room s' ≤ r.room s = lowers_as (stop.Limit k) e in
        record {
          settles = λ n. subst (λ (m : Threads T). Settles 256 r.seated r.head r.turns (suc n) g s (Limit k) m s') (sym over_as) (limit_met n g s s' turn k x'.thread (RequestWait 0) first (turns_as (stop.Limit k) e));
          over = λ q. cc q;
          grouped = subst (λ (m : Threads T). InGroup r m) (sym over_as) (grouped_with (RequestWait 0) tt);
          bounded = omega (arith, low, ap (λ (m : Threads T). m.next) v);
          ready = is_ready;
        }

    same_length : length (slice_set xs i x') ≡ length g.seats
    same_length = set_length xs i x' ∙ ap (λ (m : Threads T). length m.seats) v

    pub too_many_over : (bs : List (NewBranch T)) → stopped ≡ stop.Forks bs → 256 < length (slice_set xs i x') + length bs → LastTurn 256 r g s (Limit GreenThreads) (record { seats = slice_set xs i x'; next = next }) s'
    too_many_over bs e many =
        let low : (1 ≤ length bs) × (r.room s' + length bs ≤ r.room s) = lowers_as (stop.Forks bs) e in
        record {
          settles = λ n. subst (λ (m : Threads T). Settles 256 r.seated r.head r.turns (suc n) g s (Limit GreenThreads) m s') (sym over_as) (too_many n g s s' turn bs x'.thread (RequestWait 0) first (turns_as (stop.Forks bs) e) (omega (arith, many, same_length)));
          over = λ q. cc q;
          grouped = subst (λ (m : Threads T). InGroup r m) (sym over_as) (grouped_with (RequestWait 0) tt);
          bounded = omega (arith, low.1, ap (λ (m : Threads T). m.next) v);
          ready = is_ready;
        }

    pub branches_fit : (bs : List (NewBranch T)) → stopped ≡ stop.Forks bs → (next + length bs ≤ 4294967295) × AllBranches r.branch bs
    branches_fit bs e =
        let low : (1 ≤ length bs) × (r.room s' + length bs ≤ r.room s) = lowers_as (stop.Forks bs) e in
        (omega (arith, low.1, bound, ap (λ (m : Threads T). m.next) v), begins_as (stop.Forks bs) e)

    pub forks_turn : (bs : List (NewBranch T)) (g' : Threads T) → stopped ≡ stop.Forks bs → (256 < length (slice_set xs i x') + length bs → ⊥) →
        ((y : Seated T) → slice_get (slice_set xs i x') i ≡ Some y → (g' ≡ record { seats = slice_set (slice_set xs i x') i (waits_as (BranchesWait (new_joins next bs)) y) ++ new_seats r.seated y.number next bs; next = next + length bs }) × Grouped r.number r.parent r.branch next (new_seats r.seated y.number next bs) g'.next) →
        OneTurn 256 r g s g' s'
    forks_turn bs g' e few k =
        let low : (1 ≤ length bs) × (r.room s' + length bs ≤ r.room s) = lowers_as (stop.Forks bs) e in
        let nx : next ≡ g.next = ap (λ (m : Threads T). m.next) v in
        let num : x'.number ≡ x.number = ap (λ (u : Seated T). u.number) re.seat in
        let w : Wait = BranchesWait (new_joins g.next bs) in
        let d = k x' set_get in
        let is : g' ≡ record { seats = with_seat (turned_seat (BranchesWait (new_joins g.next bs)) x'.thread) x.number g.seats ++ new_seats r.seated x.number g.next bs; next = g.next + length bs } =
        d.0 ∙ ap (λ n. record { seats = slice_set (slice_set xs i x') i (waits_as (BranchesWait (new_joins n bs)) x') ++ new_seats r.seated x'.number n bs; next = n + length bs }) nx
        ∙ ap (λ us. record { seats = us ++ new_seats r.seated x'.number g.next bs; next = g.next + length bs }) (set_as (BranchesWait (new_joins g.next bs)))
        ∙ ap (λ n. record { seats = with_seat (turned_seat (BranchesWait (new_joins g.next bs)) x'.thread) x.number g.seats ++ new_seats r.seated n g.next bs; next = g.next + length bs }) num in
        let few_branches : length (new_joins g.next bs) ≤ 4294967295 = omega (arith, joins_length g.next bs, low.1, bound) in
        let news : Grouped r.number r.parent r.branch g.next (new_seats r.seated x.number g.next bs) (g.next + length bs) =
        subst (λ m. Grouped r.number r.parent r.branch g.next (new_seats r.seated x.number g.next bs) m) (ap (λ (m : Threads T). m.next) is)
        (subst (λ m. Grouped r.number r.parent r.branch g.next (new_seats r.seated m g.next bs) g'.next) num (subst (λ m. Grouped r.number r.parent r.branch m (new_seats r.seated x'.number m bs) g'.next) nx d.1)) in
        record {
          turn = turn;
          stopped = stop.Forks bs;
          thread = x'.thread;
          first = first;
          turns_so = turns_as (stop.Forks bs) e;
          goes_on = tt;
          within_limit = let q : length g.seats + length bs ≤ 256 = not_above (λ m. few (omega (arith, m, same_length))) in q;
          threads = is;
          grouped = subst (λ (m : Threads T). InGroup r m) (sym is) (grouped_append r.number r.parent r.branch 0 _ _ g.next (g.next + length bs) (grouped_with (BranchesWait (new_joins g.next bs)) few_branches) news);
          fitting = subst (λ (m : Threads T). r.fits m.seats s') (sym is) (fits_as (stop.Forks bs) e tt);
          bounded = omega (arith, low.1, ap (λ (m : Threads T). m.next) is);
          smaller = omega (arith, low.0, low.1, ap (λ (m : Threads T). ready_count m.seats) is, append_count (with_seat (turned_seat (BranchesWait (new_joins g.next bs)) x'.thread) x.number g.seats) (new_seats r.seated x.number g.next bs), new_count r.seated x.number g.next bs, count_with (BranchesWait (new_joins g.next bs)));
        }
      where
        not_above : (256 < length g.seats + length bs → ⊥) → length g.seats + length bs ≤ 256
        not_above f = omega (arith, f)

    pub set_grouped : Grouped r.number r.parent r.branch 0 (slice_set xs i x') next
    set_grouped = subst (λ (m : Threads T). InGroup r m) (sym over_as) (grouped_with (RequestWait 0) tt)

    pub ends_turn : (o : Outcome) (p : ℕ) (g' : Threads T) → stopped ≡ stop.Ended o → x'.parent ≡ Some p →
        ((y : Seated T) → slice_get (slice_set xs i x') i ≡ Some y → g' ≡ record { seats = ended_branch y.number (r.head y.thread) o (Some p) (slice_set xs i x'); next = next }) →
        OneTurn 256 r g s g' s'
    ends_turn o p g' e par' k =
        let nx : next ≡ g.next = ap (λ (m : Threads T). m.next) v in
        let num : x'.number ≡ x.number = ap (λ (u : Seated T). u.number) re.seat in
        let par : x.parent ≡ Some p = sym (ap (λ (u : Seated T). u.parent) re.seat) ∙ par' in
        let st = seated_at r.number r.parent r.branch 0 g.seats g.next i x h at_x in
        let low : suc (r.room s') ≤ r.room s = lowers_end T o (r.branch x.thread) (r.room s) (r.room s') (st.branch_is ∙ some_is x.parent p par) (lowers_as (stop.Ended o) e) in
        let gone : without_seat x'.number (slice_set xs i x') ≡ without_seat x.number g.seats =
        without_at r.number r.parent r.branch 0 (slice_set xs i x') next i x' set_grouped set_get ∙ ap (λ (m : Threads T). remove (slice_set m.seats i x') i) v ∙ remove_set g.seats i x x' at_x ∙ sym (without_at r.number r.parent r.branch 0 g.seats g.next i x h at_x) in
        let is : g' ≡ record { seats = with_seat (joined_seat x.number (r.head x'.thread) o) p (without_seat x.number g.seats); next = g.next } =
        k x' set_get ∙ ap (λ us. record { seats = with_seat (joined_seat x'.number (r.head x'.thread) o) p us; next = next }) gone
        ∙ ap (λ n. record { seats = with_seat (joined_seat n (r.head x'.thread) o) p (without_seat x.number g.seats); next = next }) num
        ∙ ap (λ n. record { seats = with_seat (joined_seat x.number (r.head x'.thread) o) p (without_seat x.number g.seats); next = n }) nx in
        let is' : g' ≡ record { seats = ended_branch x.number (r.head x'.thread) o x.parent g.seats; next = g.next } =
        is ∙ ap (λ q. record { seats = ended_branch x.number (r.head x'.thread) o q g.seats; next = g.next }) (sym par) in
        let rest : Grouped r.number r.parent r.branch 0 (without_seat x.number g.seats) g.next =
        subst (λ us. Grouped r.number r.parent r.branch 0 us g.next) (sym (without_at r.number r.parent r.branch 0 g.seats g.next i x h at_x)) (grouped_remove r.number r.parent r.branch 0 g.seats g.next i x h at_x) in
        record {
          turn = turn;
          stopped = stop.Ended o;
          thread = x'.thread;
          first = first;
          turns_so = turns_as (stop.Ended o) e;
          goes_on = goes_end x.parent p par;
          within_limit = tt;
          threads = is';
          grouped = subst (λ (m : Threads T). InGroup r m) (sym is) (grouped_joined r.number r.parent r.branch x.number (r.head x'.thread) o p 0 (without_seat x.number g.seats) g.next rest);
          fitting = subst (λ (m : Threads T). r.fits m.seats s') (sym is') (fits_as (stop.Ended o) e (goes_end x.parent p par));
          bounded = omega (arith, low, ap (λ (m : Threads T). m.next) is);
          smaller = omega (arith, low, ap (λ (m : Threads T). ready_count m.seats) is, joined_count r.number r.parent r.branch (joined_seat x.number (r.head x'.thread) o) p 0 (without_seat x.number g.seats) g.next rest, ap ready_count (without_at r.number r.parent r.branch 0 g.seats g.next i x h at_x), remove_count g.seats i x at_x, was_ready);
        }

    -- what the code reads of the thread at the place is that of the resumed one
    pub parent_at : (y : Seated T) → y ≡ slice_index_or (slice_set xs i x') i y → y.parent ≡ x'.parent
    parent_at y e = ap (λ (u : Seated T). u.parent) (e ∙ index_is (slice_set xs i x') i x' y set_get)
