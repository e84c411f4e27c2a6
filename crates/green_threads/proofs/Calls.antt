-- What the calls of a group leave.
use Rattle.std.proofs.Common.{◌≡◌, ℕ, ◌+◌, ◌<◌, List, [], ◌∷◌, ◌++◌, Bool, false, refl, sym, ap, subst, ◌∙◌, length, Option, Some, None, arith, slice_get, slice_set, slice_index_or, remove}
use Rattle.model_run.specs.World.{join_wait}
use Rattle.green_threads.specs.WaitTypes.{Wait, Ready, Begin, Outcome}
use Rattle.green_threads.specs.declared.runner.Seated.{Seated}
use Rattle.green_threads.specs.Threads.{Threads, with_seat, without_seat, waits_as, joined_seat, ended_branch, is_request, waits_for_request}
use Rattle.green_threads.specs.Grouping.{Grouped, FewBranches}
use Rattle.green_threads.specs.Places.{place_of}
use Rattle.green_threads.proofs.Seats.{below_of, get_below, index_is, get_set, set_set, found_at, not_found, with_at, without_at, grouped_set, grouped_append, grouped_remove, seated_at, seated_waiting}

module _ {T : Type 0} (g : Threads T) (xs : List (Seated T)) (next : ℕ) (v : (record { seats = xs; next = next }) ≡ g) where
  seats_are : xs ≡ g.seats
  seats_are = ap (λ (k : Threads T). k.seats) v

  pub found_below : (n i : ℕ) → place_of n g.seats ≡ Some i → i < length xs
  found_below n i e = subst (λ us. i < length us) (sym seats_are) (let f = found_at n g.seats i e in below_of g.seats i f.seat f.at)

  -- the thread at the place of a number
  pub is_at : (n i : ℕ) (x : Seated T) → place_of n g.seats ≡ Some i → x ≡ slice_index_or xs i x → (slice_get g.seats i ≡ Some x) × (x.number ≡ n) × (waits_for_request n g.seats ≡ is_request x.wait)
  is_at n i x e h =
      let f = found_at n g.seats i e in
      let same : x ≡ f.seat = h ∙ ap (λ us. slice_index_or us i x) seats_are ∙ index_is g.seats i f.seat x f.at in
      (f.at ∙ ap Some (sym same), ap (λ (u : Seated T). u.number) same ∙ f.number, f.waits ∙ ap (λ (u : Seated T). is_request u.wait) (sym same))

  module _ (number : T → ℕ) (parent : T → Option ℕ) (branch : T → Bool) (h : Grouped number parent branch 0 g.seats g.next) where
    pub answer_is : (n i : ℕ) (x : Seated T) (w : Wait) (g' : Threads T) → slice_get g.seats i ≡ Some x → x.number ≡ n → ((y : Seated T) → slice_get xs i ≡ Some y → g' ≡ record { seats = slice_set xs i (waits_as w y); next = next }) →
        g' ≡ record { seats = with_seat (waits_as w) n g.seats; next = g.next }
    answer_is n i x w g' at num k =
        k x (ap (λ us. slice_get us i) seats_are ∙ at)
        ∙ ap (λ (m : Threads T). record { seats = slice_set m.seats i (waits_as w x); next = m.next }) v
        ∙ ap (λ us. record { seats = us; next = g.next }) (sym (subst (λ j. with_seat (waits_as w) j g.seats ≡ slice_set g.seats i (waits_as w x)) num (with_at number parent branch (waits_as w) 0 g.seats g.next i x h at)))

    pub waiting_grouped : (i : ℕ) (x : Seated T) (w : Wait) (g' : Threads T) → slice_get g.seats i ≡ Some x → FewBranches w → ((y : Seated T) → slice_get xs i ≡ Some y → g' ≡ record { seats = slice_set xs i (waits_as w y); next = next }) →
        Grouped number parent branch 0 g'.seats g'.next
    waiting_grouped i x w g' at nar k =
        subst (λ (m : Threads T). Grouped number parent branch 0 m.seats m.next) (sym (k x (ap (λ us. slice_get us i) seats_are ∙ at) ∙ ap (λ (m : Threads T). record { seats = slice_set m.seats i (waits_as w x); next = m.next }) v))
        (grouped_set number parent branch 0 g.seats g.next i x (waits_as w x) h at refl (seated_waiting number parent branch x w (seated_at number parent branch 0 g.seats g.next i x h at) nar))

    pub spawned_grouped : (t : T) (ys : List (Seated T)) → ys ≡ xs ++ (record { number = next; parent = None; wait = Ready Begin; thread = t }) ∷ [] → number t ≡ next → parent t ≡ None → branch t ≡ false → Grouped number parent branch 0 ys (next + 1)
    spawned_grouped t ys e n p b =
        let x : Seated T = record { number = next; parent = None; wait = Ready Begin; thread = t } in
        subst (λ us. Grouped number parent branch 0 us (next + 1)) (sym e)
        (grouped_append number parent branch 0 xs (x ∷ []) next (next + 1) (subst (λ (m : Threads T). Grouped number parent branch 0 m.seats m.next) (sym v) h)
        (omega arith, record { number_is = n; parent_is = p; branch_is = b; few_branches = tt }, omega arith))

module _ {T : Type 0} where
  pub ended_below : (n i : ℕ) (xs : List (Seated T)) → place_of n xs ≡ Some i → i < length xs
  ended_below n i xs e = let f = found_at n xs i e in below_of xs i f.seat f.at

module _ {T : Type 0} (g : Threads T) (xs : List (Seated T)) (next : ℕ) (v : (record { seats = xs; next = next }) ≡ g) (number : T → ℕ) (parent : T → Option ℕ) (branch : T → Bool) (h : Grouped number parent branch 0 g.seats g.next) where
  -- the seats without the one at this place
  without_is : (i : ℕ) (x : Seated T) (ys : List (Seated T)) → ys ≡ remove xs i → slice_get g.seats i ≡ Some x → ys ≡ without_seat x.number g.seats
  without_is i x ys e at = e ∙ ap (λ (k : Threads T). remove k.seats i) v ∙ sym (without_at number parent branch 0 g.seats g.next i x h at)

  pub ended_nowhere : (i : ℕ) (x : Seated T) (ys : List (Seated T)) (node : ℕ) (o : Outcome) (p : ℕ) → ys ≡ remove xs i → slice_get g.seats i ≡ Some x → place_of p ys ≡ None →
      ◌≡◌ {A = Threads T} (record { seats = ys; next = next }) (record { seats = ended_branch x.number node o (Some p) g.seats; next = g.next })
  ended_nowhere i x ys node o p e at none =
      ap (λ us. record { seats = us; next = next }) (sym ((not_found p ys none).1 (joined_seat x.number node o)) ∙ ap (λ us. with_seat (joined_seat x.number node o) p us) (without_is i x ys e at))
      ∙ ap (λ (k : Threads T). record { seats = ended_branch x.number node o (Some p) g.seats; next = k.next }) v

  pub ended_there : (i : ℕ) (x r : Seated T) (ys : List (Seated T)) (head : T → ℕ) (node : ℕ) (o : Outcome) (p j : ℕ) (y z : Seated T) (d w : Wait) (g' : Threads T) → ys ≡ remove xs i → slice_get g.seats i ≡ Some x → r ≡ slice_index_or xs i r → node ≡ head r.thread → place_of p ys ≡ Some j → y ≡ slice_index_or ys j y → z ≡ waits_as d y → w ≡ join_wait r.number node o y.wait →
      ((u : Seated T) → slice_get (slice_set ys j z) j ≡ Some u → g' ≡ record { seats = slice_set (slice_set ys j z) j (waits_as w u); next = next }) →
      g' ≡ record { seats = ended_branch x.number (head x.thread) o (Some p) g.seats; next = g.next }
  ended_there i x r ys head node o p j y z d w g' e at rv nv found yv zv wv k =
      let rx : r ≡ x = rv ∙ ap (λ (m : Threads T). slice_index_or m.seats i r) v ∙ index_is g.seats i x r at in
      let f = found_at p ys j found in
      let same : y ≡ f.seat = yv ∙ index_is ys j f.seat y f.at in
      let aty : slice_get ys j ≡ Some y = f.at ∙ ap Some (sym same) in
      let num : y.number ≡ p = ap (λ (u : Seated T). u.number) same ∙ f.number in
      let inys : Grouped number parent branch 0 ys g.next = subst (λ us. Grouped number parent branch 0 us g.next) (sym (e ∙ ap (λ (m : Threads T). remove m.seats i) v)) (grouped_remove number parent branch 0 g.seats g.next i x h at) in
      let wz : waits_as w z ≡ joined_seat x.number (head x.thread) o y =
      ap (λ u. waits_as w u) zv ∙ ap (λ q. waits_as q y) (wv ∙ ap (λ n. join_wait r.number n o y.wait) nv ∙ ap (λ (u : Seated T). join_wait u.number (head u.thread) o y.wait) rx) in
      let there : with_seat (joined_seat x.number (head x.thread) o) p ys ≡ slice_set ys j (joined_seat x.number (head x.thread) o y) =
      subst (λ q. with_seat (joined_seat x.number (head x.thread) o) q ys ≡ slice_set ys j (joined_seat x.number (head x.thread) o y)) num (with_at number parent branch (joined_seat x.number (head x.thread) o) 0 ys g.next j y inys aty) in
      k z (get_set ys j y z aty)
      ∙ ap (λ us. record { seats = us; next = next }) (set_set ys j z (waits_as w z) ∙ ap (λ u. slice_set ys j u) wz ∙ sym there ∙ ap (λ us. with_seat (joined_seat x.number (head x.thread) o) p us) (without_is i x ys e at))
      ∙ ap (λ (m : Threads T). record { seats = ended_branch x.number (head x.thread) o (Some p) g.seats; next = m.next }) v

  pub joins_few : (i : ℕ) (x : Seated T) (ys : List (Seated T)) (p j : ℕ) (y : Seated T) → i < length xs → ys ≡ remove xs i → place_of p ys ≡ Some j → y ≡ slice_index_or ys j y → FewBranches y.wait
  joins_few i x ys p j y le e found yv =
      let f = found_at p ys j found in
      let same : y ≡ f.seat = yv ∙ index_is ys j f.seat y f.at in
      let here = get_below g.seats i (subst (λ (m : Threads T). i < length m.seats) v le) in
      let inys : Grouped number parent branch 0 ys g.next = subst (λ us. Grouped number parent branch 0 us g.next) (sym (e ∙ ap (λ (m : Threads T). remove m.seats i) v)) (grouped_remove number parent branch 0 g.seats g.next i here.0 h here.1) in
      (seated_at number parent branch 0 ys g.next j y inys (f.at ∙ ap Some (sym same))).few_branches
