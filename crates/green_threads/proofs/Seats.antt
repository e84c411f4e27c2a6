-- Lists of seats: by their numbers and by their places.
use Rattle.std.proofs.Common.{◌≡◌, ℕ, zero, suc, ◌+◌, ◌≤◌, ◌<◌, List, [], ◌∷◌, ◌++◌, Bool, true, false, refl, sym, ap, subst, ◌∙◌, length, Option, Some, None, arith, slice_get, slice_set, slice_index_or, remove}
use Rattle.std.specs.Prelude.{nat_eq, map, not, if◌then◌else◌}
use Rattle.std.proofs.lemmas.Bool.{ne_eqb, eq-eqb, eqb-true}
use Rattle.green_threads.specs.WaitTypes.{Answer, Wait, Ready, RequestWait, BranchesWait, Join, BranchEnd, Outcome}
use Rattle.model_run.specs.World.{join_wait, joined_wait, all_ended, join_end, ends_before}
use Rattle.green_threads.specs.declared.runner.Seated.{Seated}
use Rattle.green_threads.specs.declared.runner.NewBranch.{NewBranch}
use Rattle.green_threads.specs.Threads.{turn_if, first_ready, seat_if, with_seat, without_seat, waits_as, joined_seat, new_joins, new_seats, is_request, waits_for_request}
use Rattle.green_threads.specs.Resuming.{AllBelow}
use Rattle.green_threads.specs.Grouping.{one_ready, ready_count, FewBranches, IsSeated, Grouped}
use Rattle.green_threads.specs.Places.{place_if, ready_place, found_if, place_of}

pub one_at_most : (w : Wait) → one_ready w ≤ 1
one_at_most (Ready a) = omega arith
one_at_most (RequestWait r) = omega arith
one_at_most (BranchesWait js) = omega arith

map_length : {A B : Type 0} (f : A → B) (xs : List A) → length (map f xs) ≡ length xs
map_length f [] = refl
map_length f (x ∷ xs) = ap suc (map_length f xs)

few_all_joined : (js : List Join) (o : Option (List BranchEnd)) → length js ≤ 4294967295 → FewBranches (joined_wait js o)
few_all_joined js None h = h
few_all_joined js (Some es) h = tt

pub few_joined : (n node : ℕ) (o : Outcome) (w : Wait) → FewBranches w → FewBranches (join_wait n node o w)
few_joined n node o (Ready a) h = tt
few_joined n node o (RequestWait r) h = tt
few_joined n node o (BranchesWait js) h =
    let f : Join → Join = join_end n (record { node = node; outcome = o; place = ends_before js }) in
    few_all_joined (map f js) (all_ended (map f js)) (subst (λ k. k ≤ 4294967295) (sym (map_length f js)) h)

module _ {T : Type 0} where
  pub joins_length : (n : ℕ) (bs : List (NewBranch T)) → length (new_joins n bs) ≡ length bs
  joins_length n [] = refl
  joins_length n (b ∷ bs) = ap suc (joins_length (suc n) bs)

  pub seat_same : (g : Seated T → Seated T) (n : ℕ) (x : Seated T) → x.number ≡ n → seat_if g n x ≡ g x
  seat_same g n x e = ap (λ b. if b then g x else x) (eq-eqb x.number n e)

  pub seat_other : (g : Seated T → Seated T) (n : ℕ) (x : Seated T) → (x.number ≡ n → ⊥) → seat_if g n x ≡ x
  seat_other g n x e = ap (λ b. if b then g x else x) (ne_eqb x.number n e)

  -- places
  pub below_of : (xs : List (Seated T)) (i : ℕ) (x : Seated T) → slice_get xs i ≡ Some x → i < length xs
  below_of [] i x h = absurd (cc h)
  below_of (z ∷ zs) zero x h = omega arith
  below_of (z ∷ zs) (suc i) x h = omega (arith, below_of zs i x h)

  pub get_below : (xs : List (Seated T)) (i : ℕ) → i < length xs → (x : Seated T) × (slice_get xs i ≡ Some x)
  get_below [] i h = let f : ⊥ = omega (arith, h) in absurd f
  get_below (z ∷ zs) zero h = (z, refl)
  get_below (z ∷ zs) (suc i) h = get_below zs i (omega (arith, h))

  pub index_is : (xs : List (Seated T)) (i : ℕ) (x d : Seated T) → slice_get xs i ≡ Some x → slice_index_or xs i d ≡ x
  index_is [] i x d h = absurd (cc h)
  index_is (z ∷ zs) zero x d h = cc h
  index_is (z ∷ zs) (suc i) x d h = index_is zs i x d h

  pub get_set : (xs : List (Seated T)) (i : ℕ) (x y : Seated T) → slice_get xs i ≡ Some x → slice_get (slice_set xs i y) i ≡ Some y
  get_set [] i x y h = absurd (cc h)
  get_set (z ∷ zs) zero x y h = refl
  get_set (z ∷ zs) (suc i) x y h = get_set zs i x y h

  pub set_set : (xs : List (Seated T)) (i : ℕ) (x y : Seated T) → slice_set (slice_set xs i x) i y ≡ slice_set xs i y
  set_set [] zero x y = refl
  set_set [] (suc i) x y = refl
  set_set (z ∷ zs) zero x y = refl
  set_set (z ∷ zs) (suc i) x y = ap (λ us. z ∷ us) (set_set zs i x y)

  pub set_append : (xs ys : List (Seated T)) (i : ℕ) (x y : Seated T) → slice_get xs i ≡ Some x → slice_set (xs ++ ys) i y ≡ slice_set xs i y ++ ys
  set_append [] ys i x y h = absurd (cc h)
  set_append (z ∷ zs) ys zero x y h = refl
  set_append (z ∷ zs) ys (suc i) x y h = ap (λ us. z ∷ us) (set_append zs ys i x y h)

  pub get_append : (xs ys : List (Seated T)) (i : ℕ) (x : Seated T) → slice_get xs i ≡ Some x → slice_get (xs ++ ys) i ≡ Some x
  get_append [] ys i x h = absurd (cc h)
  get_append (z ∷ zs) ys zero x h = h
  get_append (z ∷ zs) ys (suc i) x h = get_append zs ys i x h

  pub set_length : (xs : List (Seated T)) (i : ℕ) (y : Seated T) → length (slice_set xs i y) ≡ length xs
  set_length [] zero y = refl
  set_length [] (suc i) y = refl
  set_length (z ∷ zs) zero y = refl
  set_length (z ∷ zs) (suc i) y = ap suc (set_length zs i y)

  pub remove_set : (xs : List (Seated T)) (i : ℕ) (x y : Seated T) → slice_get xs i ≡ Some x → remove (slice_set xs i y) i ≡ remove xs i
  remove_set [] i x y h = absurd (cc h)
  remove_set (z ∷ zs) zero x y h = refl
  remove_set (z ∷ zs) (suc i) x y h = ap (λ us. z ∷ us) (remove_set zs i x y h)

  -- the first ready
  pub record ReadyAt (xs : List (Seated T)) (i : ℕ) : Type 0 where
    pub seat : Seated T
    pub answer : Answer
    pub at : slice_get xs i ≡ Some seat
    pub ready : seat.wait ≡ Ready answer
    pub first : first_ready xs ≡ Some (record { seat = seat; answer = answer })

  ready_later : (x : Seated T) (xs : List (Seated T)) (i : ℕ) (w : Wait) → x.wait ≡ w → one_ready w ≡ 0 → ReadyAt xs i → ReadyAt (x ∷ xs) (suc i)
  ready_later x xs i (Ready a) e z h = absurd (cc z)
  ready_later x xs i (RequestWait r) e z h = record { seat = h.seat; answer = h.answer; at = h.at; ready = h.ready; first = ap (λ w. turn_if x w (first_ready xs)) e ∙ h.first }
  ready_later x xs i (BranchesWait js) e z h = record { seat = h.seat; answer = h.answer; at = h.at; ready = h.ready; first = ap (λ w. turn_if x w (first_ready xs)) e ∙ h.first }

  pub ready_at : (xs : List (Seated T)) (i : ℕ) → ready_place xs ≡ Some i → ReadyAt xs i
  ready_at [] i h = absurd (cc h)
  ready_at (x ∷ xs) i h = go (λ j k. ready_at xs j k) x.wait refl (ready_place xs) refl h
    where
      go : ((j : ℕ) → ready_place xs ≡ Some j → ReadyAt xs j) → (w : Wait) → x.wait ≡ w → (o : Option ℕ) → ready_place xs ≡ o → place_if w o ≡ Some i → ReadyAt (x ∷ xs) i
      go below (Ready a) e o k q = let z : zero ≡ i = cc q in subst (λ j. ReadyAt (x ∷ xs) j) z (record { seat = x; answer = a; at = refl; ready = e; first = ap (λ w. turn_if x w (first_ready xs)) e })
      go below (RequestWait r) e None k q = absurd (cc q)
      go below (RequestWait r) e (Some j) k q = let z : suc j ≡ i = cc q in subst (λ l. ReadyAt (x ∷ xs) l) z (ready_later x xs j (RequestWait r) e refl (below j k))
      go below (BranchesWait js) e None k q = absurd (cc q)
      go below (BranchesWait js) e (Some j) k q = let z : suc j ≡ i = cc q in subst (λ l. ReadyAt (x ∷ xs) l) z (ready_later x xs j (BranchesWait js) e refl (below j k))

  pub none_ready : (xs : List (Seated T)) → ready_place xs ≡ None → first_ready xs ≡ None
  none_ready [] h = refl
  none_ready (x ∷ xs) h = go (λ k. none_ready xs k) x.wait refl (ready_place xs) refl h
    where
      go : (ready_place xs ≡ None → first_ready xs ≡ None) → (w : Wait) → x.wait ≡ w → (o : Option ℕ) → ready_place xs ≡ o → place_if w o ≡ None → first_ready (x ∷ xs) ≡ None
      go below (Ready a) e o k q = absurd (cc q)
      go below (RequestWait r) e None k q = ap (λ w. turn_if x w (first_ready xs)) e ∙ below k
      go below (RequestWait r) e (Some j) k q = absurd (cc q)
      go below (BranchesWait js) e None k q = ap (λ w. turn_if x w (first_ready xs)) e ∙ below k
      go below (BranchesWait js) e (Some j) k q = absurd (cc q)

  -- the place of a number
  pub record FoundAt (n : ℕ) (xs : List (Seated T)) (i : ℕ) : Type 0 where
    pub seat : Seated T
    pub at : slice_get xs i ≡ Some seat
    pub number : seat.number ≡ n
    pub waits : waits_for_request n xs ≡ is_request seat.wait

  pub found_at : (n : ℕ) (xs : List (Seated T)) (i : ℕ) → place_of n xs ≡ Some i → FoundAt n xs i
  found_at n [] i h = absurd (cc h)
  found_at n (x ∷ xs) i h = go (λ j k. found_at n xs j k) (nat_eq x.number n) refl (place_of n xs) refl h
    where
      go : ((j : ℕ) → place_of n xs ≡ Some j → FoundAt n xs j) → (b : Bool) → nat_eq x.number n ≡ b → (o : Option ℕ) → place_of n xs ≡ o → found_if b o ≡ Some i → FoundAt n (x ∷ xs) i
      go below true e o k q = let z : zero ≡ i = cc q in subst (λ l. FoundAt n (x ∷ xs) l) z (record { seat = x; at = refl; number = eqb-true x.number n e; waits = ap (λ b. if b then is_request x.wait else waits_for_request n xs) e })
      go below false e None k q = absurd (cc q)
      go below false e (Some j) k q = let z : suc j ≡ i = cc q in let f = below j k in subst (λ l. FoundAt n (x ∷ xs) l) z (record { seat = f.seat; at = f.at; number = f.number; waits = ap (λ b. if b then is_request x.wait else waits_for_request n xs) e ∙ f.waits })

  pub not_found : (n : ℕ) (xs : List (Seated T)) → place_of n xs ≡ None → (waits_for_request n xs ≡ false) × ((g : Seated T → Seated T) → with_seat g n xs ≡ xs)
  not_found n [] h = (refl, λ g. refl)
  not_found n (x ∷ xs) h = go (λ k. not_found n xs k) (nat_eq x.number n) refl (place_of n xs) refl h
    where
      go : (place_of n xs ≡ None → (waits_for_request n xs ≡ false) × ((g : Seated T → Seated T) → with_seat g n xs ≡ xs)) → (b : Bool) → nat_eq x.number n ≡ b → (o : Option ℕ) → place_of n xs ≡ o → found_if b o ≡ None → (waits_for_request n (x ∷ xs) ≡ false) × ((g : Seated T → Seated T) → with_seat g n (x ∷ xs) ≡ x ∷ xs)
      go below true e o k q = absurd (cc q)
      go below false e (Some j) k q = absurd (cc q)
      go below false e None k q =
          let f = below k in (
            ap (λ b. if b then is_request x.wait else waits_for_request n xs) e ∙ f.0,
            λ g. ap (λ b. (if b then g x else x) ∷ with_seat g n xs) e ∙ ap (λ us. x ∷ us) (f.1 g),
          )

  -- counts
  pub set_count : (xs : List (Seated T)) (i : ℕ) (x y : Seated T) → slice_get xs i ≡ Some x → ready_count (slice_set xs i y) + one_ready x.wait ≡ ready_count xs + one_ready y.wait
  set_count [] i x y h = absurd (cc h)
  set_count (z ∷ zs) zero x y h = let e : z ≡ x = cc h in subst (λ u. one_ready y.wait + ready_count zs + one_ready u.wait ≡ one_ready z.wait + ready_count zs + one_ready y.wait) e (omega arith)
  set_count (z ∷ zs) (suc i) x y h = omega (arith, set_count zs i x y h)

  pub remove_count : (xs : List (Seated T)) (i : ℕ) (x : Seated T) → slice_get xs i ≡ Some x → ready_count (remove xs i) + one_ready x.wait ≡ ready_count xs
  remove_count [] i x h = absurd (cc h)
  remove_count (z ∷ zs) zero x h = let e : z ≡ x = cc h in subst (λ u. ready_count zs + one_ready u.wait ≡ one_ready z.wait + ready_count zs) e (omega arith)
  remove_count (z ∷ zs) (suc i) x h = omega (arith, remove_count zs i x h)

  pub append_count : (xs ys : List (Seated T)) → ready_count (xs ++ ys) ≡ ready_count xs + ready_count ys
  append_count [] ys = omega arith
  append_count (x ∷ xs) ys = omega (arith, append_count xs ys)

  pub new_count : (seated : T → ℕ → Option ℕ → T) (p n : ℕ) (bs : List (NewBranch T)) → ready_count (new_seats seated p n bs) ≡ length bs
  new_count seated p n [] = refl
  new_count seated p n (b ∷ bs) = omega (arith, new_count seated p (suc n) bs)

  pub with_count : (g : Seated T → Seated T) (p : ℕ) (xs : List (Seated T)) → ((i : ℕ) (x : Seated T) → slice_get xs i ≡ Some x → x.number ≡ p → with_seat g p xs ≡ slice_set xs i (g x)) → ready_count (with_seat g p xs) ≤ ready_count xs + 1
  with_count g p xs set = go (place_of p xs) refl
    where
      go : (o : Option ℕ) → place_of p xs ≡ o → ready_count (with_seat g p xs) ≤ ready_count xs + 1
      go None e = omega (arith, ap ready_count ((not_found p xs e).1 g))
      go (Some i) e = let f = found_at p xs i e in
          omega (arith, ap ready_count (set i f.seat f.at f.number), set_count xs i f.seat (g f.seat) f.at, one_at_most (g f.seat).wait)

  module _ (number : T → ℕ) (parent : T → Option ℕ) (branch : T → Bool) where
    In : ℕ → List (Seated T) → ℕ → Type 0
    In = Grouped number parent branch

    pub lower : (low low' : ℕ) (xs : List (Seated T)) (next : ℕ) → low' ≤ low → Grouped number parent branch low xs next → Grouped number parent branch low' xs next
    lower low low' [] next le h = omega (arith, le, h)
    lower low low' (x ∷ xs) next le h = (omega (arith, le, h.0), h.1, h.2)

    pub at_least : (low : ℕ) (xs : List (Seated T)) (next i : ℕ) (x : Seated T) → Grouped number parent branch low xs next → slice_get xs i ≡ Some x → low ≤ x.number
    at_least low [] next i x h e = absurd (cc e)
    at_least low (z ∷ zs) next zero x h e = let q : z ≡ x = cc e in subst (λ (u : Seated T). low ≤ u.number) q h.0
    at_least low (z ∷ zs) next (suc i) x h e = omega (arith, h.0, at_least (suc z.number) zs next i x h.2 e)

    pub seated_at : (low : ℕ) (xs : List (Seated T)) (next i : ℕ) (x : Seated T) → Grouped number parent branch low xs next → slice_get xs i ≡ Some x → IsSeated number parent branch x
    seated_at low [] next i x h e = absurd (cc e)
    seated_at low (z ∷ zs) next zero x h e = let q : z ≡ x = cc e in subst (λ u. IsSeated number parent branch u) q h.1
    seated_at low (z ∷ zs) next (suc i) x h e = seated_at (suc z.number) zs next i x h.2 e

    pub low_next : (low : ℕ) (xs : List (Seated T)) (next : ℕ) → Grouped number parent branch low xs next → low ≤ next
    low_next low [] next h = h
    low_next low (x ∷ xs) next h = omega (arith, h.0, low_next (suc x.number) xs next h.2)

    pub all_below : (low : ℕ) (xs : List (Seated T)) (next : ℕ) → Grouped number parent branch low xs next → AllBelow next xs
    all_below low [] next h = tt
    all_below low (x ∷ xs) next h = (low_next (suc x.number) xs next h.2, all_below (suc x.number) xs next h.2)

    with_above : (g : Seated T → Seated T) (n low : ℕ) (xs : List (Seated T)) (next : ℕ) → n < low → Grouped number parent branch low xs next → with_seat g n xs ≡ xs
    with_above g n low [] next le h = refl
    with_above g n low (x ∷ xs) next le h =
        ap (λ y. y ∷ with_seat g n xs) (seat_other g n x (λ e. let f : ⊥ = omega (arith, e, h.0, le) in f))
        ∙ ap (λ us. x ∷ us) (with_above g n (suc x.number) xs next (omega (arith, h.0, le)) h.2)

    without_above : (n low : ℕ) (xs : List (Seated T)) (next : ℕ) → n < low → Grouped number parent branch low xs next → without_seat n xs ≡ xs
    without_above n low [] next le h = refl
    without_above n low (x ∷ xs) next le h =
        ap (λ b. if not b then x ∷ without_seat n xs else without_seat n xs) (ne_eqb x.number n (λ e. let f : ⊥ = omega (arith, e, h.0, le) in f))
        ∙ ap (λ us. x ∷ us) (without_above n (suc x.number) xs next (omega (arith, h.0, le)) h.2)

    -- by number is by place
    pub with_at : (g : Seated T → Seated T) (low : ℕ) (xs : List (Seated T)) (next i : ℕ) (x : Seated T) → Grouped number parent branch low xs next → slice_get xs i ≡ Some x → with_seat g x.number xs ≡ slice_set xs i (g x)
    with_at g low [] next i x h e = absurd (cc e)
    with_at g low (z ∷ zs) next zero x h e =
        let q : z ≡ x = cc e in
        subst (λ (u : Seated T). with_seat g u.number (z ∷ zs) ≡ g u ∷ zs) q
        (ap (λ y. y ∷ with_seat g z.number zs) (seat_same g z.number z refl) ∙ ap (λ us. g z ∷ us) (with_above g z.number (suc z.number) zs next (omega arith) h.2))
    with_at g low (z ∷ zs) next (suc i) x h e =
        ap (λ y. y ∷ with_seat g x.number zs) (seat_other g x.number z (λ k. let f : ⊥ = omega (arith, k, at_least (suc z.number) zs next i x h.2 e) in f))
        ∙ ap (λ us. z ∷ us) (with_at g (suc z.number) zs next i x h.2 e)

    pub without_at : (low : ℕ) (xs : List (Seated T)) (next i : ℕ) (x : Seated T) → Grouped number parent branch low xs next → slice_get xs i ≡ Some x → without_seat x.number xs ≡ remove xs i
    without_at low [] next i x h e = absurd (cc e)
    without_at low (z ∷ zs) next zero x h e =
        let q : z ≡ x = cc e in
        subst (λ (u : Seated T). without_seat u.number (z ∷ zs) ≡ zs) q
        (ap (λ b. if not b then z ∷ without_seat z.number zs else without_seat z.number zs) (eq-eqb z.number z.number refl) ∙ without_above z.number (suc z.number) zs next (omega arith) h.2)
    without_at low (z ∷ zs) next (suc i) x h e =
        ap (λ b. if not b then z ∷ without_seat x.number zs else without_seat x.number zs) (ne_eqb z.number x.number (λ k. let f : ⊥ = omega (arith, k, at_least (suc z.number) zs next i x h.2 e) in f))
        ∙ ap (λ us. z ∷ us) (without_at (suc z.number) zs next i x h.2 e)

    pub grouped_set : (low : ℕ) (xs : List (Seated T)) (next i : ℕ) (x y : Seated T) → Grouped number parent branch low xs next → slice_get xs i ≡ Some x → y.number ≡ x.number → IsSeated number parent branch y → Grouped number parent branch low (slice_set xs i y) next
    grouped_set low [] next i x y h e n s = absurd (cc e)
    grouped_set low (z ∷ zs) next zero x y h e n s =
        let q : z ≡ x = cc e in
        let k : y.number ≡ z.number = n ∙ ap (λ (u : Seated T). u.number) (sym q) in
        (omega (arith, h.0, k), s, subst (λ j. Grouped number parent branch (suc j) zs next) (sym k) h.2)
    grouped_set low (z ∷ zs) next (suc i) x y h e n s = (h.0, h.1, grouped_set (suc z.number) zs next i x y h.2 e n s)

    pub grouped_remove : (low : ℕ) (xs : List (Seated T)) (next i : ℕ) (x : Seated T) → Grouped number parent branch low xs next → slice_get xs i ≡ Some x → Grouped number parent branch low (remove xs i) next
    grouped_remove low [] next i x h e = absurd (cc e)
    grouped_remove low (z ∷ zs) next zero x h e = lower (suc z.number) low zs next (omega (arith, h.0)) h.2
    grouped_remove low (z ∷ zs) next (suc i) x h e = (h.0, h.1, grouped_remove (suc z.number) zs next i x h.2 e)

    pub grouped_append : (low : ℕ) (xs ys : List (Seated T)) (mid next : ℕ) → Grouped number parent branch low xs mid → Grouped number parent branch mid ys next → Grouped number parent branch low (xs ++ ys) next
    grouped_append low [] ys mid next h k = lower mid low ys next h k
    grouped_append low (x ∷ xs) ys mid next h k = (h.0, h.1, grouped_append (suc x.number) xs ys mid next h.2 k)

    -- a thread in its seat with another wait
    pub seated_waiting : (x : Seated T) (w : Wait) → IsSeated number parent branch x → FewBranches w → IsSeated number parent branch (waits_as w x)
    seated_waiting x w s n = record { number_is = s.number_is; parent_is = s.parent_is; branch_is = s.branch_is; few_branches = n }

    pub grouped_joined : (n node : ℕ) (o : Outcome) (p low : ℕ) (xs : List (Seated T)) (next : ℕ) → Grouped number parent branch low xs next → Grouped number parent branch low (with_seat (joined_seat n node o) p xs) next
    grouped_joined n node o p low xs next h = go (place_of p xs) refl
      where
        go : (q : Option ℕ) → place_of p xs ≡ q → Grouped number parent branch low (with_seat (joined_seat n node o) p xs) next
        go None e = subst (λ us. Grouped number parent branch low us next) (sym ((not_found p xs e).1 (joined_seat n node o))) h
        go (Some i) e = let f = found_at p xs i e in
            subst (λ us. Grouped number parent branch low us next) (sym (subst (λ k. with_seat (joined_seat n node o) k xs ≡ slice_set xs i (joined_seat n node o f.seat)) f.number (with_at (joined_seat n node o) low xs next i f.seat h f.at)))
            (grouped_set low xs next i f.seat _ h f.at refl (seated_waiting f.seat _ (seated_at low xs next i f.seat h f.at) (few_joined n node o f.seat.wait (seated_at low xs next i f.seat h f.at).few_branches)))

    pub joined_count : (g : Seated T → Seated T) (p low : ℕ) (xs : List (Seated T)) (next : ℕ) → Grouped number parent branch low xs next → ready_count (with_seat g p xs) ≤ ready_count xs + 1
    joined_count g p low xs next h = with_count g p xs (λ i x e k. subst (λ j. with_seat g j xs ≡ slice_set xs i (g x)) k (with_at g low xs next i x h e))
