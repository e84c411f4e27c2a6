-- Threads in their seats with the contexts around them, as the laws of held executors see them, through each change of the threads.
use Rattle.std.proofs.Common.{◌≡◌, ◌∙◌, ◌<◌, ℕ, zero, suc, inl, inr, Bool, true, false, List, [], ◌∷◌, ◌++◌, map, Option, Some, None, refl, ap, subst, sym}
use Rattle.std.specs.Prelude.{drop, if◌then◌else◌, length, nat_eq, not, slice_get}
use Rattle.std.specs.List.{AllByRecursion as AllAre}
use Rattle.std.proofs.lemmas.Bool.{eqb-true}
use Rattle.model_values.proofs.LaterLaws.{all_weaker}
use Rattle.model_run.specs.declared.context.Context.{Context}
use Rattle.model_run.specs.declared.wait.Wait.{Wait}
use Rattle.model_run.specs.Fitting.{Above, Distinct, ParentFits, Seat as Image_seat, Some_of, concat_map, context_above, context_in, own_held_of}
use Rattle.world_laws.proofs.Places.{others}
use Rattle.seat_laws.specs.Seats.{AroundIs, Holding, IsHeld, Room, stands_for}
use Rattle.seat_laws.proofs.Lists.{all_mapped}
use Rattle.seat_laws.proofs.Rooms.{IsBelow, IsSplit, changing, drop_behind, rewaiting}
use Rattle.green_threads.specs.declared.runner.Seated.{Seated}
use Rattle.green_threads.specs.Threads.{with_seat, without_seat}
use Rattle.settle_laws.specs.Stances.{Stance}
use Rattle.cps_frames.specs.Places.{HasOpened}
use Rattle.cps_frames.specs.Standing.{Standing, common_of}
use Rattle.cps_frames.specs.declared.shared.Shared.{Shared}
use Rattle.thread_fits.specs.Seats.{Fits, HoldsOwn, SeatStands, as_seat}
use Rattle.thread_fits.proofs.SeatRows.{KeepsNumber, found, found_more, found_with, found_without, numbers}

-- what a thread has opened under a context stands behind that context's
opened_split : (above : Context) (s : Standing) → HasOpened above s → s.world.own.context.held ≡ above.held ++ drop (length above.held) s.world.own.context.held
opened_split above s o = o.held ∙ ap (λ ns. above.held ++ ns) (sym (ap (drop (length above.held)) o.held ∙ drop_behind above.held o.own))

pub opened_own : (above : Context) (s : Standing) (o : HasOpened above s) → drop (length above.held) s.world.own.context.held ≡ o.own
opened_own above s o = ap (drop (length above.held)) o.held ∙ drop_behind above.held o.own

pub parent_there : (n : ℕ) (o : Option Image_seat) → Above n o → o ≡ None → ⊥
parent_there n o h e = subst (Above n) e h

module _ {T : Type 0} (stance : T → Stance) where
  -- the context above a thread with this parent
  abbrev pub above : List (Seated T) → Option ℕ → Context
  above xs p = context_above (map (as_seat stance) xs) p

  -- It stays where threads change: if it is the thread's that changes, its context does.
  pub above_with : (g : Seated T → Seated T) → KeepsNumber g → (n : ℕ) (p : Option ℕ) → ((y : Seated T) → p ≡ Some n → (stance (g y).thread).own.context ≡ (stance y.thread).own.context) → (xs : List (Seated T)) → above (with_seat g n xs) p ≡ above xs p
  above_with g keeps n None same xs = refl
  above_with g keeps n (Some m) same xs = found_with stance (λ o. context_in o ≡ context_in (found stance xs m)) g keeps n m (λ y e is. same y (ap Some e) ∙ is) xs refl

  pub above_without : (n : ℕ) (p : Option ℕ) → (p ≡ Some n → ⊥) → (xs : List (Seated T)) → above (without_seat n xs) p ≡ above xs p
  above_without n None other xs = refl
  above_without n (Some m) other xs = found_without stance (λ o. context_in o ≡ context_in (found stance xs m)) n m (λ e. other (ap Some e)) xs refl

  pub above_more : (m : ℕ) (xs ys : List (Seated T)) → (found stance xs m ≡ None → ⊥) → above (xs ++ ys) (Some m) ≡ above xs (Some m)
  above_more m xs ys there = (found_more stance (λ o. (context_in o ≡ context_in (found stance xs m)) × (o ≡ None → ⊥)) (λ h. h.1 refl) m xs ys (refl, there)).0

  -- A thread with the context around it.
  abbrev pub room_under : (Option ℕ → Context) → Image_seat → Room
  room_under up t = record { number = t.number; parent = t.parent; wait = t.wait; around = up t.parent; now = t.context }

  abbrev pub room_in : (Option ℕ → Context) → Seated T → Room
  room_in up x = room_under up (as_seat stance x)

  abbrev pub rooms : (Option ℕ → Context) → List (Seated T) → List Room
  rooms up xs = map (room_in up) xs

  -- the same contexts around
  pub rooms_same : (up up' : Option ℕ → Context) (xs : List (Seated T)) → AllAre (λ x. up x.parent ≡ up' x.parent) xs → rooms up xs ≡ rooms up' xs
  rooms_same up up' [] h = refl
  rooms_same up up' (x ∷ xs) h = ap (λ c. record (room_in up x) { around = c } ∷ rooms up xs) h.0 ∙ ap (λ rs. room_in up' x ∷ rs) (rooms_same up up' xs h.1)

  pub seats_under : (u : Shared) (up up' : Option ℕ → Context) (xs : List (Seated T)) → AllAre (λ x. up x.parent ≡ up' x.parent) xs → AllAre (λ x. SeatStands stance u (up x.parent) x) xs → AllAre (λ x. SeatStands stance u (up' x.parent) x) xs
  seats_under u up up' [] same h = tt
  seats_under u up up' (x ∷ xs) same h = (subst (λ c. SeatStands stance u c x) same.0 h.0, seats_under u up up' xs same.1 h.1)

  pub rooms_numbers : (up : Option ℕ → Context) (xs : List (Seated T)) → map (λ (q : Room). q.number) (rooms up xs) ≡ numbers xs
  rooms_numbers up [] = refl
  rooms_numbers up (x ∷ xs) = ap (λ ns. x.number ∷ ns) (rooms_numbers up xs)

  -- the requests of open bodies
  pub bodies_same : (u : Shared) (all xs : List (Seated T)) → concat_map (own_held_of (common_of u) (map (as_seat stance) all)) (map (as_seat stance) xs) ≡ concat_map (stands_for u.held) (rooms (above all) xs)
  bodies_same u all [] = refl
  bodies_same u all (x ∷ xs) = ap (λ ns. own_held_of (common_of u) (map (as_seat stance) all) (as_seat stance x) ++ ns) (bodies_same u all xs)

  pub differ_still : (u v : Shared) (xs : List (Seated T)) → v.held ≡ u.held → Distinct (concat_map (own_held_of (common_of u) (map (as_seat stance) xs)) (map (as_seat stance) xs)) → Distinct (concat_map (own_held_of (common_of v) (map (as_seat stance) xs)) (map (as_seat stance) xs))
  differ_still u v xs e h =
      subst Distinct (sym (bodies_same v xs xs)) (subst (λ hs. Distinct (concat_map (stands_for hs) (rooms (above xs) xs))) (sym e) (subst Distinct (bodies_same u xs xs) h))

  -- where a thread changes
  pub rooms_changed : (up : Option ℕ → Context) (g : Seated T → Seated T) (n : ℕ) (c : Context) (w : Wait) → ((y : Seated T) → room_in up (g y) ≡ record (room_in up y) { now = c; wait = w }) → (xs : List (Seated T)) → rooms up (with_seat g n xs) ≡ map (changing n c w) (rooms up xs)
  rooms_changed up g n c w is [] = refl
  rooms_changed up g n c w is (x ∷ xs) = one (nat_eq x.number n) (rooms_changed up g n c w is xs)
    where
      one : (b : Bool) → rooms up (with_seat g n xs) ≡ map (changing n c w) (rooms up xs) → room_in up (if b then g x else x) ∷ rooms up (with_seat g n xs) ≡ (if b then record (room_in up x) { now = c; wait = w } else room_in up x) ∷ map (changing n c w) (rooms up xs)
      one true more = ap (λ r. r ∷ rooms up (with_seat g n xs)) (is x) ∙ ap (λ rs. (record (room_in up x) { now = c; wait = w }) ∷ rs) more
      one false more = ap (λ rs. room_in up x ∷ rs) more

  pub rooms_waiting : (up : Option ℕ → Context) (g : Seated T → Seated T) (n : ℕ) (f : Wait → Wait) → ((y : Seated T) → room_in up (g y) ≡ record (room_in up y) { wait = f y.wait }) → (xs : List (Seated T)) → rooms up (with_seat g n xs) ≡ map (rewaiting f n) (rooms up xs)
  rooms_waiting up g n f is [] = refl
  rooms_waiting up g n f is (x ∷ xs) = one (nat_eq x.number n) (rooms_waiting up g n f is xs)
    where
      one : (b : Bool) → rooms up (with_seat g n xs) ≡ map (rewaiting f n) (rooms up xs) → room_in up (if b then g x else x) ∷ rooms up (with_seat g n xs) ≡ (if b then record (room_in up x) { wait = f x.wait } else room_in up x) ∷ map (rewaiting f n) (rooms up xs)
      one true more = ap (λ r. r ∷ rooms up (with_seat g n xs)) (is x) ∙ ap (λ rs. (record (room_in up x) { wait = f x.wait }) ∷ rs) more
      one false more = ap (λ rs. room_in up x ∷ rs) more

  pub rooms_without : (up : Option ℕ → Context) (n : ℕ) (xs : List (Seated T)) → rooms up (without_seat n xs) ≡ others (λ q. q.number) n (rooms up xs)
  rooms_without up n [] = refl
  rooms_without up n (x ∷ xs) = one (nat_eq x.number n) (rooms_without up n xs)
    where
      one : (b : Bool) → rooms up (without_seat n xs) ≡ others (λ q. q.number) n (rooms up xs) → rooms up (if not b then x ∷ without_seat n xs else without_seat n xs) ≡ (if not b then room_in up x ∷ others (λ q. q.number) n (rooms up xs) else others (λ q. q.number) n (rooms up xs))
      one true more = more
      one false more = ap (λ rs. room_in up x ∷ rs) more

  pub rooms_more : (up : Option ℕ → Context) (xs ys : List (Seated T)) → rooms up (xs ++ ys) ≡ rooms up xs ++ rooms up ys
  rooms_more up [] ys = refl
  rooms_more up (x ∷ xs) ys = ap (λ rs. room_in up x ∷ rs) (rooms_more up xs ys)

  -- what is known of the rooms is known of the threads
  pub of_rooms : (P : Room → Type 0) (up : Option ℕ → Context) (xs : List (Seated T)) → AllAre P (rooms up xs) → AllAre (λ x. P (room_in up x)) xs
  of_rooms P up [] h = tt
  of_rooms P up (x ∷ xs) h = (h.0, of_rooms P up xs h.1)

  pub some_at : (P : Room → Type 0) (up : Option ℕ → Context) (xs : List (Seated T)) (i : ℕ) (x : Seated T) → slice_get xs i ≡ Some x → P (room_in up x) → Some_of P (rooms up xs)
  some_at P up [] i x e h = absurd (cc e)
  some_at P up (y ∷ ys) zero x e h = (let same : y ≡ x = cc e in inl (subst (λ (z : Seated T). P (room_in up z)) (sym same) h))
  some_at P up (y ∷ ys) (suc i) x e h = inr (some_at P up ys i x e h)

  -- the thread of a number is among them, in its context
  pub room_found : (up : Option ℕ → Context) (m : ℕ) (xs : List (Seated T)) → (found stance xs m ≡ None → ⊥) → Some_of (λ q. (q.number ≡ m) × (q.now ≡ context_in (found stance xs m))) (rooms up xs)
  room_found up m [] there = absurd (there refl)
  room_found up m (x ∷ xs) there = one (nat_eq x.number m) refl there (room_found up m xs)
    where
      one : (b : Bool) → nat_eq x.number m ≡ b → ((if b then Some (as_seat stance x) else found stance xs m) ≡ None → ⊥) → ((found stance xs m ≡ None → ⊥) → Some_of (λ q. (q.number ≡ m) × (q.now ≡ context_in (found stance xs m))) (rooms up xs))
          → Some_of (λ q. (q.number ≡ m) × (q.now ≡ context_in (if b then Some (as_seat stance x) else found stance xs m))) (rooms up (x ∷ xs))
      one true e there more = inl (eqb-true _ _ e, refl)
      one false e there more = inr (more there)

  module _ (u : Shared) (xs : List (Seated T)) (fits : Fits stance xs u) where
    around_is : (n : ℕ) (p : Option ℕ) → ParentFits (map (as_seat stance) xs) n p → AroundIs (rooms (above xs) xs) (above xs p) p
    around_is n None h = (refl, refl)
    around_is n (Some m) h = room_found (above xs) m xs (parent_there n (found stance xs m) h.1)

    -- Threads that fit hold their executors.
    pub holding : Holding u.held (rooms (above xs) xs)
    holding = record {
      around = all_mapped (λ q. AroundIs (rooms (above xs) xs) q.around q.parent) (room_in (above xs)) xs (all_weaker _ _ (λ x h. around_is x.number x.parent h) xs (fits.family).parents);
      held = all_mapped (λ q. AllAre (IsHeld u.held) q.now.held) (room_in (above xs)) xs fits.holds;
      differ = subst Distinct (bodies_same u xs xs) fits.differ;
    }

    pub splits : AllAre IsSplit (rooms (above xs) xs)
    splits = all_mapped IsSplit (room_in (above xs)) xs (all_weaker _ _ (λ x h. opened_split (above xs x.parent) _ (h.poised).opened) xs fits.seats)

    -- a thread that waits for no branch has none
    module _ (n : ℕ) (never : (m : ℕ) → Above m (found stance xs n) → ⊥) where
      not_below : (k : ℕ) (p : Option ℕ) → ParentFits (map (as_seat stance) xs) k p → p ≡ Some n → ⊥
      not_below k None h e = absurd (cc e)
      not_below k (Some j) h e = (let same : j ≡ n = cc e in never k (subst (λ m. Above k (found stance xs m)) same h.1))

      pub no_branch : AllAre (λ x. x.parent ≡ Some n → ⊥) xs
      no_branch = all_weaker _ _ (λ x h e. not_below x.number x.parent h e) xs (fits.family).parents

      below_one : (k : ℕ) (p : Option ℕ) → ParentFits (map (as_seat stance) xs) k p → (m : ℕ) → p ≡ Some m → (m < k) × (m ≡ n → ⊥)
      below_one k None h m e = absurd (cc e)
      below_one k (Some j) h m e = (let same : j ≡ m = cc e in (subst (λ i. i < k) same h.0, λ at. not_below k (Some j) h (ap Some (same ∙ at))))

      pub belows : AllAre (IsBelow n) (rooms (above xs) xs)
      belows = all_mapped (IsBelow n) (room_in (above xs)) xs (all_weaker _ _ (λ x h m e. below_one x.number x.parent h m e) xs (fits.family).parents)

  -- what the laws of held executors say of the rooms, the fit says of the threads
  pub rooms_hold : (u : Shared) (xs : List (Seated T)) → Holding u.held (rooms (above xs) xs) → AllAre (HoldsOwn stance u) xs
  rooms_hold u xs h = of_rooms (λ q. AllAre (IsHeld u.held) q.now.held) (above xs) xs h.held

  pub rooms_differ : (u : Shared) (xs : List (Seated T)) → Holding u.held (rooms (above xs) xs) → Distinct (concat_map (own_held_of (common_of u) (map (as_seat stance) xs)) (map (as_seat stance) xs))
  rooms_differ u xs h = subst Distinct (sym (bodies_same u xs xs)) h.differ
