-- A turn keeps the contexts of threads and the executors that they hold, where what it leaves open is what it began with and has not
-- ended.
use Rattle.std.proofs.Common.{◌≡◌, ◌∙◌, ℕ, inl, inr, List, [], ◌∷◌, ◌++◌, append_assoc, length, map, Option, Some, None, refl, ap, subst, sym}
use Rattle.std.specs.Prelude.{slice_get}
use Rattle.std.specs.List.{AllByRecursion as AllAre}
use Rattle.std.proofs.lemmas.List.{append-nil}
use Rattle.model_values.proofs.LaterLaws.{all_weaker}
use Rattle.model_values.specs.declared.value.Outcome.{Outcome}
use Rattle.model_run.specs.declared.context.Context.{Context}
use Rattle.model_run.specs.declared.frame.Frame.{Frame}
use Rattle.model_run.specs.declared.held.Held.{Held}
use Rattle.model_run.specs.declared.wait.Answer.{Answer}
use Rattle.model_run.specs.declared.wait.Answer.TheVariants.{Begin, Decided, Done, Granted, Joined}
use Rattle.model_run.specs.declared.wait.BranchEnd.{BranchEnd}
use Rattle.model_run.specs.declared.wait.Join.{Join}
use Rattle.model_run.specs.declared.wait.Wait.{Wait}
use Rattle.model_run.specs.declared.wait.Wait.TheVariants.{Ready, Request as RequestWait, Branches as BranchesWait}
use Rattle.model_run.specs.Fitting.{Above, ParentFits, Seat as Image_seat, Some_of, context_in, granted_request, outermost}
use Rattle.model_run.specs.Below.{Below, Small}
use Rattle.model_run.specs.Meaning.{unwind}
use Rattle.model_run.specs.Nesting.{For_executor, Spot, innermost}
use Rattle.model_run.specs.State.{Result}
use Rattle.model_run.specs.World.{all_ended, ends_before, join_end, join_wait, joined_wait}
use Rattle.model_run.proofs.RequestLaws.{some_all, some_weaker}
use Rattle.run_laws.specs.Evaluation.{granted_of, opened_at, turn_open}
use Rattle.run_laws.specs.Soundness.{Pausing}
use Rattle.world_laws.proofs.Places.{others}
use Rattle.seat_laws.specs.Seats.{Holding, IsHeld, Room, mine, stands_for}
use Rattle.seat_laws.proofs.Lists.{In, all_mapped, in_back, in_front}
use Rattle.seat_laws.proofs.Rooms.{IsNew, changed_holds, changing, ended_holds, forked_holds, rewaiting}
use Rattle.green_threads.specs.declared.runner.Seated.{Seated}
use Rattle.green_threads.specs.Threads.{joined_seat, turned_seat, with_seat, without_seat}
use Rattle.settle_laws.specs.Stances.{Stance}
use Rattle.cps_code.specs.Script.{script_of}
use Rattle.cps_frames.specs.Places.{HasOpened, MoveFits}
use Rattle.cps_frames.specs.Runs.{move_result}
use Rattle.cps_frames.specs.Standing.{common_of, setting_of, state}
use Rattle.cps_frames.specs.declared.shared.Shared.{Shared}
use Rattle.thread_fits.specs.Seats.{Fits, SeatStands, as_seat, first_of, standing_as, waiting_move}
use Rattle.thread_fits.proofs.GoingLaws.{LeavesOpen, turn_fuel, turn_leaves}
use Rattle.thread_fits.proofs.RoomLaws.{above, above_more, above_with, above_without, belows, holding, no_branch, opened_own, parent_there, room_found, room_in, rooms, rooms_changed, rooms_more, rooms_same, rooms_waiting, rooms_without, some_at, splits}
use Rattle.thread_fits.proofs.SeatRows.{all_at, all_both, found, found_now, found_with, ready_above, same_seat_as, with_all, without_all}

-- what an answer opens is what it grants, or nothing
pub granted_same : (xs : List Held) (x : Answer) → granted_of xs x ≡ granted_request xs (Ready x)
granted_same xs (Granted y) = refl
granted_same xs Begin = refl
granted_same xs (Done code out) = refl
granted_same xs (Decided proceed name) = refl
granted_same xs (Joined ends) = refl

opened_front : (at : Spot) (xs : List Held) (x : Answer) → (more : List ℕ) × (granted_request xs (Ready x) ≡ opened_at at xs x ++ more)
opened_front For_executor xs x = ([], sym (granted_same xs x) ∙ sym (append-nil (granted_of xs x)))
opened_front at xs x = (granted_request xs (Ready x), refl)

pub all_in : (ns : List ℕ) → AllAre (λ a. In a ns) ns
all_in [] = tt
all_in (n ∷ ns) = (inl refl, all_weaker _ _ (λ a i. inr i) ns (all_in ns))

-- a join gives no executor
joined_none : (ys : List Held) (js : List Join) (o : Option (List BranchEnd)) → granted_request ys (joined_wait js o) ≡ []
joined_none ys js None = refl
joined_none ys js (Some ends) = refl

join_none : (n head : ℕ) (o : Outcome) (ys : List Held) (w : Wait) → granted_request ys (join_wait n head o w) ≡ granted_request ys w
join_none n head o ys (Ready x) = refl
join_none n head o ys (RequestWait r) = refl
join_none n head o ys (BranchesWait js) = joined_none ys (map (join_end n (record { node = head; outcome = o; place = ends_before js })) js) (all_ended (map (join_end n (record { node = head; outcome = o; place = ends_before js })) js))

seat_there : (s : Image_seat) → Some s ≡ None → ⊥
seat_there s e = absurd (cc e)

-- The turn of thread x, which is ready with answer a.
module _ {T : Type 0} (stance : T → Stance) (u : Shared) (xs : List (Seated T)) (fits : Fits stance xs u) (i : ℕ) (x : Seated T) (at : slice_get xs i ≡ Some x) (a : Answer) (ready : x.wait ≡ Ready a) where
  abbrev pub up : Option ℕ → Context
  up = above stance xs

  abbrev rs : List Room
  rs = rooms stance (above stance xs) xs

  never : (m : ℕ) → Above m (found stance xs x.number) → ⊥
  never m = ready_above stance xs i x a m fits.numbers at ready

  pub its_seat : SeatStands stance u (above stance xs x.parent) x
  its_seat = all_at (λ y. SeatStands stance u (above stance xs y.parent) y) xs i x fits.seats at

  abbrev opened : HasOpened (above stance xs x.parent) (standing_as u (stance x.thread))
  opened = (its_seat.poised).opened

  -- the requests of its own bodies in this turn
  abbrev pub own : List ℕ
  own = opened.own ++ opened_at (innermost (script_of u.code) (outermost x.parent) (stance x.thread).frames) u.held a

  abbrev more : List ℕ
  more = (opened_front (innermost (script_of u.code) (outermost x.parent) (stance x.thread).frames) u.held a).0

  stood_for : stands_for u.held (room_in stance (above stance xs) x) ≡ own ++ more
  stood_for =
      ap (λ w. mine (room_in stance (above stance xs) x) ++ granted_request u.held w) ready
      ∙ ap (λ ns. ns ++ granted_request u.held (Ready a)) (opened_own (above stance xs x.parent) (standing_as u (stance x.thread)) opened)
      ∙ ap (λ ns. opened.own ++ ns) (opened_front (innermost (script_of u.code) (outermost x.parent) (stance x.thread).frames) u.held a).1
      ∙ sym (append_assoc opened.own (opened_at (innermost (script_of u.code) (outermost x.parent) (stance x.thread).frames) u.held a) more)

  -- what it leaves open, where what its first move comes to inside its frames is below this
  pub turn_left : Small (setting_of u) → (r : Result) → Below (unwind (script_of u.code) turn_fuel (stance x.thread).frames (move_result (script_of u.code) turn_fuel (first_of (stance x.thread).runs a) (state (standing_as u (stance x.thread)).world []))) r
      → LeavesOpen (script_of u.code) (outermost x.parent) (turn_open (above stance xs x.parent).held (length (above stance xs x.parent).folders) u.held own) r
  turn_left small r below =
      let fit : MoveFits (script_of u.code) (common_of u) (innermost (script_of u.code) (outermost x.parent) (stance x.thread).frames) (first_of (stance x.thread).runs a) =
      subst (λ w. MoveFits (script_of u.code) (common_of u) (innermost (script_of u.code) (outermost x.parent) (stance x.thread).frames) (waiting_move w (stance x.thread))) ready (its_seat.poised).move in
      turn_leaves (standing_as u (stance x.thread)) fits.script small (above stance xs x.parent) x.parent (stance x.thread).runs a
      (record { sound = (its_seat.poised).sound; executors = (its_seat.poised).executors; opened = (its_seat.poised).opened; frames = (its_seat.poised).frames; chain = (its_seat.poised).chain; move = fit })
      its_seat.start its_seat.closures r below

  -- it alone has its number
  only_room : (y : Seated T) → (y.number ≡ x.number → as_seat stance y ≡ as_seat stance x) → y.number ≡ x.number → room_in stance (above stance xs) y ≡ room_in stance (above stance xs) x
  only_room y same e = ap (λ (t : Image_seat). record { number = t.number; parent = t.parent; wait = t.wait; around = above stance xs t.parent; now = t.context }) (same e)

  its : (ns : List ℕ) → AllAre (λ b. In b own) ns → AllAre (λ b. Some_of (λ q. (q.number ≡ x.number) × In b (stands_for u.held q)) rs) ns
  its ns all = all_weaker _ _ (λ b i. some_at stance (λ q. (q.number ≡ x.number) × In b (stands_for u.held q)) (above stance xs) xs _ x at (refl, subst (In b) (sym stood_for) (in_front b own more i))) ns all

  -- It has stopped, over this shared state, as this thread, and has left this open.
  module _ (u' : Shared) (t' : T) (path : List Frame) (p : Pausing (turn_open (above stance xs x.parent).held (length (above stance xs x.parent).folders) u.held own) path (standing_as u' (stance t')).world) where
    rest_its : AllAre (λ b. Some_of (λ q. (q.number ≡ x.number) × In b (stands_for u.held q)) rs) p.rest
    rest_its = its p.rest (all_weaker _ _ (λ b i. subst (In b) (sym p.gone) (in_back b p.own p.rest i)) p.rest (all_in p.rest))

    facts : AllAre (λ q. q.number ≡ x.number → ((stance t').own.context.held ≡ q.around.held ++ p.own) × (stands_for u.held q ≡ (p.own ++ p.rest) ++ more)) rs
    facts = all_mapped (λ q. q.number ≡ x.number → ((stance t').own.context.held ≡ q.around.held ++ p.own) × (stands_for u.held q ≡ (p.own ++ p.rest) ++ more)) (room_in stance (above stance xs)) xs
        (all_weaker _ _
        (λ y same e. (
          p.nodes ∙ ap (λ (q : Room). q.around.held ++ p.own) (sym (only_room y same e)),
          ap (stands_for u.held) (only_room y same e) ∙ stood_for ∙ ap (λ ns. ns ++ more) p.gone,
        )) xs (same_seat_as stance i x xs fits.numbers at))

    waits_hold : (w : Wait) → ((zs : List Held) → granted_request zs w ≡ []) → Holding u'.held (map (changing x.number (stance t').own.context w) rs)
    waits_hold w empty =
        subst (λ zs. Holding zs (map (changing x.number (stance t').own.context w) rs)) (sym p.held)
        (changed_holds x.number u.held rs (splits stance u xs fits) (belows stance u xs fits x.number never) (holding stance u xs fits) p.rest rest_its (stance t').own.context w p.own more facts empty)

    -- It waits.
    module _ (w : Wait) (empty : (zs : List Held) → granted_request zs w ≡ []) where
      abbrev now : List (Seated T)
      now = with_seat (turned_seat w t') x.number xs

      pub waits_under : AllAre (λ y. above stance xs y.parent ≡ above stance now y.parent) now
      waits_under = with_all (λ y. y.parent ≡ Some x.number → ⊥) (λ y. above stance xs y.parent ≡ above stance now y.parent) (turned_seat w t') x.number
          (λ y e none. sym (above_with stance (turned_seat w t') (λ z. refl) x.number y.parent (λ z is. absurd (none is)) xs)) (λ y e none. sym (above_with stance (turned_seat w t') (λ z. refl) x.number y.parent (λ z is. absurd (none is)) xs))
          xs (no_branch stance u xs fits x.number never)

      pub waits_holding : Holding u'.held (rooms stance (above stance (with_seat (turned_seat w t') x.number xs)) (with_seat (turned_seat w t') x.number xs))
      waits_holding = subst (Holding u'.held) (sym (rooms_changed stance (above stance xs) (turned_seat w t') x.number (stance t').own.context w (λ y. refl) xs) ∙ rooms_same stance (above stance xs) (above stance now) now waits_under) (waits_hold w empty)

      -- And branches begin in its context.
      module _ (news : List (Seated T)) (fresh : AllAre (λ z. (z.parent ≡ Some x.number) × ((stance z.thread).own.context ≡ (stance t').own.context) × (z.wait ≡ Ready Begin)) news) where
        abbrev all : List (Seated T)
        all = with_seat (turned_seat w t') x.number xs ++ news

        there : found stance now x.number ≡ None → ⊥
        there = found_now stance (λ o. o ≡ None → ⊥) (turned_seat w t') (λ y. refl) (λ y. seat_there _) xs i x at

        found_context : context_in (found stance now x.number) ≡ (stance t').own.context
        found_context = found_now stance (λ o. context_in o ≡ (stance t').own.context) (turned_seat w t') (λ y. refl) (λ y. refl) xs i x at

        pub above_new : above stance all (Some x.number) ≡ (stance t').own.context
        above_new = above_more stance x.number now news there ∙ found_context

        above_old : (k : ℕ) (o : Option ℕ) → ParentFits (map (as_seat stance) xs) k o → (o ≡ Some x.number → ⊥) → above stance xs o ≡ above stance all o
        above_old k None h none = refl
        above_old k (Some m) h none =
            sym (above_more stance m now news (found_with stance (λ o. o ≡ None → ⊥) (turned_seat w t') (λ y. refl) x.number m (λ y e h. seat_there _) xs (parent_there k (found stance xs m) h.1))
            ∙ above_with stance (turned_seat w t') (λ z. refl) x.number (Some m) (λ z is. absurd (none is)) xs)

        pub forks_under : AllAre (λ y. above stance xs y.parent ≡ above stance all y.parent) now
        forks_under = with_all (λ y. ParentFits (map (as_seat stance) xs) y.number y.parent × (y.parent ≡ Some x.number → ⊥)) (λ y. above stance xs y.parent ≡ above stance all y.parent) (turned_seat w t') x.number
            (λ y e h. above_old y.number y.parent h.0 h.1) (λ y e h. above_old y.number y.parent h.0 h.1) xs (all_both _ _ xs (fits.family).parents (no_branch stance u xs fits x.number never))

        fresh_rooms : (zs : List (Seated T)) → AllAre (λ z. (z.parent ≡ Some x.number) × ((stance z.thread).own.context ≡ (stance t').own.context) × (z.wait ≡ Ready Begin)) zs → AllAre (IsNew x.number (stance t').own.context) (rooms stance (above stance all) zs)
        fresh_rooms [] h = tt
        fresh_rooms (z ∷ zs) h = (record { parent = (h.0).0; around = ap (above stance all) (h.0).0 ∙ above_new; now = (h.0).1; wait = (h.0).2 }, fresh_rooms zs h.1)

        old_rooms : Holding u'.held (rooms stance (above stance all) now)
        old_rooms = subst (Holding u'.held) (sym (rooms_changed stance (above stance xs) (turned_seat w t') x.number (stance t').own.context w (λ y. refl) xs) ∙ rooms_same stance (above stance xs) (above stance all) now forks_under) (waits_hold w empty)

        its_room : Some_of (λ q. (q.number ≡ x.number) × (q.now ≡ (stance t').own.context)) (rooms stance (above stance all) now)
        its_room = some_weaker _ _ (λ q h. (h.0, h.1 ∙ found_context)) (rooms stance (above stance all) now) (room_found stance (above stance all) x.number now there)

        its_held : AllAre (IsHeld u'.held) (stance t').own.context.held
        its_held = some_all (λ q. AllAre (IsHeld u'.held) q.now.held) (λ q. (q.number ≡ x.number) × (q.now ≡ (stance t').own.context)) (AllAre (IsHeld u'.held) (stance t').own.context.held)
            (λ q held h. subst (λ (c : Context). AllAre (IsHeld u'.held) c.held) h.1 held) (rooms stance (above stance all) now) old_rooms.held its_room

        pub forks_holding : Holding u'.held (rooms stance (above stance (with_seat (turned_seat w t') x.number xs ++ news)) (with_seat (turned_seat w t') x.number xs ++ news))
        forks_holding = subst (Holding u'.held) (sym (rooms_more stance (above stance all) now news))
            (forked_holds x.number (stance t').own.context u'.held (rooms stance (above stance all) now) (rooms stance (above stance all) news) old_rooms its_room its_held (fresh_rooms news fresh))

    -- It has ended, a branch of thread m.
    module _ (head : ℕ) (o : Outcome) (m : ℕ) where
      abbrev left : List (Seated T)
      left = with_seat (joined_seat x.number head o) m (without_seat x.number xs)

      above_left : (q : Option ℕ) → (q ≡ Some x.number → ⊥) → above stance xs q ≡ above stance left q
      above_left q none = sym (above_with stance (joined_seat x.number head o) (λ z. refl) m q (λ z e. refl) (without_seat x.number xs) ∙ above_without stance x.number q none xs)

      kept : AllAre (λ y. y.parent ≡ Some x.number → ⊥) (without_seat x.number xs)
      kept = without_all (λ y. y.parent ≡ Some x.number → ⊥) (λ y. y.parent ≡ Some x.number → ⊥) x.number (λ y e none. none) xs (no_branch stance u xs fits x.number never)

      pub ends_under : AllAre (λ y. above stance xs y.parent ≡ above stance left y.parent) left
      ends_under = with_all (λ y. y.parent ≡ Some x.number → ⊥) (λ y. above stance xs y.parent ≡ above stance left y.parent) (joined_seat x.number head o) m (λ y e none. above_left y.parent none) (λ y e none. above_left y.parent none) (without_seat x.number xs) kept

      pub ends_holding : Holding u'.held (rooms stance (above stance (with_seat (joined_seat x.number head o) m (without_seat x.number xs))) (with_seat (joined_seat x.number head o) m (without_seat x.number xs)))
      ends_holding =
          subst (Holding u'.held)
          (sym (rooms_waiting stance (above stance xs) (joined_seat x.number head o) m (join_wait x.number head o) (λ y. refl) (without_seat x.number xs) ∙ ap (map (rewaiting (join_wait x.number head o) m)) (rooms_without stance (above stance xs) x.number xs))
          ∙ rooms_same stance (above stance xs) (above stance left) left ends_under)
          (subst (λ zs. Holding zs (map (rewaiting (join_wait x.number head o) m) (others (λ q. q.number) x.number rs))) (sym p.held)
          (ended_holds x.number u.held rs (splits stance u xs fits) (belows stance u xs fits x.number never) (holding stance u xs fits) p.rest rest_its (join_wait x.number head o) m (λ ys w. join_none x.number head o ys w)))
