-- Threads that fit do so whatever is marked.
use Rattle.std.proofs.Common.{◌≡◌, List, [], ◌∷◌, map, None, refl, ap, subst}
use Rattle.std.specs.List.{AllByRecursion as AllAre}
use Rattle.model_values.proofs.LaterLaws.{all_weaker}
use Rattle.model_run.specs.declared.context.Context.{Context}
use Rattle.model_run.specs.Fitting.{Distinct, IsWaitedFor, ParentFits, Seat, concat_map, context_above, own_held_of, seat_of}
use Rattle.seat_laws.proofs.Lists.{all_mapped}
use Rattle.green_threads.specs.declared.runner.Seated.{Seated}
use Rattle.green_threads.specs.Threads.{marked_in}
use Rattle.settle_laws.specs.Stances.{Stance}
use Rattle.script_thread.specs.Marks.{marked}
use Rattle.cps_frames.specs.Standing.{common_of}
use Rattle.cps_frames.specs.declared.shared.Shared.{Shared}
use Rattle.thread_fits.specs.Seats.{Fits, HoldsOwn, IsAlone, IsReady, JoinsFit, SeatStands, as_seat}

module _ {T : Type 0} (stance : T → Stance) where
  marked_seat : (u : Shared) (above : Context) (x : Seated T) → SeatStands stance u above x → SeatStands stance (marked u) above x
  marked_seat u above x h = record {
    poised = record {
      sound = (h.poised).sound;
      executors = (h.poised).executors;
      opened = record { own = ((h.poised).opened).own; held = ((h.poised).opened).held; many = ((h.poised).opened).many; folders = ((h.poised).opened).folders };
      frames = (h.poised).frames;
      chain = (h.poised).chain;
      move = (h.poised).move;
    };
    closures = h.closures;
    begun = h.begun;
    start = h.start;
    number = h.number;
    parent = h.parent;
    wait = h.wait;
  }

  pub marked_fits : (xs : List (Seated T)) (u : Shared) → Fits stance xs u → Fits stance xs (marked u)
  marked_fits xs u fit = record {
    script = fit.script;
    shared = fit.shared;
    numbers = fit.numbers;
    family = fit.family;
    seats = all_weaker (λ x. SeatStands stance u (context_above (map (as_seat stance) xs) x.parent) x) (λ x. SeatStands stance (marked u) (context_above (map (as_seat stance) xs) x.parent) x) (λ x h. marked_seat u (context_above (map (as_seat stance) xs) x.parent) x h) xs fit.seats;
    holds = fit.holds;
    differ = fit.differ;
    alone = fit.alone;
    waited_for = fit.waited_for;
  }

  -- marked threads, which are known by what the definitions see of them
  module _ (marked : T → T) where
    same_rows : (xs : List (Seated T)) → map (as_seat (λ t. stance (marked t))) xs ≡ map (as_seat stance) (map (marked_in marked) xs)
    same_rows [] = refl
    same_rows (x ∷ xs) = ap (λ rs. as_seat stance (marked_in marked x) ∷ rs) (same_rows xs)

    same_numbers : (xs : List (Seated T)) → map (λ x. x.number) xs ≡ map (λ x. x.number) (map (marked_in marked) xs)
    same_numbers [] = refl
    same_numbers (x ∷ xs) = ap (λ ns. x.number ∷ ns) (same_numbers xs)

    seat_stands : (u : Shared) (above : Context) (x : Seated T) → SeatStands (λ t. stance (marked t)) u above x → SeatStands stance u above (marked_in marked x)
    seat_stands u above x h = record { poised = h.poised; closures = h.closures; begun = h.begun; start = h.start; number = h.number; parent = h.parent; wait = h.wait }

    alone_still : (xs : List (Seated T)) (x : Seated T) → IsAlone xs x → IsAlone (map (marked_in marked) xs) (marked_in marked x)
    alone_still xs x h granted = all_mapped (λ y. IsReady y.wait → y.number ≡ x.number) (marked_in marked) xs (h granted)

    pub marked_threads_fit : (xs : List (Seated T)) (u : Shared) → Fits (λ t. stance (marked t)) xs u → Fits stance (map (marked_in marked) xs) u
    marked_threads_fit xs u fit =
        let ys : List (Seated T) = map (marked_in marked) xs in
        let rows : List Seat = map (as_seat (λ t. stance (marked t))) xs in
        record {
          script = fit.script;
          shared = fit.shared;
          numbers = subst Distinct (same_numbers xs) fit.numbers;
          family = record {
            main = subst (λ rs. seat_of rs 0 ≡ None → ⊥) (same_rows xs) (fit.family).main;
            parents = subst (λ rs. AllAre (λ (y : Seated T). ParentFits rs y.number y.parent) ys) (same_rows xs) (all_mapped (λ y. ParentFits rows y.number y.parent) (marked_in marked) xs (fit.family).parents);
            joins = subst (λ rs. AllAre (λ (y : Seated T). JoinsFit (common_of u) rs y.number y.wait) ys) (same_rows xs) (all_mapped (λ y. JoinsFit (common_of u) rows y.number y.wait) (marked_in marked) xs (fit.family).joins);
          };
          seats = subst (λ rs. AllAre (λ (y : Seated T). SeatStands stance u (context_above rs y.parent) y) ys) (same_rows xs)
              (all_mapped (λ y. SeatStands stance u (context_above rows y.parent) y) (marked_in marked) xs
              (all_weaker (λ x. SeatStands (λ t. stance (marked t)) u (context_above rows x.parent) x) (λ x. SeatStands stance u (context_above rows x.parent) (marked_in marked x)) (λ x h. seat_stands u (context_above rows x.parent) x h) xs fit.seats));
          holds = all_mapped (HoldsOwn stance u) (marked_in marked) xs fit.holds;
          differ = subst (λ rs. Distinct (concat_map (own_held_of (common_of u) rs) rs)) (same_rows xs) fit.differ;
          alone = all_mapped (IsAlone ys) (marked_in marked) xs (all_weaker (IsAlone xs) (λ x. IsAlone ys (marked_in marked x)) (λ x h. alone_still xs x h) xs fit.alone);
          waited_for = subst (λ rs. AllAre (IsWaitedFor rs) u.requests) (same_rows xs) fit.waited_for;
        }
