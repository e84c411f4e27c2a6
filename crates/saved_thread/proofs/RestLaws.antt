-- Threads that have begun, and of which an image would pass its check, fit; and threads that fit can stand in an image.
use Rattle.std.proofs.Common.{◌≡◌, ◌≤◌, ◌<◌, ◌+◌, ℕ, suc, false, List, [], ◌∷◌, length, map, Option, Some, None, refl, sym, ap, subst, arith}
use Rattle.std.specs.List.{AllByRecursion as AllAre}
use Rattle.model_values.specs.declared.cell.Cell.{Cell}
use Rattle.model_values.proofs.LaterLaws.{all_weaker}
use Rattle.model_run.specs.declared.ending.Asked.{Asked}
use Rattle.model_run.specs.declared.ending.Asked.TheVariants.{ForBranches, ForRequest}
use Rattle.model_run.specs.declared.frame.Frame.{Frame}
use Rattle.model_run.specs.declared.request.OpenRequest.{OpenRequest}
use Rattle.model_run.specs.declared.wait.Join.{Join}
use Rattle.model_run.specs.declared.wait.JoinEnd.{JoinEnd}
use Rattle.model_run.specs.declared.wait.Wait.{Wait}
use Rattle.model_run.specs.declared.wait.Wait.TheVariants.{Ready, Request as RequestWait, Branches as BranchesWait}
use Rattle.model_run.specs.Fitting.{BranchFits, Distinct, EnvFits, FitsAtRest, ForRequest as IsForRequest, IsOpen, JoinFits, NotReady, ParentFits, Rise, Seat, SeatFits, Some_of, StartFits, WaitFits, context_above, known, outermost, seat_of}
use Rattle.model_run.specs.Nesting.{Any_body, Any_branch, Begun as Begun_at, Body_of, For_branches, For_executor, For_person, For_task, FrameFits, Spot, WaitsFor, innermost}
use Rattle.model_run.specs.Scoping.{names_for}
use Rattle.model_run.specs.State.{Common}
use Rattle.model_run.specs.Terms.{Term}
use Rattle.model_run.specs.Threads.{Runs}
use Rattle.run_laws.specs.Worlds.{EndIf, SharedSound}
use Rattle.green_threads.specs.declared.runner.Seated.{Seated}
use Rattle.settle_laws.specs.Stances.{Stance}
use Rattle.cps_code.specs.Script.{IsScript, script_of}
use Rattle.cps_frames.specs.Places.{FrameStands, MoveFits, Poised}
use Rattle.cps_frames.specs.Standing.{common_of, setting_of}
use Rattle.cps_frames.specs.declared.shared.Shared.{Shared}
use Rattle.thread_fits.specs.Seats.{Fits, HasBegun, HoldsOwn, IsAlone, IsGranted, JoinsFit, SeatStands, StartStands, WaitStands, as_seat, closure_of, standing_as, waiting_move}
use Rattle.thread_fits.proofs.SeatLaws.{sound_world}
use Rattle.thread_fits.proofs.SharedLaws.{sound_of}
use Rattle.saved_thread.specs.Saving.{Begun, Storable}

-- numbers that rise differ
above : (low high n : ℕ) (ns : List ℕ) → Rise low high ns → n < low → AllAre (λ m. n ≡ m → ⊥) ns
above low high n [] h lt = tt
above low high n (m ∷ ms) h lt = let le : low ≤ m = h.0 in ((λ e. omega (arith, lt, le, e)), above (suc m) high n ms h.2 (omega (arith, lt, le)))

rise_differ : (low high : ℕ) (ns : List ℕ) → Rise low high ns → Distinct ns
rise_differ low high [] h = tt
rise_differ low high (n ∷ ns) h = (above (suc n) high n ns h.2 (omega arith), rise_differ (suc n) high ns h.2)

all_stand : (root : Term) (u : Common) (fs : List Frame) → AllAre (FrameFits (known u) root) fs → AllAre (λ f. EnvFits u.cells (names_for root f) f.env) fs → AllAre (FrameStands root u) fs
all_stand root u [] a b = tt
all_stand root u (f ∷ fs) a b = (record { fits = a.0; names = b.0 }, all_stand root u fs a.1 b.1)

-- where a request is waited for
asked_at : (at : Spot) (o : Option OpenRequest) (n r : ℕ) → IsForRequest at o n → WaitsFor at (ForRequest r)
asked_at For_executor o n r h = tt
asked_at For_task o n r h = tt
asked_at For_person o n r h = tt
asked_at at None n r h = absurd h
asked_at (Begun_at k) (Some q) n r h = absurd h.1
asked_at Any_body (Some q) n r h = absurd h.1
asked_at (Body_of k) (Some q) n r h = absurd h.1
asked_at Any_branch (Some q) n r h = absurd h.1
asked_at For_branches (Some q) n r h = absurd h.1

module _ (u : Common) (seats : List Seat) where
  ends_there : (n : ℕ) (js : List Join) → AllAre (JoinFits u seats n) js → AllAre (λ j. EndIf u j.ended) js
  ends_there n [] h = tt
  ends_there n (j ∷ js) h = (one j.ended h.0, ends_there n js h.1)
    where
      one : (o : Option JoinEnd) → BranchFits u n o (seat_of seats j.thread) → EndIf u o
      one None k = tt
      one (Some e) k = k

  waits_there : (t : Seat) (at : Spot) (w : Wait) → WaitFits u seats t at w → WaitStands u at t.number w
  waits_there t at (Ready x) h = tt
  waits_there t at (RequestWait r) h = h
  waits_there t For_branches (BranchesWait js) h = ends_there t.number js h.0
  waits_there t at (BranchesWait js) h = absurd h

  joins_fit : (t : Seat) (at : Spot) (w : Wait) → WaitFits u seats t at w → JoinsFit u seats t.number w
  joins_fit t at (Ready x) h = tt
  joins_fit t at (RequestWait r) h = tt
  joins_fit t For_branches (BranchesWait js) h = h
  joins_fit t at (BranchesWait js) h = absurd h

  -- what it waits for may be asked there
  wait_moves : (root : Term) (t : Seat) (x : Stance) (at : Spot) (w : Wait) → NotReady w → WaitFits u seats t at w → MoveFits root u at (waiting_move w x)
  wait_moves root t x at (Ready a) rests h = absurd rests
  wait_moves root t x at (RequestWait r) rests h = (asked_at at _ t.number r h, tt)
  wait_moves root t x For_branches (BranchesWait js) rests h = (tt, tt)
  wait_moves root t x at (BranchesWait js) rests h = absurd h

  -- and what it waits for there fits, as the test of an image sees it
  branches_fit : (t : Seat) (at : Spot) (js : List Join) → WaitsFor at (ForBranches []) → AllAre (JoinFits u seats t.number) js × Some_of IsOpen js × Distinct (map (λ (j : Join). j.thread) js) → WaitFits u seats t at (BranchesWait js)
  branches_fit t For_branches js w h = h
  branches_fit t For_executor js w h = absurd w
  branches_fit t For_task js w h = absurd w
  branches_fit t For_person js w h = absurd w
  branches_fit t (Begun_at k) js w h = absurd w
  branches_fit t Any_body js w h = absurd w
  branches_fit t (Body_of k) js w h = absurd w
  branches_fit t Any_branch js w h = absurd w

  wait_fits : (root : Term) (t : Seat) (x : Stance) (at : Spot) (w : Wait) → NotReady w → MoveFits root u at (waiting_move w x) → WaitStands u at t.number w → JoinsFit u seats t.number w → WaitFits u seats t at w
  wait_fits root t x at (Ready a) rests moves stands joins = absurd rests
  wait_fits root t x at (RequestWait r) rests moves stands joins = stands
  wait_fits root t x at (BranchesWait js) rests moves stands joins = branches_fit t at js moves.0 joins

-- A thread that waits has begun: it has no closure to begin with, and where it is a branch it has a frame, since no branch waits at its
-- beginning.
asks_there : (root : Term) (u : Common) (at : Spot) (w : Wait) (x : Stance) → NotReady w → MoveFits root u at (waiting_move w x) → (asked : Asked) × WaitsFor at asked
asks_there root u at (Ready a) x rests h = absurd rests
asks_there root u at (RequestWait r) x rests h = (ForRequest r, h.0)
asks_there root u at (BranchesWait js) x rests h = (ForBranches [], h.0)

none_of : (w : Wait) (o : Option Runs) → NotReady w → HasBegun w o → o ≡ None
none_of (Ready a) o rests begun = absurd rests
none_of (RequestWait r) o rests begun = begun
none_of (BranchesWait js) o rests begun = begun

begun_frames : (root : Term) (h : List Cell) (p : Option ℕ) (fs : List Frame) (asked : Asked) → WaitsFor (innermost root (outermost p) fs) asked → StartFits root h p fs None
begun_frames root h None fs asked w = refl
begun_frames root h (Some p) [] asked w = absurd w
begun_frames root h (Some p) (f ∷ fs) asked w = refl

none_begins : (root : Term) (u : Common) (p : Option ℕ) (x : Stance) (w : Wait) → NotReady w → HasBegun w x.runs → MoveFits root u (innermost root (outermost p) x.frames) (waiting_move w x) → StartFits root u.cells p x.frames (closure_of x.runs)
none_begins root u p x w rests begun moves =
    let asks : (asked : Asked) × WaitsFor (innermost root (outermost p) x.frames) asked = asks_there root u (innermost root (outermost p) x.frames) w x rests moves in
    subst (λ o. StartFits root u.cells p x.frames (closure_of o)) (sym (none_of w x.runs rests begun)) (begun_frames root u.cells p x.frames asks.0 asks.1)

not_granted : (w : Wait) → NotReady w → IsGranted w → ⊥
not_granted (Ready x) rests g = rests
not_granted (RequestWait r) rests g = g
not_granted (BranchesWait js) rests g = g

has_begun : (w : Wait) (x : Stance) → x.runs ≡ None → HasBegun w x.runs
has_begun (Ready a) x e = subst (HasBegun (Ready a)) (sym e) tt
has_begun (RequestWait r) x e = e
has_begun (BranchesWait js) x e = e

module _ {T : Type 0} (stance : T → Stance) where
  same_numbers : (xs : List (Seated T)) → map (λ (t : Seat). t.number) (map (as_seat stance) xs) ≡ map (λ (x : Seated T). x.number) xs
  same_numbers [] = refl
  same_numbers (x ∷ xs) = ap (λ ns. x.number ∷ ns) (same_numbers xs)

  module _ (u : Shared) (next : ℕ) (all : List (Seated T)) (script : IsScript (script_of u.code)) (rest : FitsAtRest (setting_of u) false (common_of u) next (map (as_seat stance) all)) where
    abbrev seats : List Seat
    seats = map (as_seat stance) all

    sound : SharedSound (setting_of u) false (common_of u)
    sound = sound_of u rest.fits.shared

    stands : (x : Seated T) → SeatFits (setting_of u) (common_of u) seats (as_seat stance x) → NotReady x.wait → Begun stance x → SeatStands stance u (context_above seats x.parent) x
    stands x s rests b = record {
      poised = record {
        sound = sound_world (setting_of u) (standing_as u (stance x.thread)).world refl sound s.head;
        executors = sound.held;
        opened = record { own = (s.own_held).0; held = (s.own_held).1; many = (s.own_held).2; folders = s.folders };
        frames = all_stand (script_of u.code) (common_of u) (stance x.thread).frames s.frames s.envs;
        chain = s.nested;
        move = wait_moves (common_of u) seats (script_of u.code) (as_seat stance x) (stance x.thread) (innermost (script_of u.code) (outermost x.parent) (stance x.thread).frames) x.wait rests s.waits;
      };
      closures = s.closures;
      begun = has_begun x.wait (stance x.thread) b.runs;
      start = subst (λ r. StartStands r x.parent (stance x.thread).frames) (sym b.runs) tt;
      number = b.number;
      parent = b.parent;
      wait = waits_there (common_of u) seats (as_seat stance x) (innermost (script_of u.code) (outermost x.parent) (stance x.thread).frames) x.wait s.waits;
    }

    -- of each thread in turn
    each : (Q : Seated T → Type 0) → ((x : Seated T) → SeatFits (setting_of u) (common_of u) seats (as_seat stance x) → NotReady x.wait → Begun stance x → Q x) →
        (xs : List (Seated T)) → AllAre (SeatFits (setting_of u) (common_of u) seats) (map (as_seat stance) xs) → AllAre (λ t. NotReady t.wait) (map (as_seat stance) xs) → AllAre (Begun stance) xs → AllAre Q xs
    each Q one [] s n b = tt
    each Q one (x ∷ xs) s n b = (one x s.0 n.0 b.0, each Q one xs s.1 n.1 b.1)

    fits_at_rest : AllAre (Begun stance) all → Fits stance all u
    fits_at_rest begun = record {
      script = script;
      shared = rest.fits.shared;
      numbers = subst Distinct (same_numbers all) (rise_differ 0 next (map (λ (t : Seat). t.number) seats) rest.fits.numbers);
      family = record {
        main = rest.fits.main refl;
        parents = each _ (λ x s n b. s.parent) all rest.fits.threads rest.rests begun;
        joins = each _ (λ x s n b. joins_fit (common_of u) seats (as_seat stance x) _ x.wait s.waits) all rest.fits.threads rest.rests begun;
      };
      seats = each (λ x. SeatStands stance u (context_above seats x.parent) x) stands all rest.fits.threads rest.rests begun;
      holds = each (HoldsOwn stance u) (λ x s n b. s.holds) all rest.fits.threads rest.rests begun;
      differ = rest.fits.differ;
      alone = each (IsAlone all) (λ x s n b granted. absurd (not_granted x.wait n granted)) all rest.fits.threads rest.rests begun;
      waited_for = rest.fits.waited_for;
    }

  pub rested_fit : (xs : List (Seated T)) (u : Shared) (next : ℕ) → IsScript (script_of u.code) → AllAre (Begun stance) xs → FitsAtRest (setting_of u) false (common_of u) next (map (as_seat stance) xs) → Fits stance xs u
  rested_fit xs u next script begun rest = fits_at_rest u next xs script rest begun

  pub all_storable : (xs : List (Seated T)) (u : Shared) → Fits stance xs u → AllAre (λ x. Storable (script_of u.code) x.wait (stance x.thread)) xs
  all_storable xs u f = all_weaker (λ (x : Seated T). SeatStands stance u (context_above (map (as_seat stance) xs) x.parent) x) (λ (x : Seated T). Storable (script_of u.code) x.wait (stance x.thread))
      (λ x s. record { begun = s.begun; nodes = all_weaker _ _ (λ f stands. stands.fits.node) (stance x.thread).frames (s.poised).frames }) xs f.seats

  -- Threads that fit, of which none is ready.
  module _ (xs : List (Seated T)) (u : Shared) (f : Fits stance xs u) where
    abbrev told : List Seat
    told = map (as_seat stance) xs

    -- what is known of each
    record Known (x : Seated T) : Type 0 where
      stands : SeatStands stance u (context_above told x.parent) x
      parent : ParentFits told x.number x.parent
      joins : JoinsFit (common_of u) told x.number x.wait
      holds : HoldsOwn stance u x
      rests : NotReady x.wait

    seat_fits : (x : Seated T) → Known x → SeatFits (setting_of u) (common_of u) told (as_seat stance x)
    seat_fits x k =
        let p : Poised (setting_of u) (context_above told x.parent) (outermost x.parent) (standing_as u (stance x.thread)) (waiting_move x.wait (stance x.thread)) = (k.stands).poised in
        record {
          head = (p.sound).head;
          parent = k.parent;
          frames = all_weaker _ _ (λ f h. h.fits) (stance x.thread).frames p.frames;
          envs = all_weaker _ _ (λ f h. h.names) (stance x.thread).frames p.frames;
          nested = p.chain;
          closures = (k.stands).closures;
          waits = wait_fits (common_of u) told (script_of u.code) (as_seat stance x) (stance x.thread) (innermost (script_of u.code) (outermost x.parent) (stance x.thread).frames) x.wait k.rests p.move (k.stands).wait k.joins;
          start = none_begins (script_of u.code) (common_of u) x.parent (stance x.thread) x.wait k.rests (k.stands).begun p.move;
          own_held = ((p.opened).own, (p.opened).held, (p.opened).many);
          holds = k.holds;
          folders = (p.opened).folders;
        }

    all_known : (ys : List (Seated T)) → AllAre (λ x. SeatStands stance u (context_above told x.parent) x) ys → AllAre (λ x. ParentFits told x.number x.parent) ys → AllAre (λ x. JoinsFit (common_of u) told x.number x.wait) ys → AllAre (HoldsOwn stance u) ys → AllAre (λ x. NotReady x.wait) ys → AllAre Known ys
    all_known [] s p j h r = tt
    all_known (y ∷ ys) s p j h r = (record { stands = s.0; parent = p.0; joins = j.0; holds = h.0; rests = r.0 }, all_known ys s.1 p.1 j.1 h.1 r.1)

    as_told : (P : Seat → Type 0) (Q : Seated T → Type 0) → ((x : Seated T) → Q x → P (as_seat stance x)) → (ys : List (Seated T)) → AllAre Q ys → AllAre P (map (as_seat stance) ys)
    as_told P Q on [] h = tt
    as_told P Q on (y ∷ ys) h = (on y h.0, as_told P Q on ys h.1)

    fit_at_rest : (next : ℕ) → Rise 0 next (map (λ (x : Seated T). x.number) xs) → next ≤ 100000000 + length u.graph → AllAre (λ (x : Seated T). NotReady x.wait) xs → FitsAtRest (setting_of u) false (common_of u) next (map (as_seat stance) xs)
    fit_at_rest next rise few rests = record {
      fits = record {
        shared = f.shared;
        numbers = subst (Rise 0 next) (sym (same_numbers xs)) rise;
        few_threads = few;
        main = λ ended. (f.family).main;
        threads = as_told (SeatFits (setting_of u) (common_of u) told) Known seat_fits xs (all_known xs f.seats (f.family).parents (f.family).joins f.holds rests);
        differ = f.differ;
        waited_for = f.waited_for;
      };
      rests = as_told (λ t. NotReady t.wait) (λ x. NotReady x.wait) (λ x h. h) xs rests;
    }

  pub fit_rested : (xs : List (Seated T)) (u : Shared) (next : ℕ) → Fits stance xs u → Rise 0 next (map (λ (x : Seated T). x.number) xs) → next ≤ 100000000 + length u.graph → AllAre (λ (x : Seated T). NotReady x.wait) xs → FitsAtRest (setting_of u) false (common_of u) next (map (as_seat stance) xs)
  fit_rested xs u next f rise few rests = fit_at_rest xs u f next rise few rests
