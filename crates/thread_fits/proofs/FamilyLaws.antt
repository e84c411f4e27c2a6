-- Parents and branches stay as they belong together, where a thread goes on to wait, forks, ends or is answered.
use Rattle.std.proofs.Common.{arith, ◌≡◌, ◌∙◌, ◌<◌, ◌≤◌, ◌+◌, ℕ, zero, suc, inl, inr, Bool, true, false, List, [], ◌∷◌, ◌++◌, map, length, Option, Some, None, refl, ap, subst, sym}
use Rattle.std.specs.Prelude.{if◌then◌else◌, nat_eq, option_map, slice_get}
use Rattle.std.specs.List.{AllByRecursion as AllAre}
use Rattle.std.proofs.lemmas.Bool.{eqb-true, eqb-false, eq-eqb, ne_eqb}
use Rattle.model_values.proofs.LaterLaws.{all_weaker}
use Rattle.model_values.specs.declared.value.Outcome.{Outcome}
use Rattle.model_run.specs.declared.wait.Answer.TheVariants.{Begin}
use Rattle.model_run.specs.declared.wait.BranchEnd.{BranchEnd}
use Rattle.model_run.specs.declared.wait.Join.{Join}
use Rattle.model_run.specs.declared.wait.JoinEnd.{JoinEnd}
use Rattle.model_run.specs.declared.wait.Wait.{Wait}
use Rattle.model_run.specs.declared.wait.Wait.TheVariants.{Ready, Request as RequestWait, Branches as BranchesWait}
use Rattle.model_run.specs.Fitting.{Above, BranchFits, Distinct, EndFits, IsOpen, JoinFits, Later, ParentFits, ParentIs, Seat as Image_seat, Some_of, Waited}
use Rattle.model_run.specs.State.{Common}
use Rattle.model_run.specs.World.{all_ended, and_end, branch_end, ends_before, join_all, join_end, join_wait, joined_wait}
use Rattle.model_run.proofs.RequestLaws.{some_weaker}
use Rattle.green_threads.specs.declared.runner.NewBranch.{NewBranch}
use Rattle.green_threads.specs.declared.runner.Seated.{Seated}
use Rattle.green_threads.specs.Resuming.{AllBelow}
use Rattle.green_threads.specs.Threads.{new_joins, new_seats, with_seat, without_seat}
use Rattle.settle_laws.specs.Stances.{Stance}
use Rattle.thread_fits.specs.Seats.{Family, JoinsFit, as_seat}
use Rattle.thread_fits.proofs.SeatLaws.{end_then}
use Rattle.thread_fits.proofs.SeatRows.{all_both, all_more, below_with, found, found_at, found_behind, found_more, found_now, found_with, found_without, with_all, without_all}

-- Joins.
seat_there : (s : Image_seat) → Some s ≡ None → ⊥
seat_there s e = absurd (cc e)

-- an open join is left open by the end of another branch
open_still : (n m : ℕ) (e : JoinEnd) → (m ≡ n → ⊥) → (j : Join) → (j.thread ≡ m) × (j.ended ≡ None) → ((join_end n e j).thread ≡ m) × ((join_end n e j).ended ≡ None)
open_still n m e other j h = one (nat_eq j.thread n) refl
  where
    one : (b : Bool) → nat_eq j.thread n ≡ b → ((if b then record j { ended = Some e } else j).thread ≡ m) × ((if b then record j { ended = Some e } else j).ended ≡ None)
    one true is = absurd (other (sym h.0 ∙ eqb-true _ _ is))
    one false is = h

some_map : {A B : Type 0} (P : A → Type 0) (Q : B → Type 0) (f : A → B) → ((x : A) → P x → Q (f x)) → (xs : List A) → Some_of P xs → Some_of Q (map f xs)
some_map P Q f up [] h = h
some_map P Q f up (x ∷ xs) (inl h) = inl (up x h)
some_map P Q f up (x ∷ xs) (inr h) = inr (some_map P Q f up xs h)

-- all have ended exactly where none is open
and_none : (o : Option BranchEnd) → and_end o None ≡ None
and_none None = refl
and_none (Some e) = refl

open_none : (js : List Join) → Some_of IsOpen js → all_ended js ≡ None
open_none [] h = absurd h
open_none (j ∷ js) (inl h) = ap (λ o. and_end (option_map (branch_end j.name) o) (all_ended js)) h
open_none (j ∷ js) (inr h) = ap (and_end (option_map (branch_end j.name) j.ended)) (open_none js h) ∙ and_none (option_map (branch_end j.name) j.ended)

and_some : (b : BranchEnd) (r : Option (List BranchEnd)) → and_end (Some b) r ≡ None → r ≡ None
and_some b None e = refl
and_some b (Some es) e = absurd (cc e)

none_open : (js : List Join) → all_ended js ≡ None → Some_of IsOpen js
none_open [] e = absurd (cc e)
none_open (j ∷ js) e = one j.ended refl e (none_open js)
  where
    one : (o : Option JoinEnd) → j.ended ≡ o → and_end (option_map (branch_end j.name) o) (all_ended js) ≡ None → (all_ended js ≡ None → Some_of IsOpen js) → Some_of IsOpen (j ∷ js)
    one None is e more = inl is
    one (Some x) is e more = inr (more (and_some (branch_end j.name x) (all_ended js) e))

-- who waits for a branch waits for it still, where another has ended
joins_waited : (n m : ℕ) (e : JoinEnd) → (m ≡ n → ⊥) → (js : List Join) → Waited m (BranchesWait js) → Waited m (join_all (map (join_end n e) js))
joins_waited n m e other js h =
    let still : Some_of (λ (j : Join). (j.thread ≡ m) × (j.ended ≡ None)) (map (join_end n e) js) = some_map _ _ (join_end n e) (open_still n m e other) js h in
    subst (λ o. Waited m (joined_wait (map (join_end n e) js) o)) (sym (open_none (map (join_end n e) js) (some_weaker _ _ (λ j q. q.1) (map (join_end n e) js) still))) still

still_waited : (n m head : ℕ) (o : Outcome) → (m ≡ n → ⊥) → (w : Wait) → Waited m w → Waited m (join_wait n head o w)
still_waited n m head o other (Ready a) h = absurd h
still_waited n m head o other (RequestWait r) h = absurd h
still_waited n m head o other (BranchesWait js) h = joins_waited n m (record { node = head; outcome = o; place = ends_before js }) other js h

-- the threads that are waited for stay
threads_same : (n : ℕ) (e : JoinEnd) (js : List Join) → map (λ (j : Join). j.thread) (map (join_end n e) js) ≡ map (λ (j : Join). j.thread) js
threads_same n e [] = refl
threads_same n e (j ∷ js) = one (nat_eq j.thread n) (threads_same n e js)
  where
    one : (b : Bool) → map (λ (x : Join). x.thread) (map (join_end n e) js) ≡ map (λ (x : Join). x.thread) js → (if b then record j { ended = Some e } else j).thread ∷ map (λ (x : Join). x.thread) (map (join_end n e) js) ≡ j.thread ∷ map (λ (x : Join). x.thread) js
    one true more = ap (λ ks. j.thread ∷ ks) more
    one false more = ap (λ ks. j.thread ∷ ks) more

all_map : {A B : Type 0} (P : A → Type 0) (Q : B → Type 0) (f : A → B) → ((x : A) → P x → Q (f x)) → (xs : List A) → AllAre P xs → AllAre Q (map f xs)
all_map P Q f up [] h = tt
all_map P Q f up (x ∷ xs) h = (up x h.0, all_map P Q f up xs h.1)

-- New branches.
module _ {T : Type 0} where
  join_apart : (m k : ℕ) (ts : List (NewBranch T)) → m < k → AllAre (λ x. m ≡ x → ⊥) (map (λ (j : Join). j.thread) (new_joins k ts))
  join_apart m k [] lt = tt
  join_apart m k (t ∷ ts) lt = ((λ e. omega (arith, lt, e)), join_apart m (suc k) ts (omega (arith, lt)))

  joins_differ : (k : ℕ) (ts : List (NewBranch T)) → Distinct (map (λ (j : Join). j.thread) (new_joins k ts))
  joins_differ k [] = tt
  joins_differ k (t ∷ ts) = (join_apart k (suc k) ts (omega arith), joins_differ (suc k) ts)

  some_open : (k : ℕ) (ts : List (NewBranch T)) → 1 ≤ length ts → Some_of IsOpen (new_joins k ts)
  some_open k [] le = absurd (omega (arith, le))
  some_open k (t ∷ ts) le = inl refl

  module _ (seat : T → ℕ → Option ℕ → T) (n : ℕ) where
    new_parents : (k : ℕ) (ts : List (NewBranch T)) → n < k → AllAre (λ z. (n < z.number) × (z.parent ≡ Some n)) (new_seats seat n k ts)
    new_parents k [] lt = tt
    new_parents k (t ∷ ts) lt = ((lt, refl), new_parents (suc k) ts (omega (arith, lt)))

    new_waited : (k : ℕ) (ts : List (NewBranch T)) → AllAre (λ z. Some_of (λ (j : Join). (j.thread ≡ z.number) × (j.ended ≡ None)) (new_joins k ts)) (new_seats seat n k ts)
    new_waited k [] = tt
    new_waited k (t ∷ ts) = (inl (refl, refl), all_weaker _ _ (λ z h. inr h) (new_seats seat n (suc k) ts) (new_waited (suc k) ts))

    new_ready : (u : Common) (seats : List Image_seat) (k : ℕ) (ts : List (NewBranch T)) → AllAre (λ z. JoinsFit u seats z.number z.wait) (new_seats seat n k ts)
    new_ready u seats k [] = tt
    new_ready u seats k (t ∷ ts) = (tt, new_ready u seats (suc k) ts)

-- what becomes of a thread that is changed
abbrev pub moved : {T : Type 0} → (Seated T → Wait) → (Seated T → T) → Seated T → Seated T
moved w f y = record { number = y.number; parent = y.parent; wait = w y; thread = f y }

module _ {T : Type 0} (stance : T → Stance) where
  -- a new branch is found, and who forks is its parent
  new_found : (seat : T → ℕ → Option ℕ → T) (n k : ℕ) (ts : List (NewBranch T)) → AllAre (λ (j : Join). (k ≤ j.thread) × (ParentIs n (found stance (new_seats seat n k ts) j.thread) × (j.ended ≡ None))) (new_joins k ts)
  new_found seat n k [] = tt
  new_found seat n k (t ∷ ts) = (
    (omega arith, (subst (λ b. ParentIs n (if b then Some (as_seat stance (record { number = k; parent = Some n; wait = Ready Begin; thread = seat t.thread k (Some n) })) else found stance (new_seats seat n (suc k) ts) k)) (sym (eq-eqb k k refl)) refl, refl)),
    all_weaker _ _ (λ j h. (
      (let le : suc k ≤ j.thread = h.0 in omega (arith, le)),
      (subst (λ b. ParentIs n (if b then Some (as_seat stance (record { number = k; parent = Some n; wait = Ready Begin; thread = seat t.thread k (Some n) })) else found stance (new_seats seat n (suc k) ts) j.thread)) (sym (ne_eqb k j.thread (λ e. (let le : suc k ≤ j.thread = h.0 in omega (arith, le, e))))) (h.1).0, (h.1).1),
    )) (new_joins (suc k) ts) (new_found seat n (suc k) ts),
  )

  module _ (u v : Common) (later : Later u v) where
    parent_moves : (xs ys : List (Seated T)) (n : ℕ) (p : Option ℕ) → ((q : ℕ) → Above n (found stance xs q) → Above n (found stance ys q)) → ParentFits (map (as_seat stance) xs) n p → ParentFits (map (as_seat stance) ys) n p
    parent_moves xs ys n None up h = h
    parent_moves xs ys n (Some q) up h = (h.0, up q h.1)

    branch_moves : (n : ℕ) (a b : Option Image_seat) → (ParentIs n a → ParentIs n b) → (o : Option JoinEnd) → BranchFits u n o a → BranchFits v n o b
    branch_moves n a b up None h = up h
    branch_moves n a b up (Some e) h = end_then u v later e h

    joins_move : (xs ys : List (Seated T)) (n : ℕ) → ((k : ℕ) → ParentIs n (found stance xs k) → ParentIs n (found stance ys k)) → (w : Wait) → JoinsFit u (map (as_seat stance) xs) n w → JoinsFit v (map (as_seat stance) ys) n w
    joins_move xs ys n up (Ready a) h = tt
    joins_move xs ys n up (RequestWait r) h = tt
    joins_move xs ys n up (BranchesWait js) h = (all_weaker _ _ (λ j q. branch_moves n (found stance xs j.thread) (found stance ys j.thread) (up j.thread) j.ended q) js h.0, h.1, h.2)

    -- No thread has changed.
    pub same_family : (xs : List (Seated T)) → Family stance u xs → Family stance v xs
    same_family xs fam = record { main = fam.main; parents = fam.parents; joins = all_weaker _ _ (λ y h. joins_move xs xs y.number (λ k q. q) y.wait h) xs fam.joins }

    -- A thread has changed that waited for no branch.
    module _ (xs : List (Seated T)) (fam : Family stance u xs) (n : ℕ) (never : (m : ℕ) → Above m (found stance xs n) → ⊥) where
      module _ (w : Seated T → Wait) (f : Seated T → T) where
        above_with : (m q : ℕ) → Above m (found stance xs q) → Above m (found stance (with_seat (moved w f) n xs) q)
        above_with m q h = found_with stance (Above m) (moved w f) (λ y. refl) n q (λ y e a. absurd (never m (subst (λ k. Above m (found stance xs k)) e h))) xs h

        parent_with : (m k : ℕ) → ParentIs m (found stance xs k) → ParentIs m (found stance (with_seat (moved w f) n xs) k)
        parent_with m k h = found_with stance (ParentIs m) (moved w f) (λ y. refl) n k (λ y e a. a) xs h

        main_with : found stance (with_seat (moved w f) n xs) 0 ≡ None → ⊥
        main_with = found_with stance (λ o. o ≡ None → ⊥) (moved w f) (λ y. refl) n 0 (λ y e a. seat_there _) xs fam.main

        pub changed_family : ((y : Seated T) → y.number ≡ n → JoinsFit v (map (as_seat stance) (with_seat (moved w f) n xs)) y.number (w y)) → Family stance v (with_seat (moved w f) n xs)
        changed_family new = record {
          main = main_with;
          parents = with_all (λ y. ParentFits (map (as_seat stance) xs) y.number y.parent) (λ y. ParentFits (map (as_seat stance) (with_seat (moved w f) n xs)) y.number y.parent) (moved w f) n
              (λ y e h. parent_moves xs (with_seat (moved w f) n xs) y.number y.parent (above_with y.number) h) (λ y other h. parent_moves xs (with_seat (moved w f) n xs) y.number y.parent (above_with y.number) h) xs fam.parents;
          joins = with_all (λ y. JoinsFit u (map (as_seat stance) xs) y.number y.wait) (λ y. JoinsFit v (map (as_seat stance) (with_seat (moved w f) n xs)) y.number y.wait) (moved w f) n
              (λ y e h. new y e) (λ y other h. joins_move xs (with_seat (moved w f) n xs) y.number (parent_with y.number) y.wait h) xs fam.joins;
        }

      -- It has forked.
      module _ (t' : T) (seat : T → ℕ → Option ℕ → T) (next : ℕ) (ts : List (NewBranch T)) (below : AllBelow next xs) (lt : n < next) (some : 1 ≤ length ts) (i : ℕ) (x : Seated T) (at : slice_get xs i ≡ Some x) (is : x.number ≡ n) where
        abbrev forks : Seated T → Seated T
        forks = moved (λ y. BranchesWait (new_joins next ts)) (λ y. t')

        abbrev all : List (Seated T)
        all = with_seat forks n xs ++ new_seats seat n next ts

        above_fork : (m q : ℕ) → Above m (found stance xs q) → Above m (found stance all q)
        above_fork m q h = found_more stance (Above m) (λ a. a) q (with_seat forks n xs) (new_seats seat n next ts) (above_with (λ y. BranchesWait (new_joins next ts)) (λ y. t') m q h)

        parent_fork : (m k : ℕ) → ParentIs m (found stance xs k) → ParentIs m (found stance all k)
        parent_fork m k h = found_more stance (ParentIs m) (λ a. a) k (with_seat forks n xs) (new_seats seat n next ts) (parent_with (λ y. BranchesWait (new_joins next ts)) (λ y. t') m k h)

        -- who forks waits for each new branch
        forker : (m : ℕ) → Some_of (λ (j : Join). (j.thread ≡ m) × (j.ended ≡ None)) (new_joins next ts) → Above m (found stance all n)
        forker m h = found_more stance (Above m) (λ a. a) n (with_seat forks n xs) (new_seats seat n next ts)
            (subst (λ k. Above m (found stance (with_seat forks k xs) k)) is (found_now stance (Above m) forks (λ y. refl) (λ y. h) xs i x at))

        branch_parent : (z : Seated T) → (n < z.number) × (z.parent ≡ Some n) → Some_of (λ (j : Join). (j.thread ≡ z.number) × (j.ended ≡ None)) (new_joins next ts) → ParentFits (map (as_seat stance) all) z.number z.parent
        branch_parent z a h = subst (ParentFits (map (as_seat stance) all) z.number) (sym a.1) (a.0, forker z.number h)

        branch_join : (j : Join) → (next ≤ j.thread) × (ParentIs n (found stance (new_seats seat n next ts) j.thread) × (j.ended ≡ None)) → JoinFits v (map (as_seat stance) all) n j
        branch_join j h =
            subst (λ o. BranchFits v n o (found stance all j.thread)) (sym (h.1).1)
            (subst (ParentIs n) (sym (found_behind stance next j.thread (with_seat forks n xs) (new_seats seat n next ts) (below_with forks (λ y. refl) n next xs below) h.0)) (h.1).0)

        pub forked_family : Family stance v all
        forked_family = record {
          main = found_more stance (λ o. o ≡ None → ⊥) (λ h. h refl) 0 (with_seat forks n xs) (new_seats seat n next ts) (main_with (λ y. BranchesWait (new_joins next ts)) (λ y. t'));
          parents = all_more (λ y. ParentFits (map (as_seat stance) all) y.number y.parent) (with_seat forks n xs) (new_seats seat n next ts)
              (with_all (λ y. ParentFits (map (as_seat stance) xs) y.number y.parent) (λ y. ParentFits (map (as_seat stance) all) y.number y.parent) forks n
              (λ y e h. parent_moves xs all y.number y.parent (above_fork y.number) h) (λ y other h. parent_moves xs all y.number y.parent (above_fork y.number) h) xs fam.parents)
              (all_weaker _ _ (λ z h. branch_parent z h.0 h.1) (new_seats seat n next ts) (all_both _ _ (new_seats seat n next ts) (new_parents seat n next ts lt) (new_waited seat n next ts)));
          joins = all_more (λ y. JoinsFit v (map (as_seat stance) all) y.number y.wait) (with_seat forks n xs) (new_seats seat n next ts)
              (with_all (λ y. JoinsFit u (map (as_seat stance) xs) y.number y.wait) (λ y. JoinsFit v (map (as_seat stance) all) y.number y.wait) forks n
              (λ y e h. subst (λ k. JoinsFit v (map (as_seat stance) all) k (BranchesWait (new_joins next ts))) (sym e) (all_weaker _ _ branch_join (new_joins next ts) (new_found seat n next ts), some_open next ts some, joins_differ next ts))
              (λ y other h. joins_move xs all y.number (parent_fork y.number) y.wait h) xs fam.joins)
              (new_ready seat n v (map (as_seat stance) all) next ts);
        }

      -- It has ended, a branch of thread p.
      module _ (p head : ℕ) (o : Outcome) (below : p < n) (mine : (m : ℕ) → ParentIs m (found stance xs n) → m ≡ p) (fits : (place : ℕ) → EndFits v (record { node = head; outcome = o; place = place })) where
        abbrev joins : Seated T → Seated T
        joins = moved (λ y. join_wait n head o y.wait) (λ y. y.thread)

        abbrev left : List (Seated T)
        left = with_seat joins p (without_seat n xs)

        above_end : (m q : ℕ) → (m ≡ n → ⊥) → Above m (found stance xs q) → Above m (found stance left q)
        above_end m q other h =
            found_with stance (Above m) joins (λ y. refl) p q (λ y e a. still_waited n m head o other y.wait a) (without_seat n xs) (found_without stance (Above m) n q (λ e. never m (subst (λ k. Above m (found stance xs k)) e h)) xs h)

        parent_end : (m k : ℕ) → (k ≡ n → ⊥) → ParentIs m (found stance xs k) → ParentIs m (found stance left k)
        parent_end m k other h = found_with stance (ParentIs m) joins (λ y. refl) p k (λ y e a. a) (without_seat n xs) (found_without stance (ParentIs m) n k other xs h)

        -- the joins of its parent
        join_ends : (e : JoinEnd) → EndFits v e → (j : Join) → JoinFits u (map (as_seat stance) xs) p j → JoinFits v (map (as_seat stance) left) p (join_end n e j)
        join_ends e there j h = one (nat_eq j.thread n) refl
          where
            one : (b : Bool) → nat_eq j.thread n ≡ b → JoinFits v (map (as_seat stance) left) p (if b then record j { ended = Some e } else j)
            one true is = there
            one false is = branch_moves p (found stance xs j.thread) (found stance left j.thread) (parent_end p j.thread (eqb-false _ _ is)) j.ended h

        joined_by : (e : JoinEnd) → EndFits v e → (js : List Join) → JoinsFit u (map (as_seat stance) xs) p (BranchesWait js) → (r : Option (List BranchEnd)) → all_ended (map (join_end n e) js) ≡ r → JoinsFit v (map (as_seat stance) left) p (joined_wait (map (join_end n e) js) r)
        joined_by e there js h (Some ends) is = tt
        joined_by e there js h None is = (all_map _ _ (join_end n e) (join_ends e there) js h.0, none_open (map (join_end n e) js) is, subst Distinct (sym (threads_same n e js)) h.2)

        joined_fits : (w : Wait) → JoinsFit u (map (as_seat stance) xs) p w → JoinsFit v (map (as_seat stance) left) p (join_wait n head o w)
        joined_fits (Ready a) h = tt
        joined_fits (RequestWait r) h = tt
        joined_fits (BranchesWait js) h = joined_by (record { node = head; outcome = o; place = ends_before js }) (fits (ends_before js)) js h (all_ended (map (join_end n (record { node = head; outcome = o; place = ends_before js })) js)) refl

        pub ended_family : Family stance v left
        ended_family = record {
          main = found_with stance (λ q. q ≡ None → ⊥) joins (λ y. refl) p 0 (λ y e a. seat_there _) (without_seat n xs) (found_without stance (λ q. q ≡ None → ⊥) n 0 (λ e. omega (arith, below, e)) xs fam.main);
          parents = with_all (λ y. ParentFits (map (as_seat stance) xs) y.number y.parent × (y.number ≡ n → ⊥)) (λ y. ParentFits (map (as_seat stance) left) y.number y.parent) joins p
              (λ y e h. parent_moves xs left y.number y.parent (λ q a. above_end y.number q h.1 a) h.0) (λ y other h. parent_moves xs left y.number y.parent (λ q a. above_end y.number q h.1 a) h.0)
              (without_seat n xs) (without_all (λ y. ParentFits (map (as_seat stance) xs) y.number y.parent) (λ y. ParentFits (map (as_seat stance) xs) y.number y.parent × (y.number ≡ n → ⊥)) n (λ y other h. (h, other)) xs fam.parents);
          joins = with_all (λ y. JoinsFit u (map (as_seat stance) xs) y.number y.wait) (λ y. JoinsFit v (map (as_seat stance) left) y.number y.wait) joins p
              (λ y e h. subst (λ k. JoinsFit v (map (as_seat stance) left) k (join_wait n head o y.wait)) (sym e) (joined_fits y.wait (subst (λ k. JoinsFit u (map (as_seat stance) xs) k y.wait) e h)))
              (λ y other h. joins_move xs left y.number (λ k q. parent_end y.number k (λ e. other (mine y.number (subst (λ j. ParentIs y.number (found stance xs j)) e q))) q) y.wait h)
              (without_seat n xs) (without_all (λ y. JoinsFit u (map (as_seat stance) xs) y.number y.wait) (λ y. JoinsFit u (map (as_seat stance) xs) y.number y.wait) n (λ y other h. h) xs fam.joins);
        }
