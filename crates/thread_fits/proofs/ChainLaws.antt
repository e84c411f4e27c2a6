-- The requests in a thread's context differ, that of the body whose executor it is about to be given included: they are its own, its
-- parent's and so on, and no two bodies have one request.
use Rattle.std.proofs.Common.{◌≡◌, ◌∙◌, ◌<◌, ℕ, suc, inl, inr, List, [], ◌∷◌, ◌++◌, append_assoc, Option, Some, None, arith, refl, ap, subst, sym}
use Rattle.std.specs.Prelude.{slice_get}
use Rattle.std.specs.List.{AllByRecursion as AllAre}
use Rattle.std.proofs.lemmas.List.{append-nil}
use Rattle.model_values.proofs.LaterLaws.{all_weaker}
use Rattle.model_run.specs.declared.context.Context.{Context}
use Rattle.model_run.specs.declared.held.Held.{Held}
use Rattle.model_run.specs.declared.wait.Answer.{Answer}
use Rattle.model_run.specs.declared.wait.Wait.TheVariants.{Ready}
use Rattle.model_run.specs.Fitting.{Distinct, Some_of, concat_map, granted_request}
use Rattle.model_run.specs.Threads.{Closure, Runs, Script}
use Rattle.model_run.proofs.RequestLaws.{some_weaker}
use Rattle.seat_laws.specs.Seats.{Holding, Room, mine, stands_for}
use Rattle.seat_laws.proofs.Lists.{Apart, In, all_joined, distinct_back, distinct_front, distinct_joined, in_front, not_in, others_apart}
use Rattle.seat_laws.proofs.Rooms.{IsSplit}
use Rattle.green_threads.specs.declared.runner.Seated.{Seated}
use Rattle.settle_laws.specs.Stances.{Stance}
use Rattle.cps_frames.specs.Places.{Holding as HoldsAll, granted_by}
use Rattle.cps_frames.specs.declared.shared.Shared.{Shared}
use Rattle.thread_fits.specs.Seats.{Fits, HoldsOwn, first_of, standing_as}
use Rattle.thread_fits.proofs.ParentLaws.{IsLow, from_parents, lows}
use Rattle.thread_fits.proofs.RoomLaws.{above, holding, of_rooms, rooms, splits}
use Rattle.thread_fits.proofs.SeatRows.{all_at}
use Rattle.thread_fits.proofs.TurnLaws.{all_in, granted_same}

all_among : (rs : List Room) → AllAre (λ q. Some_of (λ p. p ≡ q) rs) rs
all_among [] = tt
all_among (q ∷ rs) = (inl refl, all_weaker _ _ (λ p i. inr i) rs (all_among rs))

all_distinct : (f : Room → List ℕ) (rs : List Room) → Distinct (concat_map f rs) → AllAre (λ q. Distinct (f q)) rs
all_distinct f [] d = tt
all_distinct f (q ∷ rs) d = (distinct_front (f q) (concat_map f rs) d, all_distinct f rs (distinct_back (f q) (concat_map f rs) d))

module _ (xs : List Held) (rs : List Room) (split : AllAre IsSplit rs) (low : AllAre IsLow rs) (h : Holding xs rs) where
  -- a thread of a lower number stands for it
  abbrev StoodBelow : ℕ → ℕ → Type 0
  StoodBelow k a = Some_of (λ r. (r.number < k) × In a (stands_for xs r)) rs

  -- these differ, and threads of lower numbers stand for them
  abbrev Stood : ℕ → List ℕ → Type 0
  Stood k ns = Distinct ns × AllAre (StoodBelow k) ns

  abbrev Chain : Room → Type 0
  Chain q = Distinct (q.now.held ++ granted_request xs q.wait) × AllAre (StoodBelow (suc q.number)) q.now.held

  record Known (q : Room) : Type 0 where
    split_so : IsSplit q
    among : Some_of (λ p. p ≡ q) rs
    differ : Distinct (stands_for xs q)
    apart : (n a : ℕ) → Some_of (λ t. (t.number ≡ n) × In a (stands_for xs t)) rs → (q.number ≡ n → ⊥) → In a (stands_for xs q) → ⊥

  zipped : (qs : List Room) → AllAre IsSplit qs → AllAre (λ q. Some_of (λ p. p ≡ q) rs) qs → AllAre (λ q. Distinct (stands_for xs q)) qs → ((n a : ℕ) → Some_of (λ t. (t.number ≡ n) × In a (stands_for xs t)) rs → AllAre (λ q. (q.number ≡ n → ⊥) → In a (stands_for xs q) → ⊥) qs) → AllAre Known qs
  zipped [] f1 f2 f3 f4 = tt
  zipped (q ∷ qs) f1 f2 f3 f4 = (record { split_so = f1.0; among = f2.0; differ = f3.0; apart = λ n a its. (f4 n a its).0 }, zipped qs f1.1 f2.1 f3.1 (λ n a its. (f4 n a its).1))

  all_known : AllAre Known rs
  all_known = zipped rs split (all_among rs) (all_distinct (stands_for xs) rs h.differ) (λ n a its. others_apart (λ (q : Room). q.number) (stands_for xs) n a rs h.differ its)

  named : (k a : ℕ) (ps : List Room) → Some_of (λ r. (r.number < k) × In a (stands_for xs r)) ps → (n : ℕ) × (n < k) × Some_of (λ t. (t.number ≡ n) × In a (stands_for xs t)) ps
  named k a [] is = absurd is
  named k a (p ∷ ps) (inl is) = (p.number, is.0, inl (refl, is.1))
  named k a (p ∷ ps) (inr is) = let more = named k a ps is in (more.0, more.1, inr more.2)

  -- what a thread of a lower number stands for, it does not
  never : (q : Room) → Known q → (a : ℕ) → StoodBelow q.number a → In a (stands_for xs q) → ⊥
  never q known a below i = let n = named q.number a rs below in known.apart n.0 a n.2 (λ e. omega (arith, n.1, e)) i

  -- what is open around it is what is open in its parent
  of_parent : (q p : Room) → p.number < q.number → p.now ≡ q.around → Chain p → Stood q.number q.around.held
  of_parent q p less same c =
      subst (λ (x : Context). Stood q.number x.held) same
      (distinct_front p.now.held (granted_request xs p.wait) c.0, all_weaker (StoodBelow (suc p.number)) (StoodBelow q.number) (λ a s. some_weaker (λ (r : Room). (r.number < suc p.number) × In a (stands_for xs r)) (λ (r : Room). (r.number < q.number) × In a (stands_for xs r)) (λ r k. (omega (arith, k.0, less), k.1)) rs s) p.now.held c.1)

  its_own : (q : Room) (a : ℕ) → In a (mine q) → (p : Room) → p ≡ q → (p.number < suc q.number) × In a (stands_for xs p)
  its_own q a i p e = subst (λ (r : Room). (r.number < suc q.number) × In a (stands_for xs r)) (sym e) (omega arith, in_front a (mine q) (granted_request xs q.wait) i)

  its_chain : (q : Room) → Known q → Stood q.number q.around.held → Chain q
  its_chain q known s =
      let whole : q.now.held ++ granted_request xs q.wait ≡ q.around.held ++ stands_for xs q = ap (λ ns. ns ++ granted_request xs q.wait) known.split_so ∙ append_assoc q.around.held (mine q) (granted_request xs q.wait) in
      let apart : Apart q.around.held (stands_for xs q) = all_weaker (StoodBelow q.number) _ (λ a below. not_in a (stands_for xs q) (never q known a below)) q.around.held s.1 in
      let before : AllAre (StoodBelow (suc q.number)) q.around.held = all_weaker (StoodBelow q.number) (StoodBelow (suc q.number)) (λ a below. some_weaker (λ (r : Room). (r.number < q.number) × In a (stands_for xs r)) (λ (r : Room). (r.number < suc q.number) × In a (stands_for xs r)) (λ r k. (omega (arith, k.0), k.1)) rs below) q.around.held s.1 in
      let own : AllAre (StoodBelow (suc q.number)) (mine q) = all_weaker (λ a. In a (mine q)) (StoodBelow (suc q.number)) (λ a i. some_weaker (λ (p : Room). p ≡ q) (λ (r : Room). (r.number < suc q.number) × In a (stands_for xs r)) (its_own q a i) rs known.among) (mine q) (all_in (mine q)) in (
        subst Distinct (sym whole) (distinct_joined q.around.held (stands_for xs q) s.0 known.differ apart),
        subst (AllAre (StoodBelow (suc q.number))) (sym known.split_so) (all_joined (StoodBelow (suc q.number)) q.around.held (mine q) before own),
      )

  pub chains : AllAre (λ q. Distinct (q.now.held ++ granted_request xs q.wait)) rs
  chains =
      all_weaker Chain (λ q. Distinct (q.now.held ++ granted_request xs q.wait)) (λ q c. c.0) rs
      (from_parents rs Known Chain (λ q known held folders. its_chain q known (subst (Stood q.number) (sym held) (tt, tt))) (λ q p known less same c. its_chain q known (of_parent q p less same c)) h.around low all_known)

module _ {T : Type 0} (stance : T → Stance) (u : Shared) (xs : List (Seated T)) (fits : Fits stance xs u) where
  given_first : (ns : List ℕ) (runs : Option Runs) (a : Answer) → Distinct (ns ++ granted_request u.held (Ready a)) → Distinct (ns ++ granted_by u.held (first_of runs a))
  given_first ns None a d = subst (λ ms. Distinct (ns ++ ms)) (sym (granted_same u.held a)) d
  given_first ns (Some Script) a d = subst Distinct (sym (append-nil ns)) (distinct_front ns (granted_request u.held (Ready a)) d)
  given_first ns (Some (Closure k env head)) a d = subst Distinct (sym (append-nil ns)) (distinct_front ns (granted_request u.held (Ready a)) d)

  -- A thread that is ready holds the executors of its requests, which differ.
  pub first_holds : (i : ℕ) (x : Seated T) → slice_get xs i ≡ Some x → (a : Answer) → x.wait ≡ Ready a → HoldsAll (standing_as u (stance x.thread)).world (first_of (stance x.thread).runs a)
  first_holds i x at a ready =
      let differ : Distinct ((stance x.thread).own.context.held ++ granted_request u.held x.wait) =
      all_at (λ y. Distinct ((stance y.thread).own.context.held ++ granted_request u.held y.wait)) xs i x
      (of_rooms stance (λ q. Distinct (q.now.held ++ granted_request u.held q.wait)) (above stance xs) xs (chains u.held (rooms stance (above stance xs) xs) (splits stance u xs fits) (lows stance u xs fits) (holding stance u xs fits))) at in
      record {
        holds = all_at (HoldsOwn stance u) xs i x fits.holds at;
        differ = given_first (stance x.thread).own.context.held (stance x.thread).runs a (subst (λ w. Distinct ((stance x.thread).own.context.held ++ granted_request u.held w)) ready differ);
      }
