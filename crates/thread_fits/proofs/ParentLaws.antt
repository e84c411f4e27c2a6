-- From parents to their branches: what holds of a thread with nothing around it, and of each whose parent it holds of, holds of all, since a
-- parent has a lower number.
use Rattle.std.proofs.Common.{◌≡◌, ◌<◌, ◌∷◌, ℕ, zero, suc, List, [], map, Option, Some, None, arith, refl, subst}
use Rattle.std.specs.List.{AllByRecursion as AllAre}
use Rattle.model_values.proofs.LaterLaws.{all_weaker}
use Rattle.model_run.specs.Fitting.{ParentFits}
use Rattle.model_run.proofs.RequestLaws.{some_all}
use Rattle.seat_laws.specs.Seats.{AroundIs, Room}
use Rattle.seat_laws.proofs.Lists.{all_both, all_mapped}
use Rattle.green_threads.specs.declared.runner.Seated.{Seated}
use Rattle.settle_laws.specs.Stances.{Stance}
use Rattle.cps_frames.specs.declared.shared.Shared.{Shared}
use Rattle.thread_fits.specs.Seats.{Fits, as_seat}
use Rattle.thread_fits.proofs.RoomLaws.{above, room_in, rooms}

-- a parent has a lower number
abbrev pub IsLow : Room → Type 0
IsLow q = (m : ℕ) → q.parent ≡ Some m → m < q.number

all_any : (P : Room → Type 0) → ((p : Room) → P p) → (rs : List Room) → AllAre P rs
all_any P h [] = tt
all_any P h (p ∷ rs) = (h p, all_any P h rs)

-- what holds below every number holds
bounded : (Q : Room → Type 0) (rs : List Room) → ((k : ℕ) → AllAre (λ p. p.number < k → Q p) rs) → AllAre Q rs
bounded Q [] h = tt
bounded Q (p ∷ rs) h = ((h (suc p.number)).0 (omega arith), bounded Q rs (λ k. (h k).1))

-- It holds of a thread with nothing around it, and of one whose parent it holds of.
module _ (rs : List Room) (Known Q : Room → Type 0) (first : (q : Room) → Known q → q.around.held ≡ [] → q.around.folders ≡ [] → Q q) (next : (q p : Room) → Known q → p.number < q.number → p.now ≡ q.around → Q p → Q q) where
  record InPlace (q : Room) : Type 0 where
    around_so : AroundIs rs q.around q.parent
    low : IsLow q
    known : Known q

  one : (q : Room) → InPlace q → AllAre (λ p. p.number < q.number → Q p) rs → (o : Option ℕ) → q.parent ≡ o → Q q
  one q here below None e = let bare = subst (AroundIs rs q.around) e here.around_so in first q here.known bare.0 bare.1
  one q here below (Some m) e =
      let low : m < q.number = here.low m e in
      some_all (λ (p : Room). p.number < q.number → Q p) (λ (p : Room). (p.number ≡ m) × (p.now ≡ q.around)) (Q q)
      (λ p has is. let less : p.number < q.number = omega (arith, is.0, low) in next q p here.known less is.1 (has less)) rs below (subst (AroundIs rs q.around) e here.around_so)

  below_all : AllAre InPlace rs → (k : ℕ) → AllAre (λ p. p.number < k → Q p) rs
  below_all all zero = all_any (λ (p : Room). p.number < zero → Q p) (λ p lt. absurd (omega (arith, lt))) rs
  below_all all (suc k) =
      all_weaker InPlace (λ (p : Room). p.number < suc k → Q p)
      (λ q here lt. one q here (all_weaker (λ (p : Room). p.number < k → Q p) (λ (p : Room). p.number < q.number → Q p) (λ p has less. has (omega (arith, less, lt))) rs (below_all all k)) q.parent refl) rs all

  pub from_parents : AllAre (λ q. AroundIs rs q.around q.parent) rs → AllAre IsLow rs → AllAre Known rs → AllAre Q rs
  from_parents around low known =
      bounded Q rs (below_all (all_both (λ q. AroundIs rs q.around q.parent × IsLow q) Known InPlace (λ q h k. record { around_so = h.0; low = h.1; known = k }) rs
      (all_both (λ q. AroundIs rs q.around q.parent) IsLow (λ q. AroundIs rs q.around q.parent × IsLow q) (λ q a b. (a, b)) rs around low) known))

module _ {T : Type 0} (stance : T → Stance) (u : Shared) (xs : List (Seated T)) (fits : Fits stance xs u) where
  low_one : (k : ℕ) (p : Option ℕ) → ParentFits (map (as_seat stance) xs) k p → (m : ℕ) → p ≡ Some m → m < k
  low_one k None h m e = absurd (cc e)
  low_one k (Some j) h m e = let same : j ≡ m = cc e in subst (λ i. i < k) same h.0

  pub lows : AllAre IsLow (rooms stance (above stance xs) xs)
  lows = all_mapped IsLow (room_in stance (above stance xs)) xs (all_weaker _ _ (λ x h m e. low_one x.number x.parent h m e) xs (fits.family).parents)
