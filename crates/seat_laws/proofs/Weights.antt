-- Sums over the threads of a build, by what they wait for.
use Rattle.std.proofs.Common.{arith, ◌≡◌, ◌≤◌, ◌<◌, ◌+◌, refl, inl, inr, ℕ, suc, Bool, true, false, List, [], ◌∷◌, ◌++◌, map, length, Option, Some, None}
use Rattle.std.specs.Prelude.{nat_eq, not, if◌then◌else◌}
use Rattle.std.specs.List.{AllByRecursion as AllAre}
use Rattle.std.proofs.lemmas.Bool.{eqb-true, eqb-false}
use Rattle.model_values.specs.declared.value.Outcome.{Outcome}
use Rattle.model_run.specs.declared.ending.Branch.{Branch}
use Rattle.model_run.specs.declared.wait.BranchEnd.{BranchEnd}
use Rattle.model_run.specs.declared.wait.Join.{Join}
use Rattle.model_run.specs.declared.wait.Wait.{Wait}
use Rattle.model_run.specs.declared.wait.Wait.TheVariants.{Ready, Request as RequestWait, Branches as BranchesWait}
use Rattle.model_run.specs.Fitting.{Rise}
use Rattle.model_run.specs.State.{Own}
use Rattle.model_run.specs.World.{branch_threads, join_end, ends_before, all_ended, joined_wait, join_wait}
use Rattle.world_laws.specs.Agreement.{Place, places, place_numbers, HasPlace}
use Rattle.world_laws.proofs.Places.{others, waiting}
use Rattle.seat_laws.specs.Seats.{turns_to_come, branches_to_end, sum_of}

pub sum_append : (f : Wait → ℕ) (ps qs : List Place) → sum_of f (ps ++ qs) ≡ sum_of f ps + sum_of f qs
sum_append f [] qs = omega arith
sum_append f (p ∷ ps) qs = omega (arith, sum_append f ps qs)

module _ (f : Wait → ℕ) (h : Wait → Wait) (n : ℕ) where
  one_place : (p : Place) → (p.number ≡ n → f (h p.wait) ≤ f p.wait) → f (waiting h n p).wait ≤ f p.wait
  one_place p up = one (nat_eq p.number n) refl
    where
      one : (b : Bool) → nat_eq p.number n ≡ b → f (if b then record p { wait = h p.wait } else p).wait ≤ f p.wait
      one true e = up (eqb-true _ _ e)
      one false e = omega arith

  -- threads of this number weigh no more than before
  pub sum_no_more : (ps : List Place) → AllAre (λ p. p.number ≡ n → f (h p.wait) ≤ f p.wait) ps → sum_of f (map (waiting h n) ps) ≤ sum_of f ps
  sum_no_more [] up = omega arith
  sum_no_more (p ∷ ps) up = omega (arith, one_place p up.0, sum_no_more ps up.1)

  here_less : (p : Place) → p.number ≡ n → f (h p.wait) + 1 ≤ f p.wait → f (waiting h n p).wait + 1 ≤ f p.wait
  here_less p at less = one (nat_eq p.number n) refl
    where
      one : (b : Bool) → nat_eq p.number n ≡ b → f (if b then record p { wait = h p.wait } else p).wait + 1 ≤ f p.wait
      one true e = less
      one false e = absurd (eqb-false _ _ e at)

  -- one of them weighs less
  pub sum_less : (ps : List Place) → AllAre (λ p. p.number ≡ n → f (h p.wait) ≤ f p.wait) ps → HasPlace (λ p. f (h p.wait) + 1 ≤ f p.wait) n ps → sum_of f (map (waiting h n) ps) + 1 ≤ sum_of f ps
  sum_less [] up is = absurd is
  sum_less (p ∷ ps) up (inl here) = omega (arith, here_less p here.0 here.1, sum_no_more ps up.1)
  sum_less (p ∷ ps) up (inr later) = omega (arith, one_place p up.0, sum_less ps up.1 later)

  -- where all numbers are above this one nothing changes
  sum_above : (k m : ℕ) → n < k → (ps : List Place) → Rise k m (place_numbers ps) → sum_of f (map (waiting h n) ps) ≡ sum_of f ps
  sum_above k m lt [] rise = refl
  sum_above k m lt (p ∷ ps) rise = one (nat_eq p.number n) refl (sum_above (suc p.number) m (omega (arith, lt, rise.0)) ps rise.2)
    where
      one : (b : Bool) → nat_eq p.number n ≡ b → sum_of f (map (waiting h n) ps) ≡ sum_of f ps → f (if b then record p { wait = h p.wait } else p).wait + sum_of f (map (waiting h n) ps) ≡ f p.wait + sum_of f ps
      one true e more = absurd (omega (arith, eqb-true _ _ e, lt, rise.0))
      one false e more = omega (arith, more)

  -- one thread alone has this number
  pub sum_one_more : ((w : Wait) → f (h w) ≤ f w + 1) → (k m : ℕ) (ps : List Place) → Rise k m (place_numbers ps) → sum_of f (map (waiting h n) ps) ≤ sum_of f ps + 1
  sum_one_more up k m [] rise = omega arith
  sum_one_more up k m (p ∷ ps) rise = one (nat_eq p.number n) refl (sum_one_more up (suc p.number) m ps rise.2)
    where
      one : (b : Bool) → nat_eq p.number n ≡ b → sum_of f (map (waiting h n) ps) ≤ sum_of f ps + 1 → f (if b then record p { wait = h p.wait } else p).wait + sum_of f (map (waiting h n) ps) ≤ f p.wait + sum_of f ps + 1
      one true e more = omega (arith, up p.wait, sum_above (suc p.number) m (omega (arith, eqb-true _ _ e)) ps rise.2)
      one false e more = omega (arith, more)

module _ (f : Wait → ℕ) (n : ℕ) where
  pub sum_others : (ps : List Place) → sum_of f (others (λ p. p.number) n ps) ≤ sum_of f ps
  sum_others [] = omega arith
  sum_others (p ∷ ps) = one (nat_eq p.number n) (sum_others ps)
    where
      one : (b : Bool) → sum_of f (others (λ p. p.number) n ps) ≤ sum_of f ps → sum_of f (if not b then p ∷ others (λ p. p.number) n ps else others (λ p. p.number) n ps) ≤ f p.wait + sum_of f ps
      one true more = omega (arith, more)
      one false more = omega (arith, more)

  pub sum_without : (ps : List Place) → HasPlace (λ p. 1 ≤ f p.wait) n ps → sum_of f (others (λ p. p.number) n ps) + 1 ≤ sum_of f ps
  sum_without [] is = absurd is
  sum_without (p ∷ ps) is = one (nat_eq p.number n) refl is (sum_without ps)
    where
      one : (b : Bool) → nat_eq p.number n ≡ b → HasPlace (λ p. 1 ≤ f p.wait) n (p ∷ ps) → (HasPlace (λ p. 1 ≤ f p.wait) n ps → sum_of f (others (λ p. p.number) n ps) + 1 ≤ sum_of f ps) → sum_of f (if not b then p ∷ others (λ p. p.number) n ps else others (λ p. p.number) n ps) + 1 ≤ f p.wait + sum_of f ps
      one true e (inl here) more = omega (arith, here.1, sum_others ps)
      one true e (inr later) more = omega (arith, more later)
      one false e (inl here) more = absurd (eqb-false _ _ e here.0)
      one false e (inr later) more = omega (arith, more later)

-- a branch that ends leaves its parent as many turns as before, and no more branches to wait for
joined_turns : (js : List Join) (o : Option (List BranchEnd)) → turns_to_come (joined_wait js o) ≤ 1
joined_turns js None = omega arith
joined_turns js (Some ends) = omega arith

joined_branches : (js : List Join) (o : Option (List BranchEnd)) → branches_to_end (joined_wait js o) ≤ 1
joined_branches js None = omega arith
joined_branches js (Some ends) = omega arith

pub join_turns : (n head : ℕ) (o : Outcome) (w : Wait) → turns_to_come (join_wait n head o w) ≤ turns_to_come w
join_turns n head o (Ready x) = omega arith
join_turns n head o (RequestWait r) = omega arith
join_turns n head o (BranchesWait js) = joined_turns (map (join_end n (record { node = head; outcome = o; place = ends_before js })) js) (all_ended (map (join_end n (record { node = head; outcome = o; place = ends_before js })) js))

pub join_branches : (n head : ℕ) (o : Outcome) (w : Wait) → branches_to_end (join_wait n head o w) ≤ branches_to_end w
join_branches n head o (Ready x) = omega arith
join_branches n head o (RequestWait r) = omega arith
join_branches n head o (BranchesWait js) = joined_branches (map (join_end n (record { node = head; outcome = o; place = ends_before js })) js) (all_ended (map (join_end n (record { node = head; outcome = o; place = ends_before js })) js))

-- new branches are ready
pub new_turns : (parent : ℕ) (own : Own) (n : ℕ) (bs : List Branch) → sum_of turns_to_come (places (branch_threads parent own n bs)) ≡ length bs
new_turns parent own n [] = refl
new_turns parent own n (b ∷ bs) = omega (arith, new_turns parent own (suc n) bs)

pub new_branches : (parent : ℕ) (own : Own) (n : ℕ) (bs : List Branch) → sum_of branches_to_end (places (branch_threads parent own n bs)) ≡ 0
new_branches parent own n [] = refl
new_branches parent own n (b ∷ bs) = omega (arith, new_branches parent own (suc n) bs)
