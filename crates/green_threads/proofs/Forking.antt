-- New branches get their seats one by one.
use Rattle.std.proofs.Common.{◌≡◌, ℕ, suc, ◌+◌, List, [], ◌∷◌, ◌++◌, Bool, refl, sym, ap, subst, ◌∙◌, length, Option, Some, None, arith, ◌<◌, slice_get, slice_set, slice_index_or}
use Rattle.green_threads.specs.WaitTypes.{Join, Ready, Begin, BranchesWait}
use Rattle.green_threads.specs.declared.runner.Seated.{Seated}
use Rattle.green_threads.specs.declared.runner.NewBranch.{NewBranch}
use Rattle.green_threads.specs.Threads.{Threads, new_joins, new_seats, waits_as}
use Rattle.green_threads.specs.Resuming.{AllBranches}
use Rattle.green_threads.specs.Grouping.{Grouped}
use Rattle.green_threads.proofs.Seats.{grouped_append, set_append, get_append, index_is}

append_assoc : {A : Type 0} (xs ys zs : List A) → (xs ++ ys) ++ zs ≡ xs ++ (ys ++ zs)
append_assoc [] ys zs = refl
append_assoc (x ∷ xs) ys zs = ap (λ us. x ∷ us) (append_assoc xs ys zs)

append_nothing : {A : Type 0} (xs : List A) → xs ++ [] ≡ xs
append_nothing [] = refl
append_nothing (x ∷ xs) = ap (λ us. x ∷ us) (append_nothing xs)

-- the branches from `bs` on are still to be seated, behind these seats
pub record Forking {T : Type 0} (number : T → ℕ) (parent : T → Option ℕ) (branch : T → Bool) (seated : T → ℕ → Option ℕ → T) (p : ℕ) (seats0 : List (Seated T)) (next0 : ℕ) (bs0 : List (NewBranch T)) (seats : List (Seated T)) (next : ℕ) (bs : List (NewBranch T)) (joins : List Join) : Type 0 where
  pub done : List (Seated T)
  pub seats_are : seats ≡ seats0 ++ done
  pub all_seats : done ++ new_seats seated p next bs ≡ new_seats seated p next0 bs0
  pub all_joins : joins ++ new_joins next bs ≡ new_joins next0 bs0
  pub sit : Grouped number parent branch next0 done next
  pub numbers : next + length bs ≡ next0 + length bs0
  pub branches : AllBranches branch bs

module _ {T : Type 0} (number : T → ℕ) (parent : T → Option ℕ) (branch : T → Bool) (seated : T → ℕ → Option ℕ → T) (p : ℕ) (seats0 : List (Seated T)) (next0 : ℕ) (bs0 : List (NewBranch T)) where
  pub fork_begins : AllBranches branch bs0 → Forking number parent branch seated p seats0 next0 bs0 seats0 next0 bs0 []
  fork_begins h = record { done = []; seats_are = sym (append_nothing seats0); all_seats = refl; all_joins = refl; sit = omega arith; numbers = refl; branches = h }

  pub fork_on : (seats : List (Seated T)) (next : ℕ) (b : NewBranch T) (bs : List (NewBranch T)) (joins : List Join) (t : T) → Forking number parent branch seated p seats0 next0 bs0 seats next (b ∷ bs) joins → t ≡ seated b.thread next (Some p) → number t ≡ next → parent t ≡ Some p → branch t ≡ branch b.thread →
      Forking number parent branch seated p seats0 next0 bs0 (seats ++ (record { number = next; parent = Some p; wait = Ready Begin; thread = t }) ∷ []) (suc next) bs (joins ++ (record { name = b.name; thread = next; ended = None }) ∷ [])
  fork_on seats next b bs joins t h is n q br =
      let x : Seated T = record { number = next; parent = Some p; wait = Ready Begin; thread = t } in
      let j : Join = record { name = b.name; thread = next; ended = None } in
      record {
        done = h.done ++ x ∷ [];
        seats_are = ap (λ us. us ++ x ∷ []) h.seats_are ∙ append_assoc seats0 h.done (x ∷ []);
        all_seats = append_assoc h.done (x ∷ []) (new_seats seated p (suc next) bs) ∙ ap (λ u. h.done ++ (record { number = next; parent = Some p; wait = Ready Begin; thread = u }) ∷ new_seats seated p (suc next) bs) is ∙ h.all_seats;
        all_joins = append_assoc joins (j ∷ []) (new_joins (suc next) bs) ∙ h.all_joins;
        sit = grouped_append number parent branch next0 h.done (x ∷ []) next (suc next) h.sit (omega arith, record { number_is = n; parent_is = q; branch_is = br ∙ h.branches.0; few_branches = tt }, omega arith);
        numbers = omega (arith, h.numbers);
        branches = h.branches.1;
      }

  pub fork_done : (seats : List (Seated T)) (next : ℕ) (joins : List Join) → Forking number parent branch seated p seats0 next0 bs0 seats next [] joins →
      (seats ≡ seats0 ++ new_seats seated p next0 bs0) × (joins ≡ new_joins next0 bs0) × (next ≡ next0 + length bs0) × Grouped number parent branch next0 (new_seats seated p next0 bs0) next
  fork_done seats next joins h =
      let e : h.done ≡ new_seats seated p next0 bs0 = sym (append_nothing h.done) ∙ h.all_seats in
      (h.seats_are ∙ ap (λ us. seats0 ++ us) e, sym (append_nothing joins) ∙ h.all_joins, omega (arith, h.numbers), subst (λ us. Grouped number parent branch next0 us next) e h.sit)

  pub fork_step : (seats seats' : List (Seated T)) (next : ℕ) (items rest : List (NewBranch T)) (b : NewBranch T) (joins joins' : List Join) (t : T) → Forking number parent branch seated p seats0 next0 bs0 seats next items joins → items ≡ b ∷ rest → t ≡ seated b.thread next (Some p) → number t ≡ next → parent t ≡ Some p → branch t ≡ branch b.thread →
      seats' ≡ seats ++ (record { number = next; parent = Some p; wait = Ready Begin; thread = t }) ∷ [] → joins' ≡ joins ++ (record { name = b.name; thread = next; ended = None }) ∷ [] →
      Forking number parent branch seated p seats0 next0 bs0 seats' (next + 1) rest joins'
  fork_step seats seats' next items rest b joins joins' t h e is n q br sv jv =
      let h' : Forking number parent branch seated p seats0 next0 bs0 seats next (b ∷ rest) joins = subst (λ us. Forking number parent branch seated p seats0 next0 bs0 seats next us joins) e h in
      let one : suc next ≡ next + 1 = omega arith in
      subst (λ k. Forking number parent branch seated p seats0 next0 bs0 seats' k rest joins') one
      (subst (λ us. Forking number parent branch seated p seats0 next0 bs0 us (suc next) rest joins') (sym sv)
      (subst (λ js. Forking number parent branch seated p seats0 next0 bs0 (seats ++ (record { number = next; parent = Some p; wait = Ready Begin; thread = t }) ∷ []) (suc next) rest js) (sym jv)
      (fork_on seats next b rest joins t h' is n q br)))

  pub fork_returns : (i : ℕ) (x : Seated T) (seats : List (Seated T)) (next : ℕ) (items : List (NewBranch T)) (joins : List Join) (g' : Threads T) → Forking number parent branch seated p seats0 next0 bs0 seats next items joins → (0 < length items → ⊥) → slice_get seats0 i ≡ Some x → p ≡ x.number →
      ((y : Seated T) → slice_get seats i ≡ Some y → g' ≡ record { seats = slice_set seats i (waits_as (BranchesWait joins) y); next = next }) →
      (g' ≡ record { seats = slice_set seats0 i (waits_as (BranchesWait (new_joins next0 bs0)) x) ++ new_seats seated x.number next0 bs0; next = next0 + length bs0 }) × Grouped number parent branch next0 (new_seats seated x.number next0 bs0) g'.next
  fork_returns i x seats next (b ∷ bs) joins g' h over at pv k = let f : ⊥ = over (omega arith) in absurd f
  fork_returns i x seats next [] joins g' h over at pv k =
      let d = fork_done seats next joins h in
      let at' : slice_get seats i ≡ Some x = ap (λ us. slice_get us i) d.0 ∙ get_append seats0 (new_seats seated p next0 bs0) i x at in
      let e : g' ≡ record { seats = slice_set seats i (waits_as (BranchesWait joins) x); next = next } = k x at' in (
        e ∙ ap (λ n. record { seats = slice_set seats i (waits_as (BranchesWait joins) x); next = n }) d.2
            ∙ ap (λ us. record { seats = us; next = next0 + length bs0 })
            (ap (λ us. slice_set us i (waits_as (BranchesWait joins) x)) d.0 ∙ set_append seats0 (new_seats seated p next0 bs0) i x (waits_as (BranchesWait joins) x) at
            ∙ ap (λ js. slice_set seats0 i (waits_as (BranchesWait js) x) ++ new_seats seated p next0 bs0) d.1
            ∙ ap (λ q. slice_set seats0 i (waits_as (BranchesWait (new_joins next0 bs0)) x) ++ new_seats seated q next0 bs0) pv),
        subst (λ q. Grouped number parent branch next0 (new_seats seated q next0 bs0) g'.next) pv (subst (λ n. Grouped number parent branch next0 (new_seats seated p next0 bs0) n) (sym (ap (λ (m : Threads T). m.next) e)) d.3),
      )

module _ {T : Type 0} (number : T → ℕ) (parent : T → Option ℕ) (branch : T → Bool) (seated : T → ℕ → Option ℕ → T) (g : Threads T) (xs : List (Seated T)) (next : ℕ) (v : (record { seats = xs; next = next }) ≡ g) where
  pub fork_starts : (p : ℕ) (bs bs0 : List (NewBranch T)) (js : List Join) → bs ≡ bs0 → js ≡ [] → AllBranches branch bs0 → Forking number parent branch seated p g.seats g.next bs0 xs next bs js
  fork_starts p bs bs0 js e f h =
      subst (λ (m : Threads T). Forking number parent branch seated p m.seats m.next bs0 xs next bs js) v
      (subst (λ us. Forking number parent branch seated p xs next bs0 xs next us js) (sym e)
      (subst (λ us. Forking number parent branch seated p xs next bs0 xs next bs0 us) (sym f) (fork_begins number parent branch seated p xs next bs0 h)))

  pub number_at : (i : ℕ) (x y : Seated T) → slice_get g.seats i ≡ Some x → y ≡ slice_index_or xs i y → y.number ≡ x.number
  number_at i x y at e = ap (λ (u : Seated T). u.number) (e ∙ ap (λ (m : Threads T). slice_index_or m.seats i y) v ∙ index_is g.seats i x y at)
