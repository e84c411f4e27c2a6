-- The last flow nodes of threads are there, turn by turn.
use Rattle.std.proofs.Common.{◌≡◌, ◌≤◌, ℕ, suc, Bool, true, false, List, [], ◌∷◌, ◌++◌, length, Option, Some, None, refl, sym, subst, arith}
use Rattle.std.specs.Prelude.{nat_eq, not, if◌then◌else◌}
use Rattle.std.specs.List.{AllByRecursion as AllAre}
use Rattle.model_run.specs.declared.flow.FlowNode.{FlowNode}
use Rattle.model_run.specs.Fitting.{IsFlowNode}
use Rattle.green_threads.specs.declared.runner.Stop.{Stop}
use Rattle.green_threads.specs.declared.runner.Stop.TheVariants as stop
use Rattle.green_threads.specs.declared.runner.NewBranch.{NewBranch}
use Rattle.green_threads.specs.declared.runner.Seated.{Seated}
use Rattle.green_threads.specs.Threads as G
use Rattle.settle_laws.specs.Stances.{Stance, seated_as, BranchesBehind}
use Rattle.settle_laws.specs.Standing.{HeadsStand, heads, first_head}

module _ {T : Type 0} (stance : T → Stance) where
  abbrev Stands : List FlowNode → Seated T → Type 0
  Stands ns x = IsFlowNode ns (stance x.thread).own.head

  -- where no flow node has gone
  pub heads_later : (ns ms : List FlowNode) → length ns ≤ length ms → (xs : List (Seated T)) → HeadsStand stance ns xs → HeadsStand stance ms xs
  heads_later ns ms le [] h = tt
  heads_later ns ms le (x ∷ xs) h = (((h.0).0, omega (arith, (h.0).1, le)), heads_later ns ms le xs h.1)

  -- where the thread of a number is changed, or is no longer there
  heads_with : (ns : List FlowNode) (g : Seated T → Seated T) (n : ℕ) → ((y : Seated T) → Stands ns y → Stands ns (g y)) → (xs : List (Seated T)) → HeadsStand stance ns xs → HeadsStand stance ns (G.with_seat g n xs)
  heads_with ns g n keep [] h = tt
  heads_with ns g n keep (x ∷ xs) h = (one (nat_eq x.number n), heads_with ns g n keep xs h.1)
    where
      one : (b : Bool) → Stands ns (if b then g x else x)
      one true = keep x h.0
      one false = h.0

  heads_without : (ns : List FlowNode) (n : ℕ) (xs : List (Seated T)) → HeadsStand stance ns xs → HeadsStand stance ns (G.without_seat n xs)
  heads_without ns n [] h = tt
  heads_without ns n (x ∷ xs) h = one (nat_eq x.number n) (heads_without ns n xs h.1)
    where
      one : (b : Bool) → HeadsStand stance ns (G.without_seat n xs) → HeadsStand stance ns (if not b then x ∷ G.without_seat n xs else G.without_seat n xs)
      one true below = below
      one false below = (h.0, below)

  heads_append : (ns : List FlowNode) (xs ys : List (Seated T)) → HeadsStand stance ns xs → HeadsStand stance ns ys → HeadsStand stance ns (xs ++ ys)
  heads_append ns [] ys h k = k
  heads_append ns (x ∷ xs) ys h k = (h.0, heads_append ns xs ys h.1 k)

  -- the list of them, and the first
  pub heads_are : (ns : List FlowNode) (xs : List (Seated T)) → HeadsStand stance ns xs → AllAre (IsFlowNode ns) (heads stance xs)
  heads_are ns [] h = tt
  heads_are ns (x ∷ xs) h = (h.0, heads_are ns xs h.1)

  pub first_stands : (ns : List FlowNode) (xs : List (Seated T)) → (xs ≡ [] → ⊥) → HeadsStand stance ns xs → IsFlowNode ns (first_head stance xs)
  first_stands ns [] some h = absurd (some refl)
  first_stands ns (x ∷ xs) some h = h.0

  -- the thread that has had its turn
  pub heads_turn : (ns : List FlowNode) (w : _) (t : T) (n : ℕ) (xs : List (Seated T)) → IsFlowNode ns (stance t).own.head → HeadsStand stance ns xs → HeadsStand stance ns (G.with_seat (G.turned_seat w t) n xs)
  heads_turn ns w t n xs head h = heads_with ns (G.turned_seat w t) n (λ y k. head) xs h

  module _ (seated : T → ℕ → Option ℕ → T) (seated_is : (t : T) (n : ℕ) (q : Option ℕ) → stance (seated t n q) ≡ seated_as n q (stance t)) where
    heads_new : (ns : List FlowNode) (parent n : ℕ) (bs : List (NewBranch T)) → AllAre (λ (b : NewBranch T). IsFlowNode ns (stance b.thread).own.head) bs → HeadsStand stance ns (G.new_seats seated parent n bs)
    heads_new ns parent n [] h = tt
    heads_new ns parent n (b ∷ bs) h =
        (subst (λ (s : Stance). IsFlowNode ns s.own.head) (sym (seated_is b.thread n (Some parent))) h.0, heads_new ns parent (suc n) bs h.1)

    -- and all threads behind it
    pub heads_turned : (head : T → ℕ) (ns : List FlowNode) (g : G.Threads T) (x : Seated T) (k : Stop T) (t : T) → HeadsStand stance ns g.seats → IsFlowNode ns (stance t).own.head → BranchesBehind stance ns k → HeadsStand stance ns (G.turned seated head g x k t).seats
    heads_turned head ns g x (stop.Waits r) t h own bs = heads_turn ns _ t x.number g.seats own h
    heads_turned head ns g x (stop.Forks bs) t h own behind = heads_append ns _ _ (heads_turn ns _ t x.number g.seats own h) (heads_new ns x.number g.next bs behind)
    heads_turned head ns g x (stop.Ended o) t h own bs = go x.parent
      where
        go : (p : Option ℕ) → HeadsStand stance ns (G.ended_branch x.number (head t) o p g.seats)
        go None = heads_without ns x.number g.seats h
        go (Some p) = heads_with ns (G.joined_seat x.number (head t) o) p (λ y k. k) (G.without_seat x.number g.seats) (heads_without ns x.number g.seats h)
    heads_turned head ns g x (stop.Limit k) t h own bs = h
