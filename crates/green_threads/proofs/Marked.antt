-- The marked threads of a group stand as they stood.
use Rattle.std.proofs.Common.{◌≡◌, ℕ, suc, ◌+◌, List, [], ◌∷◌, Bool, Option, refl, ap, ◌∙◌}
use Rattle.std.specs.Prelude.{map}
use Rattle.green_threads.specs.declared.runner.Seated.{Seated}
use Rattle.green_threads.specs.Threads.{marked_in}
use Rattle.green_threads.specs.Resuming.{IsSameSeat}
use Rattle.green_threads.specs.Grouping.{one_ready, ready_count, Grouped}

module _ {T : Type 0} (marked : T → T) where
  pub ready_marked : (xs : List (Seated T)) → ready_count (map (marked_in marked) xs) ≡ ready_count xs
  ready_marked [] = refl
  ready_marked (x ∷ xs) = ap (λ n. one_ready x.wait + n) (ready_marked xs)

  pub grouped_marked : (number : T → ℕ) (parent : T → Option ℕ) (branch : T → Bool) → ((t : T) → IsSameSeat number parent branch t (marked t)) →
      (low : ℕ) (xs : List (Seated T)) (next : ℕ) → Grouped number parent branch low xs next → Grouped number parent branch low (map (marked_in marked) xs) next
  grouped_marked number parent branch same low [] next h = h
  grouped_marked number parent branch same low (x ∷ xs) next h =
      let s = same x.thread in (
        h.0,
        record {
          number_is = s.number_same ∙ (h.1).number_is;
          parent_is = s.parent_same ∙ (h.1).parent_is;
          branch_is = s.branch_same ∙ (h.1).branch_is;
          few_branches = (h.1).few_branches;
        },
        grouped_marked number parent branch same (suc x.number) xs next h.2,
      )
