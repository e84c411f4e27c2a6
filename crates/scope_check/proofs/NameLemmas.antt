-- Sets of names.
use Rattle.std.proofs.Common.{◌≡◌, ℕ, Bool, true, false, cond, ◌||◌, List, Ordering, refl, sym, ap, ◌∙◌}
use Rattle.std.specs.List.{list_any}
use Rattle.std.specs.Ordering.{eq_by_cmp, is_eq, nat_cmp, ordering_reverse}
use Rattle.std.specs.declared.cmp.Ordering.TheVariants.{Less, Equal, Greater}
use Rattle.std.specs.Cmp.Lexicographic.{slice_cmp, nat_list_cmp_total}
use Rattle.std.specs.FinSet.{insert, from_list, contains-from_list, contains-insert, same_set, nat_cmp-IsAntisymmetric, slice_cmp-IsAntisymmetric}

turned : (r : Ordering) → is_eq (ordering_reverse r) ≡ is_eq r
turned Less = refl
turned Equal = refl
turned Greater = refl

tied-swap : (x y : List ℕ) → eq_by_cmp (slice_cmp nat_cmp) x y ≡ eq_by_cmp (slice_cmp nat_cmp) y x
tied-swap x y = ap is_eq (nat_list_cmp_total.antisymm x y) ∙ turned (slice_cmp nat_cmp y x)

or-cond : (a b : Bool) → cond a true b ≡ (a || b)
or-cond true b = refl
or-cond false b = refl

-- Keys that answer as one more name does are the set with this name.
pub from_list-added : (old new : List (List ℕ)) (n : List ℕ)
    → ((q : List ℕ) → list_any (eq_by_cmp (slice_cmp nat_cmp) q) new ≡ cond (eq_by_cmp (slice_cmp nat_cmp) n q) true (list_any (eq_by_cmp (slice_cmp nat_cmp) q) old))
    → from_list {R = slice_cmp nat_cmp} new ≡ insert (from_list old) n
from_list-added old new n is =
    same_set nat_list_cmp_total (slice_cmp-IsAntisymmetric nat_cmp-IsAntisymmetric) _ _ (λ q.
    contains-from_list nat_list_cmp_total new q ∙ is q ∙ or-cond (eq_by_cmp (slice_cmp nat_cmp) n q) _
    ∙ (λ i. tied-swap n q i || sym (contains-from_list nat_list_cmp_total old q) i)
    ∙ sym (contains-insert nat_list_cmp_total (from_list old) n q))
