use Rattle.std.proofs.Common.{◌≡◌, Bool, false, List, ℕ, [], replicate, sym, subst, rules, arith}
use Rattle.std.specs.List.Sorted.{IsPermutation}
use Rattle.cell_heap.specs.Marks.{places}
use Rattle.cell_heap.proofs.MarkLemmas.{listed-none}
use Rattle.cell_heap.proofs.changes.Changes.unchanged.Goals as goal

pub invariant_of-result : goal.invariant_of-result
invariant_of-result c =
    let none : c.in_ok-is_changed.is_changed.items ≡ replicate c.args.count false = search rules in
    let listed : IsPermutation [] (places c.in_ok-is_changed.is_changed.items) = subst (λ (bs : List Bool). IsPermutation [] (places bs)) (sym none) (listed-none c.args.count) in record {
      listed = subst (λ (xs : List ℕ). IsPermutation xs (places c.in_ok-is_changed.is_changed.items)) (sym c.in_ok-numbers.ensures.items) listed;
      few = omega (arith, c.in_ok-is_changed.ensures.len, c.requires);
      flag_room = omega (arith, c.in_ok-is_changed.is_changed.ok.1);
      number_room = omega (arith, c.in_ok-is_changed.ensures.len, c.in_ok-numbers.ensures.exact);
    }
