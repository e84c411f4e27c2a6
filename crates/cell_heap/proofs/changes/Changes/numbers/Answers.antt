use Rattle.std.proofs.Common.{◌≡◌, List, ℕ, ap, ◌∙◌, sym, subst}
use Rattle.std.specs.List.Sorted.{IsPermutation}
use Rattle.cell_heap.specs.Marks.{Marks, places}
use Rattle.cell_heap.proofs.RisingLemmas.{sorted_places}
use Rattle.cell_heap.proofs.changes.Changes.numbers.Goals as goal

pub returns : goal.returns
returns c =
    let flags = c.self.inside.is_changed.items in
    let copied : c.in_ok-numbers.numbers.items ≡ c.self.inside.numbers.items = c.in_ok-numbers.ensures.items ∙ c.as_slice.ensures.value in
    let listed : IsPermutation c.in_ok-numbers.numbers.items (places flags) = subst (λ (xs : List ℕ). IsPermutation xs (places flags)) (sym copied) c.self.invariant.listed in
    c.from_vec.ensures
    ∙ sorted_places flags c.in_ok-numbers.numbers.items c.sort_unstable.new.self.items listed c.sort_unstable.ensures.permutation c.sort_unstable.ensures.sorted
    ∙ ap (λ (m : Marks). places m.flags) c.self.view_is
