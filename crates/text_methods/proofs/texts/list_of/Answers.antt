use Rattle.std.proofs.Common.{◌≡◌, ◌+◌, ℕ, List, length, sym, ap, ◌∙◌, subst, arith}
use Rattle.std.specs.List.{All}
use Rattle.cell_heap.specs.Soundness.{ValueBelow}
use Rattle.model_values.specs.TextMethods.{cells_from}
use Rattle.model_values.specs.declared.value.Value.{Value}
use Rattle.text_methods.proofs.ListLemmas.{cells_below, no_cells, texts_are, too_long}
use Rattle.text_methods.proofs.texts.list_of.Goals as goal

pub returns-in_default : goal.returns-in_default
returns-in_default c = λ ts is h e. let none = rw c.in_default.is at is in too_long h ts none

pub returns-then-first-len-ge-MAX_CELLS : goal.returns-then-first-len-ge-MAX_CELLS
returns-then-first-len-ge-MAX_CELLS c = λ ts is h e.
    let some = rw c.in-Some.is at is in
    no_cells h ts some.1 (omega (arith, c.if-first-len-ge-MAX_CELLS.true, c.len.ensures, ap length some.0, e))

pub returns : goal.returns
returns c = λ ts is.
    let some = rw c.in-Some.is at is in
    let first = c.args.first in
    let values : c.in_ok-values.values ≡ cells_from first c.in-Some.texts = c.in_ok-values.ensures ∙ ap (λ (xs : List (List ℕ)). cells_from first xs) c.as_slice.ensures in
    let below : All (ValueBelow (first + length c.in-Some.texts)) c.in_ok-values.values = subst (λ (vs : List Value). All (ValueBelow (first + length c.in-Some.texts)) vs) (sym values) (cells_below first (first + length c.in-Some.texts) c.in-Some.texts (omega arith)) in
    (λ h e. texts_are h first c.in-Some.texts ts c.in_ok-values.values e some.0 values, below)
