use Rattle.std.proofs.Common.{◌≡◌, ℕ, Bool, false, List, [], length, replicate, refl, sym, ap, ap₂, ◌∙◌, subst, arith}
use Rattle.std.specs.List.Sorted.{IsPermutation}
use Rattle.std.proofs.lemmas.List.{nil_from_length}
use Rattle.cell_heap.specs.Marks.{Marks, places}
use Rattle.cell_heap.proofs.MarkLemmas.{Covers, covers-listed, covers-none, listed-none}
use Rattle.cell_heap.proofs.changes.Changes.clear.Goals as goal

pub loop-at-init : goal.loop-at-init
loop-at-init c = record {
  covers = covers-listed c.self.inside.numbers.items c.self.inside.is_changed.items c.self.invariant.listed;
  length = refl;
  unused = refl;
  flag_room = c.self.invariant.flag_room;
  number_room = c.self.invariant.number_room;
}

pub invariant_of-self : goal.invariant_of-self
invariant_of-self c =
    let inside = c.loop-at.self-inside in
    let kept = c.loop-at.invariant in
    let flags = inside.is_changed.items in
    let before : inside.numbers.items ≡ [] = nil_from_length inside.numbers.items (omega (arith, c.in_default.ensures.cases.0, inside.numbers.ok.0)) in
    let after : c.pop.new.self.items ≡ [] = nil_from_length c.pop.new.self.items (omega (arith, c.in_default.ensures.cases.1, c.pop.new.self.ok.0)) in
    let none : flags ≡ replicate (length flags) false = covers-none flags (subst (λ (xs : List ℕ). Covers xs flags) before kept.covers) in
    let listed : IsPermutation [] (places flags) = subst (λ (bs : List Bool). IsPermutation [] (places bs)) (sym none) (listed-none (length flags)) in record {
      listed = subst (λ (xs : List ℕ). IsPermutation xs (places flags)) (sym after) listed;
      few = omega (arith, kept.length, inside.is_changed.ok.0, c.self.inside.is_changed.ok.0, c.self.invariant.few);
      flag_room = kept.flag_room;
      number_room = omega (arith, kept.number_room, c.pop.ensures.capacity);
    }

pub returns : goal.returns
returns c =
    let inside = c.loop-at.self-inside in
    let kept = c.loop-at.invariant in
    let flags = inside.is_changed.items in
    let before : inside.numbers.items ≡ [] = nil_from_length inside.numbers.items (omega (arith, c.in_default.ensures.cases.0, inside.numbers.ok.0)) in
    let none : flags ≡ replicate (length flags) false = covers-none flags (subst (λ (xs : List ℕ). Covers xs flags) before kept.covers) in
    let count : length flags ≡ length c.args.self.now.flags = kept.length ∙ ap (λ (m : Marks). length m.flags) c.self.view_is in
    let spare : inside.unused ≡ c.args.self.now.spare = kept.unused ∙ ap (λ (m : Marks). m.spare) c.self.view_is in
    let made : List Bool → ℕ → Marks = λ bs n. record { flags = bs; spare = n } in
    ap₂ made (none ∙ ap (λ n. replicate n false) count) spare
