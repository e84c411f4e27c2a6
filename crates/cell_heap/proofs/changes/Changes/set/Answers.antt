use Rattle.std.proofs.Common.{◌<◌, length, sym, ap, ◌∙◌, arith}
use Rattle.cell_heap.specs.Marks.{Marks}
use Rattle.cell_heap.proofs.MarkLemmas.{length-places-lt, listed-set}
use Rattle.cell_heap.proofs.changes.Changes.set.Goals as goal

pub push_reserved-requires : goal.push_reserved-requires
push_reserved-requires c =
    let flags = c.self.inside.is_changed in
    let numbers = c.self.inside.numbers in
    let within : c.args.at < length flags.items = omega (arith, c.requires, ap (λ (m : Marks). length m.flags) c.self.view_is) in
    let fewer = length-places-lt flags.items numbers.items c.args.at c.index.result.now c.self.invariant.listed within (sym c.index.ensures ∙ c.if-not-index.true) in
    omega (arith, fewer, c.self.invariant.number_room, flags.ok.0, numbers.ok.0)

pub invariant_of-self : goal.invariant_of-self
invariant_of-self c =
    let flags = c.self.inside.is_changed in
    let numbers = c.self.inside.numbers in
    let kept = c.self.invariant in
    let within : c.args.at < length flags.items = omega (arith, c.requires, ap (λ (m : Marks). length m.flags) c.self.view_is) in record {
      listed = listed-set flags.items numbers.items c.push_reserved.new.self.items c.args.at c.index.result.now kept.listed within (sym c.index.ensures ∙ c.if-not-index.true) c.push_reserved.ensures.items;
      few = kept.few;
      flag_room = kept.flag_room;
      number_room = omega (arith, kept.number_room, c.push_reserved.ensures.capacity);
    }
