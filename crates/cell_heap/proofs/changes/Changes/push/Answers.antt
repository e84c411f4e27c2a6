use Rattle.std.proofs.Common.{length, ap, arith}
use Rattle.cell_heap.specs.Marks.{Marks}
use Rattle.cell_heap.proofs.MarkLemmas.{length-listed, listed-push}
use Rattle.cell_heap.proofs.changes.Changes.push.Goals as goal

pub push_reserved-requires : goal.push_reserved-requires
push_reserved-requires c =
    let kept = c.self.invariant in
    let fewer = length-listed c.self.inside.is_changed.items c.self.inside.numbers.items kept.listed in
    let spare = ap (λ (m : Marks). m.spare) c.self.view_is in
    omega (arith, kept.number_room, fewer, spare, c.requires.room, c.self.inside.numbers.ok.0, c.self.inside.is_changed.ok.0)

pub invariant_of-self : goal.invariant_of-self
invariant_of-self c =
    let kept = c.self.invariant in
    let spare = ap (λ (m : Marks). m.spare) c.self.view_is in
    let flags = ap (λ (m : Marks). length m.flags) c.self.view_is in
    let before = c.self.inside.is_changed in record {
      listed = listed-push before.items c.push_reserved-2.new.self.items c.self.inside.numbers.items c.push_reserved.new.self.items c.len.result
          kept.listed c.push_reserved-2.ensures.items c.push_reserved.ensures.items (omega (arith, c.len.ensures, before.ok.0));
      few = omega (arith, c.push_reserved-2.ensures.len, c.requires.few, flags, before.ok.0);
      flag_room = omega (arith, c.push_reserved-2.ensures.len, c.push_reserved-2.ensures.capacity, kept.flag_room, spare, c.requires.room);
      number_room = omega (arith, c.push_reserved-2.ensures.len, c.push_reserved.ensures.capacity, kept.number_room, spare, c.requires.room);
    }
