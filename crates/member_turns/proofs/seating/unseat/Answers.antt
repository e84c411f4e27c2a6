use Rattle.std.proofs.Common.{◌∙◌, arith}
use Rattle.member_turns.proofs.SeatingLemmas.{unseated_more, unseated_all}
use Rattle.member_turns.proofs.seating.unseat.Goals as goal

pub loop-seat-preserved : goal.loop-seat-preserved
loop-seat-preserved g c =
    let l = c.loop-seat in
    let pushed = c.push_reserved.ensures in
    let popped = c.in-Some.ensures in
    record {
      members = unseated_more (λ seat. seat.member) l.members.items c.push_reserved.new.self.items c.pop.new.self.items l.seats.items c.in-Some.seat pushed.items popped.items ∙ l.invariant.members;
      room = omega (arith, pushed.len, pushed.capacity, popped.len, l.invariant.room);
    }

pub loop-seat-preserved-in-Some : goal.loop-seat-preserved-in-Some
loop-seat-preserved-in-Some g c =
    let l = c.loop-seat in
    let pushed = c.push_reserved.ensures in
    let popped = c.in-Some.ensures in
    record {
      members = unseated_more (λ seat. seat.member) l.members.items c.push_reserved.new.self.items c.pop.new.self.items l.seats.items c.in-Some.seat pushed.items popped.items ∙ l.invariant.members;
      room = omega (arith, pushed.len, pushed.capacity, popped.len, l.invariant.room);
    }

pub returns : goal.returns
returns g c =
    let l = c.loop-seat in
    record { members = unseated_all (λ seat. seat.member) l.members.items c.reverse.new.self.items l.seats.items c.args.seats.items (omega (arith, c.in_default.ensures.cases)) c.reverse.ensures.items l.invariant.members }
