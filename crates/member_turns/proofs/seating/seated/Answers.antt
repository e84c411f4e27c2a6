use Rattle.std.proofs.Common.{◌≡◌, ◌∙◌, refl, None, arith}
use Rattle.member_turns.proofs.SeatingLemmas.{seated_more, all_more}
use Rattle.member_turns.proofs.seating.seated.Goals as goal

pub loop-member-preserved : goal.loop-member-preserved
loop-member-preserved g c =
    let l = c.loop-member in
    let pushed = c.push_reserved.ensures in
    let popped = c.in-Some.ensures in
    record {
      members = seated_more (λ seat. seat.member) l.seats.items c.push_reserved.new.self.items _ c.pop.new.self.items l.members.items c.in-Some.member pushed.items refl popped.items ∙ l.invariant.members;
      ready = record {
        over = all_more (λ seat. seat.program) (λ own. own.now.table.shared.table_id ≡ c.args.program.now.table.shared.table_id) l.seats.items c.push_reserved.new.self.items _ pushed.items l.invariant.ready.over refl;
        looks = all_more (λ seat. seat.looks) (λ own. own ≡ c.args.looks) l.seats.items c.push_reserved.new.self.items _ pushed.items l.invariant.ready.looks refl;
        vacant = all_more (λ seat. seat.pass) (λ own. own ≡ None) l.seats.items c.push_reserved.new.self.items _ pushed.items l.invariant.ready.vacant refl;
      };
      room = omega (arith, pushed.len, pushed.capacity, popped.len, l.invariant.room);
      all = omega (arith, pushed.len, c.pop.ensures.capacity, popped.len, l.invariant.all);
    }
