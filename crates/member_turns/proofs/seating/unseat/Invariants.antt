use Rattle.std.proofs.Common.{◌≡◌, ◌≤◌, ◌+◌, ◌++◌, map, reverse, vec_len, vec_capacity}
use Rattle.member_turns.proofs.seating.unseat.Given as goal

abbrev pub invariant-loop-seat : goal.invariant-loop-seat
invariant-loop-seat g l = record {
  members : l.members.items ++ reverse (map (λ seat. seat.member) l.seats.items) ≡ reverse (map (λ seat. seat.member) l.fn.seats.items);
  room : vec_len l.members + vec_len l.seats ≤ vec_capacity l.members;
}

abbrev pub decreases-loop-seat : goal.decreases-loop-seat
decreases-loop-seat g l = vec_len l.seats
