use Rattle.std.proofs.Common.{◌≡◌, ◌≤◌, ◌+◌, ◌++◌, map, reverse, vec_len, vec_capacity}
use Rattle.member_turns.specs.Ready.{AreReady}
use Rattle.member_turns.proofs.seating.seated.Given as goal

abbrev pub invariant-loop-member : goal.invariant-loop-member
invariant-loop-member g l = record {
  members : map (λ seat. seat.member) l.seats.items ++ reverse l.members.items ≡ l.fn.members.items;
  ready : AreReady l.program.table.shared.table_id l.looks l.seats.items;
  room : vec_len l.seats + vec_len l.members ≤ vec_capacity l.seats;
  all : vec_len l.seats + vec_len l.members ≤ vec_capacity l.members;
}

abbrev pub decreases-loop-member : goal.decreases-loop-member
decreases-loop-member g l = vec_len l.members
