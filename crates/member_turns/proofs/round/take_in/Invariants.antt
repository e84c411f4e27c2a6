use Rattle.std.proofs.Common.{◌≡◌, map, take, None}
use Rattle.std.specs.List.{AllByRecursion as AllAre}
use Rattle.program_lock.specs.Passes.{known}
use Rattle.member_turns.proofs.SeatLemmas.{InSoFar}
use Rattle.member_turns.proofs.round.take_in.Given as goal

abbrev pub invariant-loop-seat : goal.invariant-loop-seat
invariant-loop-seat g l = record {
  same : l.pass.seat.table_id ≡ l.fn.pass.seat.table_id;
  members : map (λ seat. seat.member) l.seats ≡ map (λ seat. seat.member) l.fn.seats;
  looks : map (λ seat. seat.looks) l.seats ≡ map (λ seat. seat.looks) l.fn.seats;
  programs : map (λ seat. seat.program) l.seats ≡ map (λ seat. seat.program) l.fn.seats;
  vacant : AllAre (λ own. own ≡ None) (take l.seat-index (map (λ seat. seat.pass) l.seats));
  taken : InSoFar (map (λ seat. seat.pass) l.fn.seats) (map (λ seat. seat.pass) l.seats) l.seat-index (known l.fn.pass) (known l.pass);
}
