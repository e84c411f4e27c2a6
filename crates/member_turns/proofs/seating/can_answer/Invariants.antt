use Rattle.std.proofs.Common.{◌≡◌, map}
use Rattle.std.specs.Prelude.{drop}
use Rattle.member_turns.specs.Ending.{can_answer}
use Rattle.member_turns.proofs.seating.can_answer.Given as goal

abbrev pub invariant-loop-seat : goal.invariant-loop-seat
invariant-loop-seat g l = can_answer (map (λ seat. seat.member) l.seats) ≡ can_answer (map (λ seat. seat.member) (drop l.seat-index l.seats))
