use Rattle.std.proofs.Common.{◌≡◌, length, map}
use Rattle.program_lock.specs.Passes.{known, IsPassOf}
use Rattle.program_lock.specs.Views.{all_parts}
use Rattle.member_turns.specs.Turns.{DidTurn}
use Rattle.member_turns.proofs.RoundsLemmas.{RoundsSoFar}
use Rattle.member_turns.specs.Ready.{AreReady}
use Rattle.member_turns.proofs.life.take_rounds.Given as goal

abbrev pub invariant-loop : goal.invariant-loop
invariant-loop g l =
    let H = g.H.Host in
    let A = g.A.Source in
    record {
      belongs : IsPassOf l.program l.pass;
      ready : AreReady l.pass.seat.table_id l.looks l.seats;
      len : length l.seats ≡ length l.fn.seats;
      whole : (known l.pass).parts ≡ all_parts;
      so_far : RoundsSoFar (DidTurn H A l.looks) g.R.ScriptThread.stance (λ b. b.value.build) (map (λ seat. seat.member) l.fn.seats) (known l.fn.pass)
          (map (λ seat. seat.member) l.seats) (known l.pass);
    }
