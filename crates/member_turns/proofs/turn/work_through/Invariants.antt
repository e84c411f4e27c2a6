use Rattle.std.proofs.Common.{length}
use Rattle.program_lock.specs.Passes.{known}
use Rattle.member_turns.proofs.turn.work_through.Given as goal

abbrev pub ghosts-work_over : goal.ghosts-work_over
ghosts-work_over g a = record { table = a.pass.seat.table_id; number = (known a.pass).number; numbers = (known a.pass).numbers; parts = (known a.pass).parts; since = length (known a.pass).seen }
