use Rattle.std.proofs.Common.{◌≡◌, take}
use Rattle.member_turns.specs.Called.{bytes_of}
use Rattle.member_turns.proofs.calls.spell.Given as goal

abbrev pub invariant-loop-byte : goal.invariant-loop-byte
invariant-loop-byte l = record { so_far : bytes_of l.so_far.value ≡ take l.byte-index l.line }
