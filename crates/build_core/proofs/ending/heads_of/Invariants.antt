use Rattle.std.proofs.Common.{◌≡◌, take}
use Rattle.settle_laws.specs.Standing.{heads}
use Rattle.build_core.proofs.ending.heads_of.Given as goal

abbrev pub invariant-loop-seat : goal.invariant-loop-seat
invariant-loop-seat g l = l.ids ≡ heads g.R.ScriptThread.stance (take l.seat-index l.threads)
