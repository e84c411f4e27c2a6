use Rattle.std.proofs.Common.{◌≡◌, drop}
use Rattle.build_images.specs.Fronts.{thread_at}
use Rattle.build_images.proofs.fronts.stood_at.Given as goal

abbrev pub invariant-loop-stood : goal.invariant-loop-stood
invariant-loop-stood l = thread_at l.number (drop l.stood-index l.before) ≡ thread_at l.number l.before
