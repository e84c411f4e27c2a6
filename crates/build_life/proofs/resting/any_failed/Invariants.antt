use Rattle.std.proofs.Common.{◌≡◌}
use Rattle.std.specs.Prelude.{drop}
use Rattle.build_life.specs.Ending.{any_failed}
use Rattle.build_life.proofs.resting.any_failed.Given as goal

abbrev pub invariant-loop-member : goal.invariant-loop-member
invariant-loop-member g l = any_failed l.members ≡ any_failed (drop l.member-index l.members)
