use Rattle.std.proofs.Common.{◌≡◌, length, true}
use Rattle.std.specs.List.{list_any}
use Rattle.image_check.specs.Threads.{is_open_branch}
use Rattle.image_check.proofs.threads.is_open_by_halves.Given as goal

abbrev pub invariant-loop-rest : goal.invariant-loop-rest
invariant-loop-rest l = list_any (is_open_branch l.number) l.rest ≡ true → list_any (is_open_branch l.number) l.joins ≡ true

abbrev pub decreases-loop-rest : goal.decreases-loop-rest
decreases-loop-rest l = length l.rest
