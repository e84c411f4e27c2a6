use Rattle.std.proofs.Common.{◌≡◌, map, take}
use Rattle.image_check.proofs.threads.branch_numbers.Given as goal

abbrev pub invariant-loop-join : goal.invariant-loop-join
invariant-loop-join l = l.numbers.items ≡ map (λ j. j.thread) (take l.join-index l.joins)
