use Rattle.std.proofs.Common.{◌≡◌, drop}
use Rattle.image_check.specs.Shared.{all_below}
use Rattle.image_check.proofs.shared.threads_below.Given as goal

abbrev pub invariant-loop-thread : goal.invariant-loop-thread
invariant-loop-thread l = all_below (λ x. x.number) l.next (drop l.thread-index l.threads) ≡ all_below (λ x. x.number) l.next l.threads
