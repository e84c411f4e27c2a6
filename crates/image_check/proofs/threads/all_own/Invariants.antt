use Rattle.std.proofs.Common.{◌≡◌, ◌++◌, drop}
use Rattle.image_check.specs.Threads.{all_own}
use Rattle.image_check.proofs.threads.all_own.Given as goal

abbrev pub invariant-loop-thread : goal.invariant-loop-thread
invariant-loop-thread l = l.own.items ++ all_own l.lists.image.now (drop l.thread-index l.lists.image.now.threads) ≡ all_own l.lists.image.now l.lists.image.now.threads
