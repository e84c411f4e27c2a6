use Rattle.std.proofs.Common.{◌≡◌, length}
use Rattle.green_threads.specs.Resuming.{AllBranches}
use Rattle.thread_trials.specs.declared.scripted.Scripted.{Scripted}
use Rattle.thread_trials.proofs.scripted.new_branches.Given as goal

abbrev pub invariant-loop-head : goal.invariant-loop-head
invariant-loop-head l = (length l.branches ≡ l.head) × AllBranches (λ (t : Scripted). t.is_branch) l.branches
