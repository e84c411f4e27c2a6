use Rattle.std.proofs.Common.{◌≡◌, drop}
use Rattle.std.specs.List.{list_all}
use Rattle.image_check.specs.Threads.{has_branch}
use Rattle.image_check.proofs.threads.all_branches.Given as goal

abbrev pub invariant-loop-join : goal.invariant-loop-join
invariant-loop-join l = list_all (has_branch l.lists.image.now l.number) (drop l.join-index l.joins) ≡ list_all (has_branch l.lists.image.now l.number) l.joins
