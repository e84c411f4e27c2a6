use Rattle.std.proofs.Common.{◌≡◌, drop}
use Rattle.std.specs.List.{list_all}
use Rattle.image_check.specs.Threads.{is_held}
use Rattle.image_check.proofs.threads.all_held.Given as goal

abbrev pub invariant-loop-request : goal.invariant-loop-request
invariant-loop-request l = list_all (is_held l.lists.image.now) (drop l.request-index l.requests) ≡ list_all (is_held l.lists.image.now) l.requests
