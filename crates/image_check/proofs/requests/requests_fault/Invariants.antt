use Rattle.std.proofs.Common.{◌≡◌, None, drop}
use Rattle.std.specs.Option.{option_copied}
use Rattle.image_check.specs.Requests.{request_fault}
use Rattle.image_check.specs.Scans.{each}
use Rattle.image_check.proofs.requests.requests_fault.Given as goal

abbrev pub invariant-loop-request : goal.invariant-loop-request
invariant-loop-request l = each (request_fault l.site l.image) l.request-index (option_copied l.before) (drop l.request-index l.image.requests) ≡ each (request_fault l.site l.image) 0 None l.image.requests
