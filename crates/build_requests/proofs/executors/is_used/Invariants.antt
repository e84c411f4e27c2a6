use Rattle.std.proofs.Common.{◌≡◌, drop}
use Rattle.build_requests.specs.Workspaces.{is_used}
use Rattle.build_requests.proofs.executors.is_used.Given as goal

abbrev pub invariant-loop-one : goal.invariant-loop-one
invariant-loop-one l = is_used l.site (drop l.one-index l.held) l.agent l.workspace ≡ is_used l.site l.held l.agent l.workspace
