use Rattle.std.proofs.Common.{◌≡◌, ◌+◌, ℕ, length, map}
use Rattle.model_run.specs.Grants.{held_of_agent, unused_from, workspace_number}
use Rattle.build_requests.specs.Names.{Held}
use Rattle.build_requests.proofs.executors.workspace_number.Given as goal

abbrev pub invariant-loop : goal.invariant-loop
invariant-loop l =
    (left : ℕ) × (left + l.counter ≡ length l.held) × (l.number ≡ l.counter + 1)
    × (workspace_number l.site l.held l.executor ≡ unused_from left l.number (map (λ (h : Held). h.workspace) (held_of_agent l.site l.executor.agent l.held)))
