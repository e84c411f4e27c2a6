use Rattle.std.proofs.Common.{◌≡◌, drop}
use Rattle.std.specs.Prelude.{find, nat_eq}
use Rattle.model_run.specs.Grants.{executor_of}
use Rattle.build_requests.proofs.executors.executor_of.Given as goal

abbrev pub invariant-loop-executor : goal.invariant-loop-executor
invariant-loop-executor l = find (λ x. nat_eq x.number l.number) (drop l.executor-index l.executor-items) ≡ executor_of l.site l.number
