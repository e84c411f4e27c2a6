use Rattle.std.proofs.Common.{◌≡◌, ◌++◌, ◌^◌}
use Rattle.std.specs.Prelude.{map, take, drop}
use Rattle.std.specs.List.{AllByRecursion as AllAre}
use Rattle.model_run.specs.World.{change_if, with_taken}
use Rattle.build_requests.specs.Output.{TakenBelow}
use Rattle.build_requests.proofs.output.count_taken.Given as goal

abbrev pub invariant-loop-open : goal.invariant-loop-open
invariant-loop-open l = record {
  counted : take l.open-index l.open-items ++ map (change_if (with_taken l.bytes) l.task) (drop l.open-index l.open-items) ≡ map (change_if (with_taken l.bytes) l.task) l.fn.requests;
  room : AllAre (λ r. TakenBelow (2 ^ 64) l.bytes r.request) (drop l.open-index l.open-items);
}
