use Rattle.std.proofs.Common.{◌≡◌, ◌++◌}
use Rattle.std.specs.Prelude.{map, take, drop}
use Rattle.model_run.specs.World.{change_if, with_kept}
use Rattle.build_requests.proofs.output.keep_output.Given as goal

abbrev pub invariant-loop-open : goal.invariant-loop-open
invariant-loop-open l = take l.open-index l.open-items ++ map (change_if (with_kept l.bytes) l.task) (drop l.open-index l.open-items) ≡ map (change_if (with_kept l.bytes) l.task) l.fn.requests
