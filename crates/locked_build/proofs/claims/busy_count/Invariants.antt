use Rattle.std.proofs.Common.{◌≡◌, ◌+◌, ◌≤◌, ◌^◌, ◌-◌, drop}
use Rattle.locked_build.specs.Claims.{count_of, is_busy, within_u32}
use Rattle.locked_build.proofs.claims.busy_count.Given as goal

abbrev pub invariant-loop-request : goal.invariant-loop-request
invariant-loop-request l = record {
  fits : l.count ≤ 2 ^ 32 - 1;
  so_far : within_u32 (count_of (is_busy l.history.items) l.requests) ≡ within_u32 (l.count + count_of (is_busy l.history.items) (drop l.request-index l.requests));
}
