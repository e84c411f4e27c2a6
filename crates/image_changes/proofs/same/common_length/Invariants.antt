use Rattle.std.proofs.Common.{◌≡◌, ◌≤◌, length, take}
use Rattle.image_changes.proofs.same.common_length.Given as goal

abbrev pub invariant-loop-place : goal.invariant-loop-place
invariant-loop-place g l = record {
  same : take l.place l.had ≡ take l.place l.has;
  within : l.place ≤ length l.had;
}
