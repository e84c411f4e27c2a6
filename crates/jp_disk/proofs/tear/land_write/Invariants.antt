use Rattle.std.proofs.Common.{◌≡◌, ◌⊎◌, ◌≤◌, ◌<◌, ◌+◌, ℕ, length, slice_index}
use Rattle.jp_disk.proofs.tear.land_write.Given as goal

abbrev pub invariant-loop-k : goal.invariant-loop-k
invariant-loop-k l = record {
  size : length l.image.items ≡ length l.fn.image.items;
  others : (place : ℕ) → (place < l.start) ⊎ (l.start + length l.bytes ≤ place) → slice_index l.image.items place ≡ slice_index l.fn.image.items place;
}
