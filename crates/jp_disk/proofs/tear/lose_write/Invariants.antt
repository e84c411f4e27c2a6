use Rattle.std.proofs.Common.{◌≡◌, ◌⊎◌, ◌≤◌, ◌<◌, ℕ, length, slice_index}
use Rattle.jp_disk.proofs.tear.lose_write.Given as goal

abbrev pub invariant-loop-place : goal.invariant-loop-place
invariant-loop-place l = record {
  size : length l.image.items ≡ length l.fn.image.items;
  others : (place : ℕ) → (place < l.start) ⊎ (l.end ≤ place) → slice_index l.image.items place ≡ slice_index l.fn.image.items place;
}
