use Rattle.std.proofs.Common.{◌≡◌, ◌⊎◌, ◌≤◌, ◌<◌, ℕ, length, slice_index}
use Rattle.jp_disk.proofs.memory.steps.copy_range.Given as goal

abbrev pub invariant-loop-place : goal.invariant-loop-place
invariant-loop-place l = record {
  size : length l.copy.items ≡ length l.fn.copy.items;
  copied : (place : ℕ) → l.start ≤ place → place < l.place → slice_index l.copy.items place ≡ slice_index l.bytes place;
  others : (place : ℕ) → (place < l.start) ⊎ (l.place ≤ place) → slice_index l.copy.items place ≡ slice_index l.fn.copy.items place;
}
