use Rattle.std.proofs.Common.{◌≡◌, ◌<◌, ℕ, drop, length, slice_index}
use Rattle.jp_disk.specs.Images.{IsOutside}
use Rattle.jp_disk.specs.Medium.{ranges_of}
use Rattle.jp_disk.proofs.memory.steps.copy_written.Given as goal

abbrev pub invariant-loop-call : goal.invariant-loop-call
invariant-loop-call l = record {
  size : length l.copy.items ≡ length l.bytes;
  right : (place : ℕ) → place < length l.bytes → IsOutside (ranges_of (drop l.call-index l.calls)) place → slice_index l.copy.items place ≡ slice_index l.bytes place;
}
