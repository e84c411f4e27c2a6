use Rattle.std.proofs.Common.{◌≡◌, ℕ, length, slice_index}
use Rattle.jp_disk.specs.Images.{IsOutside}
use Rattle.jp_disk.specs.Medium.{ranges_of}
use Rattle.jp_disk.proofs.tear.lose_writes.Given as goal

abbrev pub invariant-loop-call : goal.invariant-loop-call
invariant-loop-call l = record {
  size : length l.image.items ≡ length l.fn.image.items;
  others : (place : ℕ) → IsOutside (ranges_of l.calls) place → slice_index l.image.items place ≡ slice_index l.fn.image.items place;
}
