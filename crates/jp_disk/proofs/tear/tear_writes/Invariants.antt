use Rattle.std.proofs.Common.{◌≡◌, ℕ, length, slice_index}
use Rattle.jp_disk.specs.Images.{IsOutside}
use Rattle.jp_disk.specs.Medium.{ranges_of}
use Rattle.jp_disk.proofs.tear.tear_writes.Given as goal

abbrev pub invariant-loop-k : goal.invariant-loop-k
invariant-loop-k l = record {
  size : length l.image.items ≡ length l.fn.image.items;
  others : (place : ℕ) → IsOutside (ranges_of l.calls) place → slice_index l.image.items place ≡ slice_index l.fn.image.items place;
}
