use Rattle.std.proofs.Common.{◌<◌, length, slice_get}
use Rattle.model_values.specs.Fitting.{HasMap}
use Rattle.parts_trials.proofs.heaps.map.Given as goal

abbrev pub invariant-loop-number : goal.invariant-loop-number
invariant-loop-number l = (0 < length l.heap.cells) × HasMap (slice_get l.heap.cells 0)
