use Rattle.std.proofs.Common.{◌<◌, List, ◌∷◌, [], length, slice_get, slice_set, sym, subst, arith}
use Rattle.cell_heap.specs.Region.{Region}
use Rattle.cell_heap.specs.ValueTypes.{Cell, Key, Value, MapCell}
use Rattle.model_values.specs.Fitting.{HasMap}
use Rattle.parts_trials.proofs.heaps.map.Goals as goal

-- The first cell is a map behind a map that was put there.
put_first : (cs : List Cell) (es : List (Key × Value)) → 0 < length cs → (0 < length (slice_set cs 0 (MapCell es))) × HasMap (slice_get (slice_set cs 0 (MapCell es)) 0)
put_first [] es h = omega arith
put_first (c ∷ cs) es h = (omega arith, tt)

pub loop-number-preserved : goal.loop-number-preserved
loop-number-preserved c = subst (λ (r : Region). (0 < length r.cells) × HasMap (slice_get r.cells 0)) (sym c.in_ok-map_put.ensures.put) (put_first c.loop-number.heap.cells _ c.loop-number.invariant.0)
