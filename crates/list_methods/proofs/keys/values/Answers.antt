use Rattle.std.proofs.Common.{length, List, subst, sym}
use Rattle.std.specs.List.{All}
use Rattle.cell_heap.specs.Soundness.{ValueBelow}
use Rattle.cell_heap.specs.ValueTypes.{Value}
use Rattle.list_methods.proofs.KeyLemmas.{values_below}
use Rattle.list_methods.proofs.keys.values.Goals as goal

pub perform-requires : goal.perform-requires
perform-requires c =
    let n = length c.args.heap.now.cells in
    subst (λ (vs : List Value). All (ValueBelow n) vs) (sym c.in_ok-values.ensures) (values_below n c.map_in.result.now c.map_in.ensures.below)
