use Rattle.std.proofs.Common.{[], sym, subst}
use Rattle.std.specs.Map.{keys_of}
use Rattle.model_values.specs.KeyOrder.{IsKeyOrder}
use Rattle.model_values.proofs.KeyOrderLaws.{none_in_order}
use Rattle.model_values.proofs.entries.Entries.new.Goals as goal

pub invariant_of-result : goal.invariant_of-result
invariant_of-result c =
    subst (λ l. IsKeyOrder (keys_of l) c.new-2.result.places.items) (sym c.new.ensures.items) (subst (IsKeyOrder []) (sym c.new-2.ensures) none_in_order)
