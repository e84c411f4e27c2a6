-- What an owned list gives, one value after another.
use Rattle.std.proofs.Common.{◌≡◌, List, length, sym, ◌∙◌}
use Rattle.std.proofs.lemmas.List.{map-id}
use Rattle.std.specs.Iterator.{Drains}
use Rattle.std.specs.Vec.Iter.{into_iter_items, into_iter_len, into_iter_steps}
use Rattle.std.proofs.lemmas.Iterator.{items_from_drains}
use Rattle.std.proofs.lemmas.Iterator.Adapters.{YieldsList-from_vec}

pub drained : {X Z : Type 0} (s : _) (xs all : List X) → into_iter_items s ≡ all → into_iter_len s ≡ length all → Drains (into_iter_steps {X = X} {Z = Z}) s xs → xs ≡ all
drained s xs all items len d =
    sym (map-id xs) ∙ items_from_drains xs (d.1.0, d.1.1, λ _. (d.0, d.1.2)) (YieldsList-from_vec all items len)
