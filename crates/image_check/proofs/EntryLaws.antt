-- The entries of a map one after the other.
use Rattle.std.proofs.Common.{◌≡◌, ℕ, zero, suc, List, [], ◌∷◌, drop, Some, ap}
use Rattle.std.specs.Prelude.{◌&&◌, slice_get}
use Rattle.model_values.specs.declared.cell.Cell.{Cell}
use Rattle.model_values.specs.declared.key.Key.{Key}
use Rattle.model_values.specs.declared.value.Value.{Value}
use Rattle.image_check.specs.Cells.{entries_there, is_there}

pub entry_behind : (h : List Cell) (es : List (Key × Value)) (i : ℕ) (e : Key × Value) → slice_get es i ≡ Some e → entries_there h (drop i es) ≡ (is_there h e.1 && entries_there h (drop (suc i) es))
entry_behind h [] i e at = absurd (cc at)
entry_behind h (x ∷ es) zero e at =
    let same : x ≡ e = cc at in
    ap (λ (y : Key × Value). is_there h y.1 && entries_there h es) same
entry_behind h (x ∷ es) (suc i) e at = entry_behind h es i e at
