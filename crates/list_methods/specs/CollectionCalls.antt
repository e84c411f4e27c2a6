-- What a call of a method on a list or a map gives.
use Rattle.std.specs.Prelude.{ℕ, Bool, false, if◌then◌else◌, List, Option, None}
use Rattle.model_values.specs.Cells.{Answer}
use Rattle.model_values.specs.Kinds.{Kind, kind}
use Rattle.model_values.specs.Limits.{product_limits}
use Rattle.model_values.specs.MethodTable.{has_named, own_call}
use Rattle.model_values.specs.declared.cell.Cell.{Cell}
use Rattle.model_values.specs.declared.value.Value.{Value}
use Rattle.text_methods.specs.Calls.{is_collection}

-- what `a.name(args)` gives of a list or a map, by a method that takes no closure
abbrev pub collection_call : List Cell → Value → List ℕ → List Value → ℕ → Option (Answer × ℕ)
collection_call h a name args n = if is_collection (kind h a) then own_call product_limits h a name args n else None

-- whether such a value has a method of this name with so many arguments
abbrev pub has_collection : Kind → List ℕ → ℕ → Bool
has_collection on name n = if is_collection on then has_named on name n else false
