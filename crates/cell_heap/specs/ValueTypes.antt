-- The names by which the definitions call values, keys, cells and limits.
pub use Rattle.model_values.specs.declared.value.Value.{Value}
pub use Rattle.model_values.specs.declared.value.Value.TheVariants.{Null, Bool as Truth, Int as Whole, Cell as InCell}
pub use Rattle.model_values.specs.declared.key.Key.{Key}
pub use Rattle.model_values.specs.declared.key.Key.TheVariants.{Int as IntKey, Text as TextKey}
pub use Rattle.model_values.specs.declared.cell.Cell.{Cell}
pub use Rattle.model_values.specs.declared.cell.Cell.TheVariants.{Variable, Text as TextCell, List as ListCell, Map as MapCell, Closure as ClosureCell, Thrown as ThrownCell}
pub use Rattle.model_values.specs.declared.limit.LimitKind.{LimitKind}
pub use Rattle.model_values.specs.declared.limit.LimitKind.TheVariants.{TextLength, CollectionSize, Cells, HeapBytes}
