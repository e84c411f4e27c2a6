-- The names by which the tables call the types of this crate.
pub use Rattle.model_values.specs.declared.value.Value.{Value}
pub use Rattle.model_values.specs.declared.value.Value.TheVariants.{Null, Bool as Truth, Int as Whole, Cell as InCell}
pub use Rattle.model_values.specs.declared.key.Key.{Key}
pub use Rattle.model_values.specs.declared.key.Key.TheVariants.{Int as IntKey, Text as TextKey}
pub use Rattle.model_values.specs.declared.cell.Cell.{Cell}
pub use Rattle.model_values.specs.declared.cell.Cell.TheVariants.{Variable, Text as TextCell, List as ListCell, Map as MapCell, Closure as ClosureCell, Thrown as ThrownCell}
pub use Rattle.model_values.specs.declared.throwable.Class.{Class}
pub use Rattle.model_values.specs.declared.throwable.Class.TheVariants.{Abort, FlowInterrupted, Arithmetic, MissingProperty, MissingMethod, NullPointer, IllegalArgument, IndexOutOfBounds, NumberFormat, NoSuchElement, MissingContextVariable, Exception, RuntimeException, NoSuchMethodError, Error}
pub use Rattle.model_values.specs.declared.limit.LimitKind.{LimitKind}
pub use Rattle.model_values.specs.declared.limit.LimitKind.TheVariants.{NodesEvaluated, CallDepth, TextLength, CollectionSize, ValueDepth, Cells, HeapBytes, FlowNodes, LogSize, GreenThreads}
pub use Rattle.model_values.specs.declared.operator.Op.{Op}
pub use Rattle.model_values.specs.declared.operator.Op.TheVariants.{Plus, Minus, Times, Mod, Less, LessEqual, Greater, GreaterEqual, Range, GetAt, Negative, Positive}
