-- What a `catch` looks at.
use Rattle.std.specs.Prelude.{Option, Some, None}
use Rattle.model_values.specs.declared.cell.Cell.{Cell}
use Rattle.model_values.specs.declared.cell.Cell.TheVariants.{Thrown as ThrownCell}
use Rattle.model_values.specs.declared.throwable.Class.{Class}

-- the class of a throwable in a cell
abbrev pub class_in : Option Cell → Option Class
class_in (Some (ThrownCell class m)) = Some class
class_in o = None
