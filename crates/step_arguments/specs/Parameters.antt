-- What the parameters of a step take, as the program has it.
use Rattle.std.specs.Prelude.{Bool, true, false}
use Rattle.model_run.specs.StepTable as table
use Rattle.model_run.specs.declared.step.Step.{Step}
use Rattle.model_run.specs.declared.step.Step.TheVariants.{CatchError, Node}
use Rattle.step_arguments.specs.declared.parameters.Sort.{Sort}
use Rattle.step_arguments.specs.declared.parameters.Sort.TheVariants as sort

abbrev pub sort_seen : Sort → table.Sort
sort_seen sort.AnyText = table.AnyText
sort_seen sort.Identifier = table.Identifier
sort_seen sort.Positive = table.Positive
sort_seen sort.Flag = table.Flag
sort_seen sort.ResultName = table.ResultName
sort_seen sort.Overrides = table.Overrides
sort_seen sort.Closures = table.Closures

-- whether the main parameter has to be given
abbrev pub needs_main : Step → Bool
needs_main CatchError = false
needs_main Node = false
needs_main s = true
