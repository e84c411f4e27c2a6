use Rattle.std.proofs.Common.{◌∙◌, ap}
use Rattle.model_values.specs.declared.value.Value.TheVariants.{Null}
use Rattle.model_run.specs.StepTable.{is_closure}
use Rattle.step_arguments.proofs.Rests.{split_closure, split_plain}
use Rattle.step_arguments.proofs.Arguments.{closure_kind}
use Rattle.step_arguments.proofs.given.split_last.Goals as goal

pub returns-then-is_closure : goal.returns-then-is_closure
returns-then-is_closure c = record { closure = closure_kind c.args.heap.now.cells _ (c.if-is_closure.ensures ∙ ap is_closure c.kind_of.ensures.kind); split = split_closure c.args.heap.now.cells c.args.arguments.now Null c.if-count-eq0.false (c.if-is_closure.ensures ∙ ap is_closure c.kind_of.ensures.kind) }

pub returns-else-is_closure : goal.returns-else-is_closure
returns-else-is_closure c = record { closure = tt; split = split_plain c.args.heap.now.cells c.args.arguments.now Null c.if-count-eq0.false (c.if-is_closure.ensures ∙ ap is_closure c.kind_of.ensures.kind) }
