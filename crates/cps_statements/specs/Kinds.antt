-- The statements of this crate, those of them that are loops, and their frames.
use Rattle.std.specs.Prelude.{Bool, true, false}
use Rattle.model_syntax.specs.declared.node.NodeForm.{NodeForm}
use Rattle.model_syntax.specs.declared.node.NodeForm.TheVariants as form
use Rattle.model_run.specs.declared.frame.FrameKind.{FrameKind}
use Rattle.model_run.specs.declared.frame.FrameKind.TheVariants as kind

abbrev pub starts_here : NodeForm → Bool
starts_here form.Script = true
starts_here form.Block = true
starts_here form.If = true
starts_here form.While = true
starts_here (form.ForEach x) = true
starts_here form.ForSteps = true
starts_here form.Try = true
starts_here form.Evaluate = true
starts_here form.Return = true
starts_here form.Break = true
starts_here form.Continue = true
starts_here form.Throw = true
starts_here f = false

-- a statement, which counts when it begins
abbrev pub begins_here : NodeForm → Bool
begins_here form.Script = false
begins_here form.Block = false
begins_here f = starts_here f

abbrev pub turns_here : NodeForm → Bool
turns_here form.While = true
turns_here (form.ForEach x) = true
turns_here form.ForSteps = true
turns_here f = false

abbrev pub goes_on_here : FrameKind → Bool
goes_on_here kind.Statement = true
goes_on_here kind.IfTest = true
goes_on_here kind.WhileTest = true
goes_on_here kind.WhileBody = true
goes_on_here kind.StepsFirst = true
goes_on_here kind.StepsTest = true
goes_on_here kind.StepsBody = true
goes_on_here kind.StepsNext = true
goes_on_here kind.EachOver = true
goes_on_here kind.EachBody = true
goes_on_here kind.TryBlock = true
goes_on_here kind.TryCatch = true
goes_on_here kind.FinallyAfterValue = true
goes_on_here kind.FinallyAfterThrow = true
goes_on_here kind.FinallyAfterReturn = true
goes_on_here kind.FinallyAfterBreak = true
goes_on_here kind.FinallyAfterContinue = true
goes_on_here kind.ReturnValue = true
goes_on_here kind.ThrowValue = true
goes_on_here d = false
