-- The statements of this crate, and their frames.
use Rattle.std.specs.Prelude.{Bool, true, false}
use Rattle.model_syntax.specs.declared.node.NodeForm.{NodeForm}
use Rattle.model_syntax.specs.declared.node.NodeForm.TheVariants as form
use Rattle.model_run.specs.declared.frame.FrameKind.{FrameKind}
use Rattle.model_run.specs.declared.frame.FrameKind.TheVariants as kind

abbrev pub starts_here : NodeForm → Bool
starts_here (form.Declare x) = true
starts_here (form.Assign sign) = true
starts_here form.Increment = true
starts_here form.Decrement = true
starts_here f = false

abbrev pub goes_on_here : FrameKind → Bool
goes_on_here kind.DeclareValue = true
goes_on_here kind.TargetReceiver = true
goes_on_here kind.TargetIndex = true
goes_on_here kind.AssignValue = true
goes_on_here d = false
