-- The frames of steps.
use Rattle.std.specs.Prelude.{Bool, true, false}
use Rattle.model_run.specs.declared.frame.FrameKind.{FrameKind}
use Rattle.model_run.specs.declared.frame.FrameKind.TheVariants as kind

abbrev pub is_step_frame : FrameKind → Bool
is_step_frame kind.StageBody = true
is_step_frame kind.CatchErrorBody = true
is_step_frame kind.RetryBody = true
is_step_frame kind.NodeWait = true
is_step_frame kind.NodeBody = true
is_step_frame kind.DirBody = true
is_step_frame kind.WithEnvBody = true
is_step_frame kind.ShWait = true
is_step_frame kind.InputWait = true
is_step_frame kind.ParallelWait = true
is_step_frame kind.BranchBody = true
is_step_frame k = false
