-- The place of a frame in an image tells how many parts still come.
use Rattle.std.proofs.Common.{◌≡◌, ◌<◌, ℕ, arith}
use Rattle.model_run.specs.declared.frame.FrameKind.{FrameKind}
use Rattle.model_run.specs.declared.frame.FrameKind.TheVariants as kind
use Rattle.model_run.specs.State.{Env}
use Rattle.model_run.specs.Around.{Shape}
use Rattle.model_run.specs.FrameTable.{frame_row}
use Rattle.frame_rows.specs.Places.{left_at}

-- a frame that meets its row is found again from the parts that are done
pub left_found : (k : FrameKind) (sh : Shape) (left : ℕ) (env : Env) → left < (frame_row k sh left env).limit → left_at k sh (frame_row k sh left env).done ≡ left
left_found kind.Statement sh left env lt = omega (arith, lt)
left_found kind.IfTest sh left env lt = omega (arith, lt)
left_found kind.WhileTest sh left env lt = omega (arith, lt)
left_found kind.WhileBody sh left env lt = omega (arith, lt)
left_found kind.StepsFirst sh left env lt = omega (arith, lt)
left_found kind.StepsTest sh left env lt = omega (arith, lt)
left_found kind.StepsBody sh left env lt = omega (arith, lt)
left_found kind.StepsNext sh left env lt = omega (arith, lt)
left_found kind.EachOver sh left env lt = omega (arith, lt)
left_found kind.EachBody sh left env lt = omega (arith, lt)
left_found kind.TryBlock sh left env lt = omega (arith, lt)
left_found kind.TryCatch sh left env lt = omega (arith, lt)
left_found kind.FinallyAfterValue sh left env lt = omega (arith, lt)
left_found kind.FinallyAfterThrow sh left env lt = omega (arith, lt)
left_found kind.FinallyAfterReturn sh left env lt = omega (arith, lt)
left_found kind.FinallyAfterBreak sh left env lt = omega (arith, lt)
left_found kind.FinallyAfterContinue sh left env lt = omega (arith, lt)
left_found kind.DeclareValue sh left env lt = omega (arith, lt)
left_found kind.TargetReceiver sh left env lt = omega (arith, lt)
left_found kind.TargetIndex sh left env lt = omega (arith, lt)
left_found kind.AssignValue sh left env lt = omega (arith, lt)
left_found kind.ReturnValue sh left env lt = omega (arith, lt)
left_found kind.ThrowValue sh left env lt = omega (arith, lt)
left_found kind.Gathered sh left env lt = omega (arith, lt)
left_found kind.GatheredKey sh left env lt = omega (arith, lt)
left_found kind.GroupValue sh left env lt = omega (arith, lt)
left_found kind.ChosenTest sh left env lt = omega (arith, lt)
left_found kind.ChainOperand sh left env lt = omega (arith, lt)
left_found kind.JoinedFirst sh left env lt = omega (arith, lt)
left_found kind.JoinedOperand sh left env lt = omega (arith, lt)
left_found kind.PrefixedOperand sh left env lt = omega (arith, lt)
left_found kind.SuffixedPart sh left env lt = omega (arith, lt)
left_found kind.IndexValue sh left env lt = omega (arith, lt)
left_found kind.CallBody sh left env lt = omega (arith, lt)
left_found kind.WalkTurn sh left env lt = omega (arith, lt)
left_found kind.StageBody sh left env lt = omega (arith, lt)
left_found kind.CatchErrorBody sh left env lt = omega (arith, lt)
left_found kind.RetryBody sh left env lt = omega (arith, lt)
left_found kind.NodeWait sh left env lt = omega (arith, lt)
left_found kind.NodeBody sh left env lt = omega (arith, lt)
left_found kind.DirBody sh left env lt = omega (arith, lt)
left_found kind.WithEnvBody sh left env lt = omega (arith, lt)
left_found kind.ShWait sh left env lt = omega (arith, lt)
left_found kind.InputWait sh left env lt = omega (arith, lt)
left_found kind.ParallelWait sh left env lt = omega (arith, lt)
left_found kind.BranchBody sh left env lt = omega (arith, lt)
