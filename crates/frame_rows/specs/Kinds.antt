-- The kinds of frames by their numbers in an image (this product's own).
use Rattle.std.specs.Prelude.{◌≡◌, ℕ, List, [], ◌∷◌, Some, refl, slice_get}
use Rattle.model_run.specs.declared.frame.FrameKind.{FrameKind}
use Rattle.model_run.specs.declared.frame.FrameKind.TheVariants as kind

-- in the order of their numbers, from 0 on
abbrev pub kinds : List FrameKind
kinds =
    kind.Statement ∷ kind.IfTest ∷ kind.WhileTest ∷ kind.WhileBody ∷ kind.StepsFirst ∷ kind.StepsTest ∷
    kind.StepsBody ∷ kind.StepsNext ∷ kind.EachOver ∷ kind.EachBody ∷ kind.TryBlock ∷ kind.TryCatch ∷
    kind.FinallyAfterValue ∷ kind.FinallyAfterThrow ∷ kind.FinallyAfterReturn ∷ kind.FinallyAfterBreak ∷
    kind.FinallyAfterContinue ∷ kind.DeclareValue ∷ kind.TargetReceiver ∷ kind.TargetIndex ∷ kind.AssignValue ∷
    kind.ReturnValue ∷ kind.ThrowValue ∷ kind.Gathered ∷ kind.GatheredKey ∷ kind.GroupValue ∷ kind.ChosenTest ∷
    kind.ChainOperand ∷ kind.JoinedFirst ∷ kind.JoinedOperand ∷ kind.PrefixedOperand ∷ kind.SuffixedPart ∷
    kind.IndexValue ∷ kind.CallBody ∷ kind.WalkTurn ∷ kind.StageBody ∷ kind.CatchErrorBody ∷ kind.RetryBody ∷
    kind.NodeWait ∷ kind.NodeBody ∷ kind.DirBody ∷ kind.WithEnvBody ∷ kind.ShWait ∷ kind.InputWait ∷
    kind.ParallelWait ∷ kind.BranchBody ∷ []

abbrev pub kind_number : FrameKind → ℕ
kind_number kind.Statement = 0
kind_number kind.IfTest = 1
kind_number kind.WhileTest = 2
kind_number kind.WhileBody = 3
kind_number kind.StepsFirst = 4
kind_number kind.StepsTest = 5
kind_number kind.StepsBody = 6
kind_number kind.StepsNext = 7
kind_number kind.EachOver = 8
kind_number kind.EachBody = 9
kind_number kind.TryBlock = 10
kind_number kind.TryCatch = 11
kind_number kind.FinallyAfterValue = 12
kind_number kind.FinallyAfterThrow = 13
kind_number kind.FinallyAfterReturn = 14
kind_number kind.FinallyAfterBreak = 15
kind_number kind.FinallyAfterContinue = 16
kind_number kind.DeclareValue = 17
kind_number kind.TargetReceiver = 18
kind_number kind.TargetIndex = 19
kind_number kind.AssignValue = 20
kind_number kind.ReturnValue = 21
kind_number kind.ThrowValue = 22
kind_number kind.Gathered = 23
kind_number kind.GatheredKey = 24
kind_number kind.GroupValue = 25
kind_number kind.ChosenTest = 26
kind_number kind.ChainOperand = 27
kind_number kind.JoinedFirst = 28
kind_number kind.JoinedOperand = 29
kind_number kind.PrefixedOperand = 30
kind_number kind.SuffixedPart = 31
kind_number kind.IndexValue = 32
kind_number kind.CallBody = 33
kind_number kind.WalkTurn = 34
kind_number kind.StageBody = 35
kind_number kind.CatchErrorBody = 36
kind_number kind.RetryBody = 37
kind_number kind.NodeWait = 38
kind_number kind.NodeBody = 39
kind_number kind.DirBody = 40
kind_number kind.WithEnvBody = 41
kind_number kind.ShWait = 42
kind_number kind.InputWait = 43
kind_number kind.ParallelWait = 44
kind_number kind.BranchBody = 45

-- each kind is found by its number
pub kind_found : (k : FrameKind) → slice_get kinds (kind_number k) ≡ Some k
kind_found kind.Statement = refl
kind_found kind.IfTest = refl
kind_found kind.WhileTest = refl
kind_found kind.WhileBody = refl
kind_found kind.StepsFirst = refl
kind_found kind.StepsTest = refl
kind_found kind.StepsBody = refl
kind_found kind.StepsNext = refl
kind_found kind.EachOver = refl
kind_found kind.EachBody = refl
kind_found kind.TryBlock = refl
kind_found kind.TryCatch = refl
kind_found kind.FinallyAfterValue = refl
kind_found kind.FinallyAfterThrow = refl
kind_found kind.FinallyAfterReturn = refl
kind_found kind.FinallyAfterBreak = refl
kind_found kind.FinallyAfterContinue = refl
kind_found kind.DeclareValue = refl
kind_found kind.TargetReceiver = refl
kind_found kind.TargetIndex = refl
kind_found kind.AssignValue = refl
kind_found kind.ReturnValue = refl
kind_found kind.ThrowValue = refl
kind_found kind.Gathered = refl
kind_found kind.GatheredKey = refl
kind_found kind.GroupValue = refl
kind_found kind.ChosenTest = refl
kind_found kind.ChainOperand = refl
kind_found kind.JoinedFirst = refl
kind_found kind.JoinedOperand = refl
kind_found kind.PrefixedOperand = refl
kind_found kind.SuffixedPart = refl
kind_found kind.IndexValue = refl
kind_found kind.CallBody = refl
kind_found kind.WalkTurn = refl
kind_found kind.StageBody = refl
kind_found kind.CatchErrorBody = refl
kind_found kind.RetryBody = refl
kind_found kind.NodeWait = refl
kind_found kind.NodeBody = refl
kind_found kind.DirBody = refl
kind_found kind.WithEnvBody = refl
kind_found kind.ShWait = refl
kind_found kind.InputWait = refl
kind_found kind.ParallelWait = refl
kind_found kind.BranchBody = refl
