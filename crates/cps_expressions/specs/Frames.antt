-- The frames of expressions.
use Rattle.std.specs.Prelude.{Bool, true, false}
use Rattle.model_run.specs.declared.frame.FrameKind.{FrameKind}
use Rattle.model_run.specs.declared.frame.FrameKind.TheVariants as kind

abbrev pub is_expression_frame : FrameKind → Bool
is_expression_frame kind.Gathered = true
is_expression_frame kind.GatheredKey = true
is_expression_frame kind.GroupValue = true
is_expression_frame kind.ChosenTest = true
is_expression_frame kind.ChainOperand = true
is_expression_frame kind.JoinedFirst = true
is_expression_frame kind.JoinedOperand = true
is_expression_frame kind.PrefixedOperand = true
is_expression_frame kind.SuffixedPart = true
is_expression_frame kind.IndexValue = true
is_expression_frame d = false
