use Rattle.std.proofs.Common.{◌-◌, length}
use Rattle.groovy_expr.specs.Answers.{kinds}
use Rattle.groovy_expr.proofs.StatementLists.{SeparatedTo}
use Rattle.groovy_expr.proofs.block.skip_separators.Given as goal

abbrev pub invariant-loop-end : goal.invariant-loop-end
invariant-loop-end l = SeparatedTo (kinds l.tokens) l.fn.at l.end

abbrev pub decreases-loop-end : goal.decreases-loop-end
decreases-loop-end l = length l.tokens - l.end
