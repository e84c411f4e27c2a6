use Rattle.groovy_expr.proofs.StatementLists.{separated_start, separated_more, separated_end}
use Rattle.groovy_expr.proofs.block.skip_separators.Goals as goal

pub loop-end-init : goal.loop-end-init
loop-end-init c = separated_start _ _

pub loop-end-preserved : goal.loop-end-preserved
loop-end-preserved c = separated_more c.loop-end.invariant (cc)

pub returns : goal.returns
returns c = separated_end c.loop-end.invariant (cc)
