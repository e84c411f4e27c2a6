use Rattle.std.proofs.Common.{◌-◌, [], arith}
use Rattle.model_run.specs.declared.ending.Entry.TheVariants.{First}
use Rattle.model_run.specs.declared.frame.FrameKind.TheVariants as kind
use Rattle.model_run.specs.Around.{frame, under}
use Rattle.model_run.specs.Expressions.{operands}
use Rattle.model_run.specs.FrameTable.{current}
use Rattle.model_run.specs.Forms.{after}
use Rattle.cps_operators.proofs.FormLaws.{to_more, to_size}
use Rattle.cps_operators.proofs.chains.operands.Goals as goal

pub returns : goal.returns
returns c = λ r lt.
    let f = frame kind.ChainOperand c.args.node (c.args.left - 1) c.args.env [] in
    to_more c.args.node r c.args.left (λ n sh a. operands a c.args.node sh c.args.env n) _ _ _ c.requires.some
    (to_size c.args.node r _ (λ sh. current sh (c.args.left - 1)) (λ i sh a. under a f (after f sh a) First i c.args.env) _ _ _ c.current-at.ensures.current (c.inside.ensures r (omega (arith, lt, c.requires.some))))
