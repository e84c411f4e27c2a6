use Rattle.std.proofs.Common.{◌∙◌, ap, sym, arith}
use Rattle.model_run.specs.Expressions.{is_and, operands}
use Rattle.cps_frames.specs.Order.{rank}
use Rattle.cps_operators.proofs.OperandLaws.{chain_goes, rank_above, same_truth, to_chain}
use Rattle.cps_operators.proofs.chains.chain_operand.Goals as goal

pub returns-then-holds-is_and : goal.returns-then-holds-is_and
returns-then-holds-is_and c =
    let f = c.args.frame in
    to_chain f c.is_and-is_and.result c.args.value _ _ _ c.requires.kind (omega arith) (c.is_and-is_and.ensures ∙ ap is_and c.kind.ensures)
    (chain_goes c.is_and-is_and.result c.in_ok-holds.holds f.node (rank f) c.args.value (λ sh a. operands a f.node sh f.env f.left) _ _ _ _ c.in_ok-holds.ensures.passes (sym c.in_ok-holds.ensures.truth) (same_truth _ _ c.if-holds-is_and.true)
    (c.operands.ensures (rank f) (rank_above f)))
