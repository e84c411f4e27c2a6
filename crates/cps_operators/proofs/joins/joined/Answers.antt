use Rattle.std.proofs.Common.{◌-◌, [], ◌∷◌, arith}
use Rattle.model_run.specs.declared.ending.Entry.TheVariants.{Inside}
use Rattle.model_run.specs.declared.frame.FrameKind.TheVariants as kind
use Rattle.model_run.specs.Around.{frame, under}
use Rattle.model_run.specs.Expressions.{joined}
use Rattle.model_run.specs.FrameTable.{current}
use Rattle.model_run.specs.Forms.{after}
use Rattle.cps_operators.proofs.FormLaws.{to_more, to_size, with_values}
use Rattle.cps_operators.proofs.joins.joined.Goals as goal

pub returns : goal.returns
returns c = λ r lt.
    let f = frame kind.JoinedOperand c.args.node (c.args.left - 1) c.args.env (c.args.value ∷ []) in
    to_more c.args.node r c.args.left (λ n sh a. joined a c.args.node sh c.args.env n c.args.value) _ _ _ (omega arith)
    (to_size c.args.node r _ (λ sh. current sh (c.args.left - 1)) (λ i sh a. under a f (after f sh a) (Inside 0) i c.args.env) _ _ _ c.current-at.ensures.current
    (with_values _ _ _ _ _ _ _ _ _ _ _ _ c.in_ok-kept.ensures c.inside_with.ensures r (omega (arith, lt))))
