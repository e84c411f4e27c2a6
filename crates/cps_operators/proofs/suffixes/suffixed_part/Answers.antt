use Rattle.std.proofs.Common.{◌-◌, [], arith}
use Rattle.model_run.specs.declared.ending.Ending.TheVariants.{Normal}
use Rattle.model_run.specs.declared.ending.Entry.TheVariants.{On}
use Rattle.model_run.specs.declared.frame.FrameKind.TheVariants as kind
use Rattle.model_run.specs.Around.{frame, under}
use Rattle.model_run.specs.Expressions.{suffixed}
use Rattle.model_run.specs.Forms.{after}
use Rattle.model_run.specs.FrameTable.{current}
use Rattle.cps_frames.specs.Order.{rank}
use Rattle.cps_frames.proofs.MoveLaws.{to_kind}
use Rattle.cps_operators.proofs.FormLaws.{to_more, to_size}
use Rattle.cps_operators.proofs.OperandLaws.{rank_above}
use Rattle.cps_operators.proofs.suffixes.suffixed_part.Goals as goal

pub returns : goal.returns
returns c =
    let g = c.args.frame in
    let f = frame kind.SuffixedPart g.node (g.left - 1) g.env [] in
    to_kind (rank g) g kind.SuffixedPart (Normal c.args.value) _ _ _ c.requires.kind
    (to_more g.node (rank g) g.left (λ n sh a. suffixed a g.node sh g.env n c.args.value) _ _ _ (omega arith)
    (to_size g.node (rank g) _ (λ sh. current sh (g.left - 1)) (λ i sh a. under a f (after f sh a) (On c.args.value) i g.env) _ _ _ c.current-at.ensures.current (c.inside.ensures (rank g) (omega (arith, rank_above g)))))
