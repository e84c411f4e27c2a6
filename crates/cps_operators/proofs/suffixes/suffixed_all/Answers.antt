use Rattle.std.proofs.Common.{◌-◌, ◌^◌, [], ap, arith}
use Rattle.model_run.specs.declared.ending.Entry.TheVariants.{First}
use Rattle.model_run.specs.declared.frame.FrameKind.TheVariants as kind
use Rattle.model_run.specs.Around.{arity, frame, under}
use Rattle.model_run.specs.Forms.{after}
use Rattle.cps_operators.proofs.FormLaws.{to_size}
use Rattle.cps_operators.proofs.suffixes.suffixed_all.Goals as goal

pub returns : goal.returns
returns c =
    to_size c.args.node (2 ^ 66) _ (λ sh. arity sh - 1) (λ i sh a. under a (frame kind.SuffixedPart c.args.node i c.args.env []) (after (frame kind.SuffixedPart c.args.node i c.args.env []) sh a) First 0 c.args.env) _ _ _
    (ap (λ n. n - 1) c.arity-left.ensures) (c.inside.ensures (2 ^ 66) (omega arith))
