use Rattle.std.proofs.Common.{◌-◌, ap, arith}
use Rattle.model_run.specs.declared.ending.Ending.TheVariants.{Normal}
use Rattle.model_run.specs.declared.frame.FrameKind.TheVariants as kind
use Rattle.model_run.specs.Around.{arity}
use Rattle.model_run.specs.Expressions.{joined}
use Rattle.cps_code.specs.Script.{script_of}
use Rattle.cps_frames.specs.Order.{rank}
use Rattle.cps_frames.specs.Standing.{standing}
use Rattle.cps_frames.proofs.MoveLaws.{to_kind}
use Rattle.cps_operators.proofs.FormLaws.{to_size}
use Rattle.cps_operators.proofs.FrameLaws.{row_stands}
use Rattle.cps_operators.proofs.GrammarLaws.{joined_parts}
use Rattle.cps_operators.proofs.OperandLaws.{first_above}
use Rattle.cps_operators.proofs.joins.joined_first.Goals as goal

pub overflow_sub-left : goal.overflow_sub-left
overflow_sub-left c =
    let a = joined_parts (script_of c.args.shared.now.code) c.requires.may.script c.args.frame.node (row_stands (standing c.args.shared.now c.args.state.now) c.args.frame _ kind.JoinedFirst c.requires.may c.requires.kind) in
    omega (arith, a, c.arity-left.ensures)

pub returns : goal.returns
returns c =
    to_kind (rank c.args.frame) c.args.frame kind.JoinedFirst (Normal c.args.value) _ _ _ c.requires.kind
    (to_size c.args.frame.node (rank c.args.frame) _ (λ sh. arity sh - 1) (λ n sh a. joined a c.args.frame.node sh c.args.frame.env n c.args.value) _ _ _ (ap (λ n. n - 1) c.arity-left.ensures) (c.joined.ensures (rank c.args.frame) (first_above c.args.frame c.requires.kind (c.arity-left.result - 1) (omega arith))))
