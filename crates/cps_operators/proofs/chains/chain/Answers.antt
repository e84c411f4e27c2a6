use Rattle.std.proofs.Common.{◌^◌, arith, refl}
use Rattle.std.specs.Prelude.{Ok}
use Rattle.model_values.specs.declared.value.Value.TheVariants.{Null}
use Rattle.model_run.specs.declared.ending.Ending.TheVariants.{Normal}
use Rattle.model_run.specs.Around.{arity}
use Rattle.model_run.specs.Expressions.{operands}
use Rattle.cps_frames.specs.Standing.{standing}
use Rattle.cps_frames.specs.declared.thread.Move.TheVariants.{Ends}
use Rattle.cps_frames.proofs.MoveLaws.{comes_ended}
use Rattle.cps_operators.proofs.FormLaws.{to_none, to_size}
use Rattle.cps_operators.proofs.chains.chain.Goals as goal

pub returns-then-left-eq0 : goal.returns-then-left-eq0
returns-then-left-eq0 c =
    let k = c.args.node in
    let u = standing c.args.shared.now c.args.state.now in
    to_size k (2 ^ 66) c.arity-left.result arity (λ n sh a. operands a k sh c.args.env n) u (Ok (Ends (Normal Null))) u c.arity-left.ensures
    (to_none k (2 ^ 66) c.arity-left.result (λ n sh a. operands a k sh c.args.env n) u (Ok (Ends (Normal Null))) u c.if-left-eq0.true
    (comes_ended k (2 ^ 66) (λ sh a. operands a k sh c.args.env 0) u (Normal Null) (omega arith) (λ a rs. refl)))

pub returns : goal.returns
returns c = to_size c.args.node (2 ^ 66) _ arity (λ n sh a. operands a c.args.node sh c.args.env n) _ _ _ c.arity-left.ensures (c.operands.ensures (2 ^ 66) (omega arith))
