use Rattle.std.proofs.Common.{◌∙◌, ◌^◌, List, ℕ, ap, arith, subst, sym}
use Rattle.cps_frames.specs.Moves.{ComesTo}
use Rattle.cps_frames.specs.Standing.{standing}
use Rattle.step_arguments.specs.declared.bound.Bound.{Bound}
use Rattle.step_arguments.specs.declared.bound.Bound.TheVariants as bound
use Rattle.step_library.specs.Beginning.{bound_says}
use Rattle.step_library.proofs.beginning.begin_bound.Goals as goal

pub returns-in-Println : goal.returns-in-Println
returns-in-Println c = subst (λ (b : Bound). ComesTo c.args.node (2 ^ 66) (λ sh a. bound_says a c.args.node c.args.env b) (standing c.args.shared.now c.args.state.now) c.last_line.result (standing c.last_line.new.shared c.args.state.now)) (ap (λ (t : List ℕ). bound.Println t) c.as_slice.ensures ∙ sym c.in-Println.is) (c.last_line.ensures c.args.state.now c.args.node (2 ^ 66) (omega arith))

pub returns-in-Echo : goal.returns-in-Echo
returns-in-Echo c = subst (λ (b : Bound). ComesTo c.args.node (2 ^ 66) (λ sh a. bound_says a c.args.node c.args.env b) (standing c.args.shared.now c.args.state.now) c.echo.result (standing c.echo.new.shared c.echo.new.state)) (ap (λ (t : List ℕ). bound.Echo t) c.as_slice-in-Echo.ensures ∙ sym c.in-Echo.is) (c.echo.ensures c.args.node (2 ^ 66) (omega arith))

pub returns-in-Error : goal.returns-in-Error
returns-in-Error c = subst (λ (b : Bound). ComesTo c.args.node (2 ^ 66) (λ sh a. bound_says a c.args.node c.args.env b) (standing c.args.shared.now c.args.state.now) c.error.result (standing c.error.new.shared c.error.new.state)) (sym c.in-Error.is) (c.error.ensures c.args.node (2 ^ 66) (omega arith))

pub returns-in-MakeUnstable : goal.returns-in-MakeUnstable
returns-in-MakeUnstable c = subst (λ (b : Bound). ComesTo c.args.node (2 ^ 66) (λ sh a. bound_says a c.args.node c.args.env b) (standing c.args.shared.now c.args.state.now) c.make_unstable.result (standing c.make_unstable.new.shared c.make_unstable.new.state)) (ap (λ (t : List ℕ). bound.MakeUnstable t) c.as_slice-in-MakeUnstable.ensures ∙ sym c.in-MakeUnstable.is) (c.make_unstable.ensures c.args.node (2 ^ 66) (omega arith))

pub returns-in-Stage : goal.returns-in-Stage
returns-in-Stage c = subst (λ (b : Bound). ComesTo c.args.node (2 ^ 66) (λ sh a. bound_says a c.args.node c.args.env b) (standing c.args.shared.now c.args.state.now) c.stage.result (standing c.stage.new.shared c.stage.new.state)) (ap (λ (t : List ℕ). bound.Stage t c.in-Stage.body) c.as_slice-in-Stage.ensures ∙ sym c.in-Stage.is) (c.stage.ensures (2 ^ 66) (omega arith))

pub returns-in-CatchError : goal.returns-in-CatchError
returns-in-CatchError c = subst (λ (b : Bound). ComesTo c.args.node (2 ^ 66) (λ sh a. bound_says a c.args.node c.args.env b) (standing c.args.shared.now c.args.state.now) c.catch_error.result (standing c.catch_error.new.shared c.catch_error.new.state)) (sym c.in-CatchError.is) (c.catch_error.ensures (2 ^ 66) (omega arith))

pub returns-in-Retry : goal.returns-in-Retry
returns-in-Retry c = subst (λ (b : Bound). ComesTo c.args.node (2 ^ 66) (λ sh a. bound_says a c.args.node c.args.env b) (standing c.args.shared.now c.args.state.now) c.retry.result (standing c.retry.new.shared c.retry.new.state)) (sym c.in-Retry.is) (c.retry.ensures (2 ^ 66) (omega arith))

pub returns-in-Node : goal.returns-in-Node
returns-in-Node c = subst (λ (b : Bound). ComesTo c.args.node (2 ^ 66) (λ sh a. bound_says a c.args.node c.args.env b) (standing c.args.shared.now c.args.state.now) c.node_step.result (standing c.node_step.new.shared c.node_step.new.state)) (sym c.in-Node.is) (c.node_step.ensures)

pub returns-in-Dir : goal.returns-in-Dir
returns-in-Dir c = subst (λ (b : Bound). ComesTo c.args.node (2 ^ 66) (λ sh a. bound_says a c.args.node c.args.env b) (standing c.args.shared.now c.args.state.now) c.dir.result (standing c.dir.new.shared c.dir.new.state)) (sym c.in-Dir.is) (c.dir.ensures (2 ^ 66) (omega arith))

pub returns-in-WithEnv : goal.returns-in-WithEnv
returns-in-WithEnv c = subst (λ (b : Bound). ComesTo c.args.node (2 ^ 66) (λ sh a. bound_says a c.args.node c.args.env b) (standing c.args.shared.now c.args.state.now) c.with_env.result (standing c.with_env.new.shared c.with_env.new.state)) (sym c.in-WithEnv.is) (c.with_env.ensures (2 ^ 66) (omega arith))

pub returns-in-Sh : goal.returns-in-Sh
returns-in-Sh c = subst (λ (b : Bound). ComesTo c.args.node (2 ^ 66) (λ sh a. bound_says a c.args.node c.args.env b) (standing c.args.shared.now c.args.state.now) c.sh.result (standing c.sh.new.shared c.sh.new.state)) (sym c.in-Sh.is) (c.sh.ensures)

pub returns-in-Input : goal.returns-in-Input
returns-in-Input c = subst (λ (b : Bound). ComesTo c.args.node (2 ^ 66) (λ sh a. bound_says a c.args.node c.args.env b) (standing c.args.shared.now c.args.state.now) c.input.result (standing c.input.new.shared c.input.new.state)) (ap (λ (t : List ℕ). bound.Input t c.in-Input.ok c.in-Input.id) c.as_slice-in-Input.ensures ∙ sym c.in-Input.is) (c.input.ensures)

pub returns-in-Parallel : goal.returns-in-Parallel
returns-in-Parallel c = subst (λ (b : Bound). ComesTo c.args.node (2 ^ 66) (λ sh a. bound_says a c.args.node c.args.env b) (standing c.args.shared.now c.args.state.now) c.parallel.result (standing c.parallel.new.shared c.parallel.new.state)) (sym c.in-Parallel.is) (c.parallel.ensures)
