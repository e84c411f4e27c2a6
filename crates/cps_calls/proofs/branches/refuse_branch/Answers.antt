use Rattle.std.proofs.Common.{ap, subst, sym}
use Rattle.std.specs.Prelude.{codes}
use Rattle.model_run.specs.Around.{cells, ended, limits}
use Rattle.model_run.specs.Fitting.{IsFlowNode}
use Rattle.model_run.specs.State.{World}
use Rattle.model_run.specs.Steps.{after_branch}
use Rattle.model_values.specs.Kinds.{closure}
use Rattle.model_values.specs.Throws.{no_method}
use Rattle.cps_frames.specs.Standing.{standing}
use Rattle.cps_calls.proofs.BranchLaws.{met_inside, to_thrown_inside}
use Rattle.cps_calls.proofs.branches.refuse_branch.Goals as goal

pub end_branch-requires-clause-start : goal.end_branch-requires-clause-start
end_branch-requires-clause-start c =
    let thrown = rw c.in-Thrown.is at (c.throw_unfit.ensures c.args.state.now) in
    subst (λ ns. IsFlowNode ns c.args.start) (sym (ap (λ (w : World). w.shared.nodes) thrown.world)) c.requires

pub returns-in-Thrown : goal.returns-in-Thrown
returns-in-Thrown c = λ k r f pos.
    to_thrown_inside k r f (after_branch c.args.start) (λ w. no_method (limits w) (cells w) (closure 0) (codes "call")) c.in-Thrown.cell (standing c.args.shared.now c.args.state.now) (standing c.throw_unfit.new.shared c.args.state.now) _ _ (rw c.in-Thrown.is at (c.throw_unfit.ensures c.args.state.now))
    (c.end_branch.ensures k r pos)

pub returns-in-Limit : goal.returns-in-Limit
returns-in-Limit c = λ k r f pos.
    met_inside k r f (after_branch c.args.start) (λ w. no_method (limits w) (cells w) (closure 0) (codes "call")) (λ y sh a. ended y) c.in-Limit.limit (standing c.args.shared.now c.args.state.now) (standing c.throw_unfit.new.shared c.args.state.now) (rw c.in-Limit.is at (c.throw_unfit.ensures c.args.state.now)) pos
