use Rattle.std.proofs.Common.{refl, subst, sym, ap}
use Rattle.model_run.specs.Steps.{branch_failed}
use Rattle.model_run.specs.Fitting.{IsFlowNode}
use Rattle.model_run.specs.State.{World}
use Rattle.cps_frames.specs.Standing.{standing}
use Rattle.step_library.proofs.BranchLaws.{still_flow_node}
use Rattle.step_library.proofs.StepMoves.{to_body_end}
use Rattle.step_library.proofs.branches.end_branch.Goals as goal

pub branch_failed-requires-clause-start : goal.branch_failed-requires-clause-start
branch_failed-requires-clause-start c = subst (λ ns. IsFlowNode ns c.args.start) (sym (ap (λ (w : World). w.shared.nodes) c.in_ok-end_body.ensures.made)) (still_flow_node c.args.start c.args.shared.now.graph _ c.requires.start)

pub returns : goal.returns
returns c = λ k r above.
    let s = c.args.start in
    to_body_end k r s s (λ sh a. branch_failed s c.args.ending) _ (standing c.end_body.new.shared c.end_body.new.state) _ _ refl c.in_ok-end_body.ensures
    (c.branch_failed.ensures c.end_body.new.state k r above)
