use Rattle.std.proofs.Common.{[], ◌∷◌}
use Rattle.model_run.specs.Around.{frame, whole}
use Rattle.model_run.specs.FlowNodes.{next_node}
use Rattle.model_run.specs.Steps.{after_retry, run_body}
use Rattle.model_run.specs.declared.frame.FrameKind.TheVariants.{RetryBody}
use Rattle.cps_frames.specs.Standing.{standing}
use Rattle.step_library.proofs.StepMoves.{to_calling, to_kept}
use Rattle.step_library.proofs.retry.begin_try.Goals as goal

pub returns : goal.returns
returns c = λ r pos.
    let u = standing c.args.shared.now c.args.state.now in
    to_calling c.args.node r c.args.body.now c.in_ok-callee.callee (λ w x sh a. run_body a (frame RetryBody c.args.node 0 c.args.env (whole c.args.start ∷ whole (next_node w) ∷ whole c.args.more ∷ c.args.body.now ∷ [])) (after_retry a c.args.node c.args.env c.args.start c.args.body.now c.args.more (next_node w)) [] x) u _ _ (c.in_ok-callee.ensures u.world)
    (to_kept c.args.node r RetryBody c.args.env c.in_ok-values.values (whole c.args.start ∷ whole (next_node u.world) ∷ whole c.args.more ∷ c.args.body.now ∷ []) [] c.in_ok-callee.callee u _ _ c.in_ok-values.ensures (c.run_body.ensures r pos))
