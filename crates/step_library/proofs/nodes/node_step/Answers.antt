use Rattle.std.proofs.Common.{◌∙◌, ◌∷◌, ◌++◌, [], ◌^◌, List, ap, subst, arith}
use Rattle.std.specs.Prelude.{codes}
use Rattle.model_values.specs.declared.value.Value.{Value}
use Rattle.model_run.specs.Around.{frame, value_at}
use Rattle.model_run.specs.FlowNodes.{pipeline}
use Rattle.model_run.specs.State.{seeing}
use Rattle.model_run.specs.Steps.{after_node_wait, waiting_for}
use Rattle.model_run.specs.declared.flow.NodeKind.TheVariants.{Block}
use Rattle.model_run.specs.declared.frame.FrameKind.TheVariants.{NodeWait}
use Rattle.model_run.specs.declared.request.Request.TheVariants.{Node as NodeRequest}
use Rattle.cps_frames.specs.Moves.{ComesTo}
use Rattle.cps_frames.specs.Standing.{standing}
use Rattle.step_library.proofs.StepMoves.{to_note}
use Rattle.step_library.proofs.nodes.node_step.Goals as goal

pub returns : goal.returns
returns c =
    let u = standing c.note_block.new.shared c.note_block.new.state in
    let v = standing c.wait_for.new.shared c.wait_for.new.state in
    let kept = c.in_ok-push.ensures.pushed ∙ ap (λ (xs : List Value). xs ++ c.args.body.now ∷ []) c.new-values.ensures in
    to_note c.args.node (2 ^ 66) Block (codes "node") 0 (pipeline (codes "node")) (λ sh a. seeing (λ w. waiting_for (NodeRequest c.args.label) (frame NodeWait c.args.node 0 c.args.env (c.args.body.now ∷ [])) (after_node_wait a c.args.node c.args.env c.args.body.now) w)) _ u _ _ c.in_ok-note_block.ensures
    (subst (λ (vs : List Value). ComesTo c.args.node (2 ^ 66) (λ sh a. seeing (waiting_for (NodeRequest c.args.label) (frame NodeWait c.args.node 0 c.args.env vs) (after_node_wait a c.args.node c.args.env (value_at 0 vs)))) u c.wait_for.result v) kept (c.wait_for.ensures (2 ^ 66) (omega arith)))
