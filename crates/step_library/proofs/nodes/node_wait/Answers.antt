use Rattle.std.proofs.Common.{refl, subst, sym, arith}
use Rattle.model_values.specs.Fitting.{HasClosure, IsIn}
use Rattle.model_run.specs.Around.{value_at}
use Rattle.model_run.specs.Nesting.{For_executor}
use Rattle.model_run.specs.State.{seeing}
use Rattle.model_run.specs.Steps.{after_node_wait, held_by, node_held}
use Rattle.model_run.specs.declared.frame.FrameKind.TheVariants as kind
use Rattle.cps_frames.specs.Moves.{ComesTo}
use Rattle.cps_frames.specs.Order.{rank}
use Rattle.cps_frames.specs.Places.{AnswersAt}
use Rattle.cps_frames.specs.Standing.{common_of, setting_of, standing}
use Rattle.cps_frames.proofs.MoveLaws.{to_kind}
use Rattle.step_library.proofs.FrameFacts.{granted_in, is_granted, waits_in}
use Rattle.step_library.proofs.StepMoves.{countable_sound, low_rank}
use Rattle.step_library.proofs.nodes.node_wait.Goals as goal

pub granted-executor-requires : goal.granted-executor-requires
granted-executor-requires c = is_granted (common_of c.args.shared.now) c.args.ending (granted_in (standing c.args.shared.now c.args.state.now) c.args.frame c.args.ending c.requires.may c.requires.kind)

pub value_at-body-requires : goal.value_at-body-requires
value_at-body-requires c = let s = waits_in (standing c.args.shared.now c.args.state.now) c.args.frame c.args.ending c.requires.may c.requires.kind in omega (arith, s.many)

pub node_granted-requires : goal.node_granted-requires
node_granted-requires c = record {
  body = subst (IsIn HasClosure c.args.shared.now.heap.cells) (sym c.value_at-body.ensures) ((waits_in (standing c.args.shared.now c.args.state.now) c.args.frame c.args.ending c.requires.may c.requires.kind).body);
  countable = countable_sound (setting_of c.args.shared.now) (standing c.args.shared.now c.args.state.now) c.requires.may.sound;
  held = subst (AnswersAt (common_of c.args.shared.now) For_executor) c.granted-executor.ensures (granted_in (standing c.args.shared.now c.args.state.now) c.args.frame c.args.ending c.requires.may c.requires.kind);
  executors = c.requires.may.executors;
}

pub returns : goal.returns
returns c =
    let f = c.args.frame in
    let u = (standing c.args.shared.now c.args.state.now) in
    let v = standing c.node_granted.new.shared c.node_granted.new.state in
    to_kind (rank f) f kind.NodeWait c.args.ending _ _ _ c.requires.kind
    (subst (λ e. ComesTo f.node (rank f) (λ sh a. after_node_wait a f.node f.env (value_at 0 f.values) e) u c.node_granted.result v) (sym c.granted-executor.ensures)
    (subst (λ x. ComesTo f.node (rank f) (λ sh a. seeing (λ w. node_held a f.node f.env x w (held_by c.granted-executor.result w.shared.held))) u c.node_granted.result v) c.value_at-body.ensures (c.node_granted.ensures (rank f) (low_rank f kind.NodeWait c.requires.kind refl))))
