use Rattle.std.proofs.Common.{◌∙◌, ◌≡◌, None, ap, nat_eq}
use Rattle.model_values.specs.declared.value.Value.TheVariants.{Null}
use Rattle.model_run.specs.Around.{ended}
use Rattle.model_run.specs.Callables.{calling, closure_of}
use Rattle.model_run.specs.FlowNodes.{logging}
use Rattle.model_run.specs.State.{changed, seeing}
use Rattle.model_run.specs.Grants.{executor_of}
use Rattle.model_run.specs.Steps.{entered_node, held_by, node_body, node_held, running_line}
use Rattle.cps_frames.specs.Standing.{standing, state}
use Rattle.cps_frames.proofs.MoveLaws.{to_as}
use Rattle.step_library.proofs.PlaceLaws.{find_all, no_executor, node_there}
use Rattle.step_library.proofs.nodes.node_granted.Goals as goal

pub unreachable-requires-in_default-executor_of : goal.unreachable-requires-in_default-executor_of
unreachable-requires-in_default-executor_of c = find_all (λ h. executor_of c.args.shared.now.site h.executor ≡ None → ⊥) (λ h. nat_eq h.executor c.args.executor) c.args.shared.now.held c.in-Some.held (c.in-Some.ensures ∙ ap (held_by c.args.executor) c.as_slice.ensures) c.requires.executors (no_executor c.executor_of.result (executor_of c.args.shared.now.site c.in-Some.held.executor) c.executor_of.ensures c.in_default-executor_of.is)

pub returns : goal.returns
returns c = λ r pos.
    let u = (standing c.args.shared.now c.args.state.now) in
    to_as c.args.node r (λ sh a. seeing (λ w. node_held a c.args.node c.args.env c.args.body.now w (held_by c.args.executor w.shared.held))) (λ sh a. logging c.in_ok-line.line (changed (entered_node c.in-Some.held.request c.in_ok-workspace.workspace) (calling (closure_of u.world c.args.body.now) (ended Null) (node_body a c.args.node c.args.env u.world)))) u _ _
    (λ a rs. node_there a c.args.node c.args.env c.args.body.now u.world (held_by c.args.executor u.world.shared.held) c.in-Some.held c.in-Some-executor_of.executor.now c.in_ok-workspace.workspace c.in_ok-line.line (state u.world rs) (c.in-Some.ensures ∙ ap (held_by c.args.executor) c.as_slice.ensures) c.in-Some-executor_of.ensures c.in_ok-workspace.ensures (c.in_ok-line.ensures ∙ ap (running_line c.in-Some-executor_of.executor.now) c.as_slice-2.ensures))
    (c.begin_node.ensures r pos)
