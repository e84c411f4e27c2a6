use Rattle.std.proofs.Common.{◌∙◌, ◌++◌, ap, List}
use Rattle.model_run.specs.declared.flow.FlowNode.{FlowNode}
use Rattle.model_run.specs.GraphText.{node_line, graph_text}
use Rattle.flow_graph.proofs.Pieces.{put-step, put-done}
use Rattle.flow_graph.proofs.graph.Graph.text.Goals as goal

pub loop-node-preserved : goal.loop-node-preserved
loop-node-preserved c =
    put-step node_line _ _ _ c.node-item.result c.loop-node-test.true
    (c.in_ok-put_line.ensures ∙ ap (λ (n : FlowNode). c.loop-node.text ++ node_line n) c.node-item.is)
    c.loop-node.invariant

pub returns : goal.returns
returns c =
    c.from_vec.ensures ∙ c.into_vec.ensures
    ∙ put-done node_line c.deref-node-items.result.now _ _ c.loop-node-test.false c.loop-node.invariant
    ∙ ap (λ (ns : List FlowNode). graph_text ns) (c.deref-node-items.ensures.value ∙ c.self.view_is)
