use Rattle.std.proofs.Common.{arith}
use Rattle.flow_graph.proofs.Numbering.{numbered_more}
use Rattle.flow_graph.proofs.graph.Graph.push.Goals as goal

pub invariant_of-self-2 : goal.invariant_of-self-2
invariant_of-self-2 c =
    numbered_more c.self.inside.nodes.items c.push.new.self.items _ c.self.invariant
    (omega (arith, c.len.ensures, c.self.inside.nodes.ok.0)) c.in_ok-push.ensures.items
