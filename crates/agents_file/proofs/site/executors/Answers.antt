use Rattle.std.proofs.Common.{arith, length, length-append, ap}
use Rattle.agents_file.specs.Agents.{some_executors}
use Rattle.agents_file.proofs.AgentLemmas.{drop_here, sum_here}
use Rattle.agents_file.proofs.SiteLemmas.{agents_more, length-some_executors}
use Rattle.agents_file.proofs.site.executors.Goals as goal

pub loop-agent-preserved : goal.loop-agent-preserved
loop-agent-preserved c =
    let agents = c.args.agents.now in
    let i = c.loop-agent.agent-index in
    let agent = c.agent-item.result in
    let old = c.loop-agent.executors in
    record {
      room =
          omega (
            arith,
            c.loop-agent.invariant.room,
            sum_here agents i agent c.loop-agent-test.true c.agent-item.is,
            ap length c.in_ok-add_executors.ensures,
            length-append old (some_executors agent (length old) 0 agent.executors),
            length-some_executors agent (length old) 0 agent.executors,
          );
      rest =
          agents_more agent _ _ _ old c.add_executors.new.executors (drop_here agents i agent c.loop-agent-test.true c.agent-item.is)
          c.loop-agent.invariant.rest c.in_ok-add_executors.ensures;
    }
