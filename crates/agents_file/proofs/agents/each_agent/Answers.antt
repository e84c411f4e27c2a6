use Rattle.std.proofs.Common.{codes, ◌++◌, ◌+◌, suc, drop}
use Rattle.serde_json.specs.View.{view, items_view}
use Rattle.model_run.specs.AgentsFaults.{agent_faults, at_item, items_faults}
use Rattle.agents_file.specs.FirstFault.{first, TellsFirst}
use Rattle.agents_file.proofs.FirstLemmas.{passed_on, items_here, items_more, TellsFirst-along, TellsFirst-front}
use Rattle.agents_file.proofs.AgentLemmas.{agents_rest}
use Rattle.agents_file.proofs.agents.each_agent.Goals as goal

pub returns-in_err-read_agent-clause-fault : goal.returns-in_err-read_agent-clause-fault
returns-in_err-read_agent-clause-fault c =
    let vs = c.args.values.now in
    let i = c.loop-at.at in
    let v = c.index-values-at.result in
    let here = agent_faults (at_item (codes "agents") i) (view v) in
    let later = items_faults agent_faults (codes "agents") (suc i) (items_view (drop (i + 1) vs)) in
    let all = items_faults agent_faults (codes "agents") 0 (items_view vs) in
    passed_on c.from_residual.result c.in_err-read_agent.field-0.0 (TellsFirst all) c.from_residual.ensures.1
    (TellsFirst-along (here ++ later) all c.in_err-read_agent.field-0.0
    (items_here agent_faults (codes "agents") (first all) vs i v c.loop-at-test.true c.index-values-at.is c.loop-at.invariant.faults)
    (TellsFirst-front here later c.in_err-read_agent.field-0.0 c.in_err-read_agent.ensures.fault))

pub loop-at-preserved : goal.loop-at-preserved
loop-at-preserved c =
    let vs = c.args.values.now in
    let i = c.loop-at.at in
    let v = c.index-values-at.result in
    record {
      faults =
          items_more agent_faults (codes "agents") (first (items_faults agent_faults (codes "agents") 0 (items_view vs))) vs i v c.loop-at-test.true c.index-values-at.is
          c.loop-at.invariant.faults c.in_ok-read_agent.ensures.form;
      rest = agents_rest vs i v c.loop-at-test.true c.index-values-at.is _ c.loop-at.agents c.loop-at.invariant.rest c.in_ok-read_agent.field-0 c.in_ok-read_agent.ensures.value c.push.new.self c.in_ok-push.ensures.pushed;
    }
