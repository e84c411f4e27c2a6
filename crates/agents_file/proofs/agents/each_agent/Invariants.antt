use Rattle.std.proofs.Common.{◌≡◌, ◌++◌, codes, drop}
use Rattle.serde_json.specs.View.{items_view}
use Rattle.model_run.specs.AgentsFaults.{agent_faults, items_faults}
use Rattle.agents_file.specs.Agents.{agents_of}
use Rattle.agents_file.specs.FirstFault.{first}
use Rattle.agents_file.proofs.agents.each_agent.Given as goal

abbrev pub invariant-loop-at : goal.invariant-loop-at
invariant-loop-at l = record {
  faults : first (items_faults agent_faults (codes "agents") 0 (items_view l.values))
      ≡ first (items_faults agent_faults (codes "agents") l.at (items_view (drop l.at l.values)));
  rest : agents_of (items_view l.values) ≡ l.agents ++ agents_of (items_view (drop l.at l.values));
}
