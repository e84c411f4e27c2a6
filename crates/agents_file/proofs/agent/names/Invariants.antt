use Rattle.std.proofs.Common.{◌≡◌, ◌++◌, drop}
use Rattle.serde_json.specs.View.{items_view}
use Rattle.model_run.specs.AgentsFaults.{name_faults, items_faults}
use Rattle.model_run.specs.AgentsMembers.{texts_of}
use Rattle.agents_file.specs.Agents.{labels_path}
use Rattle.agents_file.specs.FirstFault.{first}
use Rattle.agents_file.proofs.agent.names.Given as goal

abbrev pub invariant-loop-at : goal.invariant-loop-at
invariant-loop-at l = record {
  faults : first (items_faults name_faults (labels_path l.agent) 0 (items_view l.labels))
      ≡ first (items_faults name_faults (labels_path l.agent) l.at (items_view (drop l.at l.labels)));
  rest : texts_of (items_view l.labels) ≡ l.names ++ texts_of (items_view (drop l.at l.labels));
}
