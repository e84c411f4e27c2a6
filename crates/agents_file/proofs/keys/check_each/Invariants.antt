use Rattle.std.proofs.Common.{◌≡◌, codes, drop}
use Rattle.serde_json.specs.View.{items_view}
use Rattle.model_run.specs.AgentsFaults.{agent_keys_faults, items_faults}
use Rattle.agents_file.specs.FirstFault.{first}
use Rattle.agents_file.proofs.keys.check_each.Given as goal

abbrev pub invariant-loop-at : goal.invariant-loop-at
invariant-loop-at l =
    first (items_faults agent_keys_faults (codes "agents") 0 (items_view l.agents))
    ≡ first (items_faults agent_keys_faults (codes "agents") l.at (items_view (drop l.at l.agents)))
