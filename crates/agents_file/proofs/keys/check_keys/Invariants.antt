use Rattle.std.proofs.Common.{◌≡◌}
use Rattle.serde_json.specs.View.{members_view}
use Rattle.model_run.specs.AgentsFaults.{unknown_keys}
use Rattle.agents_file.specs.FirstFault.{first}
use Rattle.agents_file.specs.Paths.{key_path, known_keys}
use Rattle.agents_file.proofs.KeyLemmas.{unknown_among}
use Rattle.agents_file.proofs.keys.check_keys.Given as goal

abbrev pub invariant-loop-key : goal.invariant-loop-key
invariant-loop-key l =
    (goal.iterator-loop-key).can_next l.key-iterator ×
    (goal.iterator-loop-key).is_finite l.key-iterator ×
    (first (unknown_keys (known_keys l.object) (key_path l.object) (members_view l.members.entries))
    ≡ first (unknown_among (known_keys l.object) (key_path l.object) l.key-iterator))
