-- Where a fault stands, as users see it (this product's own).
use Rattle.std.specs.Prelude.{ℕ, List, [], ◌∷◌, codes}
use Rattle.model_run.specs.AgentsFaults.{at_item, at_member}
use Rattle.agents_file.specs.declared.path.Object.{Object}
use Rattle.agents_file.specs.declared.path.Object.TheVariants as object
use Rattle.agents_file.specs.declared.path.Path.{Path}
use Rattle.agents_file.specs.declared.path.Path.TheVariants.{File, Agent, Member, Label}

-- the keys that an object of the file may have
abbrev pub known_keys : Object → List (List ℕ)
known_keys object.File = codes "job" ∷ codes "looks" ∷ codes "agents" ∷ []
known_keys (object.Agent i) = codes "name" ∷ codes "root" ∷ codes "labels" ∷ codes "executors" ∷ []

-- the path of a member: a key of the file is a path, one of an agent stands behind that of the agent
abbrev pub key_path : Object → List ℕ → List ℕ
key_path object.File key = key
key_path (object.Agent i) key = at_member (at_item (codes "agents") i) key

abbrev pub path_text : Path → List ℕ
path_text File = codes "."
path_text (Agent i) = at_item (codes "agents") i
path_text (Member object key) = key_path object key.now
path_text (Label i j) = at_item (at_member (at_item (codes "agents") i) (codes "labels")) j
