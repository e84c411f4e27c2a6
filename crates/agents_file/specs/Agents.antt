-- What the file says of its agents, taken out of the JSON values (the form of the file is this product's own).
use Rattle.std.specs.Prelude.{ℕ, zero, suc, ◌+◌, if◌then◌else◌, List, [], ◌∷◌, ◌++◌, codes}
use Rattle.serde_json.specs.Data.{Data, Items, no_items, item}
use Rattle.serde_json.specs.Find.{get}
use Rattle.model_run.specs.declared.agents.AgentsKind.TheVariants.{DuplicateName}
use Rattle.model_run.specs.declared.site.Executor.{Executor}
use Rattle.model_run.specs.declared.site.Site.{Site}
use Rattle.model_run.specs.AgentsFaults.{Fault, fault, required, optional, name_faults, number_faults, agents_faults, among, at_item, at_member}
use Rattle.model_run.specs.AgentsMembers.{text_at, number_at, items_at, texts_of}
use Rattle.agents_file.specs.declared.agent.Agent.{Agent}
use Rattle.agents_file.specs.declared.file.File.{File}

-- the path of the labels of an agent
abbrev pub labels_path : ℕ → List ℕ
labels_path i = at_member (at_item (codes "agents") i) (codes "labels")

-- an agent
abbrev pub agent_of : Data → Agent
agent_of d = record {
  name = text_at (codes "name") d;
  root = text_at (codes "root") d;
  labels = texts_of (items_at (codes "labels") d);
  executors = number_at 0 (codes "executors") d;
}

abbrev pub agents_of : Items → List Agent
agents_of no_items = []
agents_of (item d ds) = agent_of d ∷ agents_of ds

-- the members of the whole file
abbrev pub file_of : Data → File
file_of d = record {
  job = text_at (codes "job") d;
  looks = number_at 100000 (codes "looks") d;
  agents = agents_of (items_at (codes "agents") d);
}

-- the faults of the members that a file must or may have
abbrev pub fields_faults : Data → List Fault
fields_faults d =
    required name_faults (codes "job") (get (codes "job") d)
    ++ optional (number_faults 1 1000000) (codes "looks") (get (codes "looks") d)
    ++ required agents_faults (codes "agents") (get (codes "agents") d)

-- a fault for each agent whose name one before it has: `before` are the earlier names, i is the place of the first
abbrev pub repeats : List (List ℕ) → ℕ → List Agent → List Fault
repeats before i [] = []
repeats before i (agent ∷ agents) =
    (if among before agent.name then fault (at_member (at_item (codes "agents") i) (codes "name")) DuplicateName ∷ [] else [])
    ++ repeats (agent.name ∷ before) (suc i) agents

-- how many executors agents have together
abbrev pub executor_sum : List Agent → ℕ
executor_sum [] = 0
executor_sum (agent ∷ agents) = agent.executors + executor_sum agents

-- the executor of an agent with this number and this slot
abbrev pub executor_of : Agent → ℕ → ℕ → Executor
executor_of agent number slot = record {
  number = number;
  agent = agent.name;
  root = agent.root;
  labels = agent.labels;
  slot = slot;
}

-- so many executors of an agent, the first of which has this number and this slot
abbrev pub some_executors : Agent → ℕ → ℕ → ℕ → List Executor
some_executors agent number slot zero = []
some_executors agent number slot (suc left) =
    executor_of agent number slot ∷ some_executors agent (suc number) (suc slot) left

-- the executors of agents in order, the first of which has this number
abbrev pub all_executors : ℕ → List Agent → List Executor
all_executors number [] = []
all_executors number (agent ∷ agents) =
    some_executors agent number 0 agent.executors ++ all_executors (number + agent.executors) agents

-- the site of a file
abbrev pub file_site : File → Site
file_site file = record { job = file.job; looks = file.looks; executors = all_executors 0 file.agents }
