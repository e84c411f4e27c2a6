-- The script and the agents file of a call, read and judged (this product's own).
use Rattle.std.specs.Prelude.{◌≡◌, ◌⊎◌, ◌<◌, ◌≤◌, ℕ, List, [], length, Some, IfSome, Result, Ok, Err}
use Rattle.std.specs.Io.KnownBytes.{IsAtEnd}
use Rattle.model_syntax.specs.declared.fault.ScriptFault.{ScriptFault}
use Rattle.model_syntax.specs.declared.tree.Tree.{Tree}
use Rattle.model_syntax.specs.FirstFault.{FirstFault}
use Rattle.model_run.specs.declared.agents.AgentsKind.{AgentsKind}
use Rattle.model_run.specs.declared.site.Site.{Site}
use Rattle.model_run.specs.AgentsFile.{agents_file, Refused}
use Rattle.build_commands.specs.Files.{HasSite, script_limit, Builds}
use Rattle.build_commands.specs.Inputs.{Input, IsCalm, HasFailed}
use Rattle.build_commands.specs.Lines.{read_failed_text, too_long_text, agents_line, fault_line}
use Rattle.build_commands.specs.declared.plan.Plan.{Plan}
use Rattle.build_commands.specs.declared.refusal.Refusal.{Refusal}
use Rattle.build_commands.specs.Refusals.{refusal_status, refusal_text}
use Rattle.build_commands.specs.Texts.{out_of_memory_text}

-- Why a script and an agents file of these bytes are not built, with status and text.
pub data Faults (script agents : List ℕ) : ℕ → List ℕ → Type 0 where
  -- the agents file has this first fault
  of_agents : {path : List ℕ} {kind : AgentsKind} → agents_file agents ≡ Refused path kind → Faults script agents 13 (agents_line path kind)
  -- it has none, and the script is too long
  too_long : HasSite agents → script_limit < length script → Faults script agents 4 too_long_text
  -- it has none, and the script has this first fault
  of_script : {fault : ScriptFault} → HasSite agents → length script ≤ script_limit → FirstFault script fault → Faults script agents 4 (fault_line fault)
  -- want of memory can come at any time
  no_memory : Faults script agents 8 out_of_memory_text

-- what is judged of these bytes of both
abbrev pub Judged : List ℕ → List ℕ → Result Plan Refusal → Type 0
Judged script agents (Ok plan) = Builds script agents plan.tree plan.site × (plan.script ≡ script) × (plan.agents ≡ agents)
Judged script agents (Err refusal) = Faults script agents (refusal_status refusal) (refusal_text refusal)

-- neither source counted a fault
abbrev pub AreCalm : Input → Input → Type 0
AreCalm script agents = IsCalm script × IsCalm agents

-- a source that had just these bytes left, and gave them all without a fault
abbrev pub whole : List ℕ → Input
whole bytes = record { left = Some bytes; rest = Some []; before = 0; after = 0 }

-- The sources of script and agents file had just these bytes left, where they tell them.
pub record Hold (script agents : Input) (s a : List ℕ) : Type 0 where
  pub held_script : IfSome script.left (λ bytes. bytes ≡ s)
  pub held_agents : IfSome agents.left (λ bytes. bytes ≡ a)

-- Why nothing is done with what the sources give.
pub data RefusesFiles (script agents : Input) : ℕ → List ℕ → Type 0 where
  -- one of them could not be read
  unread : HasFailed script ⊎ HasFailed agents → RefusesFiles script agents 6 read_failed_text
  -- there was no memory for their bytes
  no_room : AreCalm script agents → RefusesFiles script agents 8 out_of_memory_text
  -- these are the bytes that they had left
  judged : {s a : List ℕ} {status : ℕ} {text : List ℕ} → AreCalm script agents → Hold script agents s a → Faults s a status text → RefusesFiles script agents status text

-- The sources were read to their ends, of all bytes that they had left, and these are a script and an agents file that can be built.
pub record Give (script agents : Input) (s a : List ℕ) (tree : Tree) (site : Site) : Type 0 where
  pub calm : AreCalm script agents
  pub hold : Hold script agents s a
  pub script_ends : IsAtEnd script.rest
  pub agents_end : IsAtEnd agents.rest
  pub builds : Builds s a tree site

abbrev pub Plans : Input → Input → Result Plan Refusal → Type 0
Plans script agents (Ok plan) = Give script agents plan.script plan.agents plan.tree plan.site
Plans script agents (Err refusal) = RefusesFiles script agents (refusal_status refusal) (refusal_text refusal)
