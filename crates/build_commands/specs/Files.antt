-- The script and the agents file of a call: how they are read, and which are refused. This product's own.
use Rattle.std.specs.Prelude.{◌≡◌, ℕ, ◌+◌, ◌<◌, ◌≤◌, List, length, Some}
use Rattle.std.specs.Io.KnownBytes.{Consumes, IsAtEnd}
use Rattle.model_syntax.specs.declared.fault.ScriptFault.{ScriptFault}
use Rattle.model_syntax.specs.declared.tree.Tree.{Tree}
use Rattle.model_syntax.specs.FirstFault.{FirstFault, IsFaultless}
use Rattle.model_run.specs.declared.agents.AgentsKind.{AgentsKind}
use Rattle.model_run.specs.declared.site.Site.{Site}
use Rattle.model_run.specs.AgentsFile.{agents_file, Means, Refused}
use Rattle.build_commands.specs.Inputs.{Input, IsCalm}

-- the most bytes of a script, and of an agents file
abbrev pub script_limit : ℕ
script_limit = 1048576

abbrev pub agents_limit : ℕ
agents_limit = 65536

-- A file is read up to one byte more than it may have; with that byte it is known to be too long. These bytes were read, and no fault was counted;
-- where they are not too many the source is at its end.
pub record ReadWhole (limit : ℕ) (input : Input) (bytes : List ℕ) : Type 0 where
  pub calm : IsCalm input
  pub read : Consumes input.left input.rest bytes
  pub within : length bytes ≤ limit + 1
  pub whole : length bytes ≤ limit → IsAtEnd input.rest

-- a script that can be built on the executors of an agents file
pub record Builds (script agents : List ℕ) (tree : Tree) (site : Site) : Type 0 where
  pub means : agents_file agents ≡ Means site
  pub fits : length script ≤ script_limit
  pub faultless : IsFaultless script tree

-- the agents file has a first fault, or means a site
abbrev pub HasFault : List ℕ → Type 0
HasFault agents = (path : List ℕ) × (kind : AgentsKind) × (agents_file agents ≡ Refused path kind)

abbrev pub HasSite : List ℕ → Type 0
HasSite agents = (site : Site) × (agents_file agents ≡ Means site)

-- the script has a first fault, or is too long
pub data IsRefused (script : List ℕ) : Type 0 where
  by_fault : {fault : ScriptFault} → FirstFault script fault → IsRefused script
  by_length : script_limit < length script → IsRefused script

-- the fact, of the bytes of script and agents file, where their sources tell them
abbrev pub OfFiles : Input → Input → (List ℕ → List ℕ → Type 0) → Type 0
OfFiles script agents P = (s a : List ℕ) → script.left ≡ Some s → agents.left ≡ Some a → P s a
