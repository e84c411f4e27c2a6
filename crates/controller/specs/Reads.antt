-- What a call reads of its sources (this product's own).
use Rattle.std.specs.Prelude.{◌≡◌, ◌⊎◌, ◌+◌}
use Rattle.jp_io.specs.Whole.{TakesAtMost}
use Rattle.command_words.specs.declared.command.Command.{Command}
use Rattle.command_words.specs.declared.command.Command.TheVariants.{Run, Resume, Log, Graph, Check, Generate}
use Rattle.command_words.specs.Words.{IsCommand}
use Rattle.build_commands.specs.Files.{script_limit, agents_limit}
use Rattle.build_commands.specs.Inputs.{IsUnread}
use Rattle.controller.specs.Call.{Call, Is, IsUnled}

-- neither script nor agents file
pub record ReadsNoFile {D H A : Type 0} (c : Call D H A) : Type 0 where
  pub script : IsUnread c.script
  pub agents : IsUnread c.agents

-- at most one byte more of each than it may have
pub record ReadsFiles {D H A : Type 0} (c : Call D H A) : Type 0 where
  pub script : TakesAtMost (script_limit + 1) c.script.left c.script.rest
  pub agents : TakesAtMost (agents_limit + 1) c.agents.left c.agents.rest

-- `run` and `check` read both files, `run`, `resume` and `gen` the answers; where no build goes on, answers and hosts come back as they were
abbrev pub ReadsOf : {D H A : Type 0} → Command → Call D H A → Type 0
ReadsOf Run c = ReadsFiles c × ((c.status ≡ 4) ⊎ (c.status ≡ 13) ⊎ (c.status ≡ 9) → IsUnled c)
ReadsOf Resume c = ReadsNoFile c × (c.status ≡ 9 → IsUnled c)
ReadsOf Log c = ReadsNoFile c × IsUnled c
ReadsOf Graph c = ReadsNoFile c × IsUnled c
ReadsOf Check c = ReadsFiles c × IsUnled c
ReadsOf (Generate stages) c = ReadsNoFile c × ((c.status ≡ 4) ⊎ (c.status ≡ 13) ⊎ (c.status ≡ 9) → IsUnled c)

pub record Reads {D H A : Type 0} (c : Call D H A) : Type 0 where
  pub command : (command : Command) → Is command c → ReadsOf command c
  pub usage : ¬ (IsCommand c.words) → ReadsNoFile c × IsUnled c
