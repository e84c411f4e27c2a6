-- What a call says of a script or an agents file with a fault (this product's own).
use Rattle.std.specs.Prelude.{◌≡◌, ◌⊎◌, ℕ, List}
use Rattle.command_words.specs.declared.command.Command.{Command}
use Rattle.command_words.specs.declared.command.Command.TheVariants.{Run, Check, Generate}
use Rattle.build_commands.specs.Files.{HasFault, IsRefused, OfFiles}
use Rattle.build_commands.specs.Plans.{AreCalm, Faults}
use Rattle.controller.specs.Call.{AreRead, Call, Is, Tells, WithFiles, made}

-- the status tells a fault of the script, or of the agents file
abbrev pub TellsFault : ℕ → Type 0
TellsFault status = (status ≡ 4) ⊎ (status ≡ 13)

-- A fault is told only where both sources counted none and there is one: the first of the agents file, or where it has none that of the script, with its place
-- and kind. It is told always, but for want of memory; and the disk is not called.
pub record JudgesFiles {D H A : Type 0} (c : Call D H A) : Type 0 where
  pub told : TellsFault c.status → AreCalm c.script c.agents × WithFiles c (λ script agents. (text : List ℕ) × Faults script agents c.status text × Tells text c)
  pub tells : AreRead c → OfFiles c.script c.agents (λ script agents. HasFault agents ⊎ IsRefused script → TellsFault c.status ⊎ (c.status ≡ 8))
  pub untouched : TellsFault c.status → c.now ≡ c.disk

-- `run` and `check` judge both files, `gen` those that it makes, and the other commands none
abbrev pub FaultOf : {D H A : Type 0} → Command → Call D H A → Type 0
FaultOf Run c = JudgesFiles c
FaultOf Check c = JudgesFiles c
FaultOf (Generate stages) c = JudgesFiles (made stages c)
FaultOf command c = ¬ (TellsFault c.status)

pub record FirstFault {D H A : Type 0} (c : Call D H A) : Type 0 where
  pub command : (command : Command) → Is command c → FaultOf command c
