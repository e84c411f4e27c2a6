-- A build, and the builds of the definitions that it stands for.
use Rattle.std.specs.Prelude.{List}
use Rattle.model_run.specs.declared.flow.FlowNode.{FlowNode}
use Rattle.model_run.specs.State.{Setting}
use Rattle.model_run.specs.Taking.{Standing}
use Rattle.model_run.specs.World as W
use Rattle.green_threads.specs.Threads.{Threads}
use Rattle.cps_frames.specs.declared.shared.Shared.{Shared}
use Rattle.cps_frames.specs.Standing.{setting_of, common_of}
use Rattle.settle_laws.specs.Stances.{Stance}
use Rattle.build_core.specs.declared.phase.Phase.{Phase}
use Rattle.build_core.specs.Phases.{StandsIn, recounted, shown, standing_in}

-- What contracts see of a build: how far it has come, its threads, and what they share.
pub record Parts (T : Type 0) : Type 0 where
  pub phase : Phase
  pub group : Threads T
  pub shared : Shared

-- Between two events a build stands for a build of the definitions, but for the count of evaluated nodes, which each event begins anew.
abbrev pub StandsFor : {T : Type 0} → (T → Stance) → Parts T → W.Build → Type 0
StandsFor stance b w = StandsIn stance b.phase b.group b.shared (recounted b.shared.count w)

-- its script, site and limits
abbrev pub setting_in : {T : Type 0} → Parts T → Setting
setting_in b = setting_of b.shared

-- what its answer to an event hangs on
abbrev pub standing_of : {T : Type 0} → Parts T → Standing
standing_of b = standing_in b.phase b.shared

-- its flow nodes
abbrev pub nodes_of : {T : Type 0} → Parts T → List FlowNode
nodes_of b = (shown b.phase (common_of b.shared)).nodes
