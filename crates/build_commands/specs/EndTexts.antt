-- What is written of a build that has ended or waits (this product's own).
use Rattle.std.specs.Prelude.{◌≡◌, ℕ, List, length}
use Rattle.model_run.specs.declared.flow.FlowNode.{FlowNode}
use Rattle.model_run.specs.declared.result.BuildResult.{BuildResult}
use Rattle.model_run.specs.declared.event.Event.{Event}
use Rattle.model_run.specs.State.{Common, Setting}
use Rattle.model_run.specs.World.{world_in}
use Rattle.generated_build.specs.Summary.{summary_text}
use Rattle.build_commands.specs.declared.end_text.EndText.{EndText}
use Rattle.build_commands.specs.declared.end_text.EndText.TheVariants.{Log, Numbers}

-- The log; or of a build that was generated, of so many stages, the lines that tell how many flow nodes, tasks, events and bytes of the
-- log it has, and its result.
abbrev pub end_text : EndText → ℕ → List FlowNode → List ℕ → BuildResult → List ℕ
end_text Log records nodes log result = log
end_text (Numbers stages) records nodes log result = summary_text stages nodes records (length log) result

-- that of a state with so many events
abbrev pub text_in : EndText → ℕ → Common → List ℕ
text_in kind records shared = end_text kind records shared.nodes shared.log shared.result

-- that of the build of these events
abbrev pub world_text : EndText → Setting → List Event → List ℕ
world_text kind setting events = text_in kind (length events) (world_in setting events).shared

-- how many events there are matters for the numbers alone
abbrev pub Counts : EndText → ℕ → List Event → Type 0
Counts Log records events = Unit {0}
Counts (Numbers stages) records events = records ≡ length events
