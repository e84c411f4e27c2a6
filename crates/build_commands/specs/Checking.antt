-- What `check` writes (this product's own).
use Rattle.std.specs.Prelude.{ℕ, List, Option}
use Rattle.model_syntax.specs.declared.tree.Tree.{Tree}
use Rattle.model_run.specs.declared.site.Site.{Site}
use Rattle.build_commands.specs.Inputs.{Input}
use Rattle.build_commands.specs.Plans.{Give, RefusesFiles}
use Rattle.build_commands.specs.Texts.{ok_text}
use Rattle.build_commands.specs.Writing.{Writes, Tells}

-- `ok` of a script and an agents file that can be built, or why they are refused.
pub data Checks (script agents : Input) (old new : Option (List ℕ)) (sink_before sink_after : ℕ) : ℕ → Type 0 where
  sound : {s a : List ℕ} {tree : Tree} {site : Site} {status : ℕ} → Give script agents s a tree site → Writes old new sink_before sink_after ok_text 0 status
      → Checks script agents old new sink_before sink_after status
  refused : {status : ℕ} {text : List ℕ} → RefusesFiles script agents status text → Tells old new sink_before sink_after text
      → Checks script agents old new sink_before sink_after status
