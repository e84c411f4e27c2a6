-- The settings of builds. This product's own: a build is under the limits of the product, on executors that have numbers of their own.
use Rattle.std.specs.Prelude.{◌≡◌, map}
use Rattle.model_run.specs.declared.site.Site.{Site}
use Rattle.model_run.specs.Fitting.{Distinct}
use Rattle.model_run.specs.State.{Setting}
use Rattle.model_run.specs.Terms.{term}
use Rattle.model_run.specs.World.{run_limits, setting_of}
use Rattle.model_syntax.specs.TreeNodes.{tree_node}
use Rattle.model_syntax.specs.declared.tree.Tree.{Tree}

-- no two executors have one number
abbrev pub AreNumbered : Site → Type 0
AreNumbered site = Distinct (map (λ x. x.number) site.executors)

-- the setting of a script, by its tree
abbrev pub script_setting : Tree → Site → Setting
script_setting tree site = setting_of run_limits (term 0 (tree_node tree)) site

-- the setting is that of a script, under this product's limits
pub record IsProper (setting : Setting) : Type 0 where
  pub tree : Tree
  pub is : setting ≡ script_setting tree setting.site
  pub numbered : AreNumbered setting.site
