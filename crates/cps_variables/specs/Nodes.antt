-- A node of a tree's script, of a known form.
use Rattle.std.specs.Prelude.{◌≡◌, ◌<◌, ℕ, length}
use Rattle.model_syntax.specs.declared.node.NodeForm.{NodeForm}
use Rattle.model_run.specs.Nesting.{shape_at}
use Rattle.model_run.specs.Terms.{Term, nodes_of}
use Rattle.cps_code.specs.Script.{IsScript}

pub record HasForm (root : Term) (k : ℕ) (f : NodeForm) : Type 0 where
  pub script : IsScript root
  pub node : k < length (nodes_of root)
  pub form : (shape_at root k).form ≡ f
