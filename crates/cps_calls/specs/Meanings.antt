-- What a name that is called means, as the program has it.
use Rattle.std.specs.Prelude.{ℕ, List, []}
use Rattle.model_syntax.specs.declared.node.NodeForm.{NodeForm}
use Rattle.model_syntax.specs.declared.node.NodeForm.TheVariants as form
use Rattle.model_run.specs.Calls as def
use Rattle.model_run.specs.Around.{limits, cells}
use Rattle.model_run.specs.State.{World}
use Rattle.model_values.specs.Cells.{Answer}
use Rattle.model_values.specs.Throws.{unknown_step}
use Rattle.cps_calls.specs.declared.callees.Meant.{Meant}
use Rattle.cps_calls.specs.declared.callees.Meant.TheVariants.{Body, Begins, Nothing}

abbrev pub meant_of : Meant → def.Meant
meant_of (Body callee) = def.Callee_of callee
meant_of (Begins step) = def.Step_of step
meant_of Nothing = def.Nothing

-- the name that a call of a name calls
abbrev pub name_at : NodeForm → List ℕ
name_at (form.Call f) = f
name_at f = []

-- the throw of a call of a name that means nothing
abbrev pub unknown_at : NodeForm → World → Answer
unknown_at f w = unknown_step (limits w) (cells w) (name_at f)
