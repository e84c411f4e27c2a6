-- A name.
use Rattle.std.specs.Prelude.{Bool, true, false}
use Rattle.model_syntax.specs.declared.node.NodeForm.{NodeForm}
use Rattle.model_syntax.specs.declared.node.NodeForm.TheVariants as form

abbrev pub is_variable : NodeForm → Bool
is_variable (form.Variable x) = true
is_variable f = false
