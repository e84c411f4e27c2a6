-- What stands behind a primary.
use Rattle.std.specs.Prelude.{Bool, true, false}
use Rattle.model_syntax.specs.declared.node.NodeForm.{NodeForm}
use Rattle.model_syntax.specs.declared.node.NodeForm.TheVariants as form

-- `.name` and `?.name`
abbrev pub is_property : NodeForm → Bool
is_property (form.Property access p) = true
is_property f = false
