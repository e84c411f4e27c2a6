-- Kinds of values and of calls, as the program tests them.
use Rattle.std.specs.Prelude.{Bool, true, false}
use Rattle.model_syntax.specs.declared.node.NodeForm.{NodeForm}
use Rattle.model_syntax.specs.declared.node.NodeForm.TheVariants as form
use Rattle.model_syntax.specs.declared.tree.Access.TheVariants.{NullSafe}
use Rattle.model_values.specs.Kinds.{Kind, null, closure}

abbrev pub is_null_kind : Kind → Bool
is_null_kind null = true
is_null_kind k = false

abbrev pub is_closure_kind : Kind → Bool
is_closure_kind (closure c) = true
is_closure_kind k = false

-- `e?.f(..)`
abbrev pub is_null_safe : NodeForm → Bool
is_null_safe (form.Method NullSafe f) = true
is_null_safe f = false
