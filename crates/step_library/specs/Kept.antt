-- What makes a text that is kept, and changes nothing that is there; and what is kept so.
use Rattle.model_values.specs.Kinds.{Kind, null, text}
use Rattle.value_ops.specs.declared.effect.Effect.{Effect}
use Rattle.value_ops.specs.declared.effect.Effect.TheVariants.{Give, NewText}

abbrev pub IsKept : Effect → Type 0
IsKept (Give v) = Unit {0}
IsKept (NewText t) = Unit {0}
IsKept e = ⊥

-- a message that was kept is a text, or null where none was given
abbrev pub IsMessage : Kind → Type 0
IsMessage (text t) = Unit {0}
IsMessage null = Unit {0}
IsMessage k = ⊥
