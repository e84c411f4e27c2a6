-- The kind that the program reads off a value, as the kind of the tables.
use Rattle.std.specs.Prelude.{ℕ, ◌<◌, ◌^◌, length, All}
use Rattle.model_values.specs.Kinds as model
use Rattle.cell_heap.specs.Soundness.{ValueBelow}
use Rattle.value_view.specs.declared.kind.Kind.{Kind}
use Rattle.value_view.specs.declared.kind.Kind.TheVariants.{Null, Flag, Number, Text, List as Items, Map as Pairs, Closure, Thrown}

abbrev pub seen : Kind → model.Kind
seen Null = model.null
seen (Flag b) = model.flag b
seen (Number x) = model.number x
seen (Text t) = model.text t.now
seen (Items c vs) = model.items c vs.now
seen (Pairs c es) = model.pairs c es.now
seen (Closure c) = model.closure c
seen (Thrown c class m) = model.thrown c class m.now

-- its cell, and all that it holds, is among the first n; and a script's numbers can count its parts
abbrev pub IsKindIn : ℕ → Kind → Type 0
IsKindIn n Null = Unit {0}
IsKindIn n (Flag b) = Unit {0}
IsKindIn n (Number x) = Unit {0}
IsKindIn n (Text t) = length t.now < 2 ^ 31
IsKindIn n (Items c vs) = (c < n) × All (ValueBelow n) vs.now × (length vs.now < 2 ^ 31)
IsKindIn n (Pairs c es) = (c < n) × All (λ e. ValueBelow n e.1) es.now × (length es.now < 2 ^ 31)
IsKindIn n (Closure c) = c < n
IsKindIn n (Thrown c class m) = c < n
