-- The list that a chain's first link begins.
use Rattle.std.specs.Prelude.{List, [], ◌∷◌, Option, Some, None}
use Rattle.std.specs.declared.sync.Arc.{Arc}
use Rattle.std.specs.declared.alloc.Global.{Global}
use Rattle.chain.specs.declared.chain.Node.{Node}

-- the element of the link, and the elements of the chain behind it
abbrev pub items : {X : Type 0} → Option (Arc (Node X) Global) → List X
items None = []
items (Some link) = link.value.item ∷ link.value.behind
