-- How many parts a node of a form has at least (the grammar of the language).
use Rattle.std.specs.Prelude.{ℕ, suc, List, [], ◌∷◌}
use Rattle.model_syntax.specs.declared.node.NodeForm.{NodeForm}
use Rattle.script_laws.specs.NodeParts.{Slot, One, Optional, Any_number, parts_asked}

abbrev pub least : List Slot → ℕ
least [] = 0
least (One test ∷ slots) = suc (least slots)
least (Optional test ∷ slots) = least slots
least (Any_number test ∷ slots) = least slots

abbrev pub least_parts : NodeForm → ℕ
least_parts f = least (parts_asked f)
