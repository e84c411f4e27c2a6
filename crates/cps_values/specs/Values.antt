-- What a node's parts are, and how many values they give.
use Rattle.std.specs.Prelude.{◌≡◌, ◌<◌, ℕ, true, List, [], ◌∷◌}
use Rattle.model_syntax.specs.declared.node.NodeForm.{NodeForm}
use Rattle.model_run.specs.Around.{Shape, arity, form_at}
use Rattle.model_run.specs.FrameTable.{count_with}
use Rattle.script_laws.specs.NodeParts.{is_entry}

-- one each, two for an entry whose key is computed, none for a plain part of a text
abbrev pub values_given : List NodeForm → ℕ
values_given [] = 0
values_given (f ∷ fs) = count_with f (values_given fs)

-- each part is a key with its value
abbrev pub AreEntries : Shape → Type 0
AreEntries sh = (i : ℕ) → i < arity sh → is_entry (form_at sh.parts i) ≡ true
