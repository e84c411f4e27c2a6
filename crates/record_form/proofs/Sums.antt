-- How long the spelling of a list is.
use Rattle.std.proofs.Common.{◌≡◌, ◌+◌, ◌∙◌, ℕ, List, [], ◌∷◌, ◌++◌, length, ap, length-append}
use Rattle.byte_form.specs.Fields.{u32_spelling}
use Rattle.field_form.specs.Forms.{Form, spelled}
use Rattle.field_form.proofs.Lists.{spelled_push}

-- one item more
pub length_push : {V : Type 0} (behind : List V → Form V) (xs : List V) (x : V) → length (spelled behind [] (xs ++ x ∷ [])) ≡ length (spelled behind [] xs) + length ((behind xs).spelling x)
length_push {V} behind xs x = ap length (spelled_push behind [] xs x) ∙ length-append (spelled behind [] xs) ((behind xs).spelling x)

-- a number and then the items
pub length_list : {V : Type 0} (behind : List V → Form V) (n : ℕ) (xs : List V) → length (u32_spelling n ++ spelled behind [] xs) ≡ 4 + length (spelled behind [] xs)
length_list behind n xs = length-append (u32_spelling n) (spelled behind [] xs)
