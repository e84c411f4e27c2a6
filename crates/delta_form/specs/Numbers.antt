-- The numbers by which the lists of a delta rise (this product's own; docs/FORMATS.md, "Records of changes").
use Rattle.std.specs.Prelude.{ℕ, nat_eq, nat_lt, Bool, false, List, [], ◌∷◌, if◌then◌else◌}
use Rattle.field_form.specs.Forms.{Form, Lawful, admitted, u32_form}
use Rattle.field_form.specs.FieldLaws.{u32_lawful}
use Rattle.field_form.specs.FormLaws.{admitted_lawful}
use Rattle.field_form.specs.Rules.{rises}
use Rattle.delta_form.specs.declared.delta.WrittenRequest.{WrittenRequest}
use Rattle.delta_form.specs.declared.delta.WrittenRequest.TheVariants as written

abbrev pub written_number : WrittenRequest → ℕ
written_number (written.Whole r) = r.number
written_number (written.Grown number taken out) = number

-- the item has a number below this one
abbrev pub has_lower : {V : Type 0} → (V → ℕ) → V → ℕ → Bool
has_lower number x n = nat_lt (number x) n

-- The number of an item is above those of the items before it: one that is not is a fault at its place.
abbrev pub rising_number : {V : Type 0} → (V → ℕ) → List V → Form ℕ
rising_number number before = admitted (rises (has_lower number) before) u32_form

pub rising_number_lawful : {V : Type 0} (number : V → ℕ) (before : List V) → Lawful (rising_number number before)
rising_number_lawful number before = admitted_lawful (rises (has_lower number) before) u32_form u32_lawful

-- the items behind those in front that have lower numbers
abbrev pub from_number : {V : Type 0} → (V → ℕ) → ℕ → List V → List V
from_number number n [] = []
from_number number n (x ∷ xs) = if nat_lt (number x) n then from_number number n xs else x ∷ xs

-- the first item has this number
abbrev pub begins_at : {V : Type 0} → (V → ℕ) → ℕ → List V → Bool
begins_at number n [] = false
begins_at number n (x ∷ xs) = nat_eq (number x) n
