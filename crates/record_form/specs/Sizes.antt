-- How long spellings are (this product's own).
use Rattle.std.specs.Prelude.{◌-◌, ◌^◌, ℕ, List, Option, Some, None, length, min, slice_get}
use Rattle.field_form.specs.Forms.{Form}

-- how many bytes a value has in this form, or the greatest number of 64 bits where it has more
abbrev pub size_in : {V : Type 0} → Form V → V → ℕ
size_in form value = min (length (form.spelling value)) (2 ^ 64 - 1)

-- and the item at this place
abbrev pub size_of_option : {V : Type 0} → Form V → Option V → ℕ
size_of_option form None = 0
size_of_option form (Some value) = size_in form value

abbrev pub size_at : {V : Type 0} → Form V → List V → ℕ → ℕ
size_at form values place = size_of_option form (slice_get values place)
