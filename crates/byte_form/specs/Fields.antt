-- The fields of the product's stored bytes, and where they stand. Numbers are big-endian (std's to_be_bytes), and a
-- signed number is in two's complement.
use Rattle.std.specs.Prelude.{◌≡◌, ◌^◌, ◌<◌, ℕ, ℤ, List, [], ◌∷◌, ◌++◌, length, take, drop, FitsSigned}
use Rattle.std.specs.Int.{w32, w64, to_be_bytes, from_be_bytes, cast_unsigned}

-- A u8 is its byte.
abbrev pub u8_spelling : ℕ → List ℕ
u8_spelling value = value ∷ []

-- A u32 is four bytes.
abbrev pub u32_spelling : ℕ → List ℕ
u32_spelling value = to_be_bytes w32 value

-- A u64 is eight bytes.
abbrev pub u64_spelling : ℕ → List ℕ
u64_spelling value = to_be_bytes w64 value

-- An i32 is four bytes.
abbrev pub i32_spelling : ℤ → List ℕ
i32_spelling value = to_be_bytes w32 (cast_unsigned w32 value)

-- Bytes are their number as a u32, and then themselves.
abbrev pub bytes_spelling : List ℕ → List ℕ
bytes_spelling value = u32_spelling (length value) ++ value

-- The field stands in the bytes at this place.
abbrev pub StandsAt : List ℕ → ℕ → List ℕ → Type 0
StandsAt field at bytes = take (length field) (drop at bytes) ≡ field

-- How many bytes the field of bytes at this place says that it has.
abbrev pub stated_length : ℕ → List ℕ → ℕ
stated_length at bytes = from_be_bytes w32 (drop at bytes)

-- Where one spelling begins another, or both begin the same bytes, they are spellings of one value, and what follows
-- them is the same.
abbrev pub IsApart : {V : Type 0} → (V → Type 0) → (V → List ℕ) → Type 0
IsApart {V} Fits spelling =
    (a b : V) (x y : List ℕ) → Fits a → Fits b → spelling a ++ x ≡ spelling b ++ y → (a ≡ b) × (x ≡ y)

-- Each kind of field is so.
pub record FieldsAreApart : Type 0 where
  pub u8 : IsApart (λ (value : ℕ). value < 2 ^ 8) u8_spelling
  pub u32 : IsApart (λ (value : ℕ). value < 2 ^ 32) u32_spelling
  pub u64 : IsApart (λ (value : ℕ). value < 2 ^ 64) u64_spelling
  pub i32 : IsApart (FitsSigned w32) i32_spelling
  pub bytes : IsApart (λ (value : List ℕ). length value < 2 ^ 32) bytes_spelling
