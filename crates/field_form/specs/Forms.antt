-- Forms of stored bytes: how the values of a type are spelled and read. A form is put together from few parts, and so
-- every type has one spelling for each value, and no spelling begins another.
use Rattle.std.specs.Prelude.{◌≡◌, ◌+◌, ◌^◌, ◌<◌, ℕ, zero, suc, ℤ, nat_lt, nat_eq, Bool, true, false, if◌then◌else◌, ◌==◌, IsTrue, List, [], ◌∷◌, ◌++◌, length, take, drop, slice_get, slice_index, Option, Some, None, Result, Ok, Err, FitsSigned, ◌⊎◌}
use Rattle.std.proofs.Common.{inl, inr}
use Rattle.std.specs.Int.{w32, w64, from_be_bytes, cast_signed}
use Rattle.byte_form.specs.Fields.{u8_spelling, u32_spelling, u64_spelling, i32_spelling, bytes_spelling, StandsAt}
use Rattle.field_form.specs.Reading.{◌>>=◌, Read}

pub record Form (V : Type 0) : Type 1 where
  -- which values have a spelling
  pub Fits : V → Type 0
  -- what a value of the program needs to have one: its numbers are within their types as they are
  pub Needs : V → Type 0
  pub spelling : V → List ℕ
  -- what stands at a place of the bytes
  pub reading : List ℕ → ℕ → Read V

-- A field of so many bytes.
abbrev pub field : {V : Type 0} → (V → Type 0) → (V → List ℕ) → ℕ → (List ℕ → V) → Form V
field Fits spelling size value_of = record {
  Fits = Fits;
  Needs = λ v. Unit {0};
  spelling = spelling;
  reading = λ bytes at. if nat_lt (length bytes) (at + size) then Err at else Ok (value_of (take size (drop at bytes)), at + size);
}

abbrev pub u8_form : Form ℕ
u8_form = field (λ n. n < 2 ^ 8) u8_spelling 1 (λ bytes. slice_index bytes 0)

abbrev pub u32_form : Form ℕ
u32_form = field (λ n. n < 2 ^ 32) u32_spelling 4 (from_be_bytes w32)

abbrev pub u64_form : Form ℕ
u64_form = field (λ n. n < 2 ^ 64) u64_spelling 8 (from_be_bytes w64)

abbrev pub i32_form : Form ℤ
i32_form = field (FitsSigned w32) i32_spelling 4 (λ bytes. cast_signed w32 (from_be_bytes w32 bytes))

-- Bytes behind their number. Where too few are left the fault is at the number.
abbrev pub bytes_form : Form (List ℕ)
bytes_form = record {
  Fits = λ text. length text < 2 ^ 32;
  Needs = λ text. length text < 2 ^ 32;
  spelling = bytes_spelling;
  reading = λ bytes at. u32_form.reading bytes at >>= λ n.
      if nat_lt (length bytes) (n.1 + n.0) then Err at else Ok (take n.0 (drop n.1 bytes), n.1 + n.0);
}

-- One thing, which takes no byte.
abbrev pub nothing : Form (Unit {0})
nothing = record { Fits = λ v. Unit {0}; Needs = λ v. Unit {0}; spelling = λ v. []; reading = λ bytes at. Ok (tt, at) }

-- One form and then another.
abbrev pub pair : {A B : Type 0} → Form A → Form B → Form (A × B)
pair a b = record {
  Fits = λ v. a.Fits v.0 × b.Fits v.1;
  Needs = λ v. a.Needs v.0 × b.Needs v.1;
  spelling = λ v. a.spelling v.0 ++ b.spelling v.1;
  reading = λ bytes at. a.reading bytes at >>= λ x. b.reading bytes x.1 >>= λ y. Ok ((x.0, y.0), y.1);
}

-- A form of the parts of a value.
abbrev pub of_parts : {A V : Type 0} → (A → V) → (V → A) → Form A → Form V
of_parts whole parts a = record {
  Fits = λ v. a.Fits (parts v);
  Needs = λ v. a.Needs (parts v);
  spelling = λ v. a.spelling (parts v);
  reading = λ bytes at. a.reading bytes at >>= λ x. Ok (whole x.0, x.1);
}

-- The same, where only some values are made of their parts.
abbrev pub of_some_parts : {A V : Type 0} → (A → V) → (V → A) → Form A → Form V
of_some_parts whole parts a = record {
  Fits = λ v. a.Fits (parts v) × (whole (parts v) ≡ v);
  Needs = λ v. a.Needs (parts v) × (whole (parts v) ≡ v);
  spelling = λ v. a.spelling (parts v);
  reading = λ bytes at. a.reading bytes at >>= λ x. Ok (whole x.0, x.1);
}

-- The same form, where this is what a value of the program needs.
abbrev pub that_needs : {V : Type 0} → (V → Type 0) → Form V → Form V
that_needs Asked a = record { Fits = a.Fits; Needs = Asked; spelling = a.spelling; reading = a.reading }

-- What may stand behind a kind, which is one byte: 0 for the first choice, 1 for the next.
pub record Choice (V : Type 0) : Type 1 where
  pub Fits : V → Type 0
  pub Needs : V → Type 0
  pub kind : V → ℕ
  pub spelling : V → List ℕ
  -- by the kind, the place of the kind and the place behind it
  pub reading : ℕ → List ℕ → ℕ → ℕ → Read V

abbrev pub read_last : {A : Type 0} → Form A → ℕ → List ℕ → ℕ → ℕ → Read A
read_last a zero bytes at behind = a.reading bytes behind
read_last a (suc kind) bytes at behind = Err at

abbrev pub last : {A : Type 0} → Form A → Choice A
last a = record {
  Fits = a.Fits;
  Needs = a.Needs;
  kind = λ v. 0;
  spelling = a.spelling;
  reading = read_last a;
}

abbrev pub fits_either : {A B : Type 0} → (A → Type 0) → (B → Type 0) → A ⊎ B → Type 0
fits_either f g (inl x) = f x
fits_either f g (inr y) = g y

abbrev pub either : {A B C : Type 0} → (A → C) → (B → C) → A ⊎ B → C
either f g (inl x) = f x
either f g (inr y) = g y

abbrev pub read_first : {A B : Type 0} → Read A → Read (A ⊎ B)
read_first r = r >>= λ x. Ok (inl x.0, x.1)

abbrev pub read_other : {A B : Type 0} → Read B → Read (A ⊎ B)
read_other r = r >>= λ x. Ok (inr x.0, x.1)

abbrev pub read_choice : {A B : Type 0} → Form A → Choice B → ℕ → List ℕ → ℕ → ℕ → Read (A ⊎ B)
read_choice a b zero bytes at behind = read_first (a.reading bytes behind)
read_choice a b (suc kind) bytes at behind = read_other (b.reading kind bytes at behind)

infixr 5 ◌or◌
abbrev pub ◌or◌ : {A B : Type 0} → Form A → Choice B → Choice (A ⊎ B)
a or b = record {
  Fits = fits_either a.Fits b.Fits;
  Needs = fits_either a.Needs b.Needs;
  kind = either (λ x. 0) (λ y. suc (b.kind y));
  spelling = either a.spelling b.spelling;
  reading = read_choice a b;
}

-- A kind, and what it stands for. A kind that there is not is a fault at its place.
abbrev pub kinds : {V : Type 0} → Choice V → Form V
kinds c = record {
  Fits = λ v. (c.kind v < 2 ^ 8) × c.Fits v;
  Needs = c.Needs;
  spelling = λ v. c.kind v ∷ c.spelling v;
  reading = λ bytes at. u8_form.reading bytes at >>= λ k. c.reading k.0 bytes at k.1;
}

abbrev pub read_number : {V : Type 0} → Option V → ℕ → ℕ → Read V
read_number None at behind = Err at
read_number (Some v) at behind = Ok (v, behind)

-- Just this byte. Any other is a fault at its place.
abbrev pub mark : ℕ → Form (Unit {0})
mark byte = record {
  Fits = λ v. byte < 2 ^ 8;
  Needs = λ v. Unit {0};
  spelling = λ v. byte ∷ [];
  reading = λ bytes at. u8_form.reading bytes at >>= λ n. if nat_eq n.0 byte then Ok (tt, n.1) else Err at;
}

-- One of a few values, by its number. A number that none has is a fault at its place.
abbrev pub numbered : {V : Type 0} → (V → ℕ) → List V → Form V
numbered number all = record {
  Fits = λ v. Unit {0};
  Needs = λ v. Unit {0};
  spelling = λ v. number v ∷ [];
  reading = λ bytes at. u8_form.reading bytes at >>= λ n. read_number (slice_get all n.0) at n.1;
}

-- These are all values, each at its number.
pub record AreAll {V : Type 0} (number : V → ℕ) (all : List V) : Type 0 where
  pub found : (v : V) → slice_get all (number v) ≡ Some v
  pub numbers : (n : ℕ) (v : V) → slice_get all n ≡ Some v → number v ≡ n
  pub few : (v : V) → number v < 2 ^ 8

abbrev pub yes_no : Bool → ℕ
yes_no false = 0
yes_no true = 1

abbrev pub bool_form : Form Bool
bool_form = numbered yes_no (false ∷ true ∷ [])

abbrev pub option_of : {V : Type 0} → Unit {0} ⊎ V → Option V
option_of (inl x) = None
option_of (inr v) = Some v

abbrev pub of_option : {V : Type 0} → Option V → Unit {0} ⊎ V
of_option None = inl tt
of_option (Some v) = inr v

-- `00`, or `01` and the item.
abbrev pub optional : {V : Type 0} → Form V → Form (Option V)
optional a = of_parts option_of of_option (kinds (nothing or last a))

-- The form's values that pass a test, and no others: one that does not is a fault at its place.
abbrev pub admitted : {V : Type 0} → (V → Bool) → Form V → Form V
admitted test a = record {
  Fits = λ v. IsTrue (test v) × a.Fits v;
  Needs = λ v. IsTrue (test v) × a.Needs v;
  spelling = a.spelling;
  reading = λ bytes at. a.reading bytes at >>= λ x. if test x.0 then Ok x else Err at;
}

-- The form where there is room for one more, and a fault at its place where there is none.
abbrev pub if_room : {V : Type 0} → Bool → Form V → Form V
if_room room a = record {
  Fits = λ v. IsTrue room × a.Fits v;
  Needs = λ v. IsTrue room × a.Needs v;
  spelling = a.spelling;
  reading = λ bytes at. if room then a.reading bytes at else Err at;
}

-- What holds of each item and the items before it.
abbrev pub AllBehind : {V : Type 0} → (List V → V → Type 0) → List V → List V → Type 0
AllBehind P before [] = Unit {0}
AllBehind P before (x ∷ xs) = P before x × AllBehind P (before ++ x ∷ []) xs

-- The items behind these, each by its form behind those before it.
abbrev pub spelled : {V : Type 0} → (List V → Form V) → List V → List V → List ℕ
spelled behind before [] = []
spelled behind before (x ∷ xs) = (behind before).spelling x ++ spelled behind (before ++ x ∷ []) xs

-- So many items behind those that were read.
abbrev pub read_items : {V : Type 0} → (List V → Form V) → ℕ → List V → List ℕ → ℕ → Read (List V)
read_items behind zero before bytes at = Ok (before, at)
read_items behind (suc n) before bytes at = (behind before).reading bytes at >>= λ x. read_items behind n (before ++ x.0 ∷ []) bytes x.1

-- The number of the items as a u32, and then the items. Which form an item has may hang on the items before it.
abbrev pub list_of : {V : Type 0} → (List V → Form V) → Form (List V)
list_of behind = record {
  Fits = λ xs. (length xs < 2 ^ 32) × AllBehind (λ before x. (behind before).Fits x) [] xs;
  Needs = λ xs. (length xs < 2 ^ 32) × AllBehind (λ before x. (behind before).Needs x) [] xs;
  spelling = λ xs. u32_spelling (length xs) ++ spelled behind [] xs;
  reading = λ bytes at. u32_form.reading bytes at >>= λ n. read_items behind n.0 [] bytes n.1;
}

-- A list of items that stand in any order.
abbrev pub many : {V : Type 0} → Form V → Form (List V)
many a = list_of (λ before. a)

-- A value was written behind what stood there, and has that spelling.
pub record Written {V : Type 0} (form : Form V) (v : V) (old new : List ℕ) : Type 0 where
  pub fits : form.Fits v
  pub spelled : new ≡ old ++ form.spelling v

-- The laws of a form. What is read stands there; what stands there is read; what has a spelling needs nothing more.
abbrev pub IsBytes : List ℕ → Type 0
IsBytes bytes = (i : ℕ) → slice_index bytes i < 256

pub record Found {V : Type 0} (form : Form V) (v : V) (bytes : List ℕ) (at behind : ℕ) : Type 0 where
  pub fits : form.Fits v
  pub stands : StandsAt (form.spelling v) at bytes
  pub behind_it : behind ≡ at + length (form.spelling v)

pub record Lawful {V : Type 0} (form : Form V) : Type 0 where
  pub takes : (bytes : List ℕ) (at : ℕ) (v : V) (behind : ℕ) → IsBytes bytes → form.reading bytes at ≡ Ok (v, behind) → Found form v bytes at behind
  pub again : (bytes : List ℕ) (at : ℕ) (v : V) → form.Fits v → StandsAt (form.spelling v) at bytes → form.reading bytes at ≡ Ok (v, at + length (form.spelling v))
  pub needed : (v : V) → form.Fits v → form.Needs v

-- The bytes, all of them, are the spelling of the value. Each value that has a spelling has one.
pub record Spells {V : Type 0} (form : Form V) (v : V) (bytes : List ℕ) : Type 0 where
  pub fits : form.Fits v
  pub is_spelling : bytes ≡ form.spelling v

-- What the bytes, all of them, are: the value, or the place where the form breaks first. Where bytes are left over it
-- is the place behind the value.
abbrev pub whole_of : {V : Type 0} → Form V → List ℕ → Result V ℕ
whole_of form bytes = form.reading bytes 0 >>= λ x. if x.1 == length bytes then Ok x.0 else Err x.1
