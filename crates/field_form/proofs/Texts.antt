-- A text that was read.
use Rattle.std.proofs.Common.{◌≡◌, ℕ, ◌+◌, ◌^◌, ◌<◌, ◌≤◌, ltb, false, List, length, take, drop, Result, Ok, refl, sym, ap, ◌∙◌, arith}
use Rattle.std.specs.Int.{w32, from_be_bytes}
use Rattle.std.proofs.lemmas.Bool.{le-ltb}
use Rattle.std.proofs.lemmas.List.{get_or-take, length-take, length-drop}
use Rattle.byte_form.specs.Fields.{bytes_spelling, StandsAt, stated_length}
use Rattle.field_form.specs.Forms.{bytes_form, IsBytes}
use Rattle.field_form.specs.FieldLaws.{bytes_lawful}

abbrev made : List ℕ → ℕ → Result (List ℕ × ℕ) ℕ
made l n = Ok (l, n)

stated : (bytes : List ℕ) (at : ℕ) → from_be_bytes w32 (take 4 (drop at bytes)) ≡ stated_length at bytes
stated bytes at = rw (get_or-take 4 (drop at bytes) 0 0 (omega arith), get_or-take 4 (drop at bytes) 1 0 (omega arith), get_or-take 4 (drop at bytes) 2 0 (omega arith), get_or-take 4 (drop at bytes) 3 0 (omega arith)) refl

pub text_read : (bytes : List ℕ) (at : ℕ) (got : List ℕ) (behind : ℕ) → IsBytes bytes → at + 4 + stated_length at bytes ≤ length bytes
    → ((value : List ℕ) → length value < 2 ^ 32 → StandsAt (bytes_spelling value) at bytes → got ≡ value)
    → behind ≡ at + 4 + length got → bytes_form.reading bytes at ≡ Ok (got, behind)
text_read bytes at got behind is_bytes long again is_behind =
    let n = stated_length at bytes in
    let value = take n (drop (at + 4) bytes) in
    let one : ltb (length bytes) (at + 4) ≡ false = le-ltb _ _ (omega arith) in
    let two : ltb (length bytes) (at + 4 + n) ≡ false = le-ltb _ _ long in
    let e : bytes_form.reading bytes at ≡ Ok (value, at + 4 + n) = rw (one, stated bytes at, two) refl in
    let found = bytes_lawful.takes bytes at value (at + 4 + n) is_bytes e in
    let same : got ≡ value = again value found.fits found.stands in
    let len : length got ≡ n = ap length same ∙ omega (arith, length-take n (drop (at + 4) bytes), length-drop (at + 4) bytes, long) in
    let end : at + 4 + n ≡ behind = omega (arith, len, is_behind) in
    e ∙ ap (λ (l : List ℕ). made l (at + 4 + n)) (sym same) ∙ ap (made got) end
