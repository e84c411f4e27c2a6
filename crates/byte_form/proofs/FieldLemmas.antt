-- Fields in bytes: two that stand one behind the other, and that no spelling begins another.
use Rattle.std.proofs.Common.{◌≡◌, ℕ, ◌+◌, ◌^◌, ◌<◌, List, ◌++◌, length, take, drop, get_or, refl, sym, ◌∙◌, ap, arith, length-append, append_assoc}
use Rattle.std.specs.Int.{w32, w64, from_be_bytes, cast_unsigned, cast_signed}
use Rattle.std.proofs.lemmas.List.{take_at, drop_at, take-take, drop-take, drop-drop}
use Rattle.std.proofs.lemmas.Nat.{from_be_bytes-to_be_bytes_4, from_be_bytes-to_be_bytes_8}
use Rattle.std.proofs.lemmas.Int.{to_z-of_z}
use Rattle.std.proofs.Math.Seq.{take-add}
use mir.ValLaws.{of_z_fits}
use Rattle.byte_form.specs.Fields.{u8_spelling, u32_spelling, u64_spelling, i32_spelling, bytes_spelling, StandsAt, IsApart, FieldsAreApart}

pub StandsAt-join : (front back bytes : List ℕ) (at n : ℕ) → length front ≡ n → StandsAt front at bytes → StandsAt back (at + n) bytes → StandsAt (front ++ back) at bytes
StandsAt-join front back bytes at n size first next =
    ap (λ (k : ℕ). take k (drop at bytes)) (length-append front back)
    ∙ take-add (length front) (length back) (drop at bytes)
    ∙ ap (λ (l : List ℕ). l ++ take (length back) (drop (length front) (drop at bytes))) first
    ∙ ap (λ (l : List ℕ). front ++ take (length back) l) (drop-drop (length front) at bytes ∙ ap (λ (k : ℕ). drop (at + k) bytes) size)
    ∙ ap (λ (l : List ℕ). front ++ l) next

module _ (front back bytes : List ℕ) (at : ℕ) (both : StandsAt (front ++ back) at bytes) where
  whole : take (length front + length back) (drop at bytes) ≡ front ++ back
  whole = ap (λ (k : ℕ). take k (drop at bytes)) (sym (length-append front back)) ∙ both

  pub StandsAt-front : StandsAt front at bytes
  StandsAt-front =
      sym (take-take (length front) (length front + length back) (drop at bytes) (omega arith))
      ∙ ap (λ (l : List ℕ). take (length front) l) whole
      ∙ take_at front back (length front) refl

  pub StandsAt-back : take (length back) (drop (length front) (drop at bytes)) ≡ back
  StandsAt-back =
      sym (drop-take (length front) (length back) (drop at bytes))
      ∙ ap (λ (l : List ℕ). drop (length front) l) whole
      ∙ drop_at front back (length front) refl

-- the bytes that are read are the value that stands there
pub bytes_again : (value found bytes : List ℕ) (at len : ℕ) → length value < 2 ^ 32 → StandsAt (bytes_spelling value) at bytes → len ≡ from_be_bytes w32 (take 4 (drop at bytes)) → found ≡ take len (drop (at + 4) bytes) → found ≡ value
bytes_again value found bytes at len fits stands is_len is_found =
    let front : take 4 (drop at bytes) ≡ u32_spelling (length value) = StandsAt-front (u32_spelling (length value)) value bytes at stands in
    let same : len ≡ length value = is_len ∙ ap (from_be_bytes w32) front ∙ from_be_bytes-to_be_bytes_4 (length value) fits in
    is_found
    ∙ ap (λ (k : ℕ). take k (drop (at + 4) bytes)) same
    ∙ ap (take (length value)) (sym (drop-drop 4 at bytes))
    ∙ StandsAt-back (u32_spelling (length value)) value bytes at stands

-- fields of one length, from which the value is read back
apart_by : {V : Type 0} (Fits : V → Type 0) (spelling : V → List ℕ) (n : ℕ) (value_of : List ℕ → V) → ((v : V) → length (spelling v) ≡ n) → ((v : V) → Fits v → value_of (spelling v) ≡ v) → IsApart Fits spelling
apart_by Fits spelling n value_of size back a b x y fits_a fits_b same =
    let front : spelling a ≡ spelling b = sym (take_at (spelling a) x n (size a)) ∙ ap (λ (l : List ℕ). take n l) same ∙ take_at (spelling b) y n (size b) in (
      sym (back a fits_a) ∙ ap value_of front ∙ back b fits_b,
      sym (drop_at (spelling a) x n (size a)) ∙ ap (λ (l : List ℕ). drop n l) same ∙ drop_at (spelling b) y n (size b),
    )

pub u32_apart : IsApart (λ (value : ℕ). value < 2 ^ 32) u32_spelling
u32_apart = apart_by _ u32_spelling 4 (from_be_bytes w32) (λ v. refl) (λ v fits. from_be_bytes-to_be_bytes_4 v fits)

bytes_apart : IsApart (λ (value : List ℕ). length value < 2 ^ 32) bytes_spelling
bytes_apart a b x y fits_a fits_b same =
    let parts = u32_apart (length a) (length b) (a ++ x) (b ++ y) fits_a fits_b (sym (append_assoc (u32_spelling (length a)) a x) ∙ same ∙ append_assoc (u32_spelling (length b)) b y) in (
      sym (take_at a x (length a) refl) ∙ ap (λ (l : List ℕ). take (length a) l) parts.1 ∙ take_at b y (length a) (sym parts.0),
      sym (drop_at a x (length a) refl) ∙ ap (λ (l : List ℕ). drop (length a) l) parts.1 ∙ drop_at b y (length a) (sym parts.0),
    )

pub fields_are_apart : FieldsAreApart
fields_are_apart = record {
  u8 = apart_by _ u8_spelling 1 (λ l. get_or l 0 0) (λ v. refl) (λ v fits. refl);
  u32 = u32_apart;
  u64 = apart_by _ u64_spelling 8 (from_be_bytes w64) (λ v. refl) (λ v fits. from_be_bytes-to_be_bytes_8 v fits);
  i32 = apart_by _ i32_spelling 4 (λ l. cast_signed w32 (from_be_bytes w32 l)) (λ v. refl) (λ v fits. ap (cast_signed w32) (from_be_bytes-to_be_bytes_4 (cast_unsigned w32 v) (of_z_fits w32 v fits).fits) ∙ to_z-of_z w32 v fits);
  bytes = bytes_apart;
}
