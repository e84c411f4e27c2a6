-- The fields keep the laws of forms.
use Rattle.std.proofs.Common.{◌≡◌, ℕ, ◌+◌, ◌^◌, ◌<◌, ◌≤◌, false, cond, ltb, List, [], ◌∷◌, length, take, drop, Ok, Err, refl, sym, ap, subst, ◌∙◌, arith, inl, inr, length-append}
use Rattle.std.specs.Prelude.{FitsSigned, slice_index}
use Rattle.std.specs.Int.{w32, from_be_bytes, to_be_bytes, cast_signed, cast_unsigned}
use Rattle.std.proofs.lemmas.Bool.{ltb-false, le-ltb, cases_lt}
use Rattle.std.proofs.lemmas.List.{length-take, length-drop, get_or-drop, get_or-take, get_or_past}
use Rattle.std.proofs.lemmas.Nat.{be_bytes_4, be_bytes_8, from_be_bytes-to_be_bytes_4, from_be_bytes-to_be_bytes_8}
use Rattle.std.proofs.lemmas.Int.{to_z-of_z, of_z-to_z}
use mir.ValLaws.{of_z_fits, to_z-Fits}
use Rattle.byte_form.specs.Fields.{u8_spelling, u32_spelling, u64_spelling, i32_spelling, bytes_spelling, StandsAt}
use Rattle.field_form.specs.Places.{bind_ok, guard_ok, stands_join, stands_front, stands_back, stands_length}
use Rattle.field_form.specs.Forms.{field, u8_form, u32_form, u64_form, i32_form, bytes_form, IsBytes, Found, Lawful}

pub IsBytes-drop : (n : ℕ) (bytes : List ℕ) → IsBytes bytes → IsBytes (drop n bytes)
IsBytes-drop n bytes h i = rw get_or-drop (h (n + i))

pub IsBytes-take : (n : ℕ) (bytes : List ℕ) → IsBytes bytes → IsBytes (take n bytes)
IsBytes-take n bytes h i =
    elim (cases_lt i n) [
      | inl lt ↦ rw (get_or-take n bytes i 0 lt) (h i)
      | inr le ↦ rw (get_or_past (take n bytes) i 0 (omega (arith, length-take n bytes))) (omega arith)
    ]

record IsField {V : Type 0} (Fits : V → Type 0) (spelling : V → List ℕ) (size : ℕ) (value_of : List ℕ → V) : Type 0 where
  some : 0 < size
  len : (v : V) → length (spelling v) ≡ size
  again : (v : V) → Fits v → value_of (spelling v) ≡ v
  fits : (l : List ℕ) → length l ≡ size → IsBytes l → Fits (value_of l)
  back : (l : List ℕ) → length l ≡ size → IsBytes l → spelling (value_of l) ≡ l

field_lawful : {V : Type 0} (Fits : V → Type 0) (spelling : V → List ℕ) (size : ℕ) (value_of : List ℕ → V) → IsField Fits spelling size value_of → Lawful (field Fits spelling size value_of)
field_lawful {V} Fits spelling size value_of is = record {
  takes = λ bytes at v behind is_bytes e.
      let l = take size (drop at bytes) in
      let made : V × ℕ = (value_of l, at + size) in
      let g = guard_ok (ltb (length bytes) (at + size)) at made (v, behind) e in
      let long : at + size ≤ length bytes = ltb-false _ _ g.0 in
      let len : length l ≡ size = omega (arith, length-take size (drop at bytes), length-drop at bytes) in
      let l_bytes : IsBytes l = IsBytes-take size (drop at bytes) (IsBytes-drop at bytes is_bytes) in
      subst (λ (y : V × ℕ). Found (field Fits spelling size value_of) y.0 bytes at y.1) g.1 (record {
        fits = is.fits l len l_bytes;
        stands = rw (is.back l len l_bytes, len) refl;
        behind_it = ap (λ (n : ℕ). at + n) (sym (is.len (value_of l)));
      });
  again = λ bytes at v fits stands.
      let len = is.len v in
      let some : 0 < length (spelling v) = omega (arith, len, is.some) in
      let long : ltb (length bytes) (at + size) ≡ false = le-ltb _ _ (omega (arith, stands_length (spelling v) bytes at some stands, len)) in
      let there : take size (drop at bytes) ≡ spelling v = ap (λ (n : ℕ). take n (drop at bytes)) (sym len) ∙ stands in
      rw (long, there, is.again v fits, len) refl;
  needed = λ v fits. tt;
}

one_byte : (l : List ℕ) → length l ≡ 1 → u8_spelling (slice_index l 0) ≡ l
one_byte [] e = absurd cc
one_byte (x ∷ []) e = refl
one_byte (x ∷ y ∷ l) e = absurd (omega (arith, e))

pub u8_lawful : Lawful u8_form
u8_lawful = field_lawful _ u8_spelling 1 _ (record {
  some = omega arith;
  len = λ v. refl;
  again = λ v fits. refl;
  fits = λ l len is_bytes. is_bytes 0;
  back = λ l len is_bytes. one_byte l len;
})

wide4 : (l : List ℕ) → IsBytes l → from_be_bytes w32 l < 2 ^ 32
wide4 l fits = omega (arith, fits 0, fits 1, fits 2, fits 3)

pub u32_lawful : Lawful u32_form
u32_lawful = field_lawful _ u32_spelling 4 _ (record {
  some = omega arith;
  len = λ v. refl;
  again = λ v fits. from_be_bytes-to_be_bytes_4 v fits;
  fits = λ l len is_bytes. wide4 l is_bytes;
  back = λ l len is_bytes. be_bytes_4 l _ len is_bytes refl;
})

pub u64_lawful : Lawful u64_form
u64_lawful = field_lawful _ u64_spelling 8 _ (record {
  some = omega arith;
  len = λ v. refl;
  again = λ v fits. from_be_bytes-to_be_bytes_8 v fits;
  fits = λ l is_len is_bytes. omega (arith, is_bytes 0, is_bytes 1, is_bytes 2, is_bytes 3, is_bytes 4, is_bytes 5, is_bytes 6, is_bytes 7);
  back = λ l len is_bytes. be_bytes_8 l _ len is_bytes refl;
})

signed_fits : (n : ℕ) → n < 2 ^ 32 → FitsSigned w32 (cast_signed w32 n)
signed_fits n h = to_z-Fits w32 n (record { fits = h })

signed_back : (n : ℕ) → n < 2 ^ 32 → cast_unsigned w32 (cast_signed w32 n) ≡ n
signed_back n h = of_z-to_z w32 n h

pub i32_lawful : Lawful i32_form
i32_lawful = field_lawful _ i32_spelling 4 _ (record {
  some = omega arith;
  len = λ v. refl;
  again = λ v fits. ap (cast_signed w32) (from_be_bytes-to_be_bytes_4 (cast_unsigned w32 v) (of_z_fits w32 v fits).fits) ∙ to_z-of_z w32 v fits;
  fits = λ l len is_bytes. signed_fits (from_be_bytes w32 l) (wide4 l is_bytes);
  back = λ l len is_bytes. ap (to_be_bytes w32) (signed_back (from_be_bytes w32 l) (wide4 l is_bytes)) ∙ be_bytes_4 l _ len is_bytes refl;
})

pub bytes_lawful : Lawful bytes_form
bytes_lawful = record {
  takes = λ bytes at v behind is_bytes e.
      let p = bind_ok (u32_form.reading bytes at) (λ n. cond (ltb (length bytes) (n.1 + n.0)) (Err at) (Ok (take n.0 (drop n.1 bytes), n.1 + n.0))) (v, behind) e in
      let n = p.0.0 in
      let start = p.0.1 in
      let l = take n (drop start bytes) in
      let made : List ℕ × ℕ = (l, start + n) in
      let g = guard_ok (ltb (length bytes) (start + n)) at made (v, behind) p.2 in
      let long : start + n ≤ length bytes = ltb-false _ _ g.0 in
      let len : length l ≡ n = omega (arith, length-take n (drop start bytes), length-drop start bytes) in
      let first = u32_lawful.takes bytes at n start is_bytes p.1 in
      let front : StandsAt (u32_spelling (length l)) at bytes = subst (λ (k : ℕ). StandsAt (u32_spelling k) at bytes) (sym len) first.stands in
      let is_start : start ≡ at + 4 = first.behind_it in
      let next : StandsAt l (at + 4) bytes = ap (λ (k : ℕ). take k (drop (at + 4) bytes)) len ∙ ap (λ (k : ℕ). take n (drop k bytes)) (sym is_start) in
      subst (λ (y : List ℕ × ℕ). Found bytes_form y.0 bytes at y.1) g.1 (record {
        fits = omega (arith, first.fits, len);
        stands = stands_join (u32_spelling (length l)) l bytes at front next;
        behind_it = omega (arith, is_start, len, length-append (u32_spelling (length l)) l);
      });
  again = λ bytes at v fits stands.
      let front = u32_lawful.again bytes at (length v) fits (stands_front (u32_spelling (length v)) v bytes at stands) in
      let next : StandsAt v (at + 4) bytes = stands_back (u32_spelling (length v)) v bytes at stands in
      let all : 0 < length (bytes_spelling v) = omega (arith, length-append (u32_spelling (length v)) v) in
      let end : at + 4 + length v ≤ length bytes = omega (arith, stands_length (bytes_spelling v) bytes at all stands, length-append (u32_spelling (length v)) v) in
      let long : ltb (length bytes) (at + 4 + length v) ≡ false = le-ltb _ _ end in
      let is_end : at + 4 + length v ≡ at + length (bytes_spelling v) = omega (arith, length-append (u32_spelling (length v)) v) in
      rw (front, long, next, is_end) refl;
  needed = λ v fits. fits;
}
