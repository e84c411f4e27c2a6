-- Each part of which forms are put together keeps the laws: so every form has them.
use Rattle.std.proofs.Common.{◌≡◌, ℕ, zero, suc, ◌+◌, ◌^◌, ◌<◌, Bool, true, false, cond, eqb, List, [], ◌∷◌, ◌++◌, length, drop, Option, Some, None, Result, Ok, Err, refl, sym, ap, subst, ◌∙◌, append_assoc, arith, inl, inr, length-append}
use Rattle.std.specs.Prelude.{◌⊎◌, slice_get}
use Rattle.std.proofs.Math.Dec.{eqb_refl}
use Rattle.std.proofs.Common.{T}
use Rattle.std.proofs.lemmas.Bool.{eqb-true}
use Rattle.std.proofs.lemmas.List.{take_at, drop_at, append-nil}
use Rattle.byte_form.specs.Fields.{u8_spelling, u32_spelling, StandsAt, IsApart}
use Rattle.field_form.specs.Reading.{◌>>=◌}
use Rattle.field_form.specs.FieldLaws.{u8_lawful, u32_lawful}
use Rattle.field_form.specs.Places.{bind_ok, test_ok, ok_is, stands_join, stands_front, stands_back, behind_two}
use Rattle.field_form.specs.Forms.{Form, u8_form, u32_form, nothing, pair, of_parts, of_some_parts, that_needs, Choice, last, ◌or◌, kinds, numbered, mark, read_number, AreAll, yes_no, bool_form, optional, option_of, of_option, admitted, if_room, AllBehind, spelled, read_items, list_of, many, IsBytes, Found, Lawful}

-- ---- two forms

pub pair_lawful : {A B : Type 0} (a : Form A) (b : Form B) → Lawful a → Lawful b → Lawful (pair a b)
pair_lawful {A} {B} a b la lb = record {
  takes = λ bytes at v behind is_bytes e.
      let p = bind_ok (a.reading bytes at) (λ x. b.reading bytes x.1 >>= λ y. Ok ((x.0, y.0), y.1)) (v, behind) e in
      let q = bind_ok (b.reading bytes p.0.1) (λ y. Ok ((p.0.0, y.0), y.1)) (v, behind) p.2 in
      let first = la.takes bytes at p.0.0 p.0.1 is_bytes p.1 in
      let next = lb.takes bytes p.0.1 q.0.0 q.0.1 is_bytes q.1 in
      let next_stands : StandsAt (b.spelling q.0.0) (at + length (a.spelling p.0.0)) bytes = subst (λ (n : ℕ). StandsAt (b.spelling q.0.0) n bytes) first.behind_it next.stands in
      let made : (A × B) × ℕ = ((p.0.0, q.0.0), q.0.1) in
      subst (λ (y : (A × B) × ℕ). Found (pair a b) y.0 bytes at y.1) (ok_is made (v, behind) q.2) (record {
        fits = (first.fits, next.fits);
        stands = stands_join (a.spelling p.0.0) (b.spelling q.0.0) bytes at first.stands next_stands;
        behind_it = next.behind_it ∙ ap (λ (n : ℕ). n + length (b.spelling q.0.0)) first.behind_it ∙ behind_two at (a.spelling p.0.0) (b.spelling q.0.0);
      });
  again = λ bytes at v fits stands.
      let first = la.again bytes at v.0 fits.0 (stands_front (a.spelling v.0) (b.spelling v.1) bytes at stands) in
      let next = lb.again bytes (at + length (a.spelling v.0)) v.1 fits.1 (stands_back (a.spelling v.0) (b.spelling v.1) bytes at stands) in
      rw (first, next) (ap (λ (n : ℕ). Ok (v, n)) (behind_two at (a.spelling v.0) (b.spelling v.1)));
  needed = λ v fits. (la.needed v.0 fits.0, lb.needed v.1 fits.1);
}

-- ---- the parts of a value

pub of_parts_lawful : {A V : Type 0} (whole : A → V) (parts : V → A) (a : Form A) → ((x : A) → parts (whole x) ≡ x) → ((v : V) → whole (parts v) ≡ v) → Lawful a → Lawful (of_parts whole parts a)
of_parts_lawful {A} {V} whole parts a there back la = record {
  takes = λ bytes at v behind is_bytes e.
      let p = bind_ok (a.reading bytes at) (λ x. Ok (whole x.0, x.1)) (v, behind) e in
      let found = la.takes bytes at p.0.0 p.0.1 is_bytes p.1 in
      let same : parts (whole p.0.0) ≡ p.0.0 = there p.0.0 in
      let made : V × ℕ = (whole p.0.0, p.0.1) in
      subst (λ (y : V × ℕ). Found (of_parts whole parts a) y.0 bytes at y.1) (ok_is made (v, behind) p.2) (record {
        fits = rw same found.fits;
        stands = rw same found.stands;
        behind_it = rw same found.behind_it;
      });
  again = λ bytes at v fits stands.
      let first = la.again bytes at (parts v) fits stands in
      rw (first, back v) refl;
  needed = λ v fits. la.needed (parts v) fits;
}

pub of_some_parts_lawful : {A V : Type 0} (whole : A → V) (parts : V → A) (a : Form A) → ((x : A) → parts (whole x) ≡ x) → Lawful a → Lawful (of_some_parts whole parts a)
of_some_parts_lawful {A} {V} whole parts a there la = record {
  takes = λ bytes at v behind is_bytes e.
      let p = bind_ok (a.reading bytes at) (λ x. Ok (whole x.0, x.1)) (v, behind) e in
      let found = la.takes bytes at p.0.0 p.0.1 is_bytes p.1 in
      let same : parts (whole p.0.0) ≡ p.0.0 = there p.0.0 in
      let made : V × ℕ = (whole p.0.0, p.0.1) in
      subst (λ (y : V × ℕ). Found (of_some_parts whole parts a) y.0 bytes at y.1) (ok_is made (v, behind) p.2) (record {
        fits = (rw same found.fits, ap whole same);
        stands = rw same found.stands;
        behind_it = rw same found.behind_it;
      });
  again = λ bytes at v fits stands.
      let first = la.again bytes at (parts v) fits.0 stands in
      let back = fits.1 in
      rw (first, back) refl;
  needed = λ v fits. (la.needed (parts v) fits.0, fits.1);
}

pub that_needs_lawful : {V : Type 0} (Asked : V → Type 0) (a : Form V) → Lawful a → ((v : V) → a.Fits v → Asked v) → Lawful (that_needs Asked a)
that_needs_lawful Asked a la asked = record {
  takes = λ bytes at v behind is_bytes e. let f = la.takes bytes at v behind is_bytes e in record { fits = f.fits; stands = f.stands; behind_it = f.behind_it };
  again = λ bytes at v fits stands. la.again bytes at v fits stands;
  needed = asked;
}

-- ---- nothing

pub nothing_lawful : Lawful nothing
nothing_lawful = record {
  takes = λ bytes at v behind is_bytes e.
      let k : at ≡ behind = ap (λ (y : Unit {0} × ℕ). y.1) (ok_is (tt, at) (v, behind) e) in
      record { fits = tt; stands = refl; behind_it = omega (arith, k) };
  again = λ bytes at v fits stands. let k : at ≡ at + 0 = omega arith in ap (λ (n : ℕ). Ok (tt, n)) k;
  needed = λ v fits. tt;
}

-- ---- a byte

t_true : (b : Bool) → T b → b ≡ true
t_true true t = refl
t_true false t = absurd t

pub mark_lawful : (byte : ℕ) → byte < 2 ^ 8 → Lawful (mark byte)
mark_lawful byte few = record {
  takes = λ bytes at v behind is_bytes e.
      let p = bind_ok (u8_form.reading bytes at) (λ n. cond (eqb n.0 byte) (Ok (tt, n.1)) (Err at)) (v, behind) e in
      let first = u8_lawful.takes bytes at p.0.0 p.0.1 is_bytes p.1 in
      let g = test_ok (eqb p.0.0 byte) at (Ok (tt, p.0.1)) (v, behind) p.2 in
      let k : p.0.0 ≡ byte = eqb-true p.0.0 byte g.0 in
      let end : p.0.1 ≡ behind = ap (λ (y : Unit {0} × ℕ). y.1) (ok_is (tt, p.0.1) (v, behind) g.1) in
      record {
        fits = few;
        stands = subst (λ (n : ℕ). StandsAt (n ∷ []) at bytes) k first.stands;
        behind_it = sym end ∙ first.behind_it;
      };
  again = λ bytes at v fits stands.
      let first = u8_lawful.again bytes at byte few stands in
      let test : eqb byte byte ≡ true = t_true (eqb byte byte) (eqb_refl byte) in
      rw (first, test) refl;
  needed = λ v fits. tt;
}

-- ---- one of a few

number_read : {V : Type 0} (o : Option V) (at behind : ℕ) (v : V) (end : ℕ) → read_number o at behind ≡ Ok (v, end) → (o ≡ Some v) × (behind ≡ end)
number_read None at behind v end e = absurd cc
number_read {V} (Some w) at behind v end e =
    let made : V × ℕ = (w, behind) in
    let p = ok_is made (v, end) e in
    (ap (λ (x : V × ℕ). Some x.0) p, ap (λ (x : V × ℕ). x.1) p)

pub numbered_lawful : {V : Type 0} (number : V → ℕ) (all : List V) → AreAll number all → Lawful (numbered number all)
numbered_lawful {V} number all are = record {
  takes = λ bytes at v behind is_bytes e.
      let p = bind_ok (u8_form.reading bytes at) (λ n. read_number (slice_get all n.0) at n.1) (v, behind) e in
      let first = u8_lawful.takes bytes at p.0.0 p.0.1 is_bytes p.1 in
      let q = number_read (slice_get all p.0.0) at p.0.1 v behind p.2 in
      let k : number v ≡ p.0.0 = are.numbers p.0.0 v q.0 in
      record {
        fits = tt;
        stands = subst (λ (n : ℕ). StandsAt (n ∷ []) at bytes) (sym k) first.stands;
        behind_it = sym q.1 ∙ first.behind_it;
      };
  again = λ bytes at v fits stands.
      let first = u8_lawful.again bytes at (number v) (are.few v) stands in
      rw (first, are.found v) refl;
  needed = λ v fits. tt;
}

bool_found : (b : Bool) → slice_get (false ∷ true ∷ []) (yes_no b) ≡ Some b
bool_found false = refl
bool_found true = refl

bool_numbers : (n : ℕ) (b : Bool) → slice_get (false ∷ true ∷ []) n ≡ Some b → yes_no b ≡ n
bool_numbers zero b e = let k : b ≡ false = cc in ap yes_no k
bool_numbers (suc zero) b e = let k : b ≡ true = cc in ap yes_no k
bool_numbers (suc (suc n)) b e = absurd cc

bool_few : (b : Bool) → yes_no b < 2 ^ 8
bool_few false = omega arith
bool_few true = omega arith

pub bool_lawful : Lawful bool_form
bool_lawful = numbered_lawful yes_no (false ∷ true ∷ []) (record { found = bool_found; numbers = bool_numbers; few = bool_few })

-- ---- no spelling begins another

pub apart : {V : Type 0} (form : Form V) → Lawful form → IsApart form.Fits form.spelling
apart {V} form lawful v w x y fits_v fits_w same =
    let one = lawful.again (form.spelling v ++ x) 0 v fits_v (take_at (form.spelling v) x (length (form.spelling v)) refl) in
    let two = lawful.again (form.spelling w ++ y) 0 w fits_w (take_at (form.spelling w) y (length (form.spelling w)) refl) in
    let made : V × ℕ = (v, 0 + length (form.spelling v)) in
    let both = ok_is made (w, 0 + length (form.spelling w)) (sym one ∙ ap (λ (bytes : List ℕ). form.reading bytes 0) same ∙ two) in
    let len : length (form.spelling v) ≡ length (form.spelling w) = ap (λ (u : V). length (form.spelling u)) (ap (λ (p : V × ℕ). p.0) both) in (
      ap (λ (p : V × ℕ). p.0) both,
      sym (drop_at (form.spelling v) x (length (form.spelling v)) refl) ∙ ap (λ (bytes : List ℕ). drop (length (form.spelling v)) bytes) same ∙ drop_at (form.spelling w) y (length (form.spelling v)) (sym len),
    )

-- ---- choices

pub record Chosen {V : Type 0} (c : Choice V) (kind : ℕ) (v : V) (bytes : List ℕ) (behind end : ℕ) : Type 0 where
  pub is_kind : c.kind v ≡ kind
  pub fits : c.Fits v
  pub stands : StandsAt (c.spelling v) behind bytes
  pub end_is : end ≡ behind + length (c.spelling v)

pub record LawfulChoice {V : Type 0} (c : Choice V) : Type 0 where
  pub takes : (kind : ℕ) (bytes : List ℕ) (at behind : ℕ) (v : V) (end : ℕ) → IsBytes bytes → c.reading kind bytes at behind ≡ Ok (v, end) → Chosen c kind v bytes behind end
  pub again : (bytes : List ℕ) (at behind : ℕ) (v : V) → c.Fits v → StandsAt (c.spelling v) behind bytes → c.reading (c.kind v) bytes at behind ≡ Ok (v, behind + length (c.spelling v))
  pub needed : (v : V) → c.Fits v → c.Needs v

last_takes : {A : Type 0} (a : Form A) → Lawful a → (kind : ℕ) (bytes : List ℕ) (at behind : ℕ) (v : A) (end : ℕ) → IsBytes bytes → (last a).reading kind bytes at behind ≡ Ok (v, end) → Chosen (last a) kind v bytes behind end
last_takes a la zero bytes at behind v end is_bytes e =
    let f = la.takes bytes behind v end is_bytes e in record { is_kind = refl; fits = f.fits; stands = f.stands; end_is = f.behind_it }
last_takes a la (suc kind) bytes at behind v end is_bytes e = absurd cc

pub last_lawful : {A : Type 0} (a : Form A) → Lawful a → LawfulChoice (last a)
last_lawful a la = record {
  takes = last_takes a la;
  again = λ bytes at behind v fits stands. la.again bytes behind v fits stands;
  needed = la.needed;
}

or_takes : {A B : Type 0} (a : Form A) (b : Choice B) → Lawful a → LawfulChoice b → (kind : ℕ) (bytes : List ℕ) (at behind : ℕ) (v : A ⊎ B) (end : ℕ) → IsBytes bytes → (a or b).reading kind bytes at behind ≡ Ok (v, end) → Chosen (a or b) kind v bytes behind end
or_takes {A} {B} a b la lb zero bytes at behind v end is_bytes e =
    let p = bind_ok (a.reading bytes behind) (λ x. Ok (inl x.0, x.1)) (v, end) e in
    let f = la.takes bytes behind p.0.0 p.0.1 is_bytes p.1 in
    let made : (A ⊎ B) × ℕ = (inl p.0.0, p.0.1) in
    subst (λ (y : (A ⊎ B) × ℕ). Chosen (a or b) 0 y.0 bytes behind y.1) (ok_is made (v, end) p.2) (record { is_kind = refl; fits = f.fits; stands = f.stands; end_is = f.behind_it })
or_takes {A} {B} a b la lb (suc kind) bytes at behind v end is_bytes e =
    let p = bind_ok (b.reading kind bytes at behind) (λ x. Ok (inr x.0, x.1)) (v, end) e in
    let f = lb.takes kind bytes at behind p.0.0 p.0.1 is_bytes p.1 in
    let made : (A ⊎ B) × ℕ = (inr p.0.0, p.0.1) in
    subst (λ (y : (A ⊎ B) × ℕ). Chosen (a or b) (suc kind) y.0 bytes behind y.1) (ok_is made (v, end) p.2) (record { is_kind = ap suc f.is_kind; fits = f.fits; stands = f.stands; end_is = f.end_is })

or_again : {A B : Type 0} (a : Form A) (b : Choice B) → Lawful a → LawfulChoice b → (bytes : List ℕ) (at behind : ℕ) (v : A ⊎ B) → (a or b).Fits v → StandsAt ((a or b).spelling v) behind bytes → (a or b).reading ((a or b).kind v) bytes at behind ≡ Ok (v, behind + length ((a or b).spelling v))
or_again a b la lb bytes at behind (inl x) fits stands = rw (la.again bytes behind x fits stands) refl
or_again a b la lb bytes at behind (inr y) fits stands = rw (lb.again bytes at behind y fits stands) refl

or_needed : {A B : Type 0} (a : Form A) (b : Choice B) → Lawful a → LawfulChoice b → (v : A ⊎ B) → (a or b).Fits v → (a or b).Needs v
or_needed a b la lb (inl x) fits = la.needed x fits
or_needed a b la lb (inr y) fits = lb.needed y fits

pub or_lawful : {A B : Type 0} (a : Form A) (b : Choice B) → Lawful a → LawfulChoice b → LawfulChoice (a or b)
or_lawful a b la lb = record { takes = or_takes a b la lb; again = or_again a b la lb; needed = or_needed a b la lb }

pub kinds_lawful : {V : Type 0} (c : Choice V) → LawfulChoice c → Lawful (kinds c)
kinds_lawful {V} c lc = record {
  takes = λ bytes at v behind is_bytes e.
      let p = bind_ok (u8_form.reading bytes at) (λ k. c.reading k.0 bytes at k.1) (v, behind) e in
      let first = u8_lawful.takes bytes at p.0.0 p.0.1 is_bytes p.1 in
      let f = lc.takes p.0.0 bytes at p.0.1 v behind is_bytes p.2 in
      let front : StandsAt (u8_spelling (c.kind v)) at bytes = subst (λ (k : ℕ). StandsAt (u8_spelling k) at bytes) (sym f.is_kind) first.stands in
      let next : StandsAt (c.spelling v) (at + 1) bytes = subst (λ (n : ℕ). StandsAt (c.spelling v) n bytes) first.behind_it f.stands in
      record {
        fits = (subst (λ (k : ℕ). k < 2 ^ 8) (sym f.is_kind) first.fits, f.fits);
        stands = stands_join (u8_spelling (c.kind v)) (c.spelling v) bytes at front next;
        behind_it = omega (arith, f.end_is, first.behind_it);
      };
  again = λ bytes at v fits stands.
      let front = u8_lawful.again bytes at (c.kind v) fits.0 (stands_front (u8_spelling (c.kind v)) (c.spelling v) bytes at stands) in
      let next = lc.again bytes at (at + 1) v fits.1 (stands_back (u8_spelling (c.kind v)) (c.spelling v) bytes at stands) in
      let end : at + 1 + length (c.spelling v) ≡ at + length (c.kind v ∷ c.spelling v) = omega arith in
      rw (front, next) (ap (λ (n : ℕ). Ok (v, n)) end);
  needed = λ v fits. lc.needed v fits.1;
}

option_there : {V : Type 0} (x : Unit {0} ⊎ V) → of_option (option_of x) ≡ x
option_there (inl x) = refl
option_there (inr v) = refl

option_back : {V : Type 0} (v : Option V) → option_of (of_option v) ≡ v
option_back None = refl
option_back (Some v) = refl

pub optional_lawful : {V : Type 0} (a : Form V) → Lawful a → Lawful (optional a)
optional_lawful a la = of_parts_lawful option_of of_option (kinds (nothing or last a)) option_there option_back (kinds_lawful (nothing or last a) (or_lawful nothing (last a) nothing_lawful (last_lawful a la)))

-- ---- tests

pub admitted_lawful : {V : Type 0} (test : V → Bool) (a : Form V) → Lawful a → Lawful (admitted test a)
admitted_lawful {V} test a la = record {
  takes = λ bytes at v behind is_bytes e.
      let p = bind_ok (a.reading bytes at) (λ x. cond (test x.0) (Ok x) (Err at)) (v, behind) e in
      let g = test_ok (test p.0.0) at (Ok p.0) (v, behind) p.2 in
      let found = la.takes bytes at p.0.0 p.0.1 is_bytes p.1 in
      subst (λ (y : V × ℕ). Found (admitted test a) y.0 bytes at y.1) (ok_is p.0 (v, behind) g.1) (record {
        fits = (g.0, found.fits);
        stands = found.stands;
        behind_it = found.behind_it;
      });
  again = λ bytes at v fits stands.
      let first = la.again bytes at v fits.1 stands in
      let passes : test v ≡ true = fits.0 in
      rw (first, passes) refl;
  needed = λ v fits. (fits.0, la.needed v fits.1);
}

pub if_room_lawful : {V : Type 0} (room : Bool) (a : Form V) → Lawful a → Lawful (if_room room a)
if_room_lawful {V} room a la = record {
  takes = λ bytes at v behind is_bytes e.
      let g = test_ok room at (a.reading bytes at) (v, behind) e in
      let found = la.takes bytes at v behind is_bytes g.1 in
      record { fits = (g.0, found.fits); stands = found.stands; behind_it = found.behind_it };
  again = λ bytes at v fits stands.
      let passes : room ≡ true = fits.0 in
      rw passes (la.again bytes at v fits.1 stands);
  needed = λ v fits. (fits.0, la.needed v fits.1);
}

-- ---- lists

-- so many items were read behind these
pub record Items {V : Type 0} (behind : List V → Form V) (n : ℕ) (before ys : List V) (bytes : List ℕ) (at end : ℕ) : Type 0 where
  pub count : length ys ≡ n
  pub fits : AllBehind (λ (b : List V) (x : V). (behind b).Fits x) before ys
  pub stands : StandsAt (spelled behind before ys) at bytes
  pub end_is : end ≡ at + length (spelled behind before ys)

module _ {V : Type 0} (behind : List V → Form V) (lawful : (before : List V) → Lawful (behind before)) (bytes : List ℕ) where
  abbrev Ys : ℕ → List V → ℕ → List V → ℕ → Type 0
  Ys n before at xs end = (ys : List V) × (xs ≡ before ++ ys) × Items behind n before ys bytes at end

  items_take : IsBytes bytes → (n : ℕ) (before : List V) (at : ℕ) (xs : List V) (end : ℕ) → read_items behind n before bytes at ≡ Ok (xs, end) → Ys n before at xs end
  items_take is_bytes zero before at xs end e =
      let made : List V × ℕ = (before, at) in
      subst (λ (y : List V × ℕ). Ys 0 before at y.0 y.1) (ok_is made (xs, end) e) ([], sym (append-nil before), record { count = refl; fits = tt; stands = refl; end_is = omega arith })
  items_take is_bytes (suc n) before at xs end e =
      let p = bind_ok ((behind before).reading bytes at) (λ x. read_items behind n (before ++ x.0 ∷ []) bytes x.1) (xs, end) e in
      let x = p.0.0 in
      let rest = items_take is_bytes n (before ++ x ∷ []) p.0.1 xs end p.2 in
      let first = (lawful before).takes bytes at x p.0.1 is_bytes p.1 in
      let ys = rest.0 in
      let one = (behind before).spelling x in
      let others = spelled behind (before ++ x ∷ []) ys in
      let next : StandsAt others (at + length one) bytes = subst (λ (k : ℕ). StandsAt others k bytes) first.behind_it rest.2.stands in (
        x ∷ ys,
        rest.1 ∙ append_assoc before (x ∷ []) ys,
        record {
          count = ap suc rest.2.count;
          fits = (first.fits, rest.2.fits);
          stands = stands_join one others bytes at first.stands next;
          end_is = omega (arith, rest.2.end_is, first.behind_it, length-append one others);
        },
      )

  items_again : (ys before : List V) (at : ℕ) → AllBehind (λ (b : List V) (x : V). (behind b).Fits x) before ys → StandsAt (spelled behind before ys) at bytes → read_items behind (length ys) before bytes at ≡ Ok (before ++ ys, at + length (spelled behind before ys))
  items_again [] before at fits stands =
      let k : at ≡ at + 0 = omega arith in
      let made : List V → ℕ → Result (List V × ℕ) ℕ = λ xs n. Ok (xs, n) in
      ap (λ (xs : List V). made xs at) (sym (append-nil before)) ∙ ap (made (before ++ [])) k
  items_again (x ∷ ys) before at fits stands =
      let one = (behind before).spelling x in
      let others = spelled behind (before ++ x ∷ []) ys in
      let first = (lawful before).again bytes at x fits.0 (stands_front one others bytes at stands) in
      let rest = items_again ys (before ++ x ∷ []) (at + length one) fits.1 (stands_back one others bytes at stands) in
      rw (first, rest, behind_two at one others, append_assoc before (x ∷ []) ys) refl

all_needed : {V : Type 0} (behind : List V → Form V) → ((before : List V) → Lawful (behind before)) → (before xs : List V) → AllBehind (λ (b : List V) (x : V). (behind b).Fits x) before xs → AllBehind (λ (b : List V) (x : V). (behind b).Needs x) before xs
all_needed {V} behind lawful before [] fits = tt
all_needed {V} behind lawful before (x ∷ xs) fits = ((lawful before).needed x fits.0, all_needed behind lawful (before ++ x ∷ []) xs fits.1)

pub list_lawful : {V : Type 0} (behind : List V → Form V) → ((before : List V) → Lawful (behind before)) → Lawful (list_of behind)
list_lawful {V} behind lawful = record {
  takes = λ bytes at v end is_bytes e.
      let p = bind_ok (u32_form.reading bytes at) (λ n. read_items behind n.0 [] bytes n.1) (v, end) e in
      let first = u32_lawful.takes bytes at p.0.0 p.0.1 is_bytes p.1 in
      let r = items_take behind lawful bytes is_bytes p.0.0 [] p.0.1 v end p.2 in
      let count = u32_spelling (length r.0) in
      let items = spelled behind [] r.0 in
      let front : StandsAt count at bytes = subst (λ (k : ℕ). StandsAt (u32_spelling k) at bytes) (sym r.2.count) first.stands in
      let next : StandsAt items (at + 4) bytes = subst (λ (k : ℕ). StandsAt items k bytes) first.behind_it r.2.stands in
      subst (λ (xs : List V). Found (list_of behind) xs bytes at end) (sym r.1) (record {
        fits = (omega (arith, first.fits, r.2.count), r.2.fits);
        stands = stands_join count items bytes at front next;
        behind_it = omega (arith, first.behind_it, r.2.end_is, length-append count items);
      });
  again = λ bytes at v fits stands.
      let count = u32_spelling (length v) in
      let items = spelled behind [] v in
      let first = u32_lawful.again bytes at (length v) fits.0 (stands_front count items bytes at stands) in
      let rest = items_again behind lawful bytes v [] (at + 4) fits.1 (stands_back count items bytes at stands) in
      let end : at + 4 + length items ≡ at + length (count ++ items) = omega (arith, length-append count items) in
      rw (first, rest, end) refl;
  needed = λ v fits. (fits.0, all_needed behind lawful [] v fits.1);
}

pub many_lawful : {V : Type 0} (a : Form V) → Lawful a → Lawful (many a)
many_lawful a la = list_lawful (λ before. a) (λ before. la)
