-- All of the bytes.
use Rattle.std.proofs.Common.{◌≡◌, ℕ, ◌+◌, Bool, true, false, cond, eqb, refl, T, List, length, take, Result, Ok, Err, sym, ap, subst, ◌∙◌, arith, zero-add}
use Rattle.std.specs.Prelude.{IfOk}
use Rattle.std.proofs.Math.Dec.{eqb_refl}
use Rattle.std.proofs.lemmas.Bool.{eqb-true}
use Rattle.std.proofs.lemmas.List.{take_all}
use Rattle.field_form.specs.declared.refusal.FormRefusal.{FormRefusal}
use Rattle.field_form.specs.Reading.{Gives}
use Rattle.field_form.specs.Places.{bind_ok, test_ok, ok_is}
use Rattle.field_form.specs.Forms.{Form, Lawful, IsBytes, Spells, whole_of}

t_true : (b : Bool) → T b → b ≡ true
t_true true t = refl
t_true false t = absurd t

module _ {V : Type 0} (form : Form V) (lawful : Lawful form) (bytes : List ℕ) where
  pub spelled_so : (v : V) → IsBytes bytes → whole_of form bytes ≡ Ok v → Spells form v bytes
  spelled_so v is_bytes e =
      let p = bind_ok (form.reading bytes 0) (λ x. cond (eqb x.1 (length bytes)) (Ok x.0) (Err x.1)) v e in
      let g = test_ok (eqb p.0.1 (length bytes)) p.0.1 (Ok p.0.0) v p.2 in
      let found = lawful.takes bytes 0 p.0.0 p.0.1 is_bytes p.1 in
      let end : p.0.1 ≡ length bytes = eqb-true _ _ g.0 in
      let len : length bytes ≡ length (form.spelling p.0.0) = sym end ∙ found.behind_it ∙ zero-add _ in
      let all : bytes ≡ form.spelling p.0.0 = sym (take_all (length (form.spelling p.0.0)) bytes (omega (arith, len))) ∙ found.stands in
      subst (λ (w : V). Spells form w bytes) (ok_is p.0.0 v g.1) (record { fits = found.fits; is_spelling = all })

  pub read_again : (v : V) → Spells form v bytes → whole_of form bytes ≡ Ok v
  read_again v spells =
      let s = form.spelling v in
      let one : form.reading bytes 0 ≡ Ok (v, 0 + length s) = lawful.again bytes 0 v spells.fits (ap (take (length s)) spells.is_spelling ∙ take_all (length s) s (omega arith)) in
      let len : 0 + length s ≡ length bytes = zero-add _ ∙ ap length (sym spells.is_spelling) in
      let test : eqb (0 + length s) (length bytes) ≡ true = rw len (t_true _ (eqb_refl (length bytes))) in
      rw (one, test) refl

  pub gives_found : (r : Result V FormRefusal) → IsBytes bytes → Gives r (whole_of form bytes) → IfOk r (λ v. Spells form v bytes)
  gives_found (Ok v) is_bytes h = spelled_so v is_bytes h
  gives_found (Err e) is_bytes h = tt

  pub gives_needed : (r : Result V FormRefusal) → IsBytes bytes → Gives r (whole_of form bytes) → IfOk r (λ v. form.Needs v)
  gives_needed (Ok v) is_bytes h = lawful.needed v (spelled_so v is_bytes h).fits
  gives_needed (Err e) is_bytes h = tt

  pub gives_again : (r : Result V FormRefusal) → Gives r (whole_of form bytes) → (v : V) → Spells form v bytes → Gives r (Ok v)
  gives_again r h v spells = subst (λ (read : Result V ℕ). Gives r read) (read_again v spells) h
