use Rattle.std.proofs.Common.{◌≡◌, ◌+◌, ◌≤◌, length, false, true, ap, sym, ◌∙◌, Ok, inl, inr, List, ℕ, Result}
use Rattle.std.proofs.lemmas.Bool.{cases_lt}
use Rattle.byte_form.specs.Fields.{stated_length}
use Rattle.field_form.proofs.Texts.{text_read}
use Rattle.field_form.proofs.text.TextField.read.Goals as goal

pub returns : goal.returns
returns c =
    let bytes = c.args.bytes.now in
    let at = c.args.at in
    let long : at + 4 + stated_length at bytes ≤ length bytes =
    elim (cases_lt (length bytes) (at + 4 + stated_length at bytes)) [
      | inl lt ↦ let k : false ≡ true = c.in_ok-text.ensures.too_few.1 lt in absurd cc
      | inr le ↦ le
    ] in
    let f : List ℕ → Result (List ℕ × ℕ) ℕ = λ l. Ok (l, c.in_ok-text.behind) in
    text_read bytes at c.in_ok-text.text.now c.in_ok-text.behind (λ i. (c.type_inv.bytes i).fits) long c.in_ok-text.ensures.again c.in_ok-text.ensures.behind ∙ ap f (sym c.in_ok-from_slice.ensures)
