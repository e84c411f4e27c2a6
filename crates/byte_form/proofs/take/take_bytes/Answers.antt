use Rattle.std.proofs.Common.{◌≡◌, ◌+◌, ℕ, length, take, drop, refl, sym, ◌∙◌, ap}
use Rattle.std.specs.Int.{w32, from_be_bytes}
use Rattle.byte_form.specs.Fields.{u32_spelling}
use Rattle.byte_form.proofs.FieldLemmas.{StandsAt-join, bytes_again}
use Rattle.byte_form.proofs.take.take_bytes.Goals as goal

pub returns-clause-found : goal.returns-clause-found
returns-clause-found c =
    let value = c.in-Ok.value.now in
    let size : length value ≡ c.u32_of-len.result = c.in-Ok.ensures.length ∙ c.from.ensures in
    let first : take 4 (drop c.args.at c.args.bytes.now) ≡ u32_spelling (length value) =
    sym c.in_ok-field.ensures.part ∙ sym c.u32_of-len.ensures.spelling ∙ ap u32_spelling (sym size) in
    let next : take (length value) (drop (c.args.at + 4) c.args.bytes.now) ≡ value =
    ap (λ (n : ℕ). take n (drop (c.args.at + 4) c.args.bytes.now)) size ∙ ap (λ (n : ℕ). take n (drop (c.args.at + 4) c.args.bytes.now)) (sym c.from.ensures) ∙ ap (λ (n : ℕ). take c.from.result (drop n c.args.bytes.now)) (sym c.in_ok-field.ensures.behind) ∙ sym c.in-Ok.ensures.part in
    StandsAt-join (u32_spelling (length value)) value c.args.bytes.now c.args.at 4 refl first next

pub returns-clause-again : goal.returns-clause-again
returns-clause-again c = λ value fits stands.
    bytes_again value c.in-Ok.value.now c.args.bytes.now c.args.at c.from.result fits stands
    (c.from.ensures ∙ c.u32_of-len.ensures.value ∙ ap (from_be_bytes w32) c.in_ok-field.ensures.part)
    (c.in-Ok.ensures.part ∙ ap (λ (n : ℕ). take c.from.result (drop n c.args.bytes.now)) c.in_ok-field.ensures.behind)
