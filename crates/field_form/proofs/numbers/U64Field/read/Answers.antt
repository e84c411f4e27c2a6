use Rattle.std.proofs.Common.{◌≡◌, ℕ, ◌+◌, ◌∙◌, ap, sym, arith, Ok, Result}
use Rattle.field_form.specs.FieldLaws.{u64_lawful}
use Rattle.field_form.proofs.numbers.U64Field.read.Goals as goal

pub returns : goal.returns
returns c =
    let got = c.in_ok-take_u64.field-0 in
    let e = u64_lawful.again c.args.bytes.now c.args.at got.0 (omega arith) c.in_ok-take_u64.ensures.found in
    let k : c.args.at + 8 ≡ got.1 = sym c.in_ok-take_u64.ensures.behind in
    let f : ℕ → Result (ℕ × ℕ) ℕ = λ n. Ok (got.0, n) in
    e ∙ ap f k
