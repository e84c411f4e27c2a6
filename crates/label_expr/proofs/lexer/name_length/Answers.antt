use Rattle.std.proofs.Common.{sym, ap, arith, ◌∙◌, length}
use Rattle.std.proofs.lemmas.List.{length-drop}
use Rattle.label_expr.specs.Readings.{goes_on}
use Rattle.label_expr.proofs.TokenLaws.{name_more, name_done, from_here}
use Rattle.label_expr.proofs.lexer.name_length.Goals as goal

pub bytes-preserved : goal.bytes-preserved
bytes-preserved c =
    let here = from_here c.bytes.length c.args.bytes.now in
    let some = c.goes_on.ensures.some c.bytes-test.true in
    let on = ap goes_on (sym here) ∙ sym c.goes_on.ensures.value ∙ c.bytes-test.true in
    let left = length-drop c.bytes.length c.args.bytes.now in
    let size = ap length here in
    (omega (arith, some, left, size), name_more c.args.bytes.now c.bytes.length c.bytes.invariant.1 on)

pub returns-clause-length : goal.returns-clause-length
returns-clause-length c =
    let here = from_here c.bytes.length c.args.bytes.now in
    let off = ap goes_on (sym here) ∙ sym c.goes_on.ensures.value ∙ c.bytes-test.false in
    name_done c.args.bytes.now c.bytes.length c.bytes.invariant.1 off
