use Rattle.std.proofs.Common.{◌≡◌, ◌+◌, ◌-◌, sym, ◌∙◌, arith, length}
use Rattle.std.proofs.lemmas.Bool.{eqb-false}
use Rattle.groovy_lex.proofs.LayoutLemmas.{may_end-empty, may_end-last}
use Rattle.groovy_lex.proofs.newlines.may_end.Goals as goal

pub returns-then-is_empty : goal.returns-then-is_empty
returns-then-is_empty c = may_end-empty c.args.tokens.now (sym c.if-is_empty.ensures)

pub returns : goal.returns
returns c =
    let some = eqb-false (length c.args.tokens.now) 0 (sym c.if-is_empty.ensures) in
    let n : length c.args.tokens.now ≡ length c.args.tokens.now - 1 + 1 = omega (arith, some) in
    c.ends_part.ensures ∙ sym (may_end-last c.args.tokens.now (length c.args.tokens.now - 1) c.index-tokens-tokens.result n c.index-tokens-tokens.is)
