use Rattle.std.proofs.Common.{◌+◌, sym, ◌∙◌, ap, arith}
use Rattle.model_syntax.specs.Source.{byte_at}
use Rattle.groovy_lex.specs.Signs.{single_sign}
use Rattle.groovy_lex.proofs.SignLemmas.{pair_stands, single_stands, no_sign, sign_past}
use Rattle.groovy_lex.proofs.signs.sign_at.Goals as goal

pub returns-in-Some-clause-stands : goal.returns-in-Some-clause-stands
returns-in-Some-clause-stands c = pair_stands (byte_at c.args.src.now) c.args.at c.in-Some.sign (sym c.pair_at.ensures ∙ c.in-Some.is)

pub returns-in-Some-clause-past : goal.returns-in-Some-clause-past
returns-in-Some-clause-past c = (omega arith, sign_past c.args.src.now c.args.at (c.args.at + 2) c.in-Some.sign (omega arith) (returns-in-Some-clause-stands c))

pub returns-in-Some-single_sign-clause-stands : goal.returns-in-Some-single_sign-clause-stands
returns-in-Some-single_sign-clause-stands c = single_stands (byte_at c.args.src.now) c.args.at c.in-Some-single_sign.sign (sym c.pair_at.ensures ∙ c.in_default.is) (sym (c.single_sign.ensures ∙ ap single_sign c.byte.ensures) ∙ c.in-Some-single_sign.is)

pub returns-in-None-clause-stands : goal.returns-in-None-clause-stands
returns-in-None-clause-stands c = no_sign (byte_at c.args.src.now) c.args.at (sym c.pair_at.ensures ∙ c.in_default.is) (sym (c.single_sign.ensures ∙ ap single_sign c.byte.ensures) ∙ c.in-None.is)
