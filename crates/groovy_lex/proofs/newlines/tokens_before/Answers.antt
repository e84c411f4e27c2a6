use Rattle.std.proofs.Common.{List, sym, ◌∙◌, subst}
use Rattle.model_syntax.specs.declared.token.Token.{Token}
use Rattle.groovy_lex.proofs.LayoutLemmas.{Before, before_begins, before_more, before_all}
use Rattle.groovy_lex.proofs.newlines.tokens_before.Goals as goal

pub tokens-init : goal.tokens-init
tokens-init c = subst (λ (l : List Token). Before c.args.at c.args.tokens c.args.tokens l) (sym c.new-before.ensures.items) (before_begins c.args.at c.args.tokens)

pub tokens-preserved : goal.tokens-preserved
tokens-preserved c = before_more c.args.at c.tokens.rest c.pop.new.self c.args.tokens c.in-Some.token c.tokens.before.items c.lay_before.new.before.items c.in-Some.ensures c.tokens.invariant c.in_ok-lay_before.ensures

pub returns : goal.returns
returns c = c.from_vec.ensures ∙ c.reverse.ensures.items ∙ before_all c.args.at c.tokens.rest c.args.tokens c.tokens.before.items c.in_default.ensures.0 c.tokens.invariant
