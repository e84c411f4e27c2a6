use Rattle.std.proofs.Common.{List, sym, ◌∙◌, subst, false}
use Rattle.model_syntax.specs.declared.token.Token.{Token}
use Rattle.groovy_lex.proofs.LayoutLemmas.{Kept, kept_begins, kept_more, kept_all}
use Rattle.groovy_lex.proofs.newlines.kept_tokens.Goals as goal

pub tokens-init : goal.tokens-init
tokens-init c = subst (λ (l : List Token). Kept c.args.tokens c.args.tokens false l) (sym c.new-laid.ensures.items) (kept_begins c.args.tokens)

pub tokens-preserved : goal.tokens-preserved
tokens-preserved c = kept_more c.tokens.rest c.pop.new.self c.args.tokens c.in-Some.token c.tokens.goes_on c.in_ok-goes_on.goes_on c.tokens.laid.items c.lay.new.laid.items c.in-Some.ensures c.tokens.invariant c.in_ok-goes_on.ensures

pub returns : goal.returns
returns c = c.from_vec.ensures ∙ c.reverse.ensures.items ∙ kept_all c.tokens.rest c.args.tokens c.tokens.goes_on c.tokens.laid.items c.in_default.ensures.0 c.tokens.invariant
