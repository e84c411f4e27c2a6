use Rattle.std.proofs.Common.{◌≡◌, List, ◌++◌, length, reverse}
use Rattle.model_syntax.specs.declared.token.Token.{Token}
use Rattle.model_syntax.specs.Newlines.{next_goes_on, kept}
use Rattle.groovy_lex.specs.Layout.{may_end}
use Rattle.groovy_lex.proofs.newlines.kept_tokens.Given as goal

abbrev pub invariant-tokens : goal.invariant-tokens
invariant-tokens l = (behind : List Token) × ((l.rest ++ behind ≡ l.fn.tokens) × ((l.goes_on ≡ next_goes_on behind) × (reverse l.laid.items ≡ kept (may_end l.rest) behind)))

abbrev pub decreases-tokens : goal.decreases-tokens
decreases-tokens l = length l.rest
