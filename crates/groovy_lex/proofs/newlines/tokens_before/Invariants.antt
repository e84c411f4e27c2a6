use Rattle.std.proofs.Common.{◌≡◌, List, ◌++◌, length, reverse, filter}
use Rattle.model_syntax.specs.declared.token.Token.{Token}
use Rattle.model_syntax.specs.Tokens.{begins_before}
use Rattle.groovy_lex.proofs.newlines.tokens_before.Given as goal

abbrev pub invariant-tokens : goal.invariant-tokens
invariant-tokens l = (behind : List Token) × ((l.rest ++ behind ≡ l.fn.tokens) × (reverse l.before.items ≡ filter (begins_before l.at) behind))

abbrev pub decreases-tokens : goal.decreases-tokens
decreases-tokens l = length l.rest
