-- What stands in a text where no character goes on.
use Rattle.std.specs.Prelude.{◌≡◌, ℕ, ◌+◌, ◌<◌, true, List, codes}
use Rattle.model_syntax.specs.Source.{Source, Spelled}
use Rattle.model_syntax.specs.TextForms.{Form, quotes, is_double}
use Rattle.model_syntax.specs.Spelling.{is_letter}
use Rattle.model_syntax.specs.OpenBrackets.{Open, depth}
use Rattle.model_syntax.specs.Reading.{TextFails}
use Rattle.groovy_lex.specs.declared.contents.Expression.{Expression}
use Rattle.groovy_lex.specs.declared.contents.Expression.TheVariants.{Braces, Path}
use Rattle.groovy_lex.specs.declared.contents.Stop.{Stop}
use Rattle.groovy_lex.specs.declared.contents.Stop.TheVariants.{Closes, Begins, Fails}

-- An expression begins here in this way.
abbrev pub BeginsBy : Source → List Open → ℕ → Expression → Type 0
BeginsBy B s p Braces = Spelled B (codes "${") p × (depth s < 128)
BeginsBy B s p Path = (B p ≡ 36) × (is_letter (B (p + 1)) ≡ true)

-- The text that opened at `o` has this at the place `p`.
abbrev pub IsStop : Source → List Open → Form → ℕ → ℕ → Stop → Type 0
IsStop B s f o p Closes = Spelled B (quotes f) p
IsStop B s f o p (Begins e) = (is_double f ≡ true) × BeginsBy B s p e
IsStop B s f o p (Fails k q) = TextFails B s f o p k q
