-- What the lexer finds at a place, and what a step of it does.
use Rattle.std.specs.Prelude.{◌≡◌, ℕ, ◌+◌, ◌<◌, ◌≤◌, true, List, [], ◌∷◌, ◌++◌}
use Rattle.model_syntax.specs.declared.token.TokenKind.TheVariants.{PathOpen}
use Rattle.model_syntax.specs.declared.token.Token.{Token}
use Rattle.model_syntax.specs.Source.{Source}
use Rattle.model_syntax.specs.Spelling.{is_letter}
use Rattle.model_syntax.specs.OpenBrackets.{Open}
use Rattle.model_syntax.specs.Reading.{goes, fails, token, Path, Reads}
use Rattle.groovy_lex.specs.declared.found.Found.{Found}
use Rattle.groovy_lex.specs.declared.found.Found.TheVariants as found
use Rattle.groovy_lex.specs.declared.step.Step.{Step}
use Rattle.groovy_lex.specs.declared.step.Step.TheVariants.{Goes, Fails}

-- This stands at the place of a script of n bytes, where `s` is open, and `u` is open behind it. Behind a `$` the names
-- are still to be read.
abbrev pub IsFound : Source → ℕ → List Open → List Open → ℕ → Found → Type 0
IsFound B n s u a (found.Blank m) = Reads B s a (goes [] u m) × (a < m) × (m ≤ n)
IsFound B n s u a (found.Token k m) = Reads B s a (goes (token B k a m ∷ []) u m) × (a < m) × (m ≤ n)
IsFound B n s u a found.Path = (is_letter (B (a + 1)) ≡ true) × ((ts : List Token) (m : ℕ) → Path B ts (a + 1) m → Reads B s a (goes (token B PathOpen a (a + 1) ∷ ts) u m))
IsFound B n s u a (found.Fails k p) = Reads B s a (fails k p)

-- What stands at the place was read up to a next place: its tokens went behind those before.
pub record DoesTo (B : Source) (n : ℕ) (s u : List Open) (a : ℕ) (old new : List Token) (m : ℕ) : Type 0 where
  pub found : List Token
  pub reads : Reads B s a (goes found u m)
  pub longer : new ≡ old ++ found
  pub forward : a < m
  pub inside : m ≤ n

-- What stands at the place was read, or the fault there was found, and then the tokens are as before.
abbrev pub Does : Source → ℕ → List Open → List Open → ℕ → List Token → List Token → Step → Type 0
Does B n s u a old new (Goes m) = DoesTo B n s u a old new m
Does B n s u a old new (Fails k p) = Reads B s a (fails k p) × (new ≡ old)
