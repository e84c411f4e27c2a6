-- Names and words, as the lexer finds them.
use Rattle.std.specs.Prelude.{◌≡◌, ℕ, ◌+◌, ◌<◌, ◌≤◌, Bool, true, false, List, length}
use Rattle.std.specs.Char.{is_ascii_digit}
use Rattle.model_syntax.specs.declared.word.Word.{Word}
use Rattle.model_syntax.specs.declared.token.TokenKind.{TokenKind}
use Rattle.model_syntax.specs.declared.token.TokenKind.TheVariants as kind
use Rattle.model_syntax.specs.Source.{Source}
use Rattle.model_syntax.specs.Spelling.{word_text, is_name_byte, Fits}
use Rattle.groovy_lex.specs.declared.names.Class.{Class}
use Rattle.groovy_lex.specs.declared.names.Class.TheVariants.{Digit, Name}

-- The bytes of a class.
abbrev pub is_in : Class → ℕ → Bool
is_in Digit = is_ascii_digit
is_in Name = is_name_byte

-- The bytes from one place up to another pass a test, and the next one does not.
pub record Run (P : ℕ → Bool) (B : Source) (a b : ℕ) : Type 0 where
  pub forward : a ≤ b
  pub passes : (k : ℕ) → a ≤ k → k < b → P (B k) ≡ true
  pub stops : P (B b) ≡ false

-- These bytes are this word, or they are no word and this name.
abbrev pub IsNameKind : List ℕ → TokenKind → Type 0
IsNameKind t (kind.Word w) = t ≡ word_text w
IsNameKind t (kind.Name n) = (n ≡ t) × ((w : Word) → t ≡ word_text w → ⊥)
IsNameKind t k = ⊥

-- From one place up to another stands this name or word.
pub record IsNameAt (B : Source) (a b : ℕ) (k : TokenKind) : Type 0 where
  pub text : List ℕ
  pub fits : Fits B text k a
  pub ends : b ≡ a + length text
  pub name : IsNameKind text k
