-- How names, words, whole numbers and signs are spelled. As in Groovy but where a rule is marked as this product's own.
use Rattle.std.specs.Prelude.{◌≡◌, ℕ, ◌+◌, ◌<◌, ◌≤◌, ◌||◌, ◌==◌, Bool, true, List, [], ◌∷◌, All, length, codes, pos}
use Rattle.std.specs.Char.{is_ascii_digit, is_ascii_alphabetic, digit_value}
use Rattle.std.specs.Str.Parse.{IsNumeral, digits_value}
use Rattle.model_syntax.specs.declared.sign.Sign.{Sign}
use Rattle.model_syntax.specs.declared.sign.Sign.TheVariants as sign
use Rattle.model_syntax.specs.declared.word.Word.{Word}
use Rattle.model_syntax.specs.declared.word.Word.TheVariants as word
use Rattle.model_syntax.specs.declared.token.TokenKind.{TokenKind}
use Rattle.model_syntax.specs.declared.token.TokenKind.TheVariants as kind
use Rattle.model_syntax.specs.Source.{Source, Spelled}

-- The signs: a part of Groovy's.
abbrev pub sign_text : Sign → List ℕ
sign_text sign.ParenOpen = codes "("
sign_text sign.ParenClose = codes ")"
sign_text sign.BracketOpen = codes "["
sign_text sign.BracketClose = codes "]"
sign_text sign.BraceOpen = codes "{"
sign_text sign.BraceClose = codes "}"
sign_text sign.Comma = codes ","
sign_text sign.Semicolon = codes ";"
sign_text sign.Colon = codes ":"
sign_text sign.Question = codes "?"
sign_text sign.Elvis = codes "?:"
sign_text sign.Dot = codes "."
sign_text sign.SafeDot = codes "?."
sign_text sign.Range = codes ".."
sign_text sign.Arrow = codes "->"
sign_text sign.Assign = codes "="
sign_text sign.PlusAssign = codes "+="
sign_text sign.MinusAssign = codes "-="
sign_text sign.TimesAssign = codes "*="
sign_text sign.ModAssign = codes "%="
sign_text sign.Increment = codes "++"
sign_text sign.Decrement = codes "--"
sign_text sign.Or = codes "||"
sign_text sign.And = codes "&&"
sign_text sign.Equal = codes "=="
sign_text sign.NotEqual = codes "!="
sign_text sign.Less = codes "<"
sign_text sign.LessEqual = codes "<="
sign_text sign.Greater = codes ">"
sign_text sign.GreaterEqual = codes ">="
sign_text sign.Plus = codes "+"
sign_text sign.Minus = codes "-"
sign_text sign.Times = codes "*"
sign_text sign.Mod = codes "%"
sign_text sign.Not = codes "!"

-- The words, this product's own choice of those that Groovy keeps for itself: those with a rule in the grammar, and then
-- those without one. Groovy's further ones, as `public` or `int`, are names here; and here a word is never a name.
abbrev pub word_text : Word → List ℕ
word_text word.Def = codes "def"
word_text word.Void = codes "void"
word_text word.If = codes "if"
word_text word.Else = codes "else"
word_text word.While = codes "while"
word_text word.For = codes "for"
word_text word.In = codes "in"
word_text word.Return = codes "return"
word_text word.Break = codes "break"
word_text word.Continue = codes "continue"
word_text word.Try = codes "try"
word_text word.Catch = codes "catch"
word_text word.Finally = codes "finally"
word_text word.Throw = codes "throw"
word_text word.New = codes "new"
word_text word.True = codes "true"
word_text word.False = codes "false"
word_text word.Null = codes "null"
word_text word.Import = codes "import"
word_text word.Package = codes "package"
word_text word.Class = codes "class"
word_text word.Interface = codes "interface"
word_text word.Enum = codes "enum"
word_text word.Trait = codes "trait"
word_text word.Extends = codes "extends"
word_text word.Implements = codes "implements"
word_text word.Static = codes "static"
word_text word.Final = codes "final"
word_text word.Switch = codes "switch"
word_text word.Case = codes "case"
word_text word.Default = codes "default"
word_text word.Do = codes "do"
word_text word.Assert = codes "assert"
word_text word.As = codes "as"
word_text word.InstanceOf = codes "instanceof"
word_text word.This = codes "this"
word_text word.Super = codes "super"

-- A letter of ASCII or `_`. Groovy has further letters and `$`; here they are of no name (this product's own).
abbrev pub is_letter : ℕ → Bool
is_letter b = is_ascii_alphabetic b || (b == 95)

-- What a name has behind its first letter.
abbrev pub is_name_byte : ℕ → Bool
is_name_byte b = is_letter b || is_ascii_digit b

-- A letter or `_`, then letters, digits and `_`.
abbrev pub IsName : List ℕ → Type 0
IsName [] = ⊥
IsName (b ∷ bs) = (is_letter b ≡ true) × All (λ c. is_name_byte c ≡ true) bs

-- What these bytes are, standing alone.
pub data Spells : List ℕ → TokenKind → Type 0 where
  spells_sign : (s : Sign) → Spells (sign_text s) (kind.Sign s)
  spells_word : (w : Word) → Spells (word_text w) (kind.Word w)
  spells_name : {t : List ℕ} → IsName t → ((w : Word) → t ≡ word_text w → ⊥) → Spells t (kind.Name t)
  spells_number : {ds : List ℕ} → IsNumeral 10 ds → Spells ds (kind.Int (pos (digits_value 10 ds)))

-- From a place on stand the bytes of this token, and no longer sign, name or number fits there.
pub record Fits (B : Source) (t : List ℕ) (k : TokenKind) (a : ℕ) : Type 0 where
  pub spells : Spells t k
  pub stands : Spelled B t a
  pub longest : (u : List ℕ) (j : TokenKind) → Spells u j → Spelled B u a → length u ≤ length t

-- A number is refused (this product's own) where it is above 2147483647, has a 0 before digits, or where a letter, `_`
-- or a fraction stands directly behind it.
pub data IsBadNumber (B : Source) : List ℕ → ℕ → Type 0 where
  bad_large : {ds : List ℕ} {b : ℕ} → 2147483647 < digits_value 10 ds → IsBadNumber B ds b
  bad_zero : {d : ℕ} {ds : List ℕ} {b : ℕ} → IsBadNumber B (48 ∷ d ∷ ds) b
  bad_letter : {ds : List ℕ} {b : ℕ} → is_letter (B b) ≡ true → IsBadNumber B ds b
  bad_fraction : {ds : List ℕ} {b : ℕ} → B b ≡ 46 → digit_value (B (b + 1)) < 10 → IsBadNumber B ds b
