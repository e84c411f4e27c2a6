-- The signs by their bytes, as the lexer tries them: the signs of two bytes before those of one.
use Rattle.std.specs.Prelude.{◌≡◌, ℕ, ◌+◌, ◌==◌, ◌&&◌, Option, Some, None, length, if◌then◌else◌}
use Rattle.model_syntax.specs.declared.sign.Sign.{Sign}
use Rattle.model_syntax.specs.declared.sign.Sign.TheVariants as sign
use Rattle.model_syntax.specs.declared.token.TokenKind.TheVariants as kind
use Rattle.model_syntax.specs.Source.{Source}
use Rattle.model_syntax.specs.Spelling.{sign_text, Fits}

-- The signs of two bytes.
unfoldable pub pair_sign : ℕ → ℕ → Option Sign
pair_sign b c =
    if (b == 43) && (c == 61) then Some sign.PlusAssign else (
    if (b == 45) && (c == 61) then Some sign.MinusAssign else (
    if (b == 42) && (c == 61) then Some sign.TimesAssign else (
    if (b == 37) && (c == 61) then Some sign.ModAssign else (
    if (b == 61) && (c == 61) then Some sign.Equal else (
    if (b == 33) && (c == 61) then Some sign.NotEqual else (
    if (b == 60) && (c == 61) then Some sign.LessEqual else (
    if (b == 62) && (c == 61) then Some sign.GreaterEqual else (
    if (b == 63) && (c == 58) then Some sign.Elvis else (
    if (b == 63) && (c == 46) then Some sign.SafeDot else (
    if (b == 46) && (c == 46) then Some sign.Range else (
    if (b == 45) && (c == 62) then Some sign.Arrow else (
    if (b == 43) && (c == 43) then Some sign.Increment else (
    if (b == 45) && (c == 45) then Some sign.Decrement else (
    if (b == 124) && (c == 124) then Some sign.Or else (
    if (b == 38) && (c == 38) then Some sign.And else (None))))))))))))))))

-- The signs of one byte.
unfoldable pub single_sign : ℕ → Option Sign
single_sign b =
    if b == 40 then Some sign.ParenOpen else (
    if b == 41 then Some sign.ParenClose else (
    if b == 91 then Some sign.BracketOpen else (
    if b == 93 then Some sign.BracketClose else (
    if b == 123 then Some sign.BraceOpen else (
    if b == 125 then Some sign.BraceClose else (
    if b == 44 then Some sign.Comma else (
    if b == 59 then Some sign.Semicolon else (
    if b == 58 then Some sign.Colon else (
    if b == 63 then Some sign.Question else (
    if b == 46 then Some sign.Dot else (
    if b == 61 then Some sign.Assign else (
    if b == 60 then Some sign.Less else (
    if b == 62 then Some sign.Greater else (
    if b == 43 then Some sign.Plus else (
    if b == 45 then Some sign.Minus else (
    if b == 42 then Some sign.Times else (
    if b == 37 then Some sign.Mod else (
    if b == 33 then Some sign.Not else (None)))))))))))))))))))

-- From one place up to another stands this sign, and no longer one.
pub record IsSignAt (B : Source) (a b : ℕ) (x : Sign) : Type 0 where
  pub fits : Fits B (sign_text x) (kind.Sign x) a
  pub ends : b ≡ a + length (sign_text x)
