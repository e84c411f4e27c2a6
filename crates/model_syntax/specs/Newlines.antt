-- Which newlines are tokens. This product's own: the tokens around a newline decide it, and no rule of the grammar does.
-- One token stands for a run of newlines.
use Rattle.std.specs.Prelude.{Bool, true, false, not, ◌&&◌, List, [], ◌∷◌, if◌then◌else◌}
use Rattle.model_syntax.specs.declared.sign.Sign.{Sign}
use Rattle.model_syntax.specs.declared.sign.Sign.TheVariants as sign
use Rattle.model_syntax.specs.declared.word.Word.TheVariants as word
use Rattle.model_syntax.specs.declared.token.TokenKind.{TokenKind}
use Rattle.model_syntax.specs.declared.token.TokenKind.TheVariants as kind
use Rattle.model_syntax.specs.declared.token.Token.{Token}

-- The signs behind which a statement goes on in the next line: those between two operands or two parts, and `{` and `;`,
-- behind which none has begun.
abbrev pub sign_goes_on : Sign → Bool
sign_goes_on sign.Comma = true
sign_goes_on sign.Colon = true
sign_goes_on sign.Question = true
sign_goes_on sign.Elvis = true
sign_goes_on sign.Range = true
sign_goes_on sign.Assign = true
sign_goes_on sign.PlusAssign = true
sign_goes_on sign.MinusAssign = true
sign_goes_on sign.TimesAssign = true
sign_goes_on sign.ModAssign = true
sign_goes_on sign.Arrow = true
sign_goes_on sign.BraceOpen = true
sign_goes_on sign.Semicolon = true
sign_goes_on sign.Or = true
sign_goes_on sign.And = true
sign_goes_on sign.Equal = true
sign_goes_on sign.NotEqual = true
sign_goes_on sign.Less = true
sign_goes_on sign.LessEqual = true
sign_goes_on sign.Greater = true
sign_goes_on sign.GreaterEqual = true
sign_goes_on sign.Plus = true
sign_goes_on sign.Minus = true
sign_goes_on sign.Times = true
sign_goes_on sign.Mod = true
sign_goes_on s = false

-- The tokens behind which a statement goes on in the next line.
abbrev pub goes_on_after : TokenKind → Bool
goes_on_after (kind.Sign s) = sign_goes_on s
goes_on_after k = false

-- The tokens with which a statement of the line before goes on.
abbrev pub goes_on_with : TokenKind → Bool
goes_on_with (kind.Sign sign.Dot) = true
goes_on_with (kind.Sign sign.SafeDot) = true
goes_on_with (kind.Word word.Else) = true
goes_on_with (kind.Word word.Catch) = true
goes_on_with (kind.Word word.Finally) = true
goes_on_with k = false

-- The token of a newline.
abbrev pub is_newline : TokenKind → Bool
is_newline kind.Newline = true
is_newline k = false

-- The next token that is no newline is such.
unfoldable pub next_goes_on : List Token → Bool
next_goes_on [] = false
next_goes_on (t ∷ ts) = if is_newline t.kind then next_goes_on ts else goes_on_with t.kind

-- The tokens without the newlines that are none. `may_end` says that the token before ends a part of a script: it is
-- there, no newline, and none of those behind which a statement goes on.
unfoldable pub kept : Bool → List Token → List Token
kept may_end [] = []
kept may_end (t ∷ ts) =
    if is_newline t.kind then (if may_end && not (next_goes_on ts) then t ∷ kept false ts else kept false ts)
    else (t ∷ kept (not (goes_on_after t.kind)) ts)
