-- How deep the brackets of a list of tokens nest. This product's own: `(`, `[`, `{` and `${` count, texts do not.
use Rattle.std.specs.Prelude.{ℕ, ◌+◌, ◌-◌, ◌≤◌, List, [], ◌∷◌}
use Rattle.model_syntax.specs.declared.sign.Sign.TheVariants as sign
use Rattle.model_syntax.specs.declared.token.TokenKind.{TokenKind}
use Rattle.model_syntax.specs.declared.token.TokenKind.TheVariants as kind
use Rattle.model_syntax.specs.declared.token.Token.{Token}
use Rattle.model_syntax.specs.Stream.{kinds_of}

-- How many brackets are open behind a token where d are open before it. A closing sign closes the innermost of any
-- kind, and where none is open it closes nothing.
abbrev pub depth_behind : ℕ → TokenKind → ℕ
depth_behind d (kind.Sign sign.ParenOpen) = d + 1
depth_behind d (kind.Sign sign.BracketOpen) = d + 1
depth_behind d (kind.Sign sign.BraceOpen) = d + 1
depth_behind d kind.ExpressionOpen = d + 1
depth_behind d (kind.Sign sign.ParenClose) = d - 1
depth_behind d (kind.Sign sign.BracketClose) = d - 1
depth_behind d (kind.Sign sign.BraceClose) = d - 1
depth_behind d k = d

-- Behind no token more than 128 brackets are open, where d are open before the first one.
unfoldable pub StaysShallow : ℕ → List TokenKind → Type 0
StaysShallow d [] = Unit {0}
StaysShallow d (k ∷ ks) = (depth_behind d k ≤ 128) × StaysShallow (depth_behind d k) ks

-- The brackets of these tokens nest at most 128 deep.
abbrev pub IsShallow : List Token → Type 0
IsShallow ts = StaysShallow 0 (kinds_of ts)
