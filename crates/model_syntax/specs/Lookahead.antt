-- Where a token opens two rules, these say from the tokens behind it which is meant; three at most decide. The tests are
-- this product's own.
use Rattle.std.specs.Prelude.{Bool, true, false, not, ◌&&◌, Option, Some}
use Rattle.model_syntax.specs.declared.sign.Sign.TheVariants as sign
use Rattle.model_syntax.specs.declared.word.Word.TheVariants as word
use Rattle.model_syntax.specs.declared.token.TokenKind.{TokenKind}
use Rattle.model_syntax.specs.declared.token.TokenKind.TheVariants as kind

-- A name stands there.
abbrev pub is_name : Option TokenKind → Bool
is_name (Some (kind.Name n)) = true
is_name k = false

-- `->` stands there.
abbrev pub is_arrow : Option TokenKind → Bool
is_arrow (Some (kind.Sign sign.Arrow)) = true
is_arrow k = false

-- `=` stands there.
abbrev pub is_assign : Option TokenKind → Bool
is_assign (Some (kind.Sign sign.Assign)) = true
is_assign k = false

-- `:` stands there.
abbrev pub is_colon : Option TokenKind → Bool
is_colon (Some (kind.Sign sign.Colon)) = true
is_colon k = false

-- What begins the first argument of a call without parentheses.
abbrev pub begins_argument : Option TokenKind → Bool
begins_argument (Some (kind.Text t)) = true
begins_argument (Some kind.GStringOpen) = true
begins_argument (Some (kind.Int v)) = true
begins_argument (Some (kind.Name n)) = true
begins_argument (Some (kind.Word word.True)) = true
begins_argument (Some (kind.Word word.False)) = true
begins_argument (Some (kind.Word word.Null)) = true
begins_argument k = false

-- `f a` is a call where a text, a number, a name, `true`, `false` or `null` follows the name; and `T x =` is none.
abbrev pub is_call : Option TokenKind → Option TokenKind → Option TokenKind → Bool
is_call (Some (kind.Name f)) next third = begins_argument next && not (is_name next && is_assign third)
is_call k next third = false

-- The first argument has a name where a name or a text is followed by `:`.
abbrev pub is_named : Option TokenKind → Option TokenKind → Bool
is_named (Some (kind.Name n)) next = is_colon next
is_named (Some (kind.Text t)) next = is_colon next
is_named k next = false

-- A name behind `{` is a head where `->`, `,` or a name and `->` follows it.
abbrev pub heads_after_name : Option TokenKind → Option TokenKind → Bool
heads_after_name (Some (kind.Sign sign.Arrow)) third = true
heads_after_name (Some (kind.Sign sign.Comma)) third = true
heads_after_name (Some (kind.Name n)) third = is_arrow third
heads_after_name k third = false

-- A closure has heads where `{` is followed by `->`, `x ->`, `x ,`, `T x ->` or `def x ->`.
abbrev pub has_heads : Option TokenKind → Option TokenKind → Option TokenKind → Bool
has_heads (Some (kind.Sign sign.Arrow)) next third = true
has_heads (Some (kind.Name n)) next third = heads_after_name next third
has_heads (Some (kind.Word word.Def)) next third = is_name next && is_arrow third
has_heads k next third = false
