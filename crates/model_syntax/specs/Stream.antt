-- The tokens of a script by their places, as the grammar sees them.
use Rattle.std.specs.Prelude.{◌≡◌, ℕ, Option, Some, None, List, slice_get, map}
use Rattle.model_syntax.specs.declared.place.Place.{Place}
use Rattle.model_syntax.specs.declared.place.Declared.{Declared}
use Rattle.model_syntax.specs.declared.sign.Sign.{Sign}
use Rattle.model_syntax.specs.declared.word.Word.{Word}
use Rattle.model_syntax.specs.declared.token.TokenKind.{TokenKind}
use Rattle.model_syntax.specs.declared.token.TokenKind.TheVariants as kind
use Rattle.model_syntax.specs.declared.token.Token.{Token}

-- What stands at each place of a list of tokens; none past its end.
abbrev pub Stream : Type 0
Stream = ℕ → Option TokenKind

-- The line and column of each token, which go into the tree and decide nothing.
abbrev pub Places : Type 0
Places = ℕ → Place

-- The kinds of tokens, each at its place.
abbrev pub kind_at : List TokenKind → Stream
kind_at ks k = slice_get ks k

-- What tokens are, without where they stand.
abbrev pub kinds_of : List Token → List TokenKind
kinds_of ts = map (λ t. t.kind) ts

-- The place of a token; past the end of the list none is asked for.
abbrev pub place_of_token : Option Token → Place
place_of_token (Some t) = t.place
place_of_token None = record { line = 1; column = 1 }

-- The places of tokens.
abbrev pub places_of : List Token → Places
places_of ts k = place_of_token (slice_get ts k)

-- This sign stands at a place.
abbrev pub Sees : Stream → ℕ → Sign → Type 0
Sees K a s = K a ≡ Some (kind.Sign s)

-- This word stands at a place.
abbrev pub SeesWord : Stream → ℕ → Word → Type 0
SeesWord K a w = K a ≡ Some (kind.Word w)

-- This name stands at a place.
abbrev pub SeesName : Stream → ℕ → List ℕ → Type 0
SeesName K a n = K a ≡ Some (kind.Name n)

-- A name where it is declared.
abbrev pub declared : List ℕ → Place → Declared
declared n p = record { name = n; place = p }
