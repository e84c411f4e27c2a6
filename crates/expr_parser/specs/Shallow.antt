-- There is one proof that the brackets of tokens nest at most 128 deep, so that a parser can keep it.
use Rattle.std.specs.Prelude.{ℕ, List, [], ◌∷◌}
use Rattle.std.specs.Coded.{×_prop, Unit-prop, le_prop}
use Rattle.model_syntax.specs.declared.token.Token.{Token}
use Rattle.model_syntax.specs.declared.token.TokenKind.{TokenKind}
use Rattle.model_syntax.specs.BracketDepth.{IsShallow, StaysShallow, depth_behind}
use Rattle.model_syntax.specs.Stream.{kinds_of}

stays_once : (d : ℕ) (ks : List TokenKind) → IsProp (StaysShallow d ks)
unfolding StaysShallow
stays_once d [] = Unit-prop
stays_once d (k ∷ ks) = ×_prop le_prop (stays_once (depth_behind d k) ks)

pub shallow_once : (ts : List Token) → IsProp (IsShallow ts)
shallow_once ts = stays_once 0 (kinds_of ts)
