-- The newlines of a script, as the lexer goes through them from the last to the first.
use Rattle.std.specs.Prelude.{◌≡◌, ℕ, Bool, false, not, ◌&&◌, List, [], ◌∷◌, reverse, filter}
use Rattle.model_syntax.specs.declared.token.Token.{Token}
use Rattle.model_syntax.specs.Newlines.{is_newline, goes_on_after, next_goes_on, kept}
use Rattle.model_syntax.specs.Tokens.{begins_before}

-- The last of the tokens ends a part of a script: it is no newline, and no statement goes on behind it.
unfoldable pub may_end : List Token → Bool
may_end [] = false
may_end (t ∷ []) = not (is_newline t.kind) && not (goes_on_after t.kind)
may_end (t ∷ u ∷ ts) = may_end (u ∷ ts)

-- Behind these tokens stands this one: where `laid` has, backward, what is kept of the tokens behind it, it then has what
-- is kept from it on.
abbrev pub Lays : List Token → Token → Bool → List Token → List Token → Bool → Type 0
Lays before t goes_on old new goes_on_here = (ts : List Token) → goes_on ≡ next_goes_on ts → reverse old ≡ kept (not (is_newline t.kind) && not (goes_on_after t.kind)) ts → (goes_on_here ≡ next_goes_on (t ∷ ts)) × (reverse new ≡ kept (may_end before) (t ∷ ts))

-- The same for the tokens that begin before a place.
abbrev pub LaysBefore : Token → ℕ → List Token → List Token → Type 0
LaysBefore t at old new = (ts : List Token) → reverse old ≡ filter (begins_before at) ts → reverse new ≡ filter (begins_before at) (t ∷ ts)
