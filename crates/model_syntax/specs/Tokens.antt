-- The tokens of a script, or its one lexical fault.
use Rattle.std.specs.Prelude.{◌≡◌, ◌≤◌, ◌<◌, ℕ, ◌++◌, Bool, ltb, false, filter, None, List, [], ◌∷◌}
use Rattle.model_syntax.specs.declared.fault.FaultKind.{FaultKind}
use Rattle.model_syntax.specs.declared.token.Token.{Token}
use Rattle.model_syntax.specs.Source.{Source, past_end, byte_at}
use Rattle.model_syntax.specs.Places.{mark_end}
use Rattle.model_syntax.specs.OpenBrackets.{Open, innermost_text}
use Rattle.model_syntax.specs.Reading.{Reads, goes, fails}
use Rattle.model_syntax.specs.Newlines.{kept}

-- From one place up to another stand these tokens, every newline that may be one among them; they turn what is open at
-- the first place into what is open at the second.
pub data Raw (B : Source) : List Token → List Open → List Open → ℕ → ℕ → Type 0 where
  raw_none : {s : List Open} {a : ℕ} → Raw B [] s s a a
  raw_more : (ts : List Token) {us : List Token} {s u v : List Open} {a m b : ℕ} → Reads B s a (goes ts u m) → Raw B us u v m b → Raw B (ts ++ us) s v a b

-- The whole script has these tokens: they go up to its end, where no text is open.
pub record Lexed (bytes : List ℕ) (tokens : List Token) : Type 0 where
  pub raw : List Token
  pub open_at_end : List Open
  pub end : ℕ
  pub reads : Raw (byte_at bytes) raw [] open_at_end (mark_end (byte_at bytes)) end
  pub ends : byte_at bytes end ≡ past_end
  pub closed : innermost_text open_at_end ≡ None
  pub newlines : tokens ≡ kept false raw

-- The token begins before this place.
abbrev pub begins_before : ℕ → Token → Bool
begins_before at t = ltb t.start at

-- The script has a lexical fault of this kind at this place: it is read up to the first place in reading order at which
-- no rule goes on. `before` are the tokens that begin before the fault.
pub record LexicalFault (bytes : List ℕ) (kind : FaultKind) (at : ℕ) (before : List Token) : Type 0 where
  pub raw : List Token
  pub open_there : List Open
  pub there : ℕ
  pub reads : Raw (byte_at bytes) raw [] open_there (mark_end (byte_at bytes)) there
  pub fault : Reads (byte_at bytes) open_there there (fails kind at)
  pub newlines : before ≡ kept false (filter (begins_before at) raw)

-- The tokens stand one behind the other, the first not before `a`, and each has at least one byte.
abbrev pub InOrder : ℕ → List Token → Type 0
InOrder a [] = Unit {0}
InOrder a (t ∷ ts) = (a ≤ t.start) × (t.start < t.end) × InOrder t.end ts
