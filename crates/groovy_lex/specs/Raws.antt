-- What reading a script gives.
use Rattle.std.specs.Prelude.{◌≡◌, ℕ, Option, Some, None, List, []}
use Rattle.model_syntax.specs.declared.fault.FaultKind.TheVariants.{UnendedText}
use Rattle.model_syntax.specs.declared.token.Token.{Token}
use Rattle.model_syntax.specs.Source.{Source, past_end, byte_at}
use Rattle.model_syntax.specs.Places.{mark_end}
use Rattle.model_syntax.specs.TextForms.{Form}
use Rattle.model_syntax.specs.OpenBrackets.{Open, innermost_text}
use Rattle.model_syntax.specs.Reading.{Reads, fails}
use Rattle.model_syntax.specs.Tokens.{Raw}
use Rattle.groovy_lex.specs.declared.raw.LexicalFault.{LexicalFault}

-- Reading stops at a place: at the script's end, where no text is open, or at a fault.
abbrev pub StopsWith : Source → List Open → ℕ → Option LexicalFault → Type 0
StopsWith B s a None = (B a ≡ past_end) × (innermost_text s ≡ None)
StopsWith B s a (Some f) = Reads B s a (fails f.kind f.at)

-- A script was read from its start: these tokens, up to where reading stops.
pub record IsRead (bytes : List ℕ) (tokens : List Token) (fault : Option LexicalFault) : Type 0 where
  pub open_there : List Open
  pub there : ℕ
  pub reads : Raw (byte_at bytes) tokens [] open_there (mark_end (byte_at bytes)) there
  pub stops : StopsWith (byte_at bytes) open_there there fault

-- The fault at a script's end: the innermost text has no end.
abbrev pub IsEndFault : List Open → LexicalFault → Type 0
IsEndFault s f = (f.kind ≡ UnendedText) × ((form : Form) × (innermost_text s ≡ Some (form, f.at)))
