-- What each function of this crate reads: the rule, and what may follow it.
use Rattle.std.specs.Prelude.{◌≡◌, ℕ, ◌+◌, true, false, Some, None, List, length, Result, Ok, Err}
use Rattle.model_syntax.specs.declared.place.Declared.{Declared}
use Rattle.model_syntax.specs.declared.sign.Sign.TheVariants as sign
use Rattle.model_syntax.specs.declared.word.Word.TheVariants as word
use Rattle.model_syntax.specs.declared.token.Token.{Token}
use Rattle.model_syntax.specs.declared.token.TokenKind.TheVariants as kind
use Rattle.model_syntax.specs.declared.tree.Function.{Function}
use Rattle.model_syntax.specs.declared.tree.Top.{Top}
use Rattle.model_syntax.specs.Stream.{Stream, places_of, Sees, SeesWord}
use Rattle.model_syntax.specs.Lookahead.{is_name}
use Rattle.model_syntax.specs.Scripts.{IsParameter, Parameters, IsFunction, IsTop, Tops}
use Rattle.groovy_expr.specs.declared.refusal.Refusal.{Refusal}
use Rattle.groovy_expr.specs.Answers.{Stops, Exact, Fails, Reads, kinds}
use Rattle.groovy_expr.specs.Readers.{Answer}
use Rattle.groovy_expr.specs.Stops.{stops_closed, stops_stmt}

-- behind a whole script
abbrev pub stops_end : Stops
stops_end None = true
stops_end t = false

-- behind the parameters of a function
abbrev pub stops_parameters : Stops
stops_parameters (Some (kind.Sign sign.ParenClose)) = true
stops_parameters t = false

-- behind one parameter: a name would make the one before it a type
abbrev pub stops_parameter : Stops
stops_parameter (Some (kind.Name n)) = false
stops_parameter t = true

abbrev pub ReadsParameter : List Token → ℕ → Answer Declared → Type 0
ReadsParameter ts = Reads (λ K. IsParameter K (places_of ts)) stops_parameter (kinds ts)

abbrev pub ReadsParameters : List Token → ℕ → Answer (List Declared) → Type 0
ReadsParameters ts = Reads (λ K. Parameters K (places_of ts)) stops_parameters (kinds ts)

abbrev pub ReadsFunction : List Token → ℕ → Answer Function → Type 0
ReadsFunction ts = Reads (λ K. IsFunction K (places_of ts)) stops_closed (kinds ts)

-- a function or a statement
abbrev pub ReadsTop : List Token → ℕ → Answer Top → Type 0
ReadsTop ts = Reads (λ K. IsTop K (places_of ts)) stops_stmt (kinds ts)

-- all functions and statements of a script
abbrev pub ReadsTops : List Token → Result (List Top) Refusal → Type 0
ReadsTops ts (Ok tops) = Exact (λ K. Tops K (places_of ts)) stops_end (kinds ts) 0 tops (length ts)
ReadsTops ts (Err e) = Fails (λ K. Tops K (places_of ts)) stops_end (kinds ts) 0 e

-- a parameter has a type where `def`, or two names, stand there
pub data IsTyped (K : Stream) (a : ℕ) : Type 0 where
  typed_def : SeesWord K a word.Def → IsTyped K a
  typed_name : is_name (K a) ≡ true → is_name (K (a + 1)) ≡ true → IsTyped K a

-- a function begins with `void`, or with `def`, a name and `(`
pub data BeginsFunction (K : Stream) (a : ℕ) : Type 0 where
  by_void : SeesWord K a word.Void → BeginsFunction K a
  by_def : SeesWord K a word.Def → is_name (K (a + 1)) ≡ true → Sees K (a + 1 + 1) sign.ParenOpen → BeginsFunction K a
