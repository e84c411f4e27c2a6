-- Why a script has no tokens.
use Rattle.std.specs.Prelude.{◌≡◌, ℕ, List}
use Rattle.model_syntax.specs.declared.fault.FaultKind.{FaultKind}
use Rattle.model_syntax.specs.declared.token.Token.{Token}
use Rattle.model_syntax.specs.Tokens.{Lexed, LexicalFault, InOrder}
use Rattle.model_syntax.specs.BracketDepth.{IsShallow}
use Rattle.groovy_lex.specs.declared.lexer.LexRefusal.{LexRefusal}
use Rattle.groovy_lex.specs.declared.lexer.LexRefusal.TheVariants.{Memory, Fault}

-- The script has this lexical fault and no other, with these tokens before it, and it has no tokens. Those before it are in
-- order, and their brackets nest at most 128 deep.
pub record OnlyFault (bytes : List ℕ) (kind : FaultKind) (at : ℕ) (before : List Token) : Type 0 where
  pub fault : LexicalFault bytes kind at before
  pub no_tokens : (ts : List Token) → Lexed bytes ts → ⊥
  pub only : (k : FaultKind) (p : ℕ) (ts : List Token) → LexicalFault bytes k p ts → (k ≡ kind) × (p ≡ at) × (ts ≡ before)
  pub order : InOrder 0 before
  pub shallow : IsShallow before

-- The memory may be refused for every script; else the script has the fault that is told.
abbrev pub IsRefusal : List ℕ → LexRefusal → Type 0
IsRefusal bytes Memory = Unit {0}
IsRefusal bytes (Fault before at kind) = OnlyFault bytes kind at before
