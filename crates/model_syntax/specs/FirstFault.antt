-- The first fault of a script: of its tokens, of its syntax, or of its scopes.
use Rattle.std.specs.Prelude.{◌≡◌, ℕ, ◌+◌, ◌<◌, ◌≤◌, Some, None, List, ◌++◌, length, take}
use Rattle.model_syntax.specs.declared.fault.FaultKind.{FaultKind}
use Rattle.model_syntax.specs.declared.fault.FaultKind.TheVariants.{UnexpectedToken, UnexpectedEnd}
use Rattle.model_syntax.specs.declared.fault.ScriptFault.{ScriptFault}
use Rattle.model_syntax.specs.declared.token.TokenKind.{TokenKind}
use Rattle.model_syntax.specs.declared.token.Token.{Token}
use Rattle.model_syntax.specs.declared.tree.Tree.{Tree}
use Rattle.model_syntax.specs.Source.{byte_at}
use Rattle.model_syntax.specs.Places.{place_at}
use Rattle.model_syntax.specs.Stream.{Places, kinds_of, places_of}
use Rattle.model_syntax.specs.Tokens.{Lexed, LexicalFault}
use Rattle.model_syntax.specs.Scripts.{IsScript}
use Rattle.model_syntax.specs.Scopes.{fault_at, scope_fault}

-- These tokens begin some script of the grammar: with others behind them they are one.
pub record BeginsScript (P : Places) (ks : List TokenKind) : Type 0 where
  pub closing : List TokenKind
  pub tree : Tree
  pub script : IsScript (ks ++ closing) P tree

-- No script of the grammar begins with the tokens before the place i and the one at it; at the end of the list that
-- says that they are no script.
abbrev pub NoScriptThrough : Places → List TokenKind → ℕ → Type 0
NoScriptThrough P ks i = (us : List TokenKind) (tree : Tree) → take (i + 1) us ≡ take (i + 1) ks → IsScript us P tree → ⊥

-- The syntax place of a list of tokens: those before it begin some script, and those through it begin none.
pub record SyntaxPlace (ts : List Token) (i : ℕ) : Type 0 where
  pub inside : i ≤ length ts
  pub begins : BeginsScript (places_of ts) (take i (kinds_of ts))
  pub none : NoScriptThrough (places_of ts) (kinds_of ts) i

-- The tree of a list of tokens: the only one that they spell.
pub record IsTree (ts : List Token) (tree : Tree) : Type 0 where
  pub spelled : IsScript (kinds_of ts) (places_of ts) tree
  pub only : (other : Tree) → IsScript (kinds_of ts) (places_of ts) other → other ≡ tree

-- The first fault. The syntax fault comes first where its token begins before the lexical fault. Scope faults are
-- looked for only in a script of the grammar.
pub data FirstFault (bytes : List ℕ) : ScriptFault → Type 0 where
  first_lexical : {k : FaultKind} {at : ℕ} {before : List Token} → LexicalFault bytes k at before → BeginsScript (places_of before) (kinds_of before) → FirstFault bytes (fault_at (place_at (byte_at bytes) at) k)
  first_before_lexical : {k : FaultKind} {at i : ℕ} {before : List Token} → LexicalFault bytes k at before → SyntaxPlace before i → i < length before → FirstFault bytes (fault_at (places_of before i) UnexpectedToken)
  first_token : {i : ℕ} {ts : List Token} → Lexed bytes ts → SyntaxPlace ts i → i < length ts → FirstFault bytes (fault_at (places_of ts i) UnexpectedToken)
  first_end : {ts : List Token} → Lexed bytes ts → SyntaxPlace ts (length ts) → FirstFault bytes (fault_at (place_at (byte_at bytes) (length bytes)) UnexpectedEnd)
  first_scope : {f : ScriptFault} {ts : List Token} {tree : Tree} → Lexed bytes ts → IsTree ts tree → scope_fault tree ≡ Some f → FirstFault bytes f

-- A script without a fault, and its tree.
pub record IsFaultless (bytes : List ℕ) (tree : Tree) : Type 0 where
  pub tokens : List Token
  pub lexed : Lexed bytes tokens
  pub parsed : IsTree tokens tree
  pub scoped : scope_fault tree ≡ None
