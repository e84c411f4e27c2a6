-- Which fault of tokens, syntax and scopes is a script's first.
use Rattle.std.proofs.Common.{◌≡◌, ℕ, ◌<◌, ◌≤◌, None, List, [], refl, sym, ap, subst, arith, length, append-nil}
use Rattle.std.proofs.lemmas.List.{length-map, take_all}
use Rattle.std.proofs.lemmas.Option.{slice_get_read}
use Rattle.std.specs.Prelude.{get_or, Result, Ok, Err, IfOk}
use Rattle.model_syntax.specs.declared.fault.FaultKind.{FaultKind}
use Rattle.model_syntax.specs.declared.fault.FaultKind.TheVariants.{UnexpectedToken, UnexpectedEnd}
use Rattle.model_syntax.specs.declared.fault.ScriptRefusal.{ScriptRefusal}
use Rattle.model_syntax.specs.declared.fault.ScriptRefusal.TheVariants as refusal
use Rattle.model_syntax.specs.declared.token.Token.{Token}
use Rattle.model_syntax.specs.declared.tree.Tree.{Tree}
use Rattle.model_syntax.specs.Source.{byte_at}
use Rattle.model_syntax.specs.Places.{place_at}
use Rattle.model_syntax.specs.Stream.{kinds_of, places_of, place_of_token}
use Rattle.model_syntax.specs.Scripts.{IsScript}
use Rattle.model_syntax.specs.Tokens.{Lexed, LexicalFault}
use Rattle.model_syntax.specs.Scopes.{fault_at, scope_fault}
use Rattle.model_syntax.specs.FirstFault.{BeginsScript, SyntaxPlace, IsTree, FirstFault, first_lexical, first_before_lexical, first_token, first_end, first_scope, IsFaultless}
use Rattle.model_syntax.proofs.TokenLaws.{lexed-only}
use Rattle.scope_check.specs.Refusal as scopes
use Rattle.groovy_parse.specs.Refusals.{IsRefused}

-- A script has one tree.
pub faultless_only : {bytes : List ℕ} {t u : Tree} → IsFaultless bytes t → IsFaultless bytes u → u ≡ t
faultless_only {bytes} {t} {u} n m = let e = lexed-only m.lexed n.lexed in n.parsed.only u (subst (λ z. IsTree z u) e m.parsed).spelled

pub only_tree : (bytes : List ℕ) (r : Result Tree ScriptRefusal) → IfOk r (λ tree. IsFaultless bytes tree) → IfOk r (λ tree. (other : Tree) → IsFaultless bytes other → other ≡ tree)
only_tree bytes (Ok tree) n = λ other m. faultless_only n m
only_tree bytes (Err e) n = tt

-- the place of a token
place_there : (ts : List Token) (i : ℕ) {t : Token} → i < length ts → t ≡ get_or ts i t → t.place ≡ places_of ts i
place_there ts i {t} lt h = sym (ap place_of_token (slice_get_read ts (length ts) i t refl lt h))

-- the tokens before a lexical fault begin a script where they have no syntax fault among them
whole_begins : (ts : List Token) {i : ℕ} → SyntaxPlace ts i → length ts ≤ i → BeginsScript (places_of ts) (kinds_of ts)
whole_begins ts {i} p le =
    let l = length-map ts (λ t. t.kind) in
    subst (BeginsScript (places_of ts)) (take_all i (kinds_of ts) (omega arith)) p.begins

tree_begins : (ts : List Token) {tree : Tree} → IsTree ts tree → BeginsScript (places_of ts) (kinds_of ts)
tree_begins ts {tree} r = record { closing = []; tree = tree; script = subst (λ ks. IsScript ks (places_of ts) tree) (sym (append-nil (kinds_of ts))) r.spelled }

module _ (bytes : List ℕ) (ts : List Token) where
  module _ (lexed : Lexed bytes ts) where
    module _ {i : ℕ} (p : SyntaxPlace ts i) where
      pub token_first : {t : Token} → i < length ts → t ≡ get_or ts i t → FirstFault bytes (fault_at t.place UnexpectedToken)
      token_first {t} lt h = subst (λ z. FirstFault bytes (fault_at z UnexpectedToken)) (sym (place_there ts i lt h)) (first_token lexed p lt)

      pub end_first : length ts ≤ i → FirstFault bytes (fault_at (place_at (byte_at bytes) (length bytes)) UnexpectedEnd)
      end_first le = first_end lexed (let e : i ≡ length ts = (let l = p.inside in omega arith) in subst (SyntaxPlace ts) e p)

    module _ {tree : Tree} (r : IsTree ts tree) where
      pub scope_first : (e : ScriptRefusal) → scopes.IsRefused (scope_fault tree) e → IsRefused bytes e
      scope_first refusal.Memory q = tt
      scope_first refusal.TooLong q = q
      scope_first (refusal.Fault f) q = first_scope lexed r q

      pub faultless : scope_fault tree ≡ None → IsFaultless bytes tree
      faultless q = record { tokens = ts; lexed = lexed; parsed = r; scoped = q }

  module _ {k : FaultKind} {at : ℕ} (lexical : LexicalFault bytes k at ts) where
    pub lexical_first : {tree : Tree} → IsTree ts tree → FirstFault bytes (fault_at (place_at (byte_at bytes) at) k)
    lexical_first r = first_lexical lexical (tree_begins ts r)

    module _ {i : ℕ} (p : SyntaxPlace ts i) where
      pub syntax_before : {t : Token} → i < length ts → t ≡ get_or ts i t → FirstFault bytes (fault_at t.place UnexpectedToken)
      syntax_before {t} lt h = subst (λ z. FirstFault bytes (fault_at z UnexpectedToken)) (sym (place_there ts i lt h)) (first_before_lexical lexical p lt)

      pub lexical_before : length ts ≤ i → FirstFault bytes (fault_at (place_at (byte_at bytes) at) k)
      lexical_before le = first_lexical lexical (whole_begins ts p le)
