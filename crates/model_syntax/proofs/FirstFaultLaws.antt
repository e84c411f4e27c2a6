-- A script has at most one first fault, and none beside a tree without one.
use Rattle.std.proofs.Common.{◌≡◌, ℕ, zero, suc, ◌+◌, ◌<◌, ◌≤◌, ⊎_elim, List, [], ◌∷◌, ◌++◌, length, take, refl, sym, ap, subst, ◌∙◌, arith, Some, None}
use Rattle.std.proofs.lemmas.Bool.{cases_order}
use Rattle.std.proofs.lemmas.List.{take-append-le, length-take-le, length-map, take_all}
use Rattle.model_syntax.specs.declared.fault.FaultKind.{FaultKind}
use Rattle.model_syntax.specs.declared.fault.FaultKind.TheVariants.{UnexpectedToken}
use Rattle.model_syntax.specs.declared.fault.ScriptFault.{ScriptFault}
use Rattle.model_syntax.specs.declared.token.TokenKind.{TokenKind}
use Rattle.model_syntax.specs.declared.token.Token.{Token}
use Rattle.model_syntax.specs.declared.tree.Tree.{Tree}
use Rattle.model_syntax.specs.Source.{byte_at}
use Rattle.model_syntax.specs.Places.{place_at}
use Rattle.model_syntax.specs.Stream.{Places, kinds_of, places_of}
use Rattle.model_syntax.specs.Tokens.{Lexed, LexicalFault}
use Rattle.model_syntax.specs.Scripts.{IsScript}
use Rattle.model_syntax.specs.Scopes.{fault_at, scope_fault}
use Rattle.model_syntax.specs.FirstFault.{BeginsScript, NoScriptThrough, SyntaxPlace, IsTree, FirstFault, first_lexical, first_before_lexical, first_token, first_end, first_scope, IsFaultless}
use Rattle.model_syntax.proofs.TokenLaws.{lexed-only, lexical_fault-only, lexed_or_fault}

take-take : {A : Type 0} (i j : ℕ) (xs : List A) → i ≤ j → take i (take j xs) ≡ take i xs
take-take zero j xs h = refl
take-take (suc i) zero xs h = absurd (let k : ⊥ = omega (arith, h) in k)
take-take (suc i) (suc j) [] h = refl
take-take (suc i) (suc j) (x ∷ xs) h = ap (λ l. x ∷ l) (take-take i j xs (omega (arith, h)))

length-kinds : (ts : List Token) → length (kinds_of ts) ≡ length ts
length-kinds ts = length-map ts (λ t. t.kind)

-- Where the tokens before a place begin a script, none before it is a fault.
pub begins_or_place : {P : Places} (ks : List TokenKind) {i j : ℕ} → BeginsScript P (take j ks) → NoScriptThrough P ks i → j ≤ length ks → i < j → ⊥
begins_or_place ks {i = i} {j = j} b n h l =
    let e : i + 1 ≤ length (take j ks) = omega (arith, length-take-le j ks h, l) in
    n (take j ks ++ b.closing) b.tree (take-append-le (i + 1) (take j ks) b.closing e ∙ take-take (i + 1) j ks (omega (arith, l))) b.script

-- A list of tokens has at most one syntax place.
pub syntax_place-only : {ts : List Token} {i j : ℕ} → SyntaxPlace ts i → SyntaxPlace ts j → i ≡ j
syntax_place-only {ts = ts} {i = i} {j = j} p q =
    ⊎_elim (λ e. e) (λ k. ⊎_elim
    (λ l. absurd (begins_or_place (kinds_of ts) q.begins p.none (omega (arith, q.inside, length-kinds ts)) l))
    (λ l. absurd (begins_or_place (kinds_of ts) p.begins q.none (omega (arith, p.inside, length-kinds ts)) l)) k) (cases_order i j)

-- A list of tokens that begins a script has no syntax place before its end.
pub begins_no_place : {ts : List Token} {i : ℕ} → BeginsScript (places_of ts) (kinds_of ts) → SyntaxPlace ts i → i < length ts → ⊥
begins_no_place {ts = ts} {i = i} b p l =
    let n = length (kinds_of ts) in
    let c : BeginsScript (places_of ts) (take n (kinds_of ts)) = subst (BeginsScript (places_of ts)) (sym (take_all n (kinds_of ts) (omega arith))) b in
    begins_or_place (kinds_of ts) c p.none (omega arith) (omega (arith, l, length-kinds ts))

-- A list of tokens that is a script has none at all.
pub script_no_place : {ts : List Token} {tree : Tree} {i : ℕ} → IsScript (kinds_of ts) (places_of ts) tree → SyntaxPlace ts i → ⊥
script_no_place {ts = ts} {tree = tree} s p = p.none (kinds_of ts) tree refl s

before_or_begins : {bytes : List ℕ} {C : Type 0} {k j : FaultKind} {p q i : ℕ} {ts us : List Token} → LexicalFault bytes k p ts → BeginsScript (places_of ts) (kinds_of ts) → LexicalFault bytes j q us → SyntaxPlace us i → i < length us → C
before_or_begins {i = i} {ts = ts} {us = us} f b g s l =
    let e = (lexical_fault-only g f).2 in
    absurd (begins_no_place b (subst (λ z. SyntaxPlace z i) e s) (subst (λ z. i < length z) e l))

token_or_end : {bytes : List ℕ} {C : Type 0} {i : ℕ} {ts us : List Token} → Lexed bytes ts → SyntaxPlace ts i → i < length ts → Lexed bytes us → SyntaxPlace us (length us) → C
token_or_end {i = i} {ts = ts} {us = us} x s l y r =
    let e = lexed-only y x in
    let k : i ≡ length us = syntax_place-only (subst (λ z. SyntaxPlace z i) (sym e) s) r in
    absurd (let c : ⊥ = omega (arith, l, k, ap length e) in c)

place_or_tree : {bytes : List ℕ} {C : Type 0} {i : ℕ} {ts us : List Token} {tree : Tree} → Lexed bytes ts → SyntaxPlace ts i → Lexed bytes us → IsTree us tree → C
place_or_tree {i = i} {us = us} x s y t = absurd (script_no_place t.spelled (subst (λ z. SyntaxPlace z i) (lexed-only x y) s))

same_token : {i j : ℕ} {ts us : List Token} → ts ≡ us → SyntaxPlace ts i → SyntaxPlace us j → fault_at (places_of ts i) UnexpectedToken ≡ fault_at (places_of us j) UnexpectedToken
same_token {i = i} {j = j} {ts = ts} {us = us} e p q =
    ap (λ z. fault_at (places_of ts z) UnexpectedToken) (syntax_place-only p (subst (λ z. SyntaxPlace z j) (sym e) q)) ∙ ap (λ z. fault_at (places_of z j) UnexpectedToken) e

tree-only : {ts us : List Token} {t u : Tree} → ts ≡ us → IsTree ts t → IsTree us u → t ≡ u
tree-only {u = u} e p q = sym (p.only u (subst (λ z. IsTree z u) (sym e) q).spelled)

same_scope : {t u : Tree} {f g : ScriptFault} → t ≡ u → scope_fault t ≡ Some f → scope_fault u ≡ Some g → f ≡ g
same_scope {f = f} {g = g} e p q = let k : Some f ≡ Some g = sym p ∙ ap scope_fault e ∙ q in cc

-- A script has at most one first fault.
pub first_fault-only : {bytes : List ℕ} {f g : ScriptFault} → FirstFault bytes f → FirstFault bytes g → f ≡ g
first_fault-only {bytes = bytes} (first_lexical {k = k} {at = p} l b) (first_lexical {k = j} {at = q} l' b') =
    let e = lexical_fault-only l l' in
    ap (λ z. fault_at (place_at (byte_at bytes) p) z) e.0 ∙ ap (λ z. fault_at (place_at (byte_at bytes) z) j) e.1
first_fault-only (first_lexical l b) (first_before_lexical l' s h) = before_or_begins l b l' s h
first_fault-only (first_lexical l b) (first_token x s h) = absurd (lexed_or_fault x l)
first_fault-only (first_lexical l b) (first_end x s) = absurd (lexed_or_fault x l)
first_fault-only (first_lexical l b) (first_scope x t e) = absurd (lexed_or_fault x l)
first_fault-only (first_before_lexical l' s h) (first_lexical l b) = before_or_begins l b l' s h
first_fault-only (first_before_lexical l s h) (first_before_lexical l' s' h') = same_token (lexical_fault-only l l').2 s s'
first_fault-only (first_before_lexical l s h) (first_token x s' h') = absurd (lexed_or_fault x l)
first_fault-only (first_before_lexical l s h) (first_end x s') = absurd (lexed_or_fault x l)
first_fault-only (first_before_lexical l s h) (first_scope x t e) = absurd (lexed_or_fault x l)
first_fault-only (first_token x s h) (first_lexical l b) = absurd (lexed_or_fault x l)
first_fault-only (first_token x s h) (first_before_lexical l s' h') = absurd (lexed_or_fault x l)
first_fault-only (first_token x s h) (first_token x' s' h') = same_token (lexed-only x x') s s'
first_fault-only (first_token x s h) (first_end x' s') = token_or_end x s h x' s'
first_fault-only (first_token x s h) (first_scope x' t e) = place_or_tree x s x' t
first_fault-only (first_end x s) (first_lexical l b) = absurd (lexed_or_fault x l)
first_fault-only (first_end x s) (first_before_lexical l s' h) = absurd (lexed_or_fault x l)
first_fault-only (first_end x s) (first_token x' s' h) = token_or_end x' s' h x s
first_fault-only (first_end x s) (first_end x' s') = refl
first_fault-only (first_end x s) (first_scope x' t e) = place_or_tree x s x' t
first_fault-only (first_scope x t e) (first_lexical l b) = absurd (lexed_or_fault x l)
first_fault-only (first_scope x t e) (first_before_lexical l s h) = absurd (lexed_or_fault x l)
first_fault-only (first_scope x t e) (first_token x' s h) = place_or_tree x' s x t
first_fault-only (first_scope x t e) (first_end x' s) = place_or_tree x' s x t
first_fault-only (first_scope x t e) (first_scope x' t' e') = same_scope (tree-only (lexed-only x x') t t') e e'

-- A script without a fault has no first fault.
pub faultless_or_fault : {bytes : List ℕ} {tree : Tree} {f : ScriptFault} → IsFaultless bytes tree → FirstFault bytes f → ⊥
faultless_or_fault n (first_lexical l b) = lexed_or_fault n.lexed l
faultless_or_fault n (first_before_lexical l s h) = lexed_or_fault n.lexed l
faultless_or_fault n (first_token x s h) = place_or_tree x s n.lexed n.parsed
faultless_or_fault n (first_end x s) = place_or_tree x s n.lexed n.parsed
faultless_or_fault {f = f} n (first_scope x t e) = let k : Some f ≡ None = sym e ∙ ap scope_fault (tree-only (lexed-only x n.lexed) t n.parsed) ∙ n.scoped in cc
