-- A script has one list of tokens, or one lexical fault, and not both.
use Rattle.std.proofs.Common.{◌≡◌, ℕ, List, [], ◌++◌, refl, sym, ap, subst, ◌∙◌, None, filter, append_assoc, append-nil}
use Rattle.std.specs.Prelude.{false}
use Rattle.model_syntax.specs.declared.fault.FaultKind.{FaultKind}
use Rattle.model_syntax.specs.declared.fault.FaultKind.TheVariants.{NotUtf8}
use Rattle.model_syntax.specs.declared.token.Token.{Token}
use Rattle.model_syntax.specs.Source.{Source, past_end, byte_at}
use Rattle.model_syntax.specs.OpenBrackets.{Open, innermost_text}
use Rattle.model_syntax.specs.Reading.{Outcome, Reads, goes, fails}
use Rattle.model_syntax.specs.Newlines.{kept}
use Rattle.model_syntax.specs.Tokens.{Raw, raw_none, raw_more, Lexed, LexicalFault, begins_before}
use Rattle.model_syntax.proofs.ReadingLemmas.{reads_only, goes_not_end, no_fault_at_end}

-- What reading ends with: the script's end where no text is open, or a fault.
pub data Stops (B : Source) (s : List Open) (a : ℕ) : Type 0 where
  stops_at_end : B a ≡ past_end → innermost_text s ≡ None → Stops B s a
  stops_at_fault : {k : FaultKind} {p : ℕ} → Reads B s a (fails k p) → Stops B s a

tokens_of : Outcome → List Token
tokens_of (goes ts u m) = ts
tokens_of (fails k p) = []

open_of : Outcome → List Open
open_of (goes ts u m) = u
open_of (fails k p) = []

next_of : Outcome → ℕ
next_of (goes ts u m) = m
next_of (fails k p) = 0

kind_of : Outcome → FaultKind
kind_of (goes ts u m) = NotUtf8
kind_of (fails k p) = k

place_of : Outcome → ℕ
place_of (goes ts u m) = 0
place_of (fails k p) = p

pub goes_only : {ts us : List Token} {s u : List Open} {m n : ℕ} → goes ts s m ≡ goes us u n → (ts ≡ us) × (s ≡ u) × (m ≡ n)
unfolding tokens_of open_of next_of
goes_only e = (ap tokens_of e, ap open_of e, ap next_of e)

fails_only : {k j : FaultKind} {p q : ℕ} → fails k p ≡ fails j q → (k ≡ j) × (p ≡ q)
unfolding kind_of place_of
fails_only e = (ap kind_of e, ap place_of e)

goes_no_stop : (B : Source) (s : List Open) (a : ℕ) {ts : List Token} {u : List Open} {m : ℕ} → Reads B s a (goes ts u m) → Stops B s a → ⊥
goes_no_stop B s a r (stops_at_end e n) = goes_not_end r e
goes_no_stop B s a {ts = ts} {u = u} {m = m} r (stops_at_fault {k = k} {p = p} f) = let e : goes ts u m ≡ fails k p = reads_only r f in cc

-- Reading from one place on ends with the same tokens, at the same place, with the same brackets open.
pub raw_only : (B : Source) {ts us : List Token} {s u v : List Open} {a b c : ℕ} → Raw B ts s u a b → Stops B u b → Raw B us s v a c → Stops B v c → (ts ≡ us) × (u ≡ v) × (b ≡ c)
raw_only B raw_none p raw_none q = (refl, refl, refl)
raw_only B {s = s} {a = a} raw_none p (raw_more ts r k) q = absurd (goes_no_stop B s a r p)
raw_only B {s = s} {a = a} (raw_more ts r k) p raw_none q = absurd (goes_no_stop B s a r q)
raw_only B {s = s} {v = v} {a = a} {c = c} (raw_more ts {us = us} {u = x} {m = m} r k) p (raw_more ts' {us = us'} {u = y} {m = n} r' k') q =
    let e = goes_only (reads_only r r') in
    let k'' : Raw B us' x v m c = subst (λ z. Raw B us' x v z c) (sym e.2) (subst (λ z. Raw B us' z v n c) (sym e.1) k') in
    let i = raw_only B k p k'' q in
    (ap (λ z. z ++ us) e.0 ∙ ap (λ z. ts' ++ z) i.0, i.1, i.2)

-- Tokens behind tokens.
pub raw_append : (B : Source) {ts us : List Token} {s u v : List Open} {a b c : ℕ} → Raw B ts s u a b → Raw B us u v b c → Raw B (ts ++ us) s v a c
raw_append B raw_none q = q
raw_append B {us = us} {s = s} {v = v} {a = a} {c = c} (raw_more ts {us = vs} r k) q = subst (λ z. Raw B z s v a c) (sym (append_assoc ts vs us)) (raw_more ts r (raw_append B k q))

-- What stands at the last place goes behind the tokens that are read.
pub raw_behind : (B : Source) {ts us : List Token} {s u v : List Open} {a b c : ℕ} → Raw B ts s u a b → Reads B u b (goes us v c) → Raw B (ts ++ us) s v a c
raw_behind B {ts = ts} {us = us} {u = u} {v = v} {b = b} {c = c} r k = raw_append B r (subst (λ z. Raw B z u v b c) (append-nil us) (raw_more us k raw_none))

-- Every list of tokens of a script is the only one.
pub lexed-only : {bytes : List ℕ} {ts us : List Token} → Lexed bytes ts → Lexed bytes us → ts ≡ us
lexed-only {bytes = bytes} p q =
    p.newlines ∙ ap (kept false) (raw_only (byte_at bytes) p.reads (stops_at_end p.ends p.closed) q.reads (stops_at_end q.ends q.closed)).0 ∙ sym q.newlines

-- A script has at most one lexical fault.
pub lexical_fault-only : {bytes : List ℕ} {k j : FaultKind} {p q : ℕ} {ts us : List Token} → LexicalFault bytes k p ts → LexicalFault bytes j q us → (k ≡ j) × (p ≡ q) × (ts ≡ us)
lexical_fault-only {bytes = bytes} {k = k} {j = j} {p = p} {q = q} f g =
    let B = byte_at bytes in
    let e = raw_only B f.reads (stops_at_fault f.fault) g.reads (stops_at_fault g.fault) in
    let r : Reads B f.open_there f.there (fails j q) = subst (λ z. Reads B f.open_there z (fails j q)) (sym e.2) (subst (λ z. Reads B z g.there (fails j q)) (sym e.1) g.fault) in
    let i = fails_only (reads_only f.fault r) in
    (i.0, i.1, f.newlines ∙ ap (λ z. kept false (filter (begins_before z) f.raw)) i.1 ∙ ap (λ z. kept false (filter (begins_before q) z)) e.0 ∙ sym g.newlines)

-- And no tokens beside it.
pub lexed_or_fault : {bytes : List ℕ} {k : FaultKind} {p : ℕ} {ts us : List Token} → Lexed bytes ts → LexicalFault bytes k p us → ⊥
lexed_or_fault {bytes = bytes} {k = k} {p = p} l f =
    let B = byte_at bytes in
    let e = raw_only B l.reads (stops_at_end l.ends l.closed) f.reads (stops_at_fault f.fault) in
    no_fault_at_end f.fault (ap B (sym e.2) ∙ l.ends) (ap innermost_text (sym e.1) ∙ l.closed)
