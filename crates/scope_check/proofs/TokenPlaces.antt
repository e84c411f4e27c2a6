-- The places of the tokens of a script are in order.
use Rattle.std.proofs.Common.{◌≡◌, ◌≢◌, ℕ, zero, suc, ◌+◌, ◌-◌, ◌<◌, ◌≤◌, inl, inr, Bool, true, false, ◌&&◌, not, if◌then◌else◌, Some, List, [], ◌∷◌, ◌++◌, length, refl, sym, ap, subst, ◌∙◌, arith, ⊎_elim}
use Rattle.std.specs.Prelude.{min, ◌==◌}
use Rattle.std.proofs.lemmas.List.{get_or_past, length-map}
use Rattle.std.proofs.lemmas.Bool.{true≢false, cases_lt}
use Rattle.model_syntax.specs.declared.place.Place.{Place}
use Rattle.model_syntax.specs.declared.fault.ScriptFault.{ScriptFault}
use Rattle.model_syntax.specs.declared.token.Token.{Token}
use Rattle.model_syntax.specs.declared.token.TokenKind.{TokenKind}
use Rattle.model_syntax.specs.declared.tree.Tree.{Tree}
use Rattle.model_syntax.specs.Source.{Source, past_end, byte_at}
use Rattle.model_syntax.specs.Places.{line_at, column_at, place_at, is_inner}
use Rattle.model_syntax.specs.Stream.{places_of, kinds_of}
use Rattle.model_syntax.specs.Tokens.{Lexed, InOrder, Raw, raw_none, raw_more}
use Rattle.model_syntax.specs.FirstFault.{IsTree}
use Rattle.model_syntax.specs.Scopes.{scope_fault}
use Rattle.model_syntax.specs.Spelling.{is_letter}
use Rattle.model_syntax.specs.TextForms.{Form}
use Rattle.model_syntax.specs.OpenBrackets.{Open}
use Rattle.model_syntax.specs.Newlines.{kept, is_newline, next_goes_on, goes_on_after}
use Rattle.model_syntax.specs.Reading.{goes, part, Blank, AfterLine, line_ends, AfterComment, comment_ends, blank, line_comment, comment, newline_ends, newline_blank, AfterFits, name_stands, word_stands, sign_stands, number_stands, lexeme, AfterContent, text_whole, text_opens, text_begins, InCode, code_blank, code_newline, code_lexeme, code_text, code_nothing, Path, path_ends, path_more, InText, in_part, in_closing, in_braces, in_path, Reads, reads_code, reads_text}
use Rattle.model_syntax.proofs.TokenLaws.{goes_only}
use Rattle.model_syntax.proofs.ReadingLemmas.{goes_not_end}
use Rattle.model_syntax.proofs.TokenOrder.{lexed-order}
use Rattle.scope_check.specs.Faults.{IsNotBehind, IsLeast, scope_faults}
use Rattle.scope_check.proofs.MarkOrder.{script-placed}
use Rattle.scope_check.proofs.LeastFault.{AreInOrder, placed-least}

-- Each token stands at the place of its first byte, which is one of the script.
abbrev StandAt : Source → List Token → Type 0
StandAt B [] = Unit {0}
StandAt B (t ∷ ts) = (t.place ≡ place_at B t.start) × (B t.start ≢ past_end) × StandAt B ts

stand-append : (B : Source) (ts us : List Token) → StandAt B ts → StandAt B us → StandAt B (ts ++ us)
stand-append B [] us p q = q
stand-append B (t ∷ ts) us p q = (p.0, p.1, stand-append B ts us p.2 q)

stand-none : (B : Source) (ts : List Token) → ts ≡ [] → StandAt B ts
stand-none B ts e = subst (StandAt B) (sym e) tt

letter_stands : (B : Source) (a : ℕ) → is_letter (B a) ≡ true → B a ≢ past_end
letter_stands B a l e = true≢false (sym l ∙ ap is_letter e)

dot_stands : (B : Source) (a : ℕ) → B a ≡ 46 → B a ≢ past_end
dot_stands B a d e = omega (arith, d, e)

part-stand : (B : Source) (t : List ℕ) (a b : ℕ) → B a ≢ past_end → StandAt B (part B t a b)
part-stand B [] a b h = tt
part-stand B (c ∷ t) a b h = (refl, h, tt)

module _ {B : Source} where
  path-stand : {ts : List Token} {a b : ℕ} → Path B ts a b → StandAt B ts
  path-stand (path_ends {a = a} l f n) = (refl, letter_stands B a l, tt)
  path-stand (path_more {t = t} {a = a} l f d m r) = (refl, letter_stands B a l, (refl, dot_stands B (a + length t) d, path-stand r))

  fits-stand : {s : List Open} {t : List ℕ} {a : ℕ} {k : TokenKind} {ts : List Token} {u : List Open} {m : ℕ} → AfterFits B s t a k (goes ts u m) → B a ≢ past_end → StandAt B ts
  fits-stand name_stands h = (refl, h, tt)
  fits-stand word_stands h = (refl, h, tt)
  fits-stand (sign_stands r) h = (refl, h, tt)
  fits-stand (number_stands g) h = (refl, h, tt)

  line-stand : {s : List Open} {b : ℕ} {ts : List Token} {u : List Open} {m : ℕ} → AfterLine B s b (goes ts u m) → StandAt B ts
  line-stand (line_ends e) = tt

  comment-stand : {s : List Open} {a b : ℕ} {ts : List Token} {u : List Open} {m : ℕ} → AfterComment B s a b (goes ts u m) → StandAt B ts
  comment-stand (comment_ends e) = tt

  blank-stand : {s : List Open} {a : ℕ} {ts : List Token} {u : List Open} {m : ℕ} → Blank B s a (goes ts u m) → StandAt B ts
  blank-stand {ts = ts} (blank p e) = stand-none B ts (goes_only e).0
  blank-stand (line_comment l r k) = line-stand k
  blank-stand (comment l r k) = comment-stand k

  content-stand : {s : List Open} {f : Form} {t : List ℕ} {a b : ℕ} {ts : List Token} {u : List Open} {m : ℕ} → AfterContent B s f t a b (goes ts u m) → B a ≢ past_end → StandAt B ts
  content-stand (text_whole p) h = (refl, h, tt)
  content-stand (text_opens d e) h = (refl, h, tt)

  code-stand : {s : List Open} {a : ℕ} {ts : List Token} {u : List Open} {m : ℕ} → InCode B s a (goes ts u m) → B a ≢ past_end → StandAt B ts
  code-stand (code_blank b) h = blank-stand b
  code-stand (code_newline (newline_ends e l p)) h = (refl, h, tt)
  code-stand (code_newline (newline_blank e l p)) h = tt
  code-stand (code_lexeme (lexeme f r)) h = fits-stand r h
  code-stand (code_text (text_begins o c r)) h = content-stand r h
  code-stand (code_nothing n) h = elim n [ ]

  text-stand : {s : List Open} {f : Form} {o a : ℕ} {ts : List Token} {u : List Open} {m : ℕ} → InText B s f o a (goes ts u m) → B a ≢ past_end → StandAt B ts
  text-stand {a = a} (in_part {t = t} {b = b} l c n) h = part-stand B t a b h
  text-stand (in_closing p) h = (refl, h, tt)
  text-stand (in_braces d p l) h = (refl, h, tt)
  text-stand (in_path d p r) h = (refl, h, path-stand r)

  reads-stand : {s : List Open} {a : ℕ} {ts : List Token} {u : List Open} {m : ℕ} → Reads B s a (goes ts u m) → B a ≢ past_end → StandAt B ts
  reads-stand (reads_code c p) h = code-stand p h
  reads-stand (reads_text p) h = text-stand p h

  raw-stand : {ts : List Token} {s u : List Open} {a b : ℕ} → Raw B ts s u a b → StandAt B ts
  raw-stand raw_none = tt
  raw-stand (raw_more ts {us = us} r k) = stand-append B ts us (reads-stand r (goes_not_end r)) (raw-stand k)

kept-stand : (B : Source) (ts : List Token) (x : Bool) → StandAt B ts → StandAt B (kept x ts)
unfolding kept
kept-stand B [] x h = tt
kept-stand B (t ∷ ts) x h = by (is_newline t.kind) (x && not (next_goes_on ts)) (kept-stand B ts false h.2) (kept-stand B ts (not (goes_on_after t.kind)) h.2)
  where
    by : (n k : Bool) → StandAt B (kept false ts) → StandAt B (kept (not (goes_on_after t.kind)) ts) → StandAt B (if n then (if k then t ∷ kept false ts else kept false ts) else (t ∷ kept (not (goes_on_after t.kind)) ts))
    by true true p q = (h.0, h.1, p)
    by true false p q = p
    by false k p q = (h.0, h.1, q)

lexed-stand : {bytes : List ℕ} {ts : List Token} → Lexed bytes ts → StandAt (byte_at bytes) ts
lexed-stand {bytes = bytes} l = subst (StandAt (byte_at bytes)) (sym l.newlines) (kept-stand (byte_at bytes) l.raw false (raw-stand l.reads))

-- Lines and columns rise with the bytes, below the number at which they stand still.
abbrev last : ℕ
last = 4294967295

line-low : (B : Source) (a : ℕ) → line_at B a ≤ a + 1
unfolding line_at
line-low B zero = omega arith
line-low B (suc a) = by (B a == 10) (line-low B a)
  where
    by : (n : Bool) → line_at B a ≤ a + 1 → (if n then line_at B a + 1 else line_at B a) ≤ suc a + 1
    by true h = omega (arith, h)
    by false h = omega (arith, h)

place-next : (B : Source) (a : ℕ) → suc a < last → IsNotBehind (place_at B a) (place_at B (suc a))
unfolding line_at column_at
place-next B a h = by (B a == 10) (is_inner B a) (line-low B a)
  where
    by : (n i : Bool) → line_at B a ≤ a + 1 → IsNotBehind (place_at B a) (record { line = min (if n then line_at B a + 1 else line_at B a) last; column = min (if n then 1 else (if i then column_at B a else column_at B a + 1)) last })
    by true i l = inl (omega (arith, h, l))
    by false true l = inr (refl, omega arith)
    by false false l = inr (refl, omega arith)

not_behind-trans : (p q r : Place) → IsNotBehind p q → IsNotBehind q r → IsNotBehind p r
not_behind-trans p q r (inl h) (inl k) = inl (omega (arith, h, k))
not_behind-trans p q r (inl h) (inr k) = inl (omega (arith, h, k.0))
not_behind-trans p q r (inr h) (inl k) = inl (omega (arith, h.0, k))
not_behind-trans p q r (inr h) (inr k) = inr (h.0 ∙ k.0, omega (arith, h.1, k.1))

place-rises : (B : Source) (a d : ℕ) → a + d < last → IsNotBehind (place_at B a) (place_at B (a + d))
place-rises B a zero h = let e : a + 0 ≡ a = omega arith in rw e (inr (refl, omega arith))
place-rises B a (suc d) h =
    let e : a + suc d ≡ suc (a + d) = omega arith in
    rw e (not_behind-trans (place_at B a) (place_at B (a + d)) (place_at B (suc (a + d))) (place-rises B a d (omega (arith, h))) (place-next B (a + d) (omega (arith, h))))

place-order : (B : Source) (a b : ℕ) → a ≤ b → b < last → IsNotBehind (place_at B a) (place_at B b)
place-order B a b h l =
    let e : a + (b - a) ≡ b = omega (arith, h) in
    subst (λ c. IsNotBehind (place_at B a) (place_at B c)) e (place-rises B a (b - a) (omega (arith, h, l)))

-- Where a token of a list stands.
module _ (B : Source) (low : (a : ℕ) → B a ≢ past_end → a < last) where
  at : (ts : List Token) (c j : ℕ) → InOrder c ts → StandAt B ts → j < length ts → (a : ℕ) × (c ≤ a) × (a < last) × (places_of ts j ≡ place_at B a)
  at [] c j o s h = absurd (let k : ⊥ = omega (arith, h) in k)
  at (t ∷ ts) c zero o s h = (t.start, o.0, low t.start s.1, s.0)
  at (t ∷ ts) c (suc j) o s h = let r = at ts t.end j o.2 s.2 (omega (arith, h)) in (r.0, omega (arith, o.0, o.1, r.1), r.2, r.3)

  from_first : (t : Token) (ts : List Token) (c j : ℕ) → InOrder c (t ∷ ts) → StandAt B (t ∷ ts) → j < length ts → IsNotBehind t.place (places_of ts j)
  from_first t ts c j o s h =
      let r = at ts t.end j o.2 s.2 h in
      subst (λ p. IsNotBehind p (places_of ts j)) (sym s.0) (subst (IsNotBehind (place_at B t.start)) (sym r.3) (place-order B t.start r.0 (omega (arith, o.1, r.1)) r.2))

  in_order : (ts : List Token) (c : ℕ) → InOrder c ts → StandAt B ts → AreInOrder (places_of ts) (length ts)
  in_order [] c o s i j h k = absurd (let x : ⊥ = omega (arith, k) in x)
  in_order (t ∷ ts) c o s zero zero h k = inr (refl, omega arith)
  in_order (t ∷ ts) c o s zero (suc j) h k = from_first t ts c j o s (omega (arith, k))
  in_order (t ∷ ts) c o s (suc i) zero h k = absurd (let x : ⊥ = omega (arith, h) in x)
  in_order (t ∷ ts) c o s (suc i) (suc j) h k = in_order ts t.end o.2 s.2 i j (omega (arith, h)) (omega (arith, k))

-- The bytes of a script stand below its length.
byte-low : (bytes : List ℕ) (a : ℕ) → byte_at bytes a ≢ past_end → a < length bytes
byte-low bytes a h = ⊎_elim (λ l. l) (λ l. absurd (h (get_or_past bytes a 256 l))) (cases_lt a (length bytes))

-- The tokens of a script of less than 2^32 - 1 bytes stand at places in order.
pub lexed-in_order : {bytes : List ℕ} {ts : List Token} → length bytes < 4294967295 → Lexed bytes ts → AreInOrder (places_of ts) (length ts)
lexed-in_order {bytes = bytes} {ts = ts} h l =
    in_order (byte_at bytes) (λ a n. omega (arith, h, byte-low bytes a n)) ts 0 (lexed-order l) (lexed-stand l)

-- The scope fault that such a script is told is the one with the least place of all scope faults of its tree.
pub scope_fault-least : {bytes : List ℕ} {ts : List Token} {tree : Tree} {f : ScriptFault}
    → length bytes < 4294967295 → Lexed bytes ts → IsTree ts tree → scope_fault tree ≡ Some f → IsLeast f (scope_faults tree)
scope_fault-least {ts = ts} {tree = tree} h l t e =
    placed-least tree (script-placed (kinds_of ts) t.spelled) (subst (AreInOrder (places_of ts)) (sym (length-map ts (λ t. t.kind))) (lexed-in_order h l)) e
