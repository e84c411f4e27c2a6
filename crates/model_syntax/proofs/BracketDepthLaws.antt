-- The brackets of a script's tokens nest at most 128 deep, and so do those of the tokens before its lexical fault.
use Rattle.std.proofs.Common.{◌≡◌, ℕ, ◌-◌, ◌<◌, ◌≤◌, List, [], ◌∷◌, ◌++◌, refl, sym, ap, subst, ◌∙◌, arith, Bool, true, false, ◌&&◌, not, ltb}
use Rattle.std.specs.Prelude.{filter, if◌then◌else◌}
use Rattle.std.proofs.lemmas.Bool.{true≢false, ltb-true, ltb-false}
use Rattle.model_syntax.specs.declared.fault.FaultKind.{FaultKind}
use Rattle.model_syntax.specs.declared.sign.Sign.{Sign}
use Rattle.model_syntax.specs.declared.sign.Sign.TheVariants as sign
use Rattle.model_syntax.specs.declared.token.Token.{Token}
use Rattle.model_syntax.specs.declared.token.TokenKind.{TokenKind}
use Rattle.model_syntax.specs.declared.token.TokenKind.TheVariants as kind
use Rattle.model_syntax.specs.Source.{Source, Spelled}
use Rattle.model_syntax.specs.Spelling.{is_letter, Spells, spells_sign, spells_word, spells_name, spells_number}
use Rattle.model_syntax.specs.TextForms.{Form}
use Rattle.model_syntax.specs.OpenBrackets.{Open, paren, bracket, brace, expression, text, depth, is_opening, closed, after_sign, IsCode}
use Rattle.model_syntax.specs.Reading.{goes, part, Blank, AfterLine, line_ends, AfterComment, comment_ends, blank, line_comment, comment, newline_ends, newline_blank, AfterFits, name_stands, word_stands, sign_stands, number_stands, lexeme, AfterContent, text_whole, text_opens, text_begins, InCode, code_blank, code_newline, code_lexeme, code_text, code_nothing, Path, path_ends, path_more, InText, in_part, in_closing, in_braces, in_path, Reads, reads_code, reads_text}
use Rattle.model_syntax.specs.Newlines.{kept, is_newline, next_goes_on, goes_on_after}
use Rattle.model_syntax.specs.Tokens.{Raw, raw_none, raw_more, Lexed, LexicalFault, begins_before}
use Rattle.model_syntax.specs.Stream.{kinds_of}
use Rattle.model_syntax.specs.BracketDepth.{depth_behind, StaysShallow, IsShallow}
use Rattle.model_syntax.proofs.SpellingLemmas.{FirstIs, first_is, is_sign_byte, sign_first, letter_sign}
use Rattle.model_syntax.proofs.TokenLaws.{goes_only}
use Rattle.model_syntax.proofs.TokenOrder.{Within, no_token, one_more, raw-order}

-- From so many open brackets to so many lead these tokens, and behind none of them more than 128 are open.
data Shallow : ℕ → List Token → ℕ → Type 0 where
  shallow_none : {d : ℕ} → Shallow d [] d
  shallow_more : {d e : ℕ} {t : Token} {ts : List Token} → depth_behind d t.kind ≤ 128 → Shallow (depth_behind d t.kind) ts e → Shallow d (t ∷ ts) e

-- A token that opens and closes nothing.
same_depth : {d e : ℕ} {t : Token} {ts : List Token} → d ≤ 128 → depth_behind d t.kind ≡ d → Shallow d ts e → Shallow d (t ∷ ts) e
same_depth {e = e} {ts = ts} l b r = shallow_more (omega (arith, l, b)) (subst (λ z. Shallow z ts e) (sym b) r)

closed_depth : (s : List Open) → IsCode s → depth (closed s) ≡ depth s - 1
unfolding depth
closed_depth [] c = refl
closed_depth (paren ∷ s) c = omega arith
closed_depth (bracket ∷ s) c = omega arith
closed_depth (brace ∷ s) c = omega arith
closed_depth (expression ∷ s) c = omega arith
closed_depth (text f o ∷ s) c = absurd c

sign_depth : (x : Sign) (s : List Open) → IsCode s → depth s ≤ 128 → (is_opening x ≡ true → depth s < 128) → (depth (after_sign x s) ≡ depth_behind (depth s) (kind.Sign x)) × (depth_behind (depth s) (kind.Sign x) ≤ 128)
unfolding depth
sign_depth sign.ParenOpen s c l h = (refl, omega (arith, h refl))
sign_depth sign.ParenClose s c l h = (closed_depth s c, omega (arith, l))
sign_depth sign.BracketOpen s c l h = (refl, omega (arith, h refl))
sign_depth sign.BracketClose s c l h = (closed_depth s c, omega (arith, l))
sign_depth sign.BraceOpen s c l h = (refl, omega (arith, h refl))
sign_depth sign.BraceClose s c l h = (closed_depth s c, omega (arith, l))
sign_depth sign.Comma s c l h = (refl, l)
sign_depth sign.Semicolon s c l h = (refl, l)
sign_depth sign.Colon s c l h = (refl, l)
sign_depth sign.Question s c l h = (refl, l)
sign_depth sign.Elvis s c l h = (refl, l)
sign_depth sign.Dot s c l h = (refl, l)
sign_depth sign.SafeDot s c l h = (refl, l)
sign_depth sign.Range s c l h = (refl, l)
sign_depth sign.Arrow s c l h = (refl, l)
sign_depth sign.Assign s c l h = (refl, l)
sign_depth sign.PlusAssign s c l h = (refl, l)
sign_depth sign.MinusAssign s c l h = (refl, l)
sign_depth sign.TimesAssign s c l h = (refl, l)
sign_depth sign.ModAssign s c l h = (refl, l)
sign_depth sign.Increment s c l h = (refl, l)
sign_depth sign.Decrement s c l h = (refl, l)
sign_depth sign.Or s c l h = (refl, l)
sign_depth sign.And s c l h = (refl, l)
sign_depth sign.Equal s c l h = (refl, l)
sign_depth sign.NotEqual s c l h = (refl, l)
sign_depth sign.Less s c l h = (refl, l)
sign_depth sign.LessEqual s c l h = (refl, l)
sign_depth sign.Greater s c l h = (refl, l)
sign_depth sign.GreaterEqual s c l h = (refl, l)
sign_depth sign.Plus s c l h = (refl, l)
sign_depth sign.Minus s c l h = (refl, l)
sign_depth sign.Times s c l h = (refl, l)
sign_depth sign.Mod s c l h = (refl, l)
sign_depth sign.Not s c l h = (refl, l)

-- What begins with a letter is no sign.
spelled_letter : (B : Source) (a : ℕ) {t : List ℕ} {k : TokenKind} → Spells t k → Spelled B t a → is_letter (B a) ≡ true → (d : ℕ) → depth_behind d k ≡ d
spelled_letter B a (spells_sign x) s l d = absurd (by (sign_first x) s)
  where
    by : {t : List ℕ} → FirstIs is_sign_byte t → Spelled B t a → ⊥
    by (first_is b bs p) s = letter_sign (B a) l (ap is_sign_byte s.0 ∙ p)
spelled_letter B a (spells_word w) s l d = refl
spelled_letter B a (spells_name m n) s l d = refl
spelled_letter B a (spells_number m) s l d = refl

path_shallow : {B : Source} {ts : List Token} {a b d : ℕ} → d ≤ 128 → Path B ts a b → Shallow d ts d
path_shallow {B = B} {a = a} {d = d} l (path_ends r f n) = same_depth l (spelled_letter B a f.spells f.stands r d) shallow_none
path_shallow {B = B} {a = a} {d = d} l (path_more r f e m p) = same_depth l (spelled_letter B a f.spells f.stands r d) (same_depth l refl (path_shallow l p))

fits_shallow : {B : Source} {s : List Open} {t : List ℕ} {a : ℕ} {k : TokenKind} {ts : List Token} {u : List Open} {m : ℕ} → IsCode s → depth s ≤ 128 → AfterFits B s t a k (goes ts u m) → Shallow (depth s) ts (depth u)
fits_shallow c l name_stands = same_depth l refl shallow_none
fits_shallow c l word_stands = same_depth l refl shallow_none
fits_shallow {s = s} c l (sign_stands {x = x} h) = let e = sign_depth x s c l h in shallow_more e.1 (subst (λ z. Shallow (depth_behind (depth s) (kind.Sign x)) [] z) (sym e.0) shallow_none)
fits_shallow c l (number_stands g) = same_depth l refl shallow_none

none_shallow : {ts : List Token} {s u : List Open} → (ts ≡ []) × (u ≡ s) → Shallow (depth s) ts (depth u)
none_shallow {s = s} {u = u} e = subst (λ z. Shallow (depth s) z (depth u)) (sym e.0) (subst (λ z. Shallow (depth s) [] (depth z)) (sym e.1) shallow_none)

line_shallow : {B : Source} {s : List Open} {b : ℕ} {ts : List Token} {u : List Open} {m : ℕ} → AfterLine B s b (goes ts u m) → Shallow (depth s) ts (depth u)
line_shallow (line_ends e) = shallow_none

comment_shallow : {B : Source} {s : List Open} {a b : ℕ} {ts : List Token} {u : List Open} {m : ℕ} → AfterComment B s a b (goes ts u m) → Shallow (depth s) ts (depth u)
comment_shallow (comment_ends e) = shallow_none

blank_shallow : {B : Source} {s : List Open} {a : ℕ} {ts : List Token} {u : List Open} {m : ℕ} → Blank B s a (goes ts u m) → Shallow (depth s) ts (depth u)
blank_shallow (blank p e) = let k = goes_only e in none_shallow (k.0, k.1)
blank_shallow (line_comment l r k) = line_shallow k
blank_shallow (comment l r k) = comment_shallow k

content_shallow : {B : Source} {s : List Open} {f : Form} {t : List ℕ} {a b : ℕ} {ts : List Token} {u : List Open} {m : ℕ} → depth s ≤ 128 → AfterContent B s f t a b (goes ts u m) → Shallow (depth s) ts (depth u)
unfolding depth
content_shallow l (text_whole p) = same_depth l refl shallow_none
content_shallow l (text_opens d e) = same_depth l refl shallow_none

code_shallow : {B : Source} {s : List Open} {a : ℕ} {ts : List Token} {u : List Open} {m : ℕ} → IsCode s → depth s ≤ 128 → InCode B s a (goes ts u m) → Shallow (depth s) ts (depth u)
code_shallow c l (code_blank b) = blank_shallow b
code_shallow c l (code_newline (newline_ends e h p)) = same_depth l refl shallow_none
code_shallow c l (code_newline (newline_blank e h p)) = shallow_none
code_shallow c l (code_lexeme (lexeme f r)) = fits_shallow c l r
code_shallow c l (code_text (text_begins o k r)) = content_shallow l r
code_shallow c l (code_nothing n) = elim n [ ]

part_shallow : (B : Source) (t : List ℕ) (a b d : ℕ) → d ≤ 128 → Shallow d (part B t a b) d
part_shallow B [] a b d l = shallow_none
part_shallow B (c ∷ t) a b d l = same_depth l refl shallow_none

text_shallow : {B : Source} {s : List Open} {f : Form} {o a : ℕ} {ts : List Token} {u : List Open} {m : ℕ} → depth s ≤ 128 → InText B s f o a (goes ts u m) → Shallow (depth s) ts (depth u)
unfolding depth
text_shallow {B = B} {a = a} l (in_part {t = t} {b = b} h c n) = part_shallow B t a b _ l
text_shallow l (in_closing p) = same_depth l refl shallow_none
text_shallow l (in_braces d p h) = shallow_more (omega (arith, h)) shallow_none
text_shallow l (in_path d p r) = shallow_more l (path_shallow l r)

reads_shallow : {B : Source} {s : List Open} {a : ℕ} {ts : List Token} {u : List Open} {m : ℕ} → depth s ≤ 128 → Reads B s a (goes ts u m) → Shallow (depth s) ts (depth u)
unfolding depth
reads_shallow l (reads_code c p) = code_shallow c l p
reads_shallow l (reads_text p) = text_shallow l p

shallow_end : {d e : ℕ} {ts : List Token} → d ≤ 128 → Shallow d ts e → e ≤ 128
shallow_end l shallow_none = l
shallow_end l (shallow_more h r) = shallow_end h r

shallow_append : {d e g : ℕ} {ts us : List Token} → Shallow d ts e → Shallow e us g → Shallow d (ts ++ us) g
shallow_append shallow_none q = q
shallow_append (shallow_more h r) q = shallow_more h (shallow_append r q)

raw_shallow : {B : Source} {ts : List Token} {s u : List Open} {a b : ℕ} → depth s ≤ 128 → Raw B ts s u a b → Shallow (depth s) ts (depth u)
raw_shallow l raw_none = shallow_none
raw_shallow l (raw_more ts r k) = let h = reads_shallow l r in shallow_append h (raw_shallow (shallow_end l h) k)

-- A newline that is no token changes nothing.
newline_depth : (k : TokenKind) (d : ℕ) → is_newline k ≡ true → depth_behind d k ≡ d
newline_depth (kind.Name n) d e = absurd (true≢false (sym e))
newline_depth (kind.Int v) d e = absurd (true≢false (sym e))
newline_depth (kind.Text t) d e = absurd (true≢false (sym e))
newline_depth kind.GStringOpen d e = absurd (true≢false (sym e))
newline_depth (kind.GStringPart t) d e = absurd (true≢false (sym e))
newline_depth kind.ExpressionOpen d e = absurd (true≢false (sym e))
newline_depth kind.PathOpen d e = absurd (true≢false (sym e))
newline_depth kind.GStringClose d e = absurd (true≢false (sym e))
newline_depth (kind.Sign x) d e = absurd (true≢false (sym e))
newline_depth (kind.Word w) d e = absurd (true≢false (sym e))
newline_depth kind.Newline d e = refl

kept_shallow : {d e : ℕ} {ts : List Token} (x : Bool) → Shallow d ts e → Shallow d (kept x ts) e
unfolding kept
kept_shallow x shallow_none = shallow_none
kept_shallow {d = d} {e = e} x (shallow_more {t = t} {ts = ts} h r) = by (is_newline t.kind) (x && not (next_goes_on ts)) refl (kept_shallow false r) (kept_shallow (not (goes_on_after t.kind)) r)
  where
    by : (n k : Bool) → is_newline t.kind ≡ n → Shallow (depth_behind d t.kind) (kept false ts) e → Shallow (depth_behind d t.kind) (kept (not (goes_on_after t.kind)) ts) e → Shallow d (if n then (if k then t ∷ kept false ts else kept false ts) else (t ∷ kept (not (goes_on_after t.kind)) ts)) e
    by true true i p q = shallow_more h p
    by true false i p q = subst (λ z. Shallow z (kept false ts) e) (newline_depth t.kind d i) p
    by false k i p q = shallow_more h q

-- The tokens that begin before a place are the first ones.
none_before : {a b : ℕ} {ts : List Token} (p : ℕ) → p ≤ a → Within a ts b → filter (begins_before p) ts ≡ []
none_before p h (no_token l) = refl
none_before p h (one_more {t = t} {ts = ts} l m w) = by (ltb t.start p) refl (none_before p (omega (arith, h, l, m)) w)
  where
    by : (k : Bool) → ltb t.start p ≡ k → filter (begins_before p) ts ≡ [] → (if k then t ∷ filter (begins_before p) ts else filter (begins_before p) ts) ≡ []
    by true e i = absurd (let c : ⊥ = omega (arith, ltb-true t.start p e, h, l) in c)
    by false e i = i

before_shallow : {a b d e : ℕ} {ts : List Token} (p : ℕ) → Within a ts b → Shallow d ts e → (g : ℕ) × Shallow d (filter (begins_before p) ts) g
before_shallow p w shallow_none = (_, shallow_none)
before_shallow {a = a} {d = d} p (one_more l m w) (shallow_more {t = t} {ts = ts} h r) = by (ltb t.start p) refl (before_shallow {a = t.end} p w r)
  where
    after : ltb t.start p ≡ false → p ≤ t.end
    after i = omega (arith, ltb-false t.start p i, m)

    by : (k : Bool) → ltb t.start p ≡ k → ((g : ℕ) × Shallow (depth_behind d t.kind) (filter (begins_before p) ts) g) → (g : ℕ) × Shallow d (if k then t ∷ filter (begins_before p) ts else filter (begins_before p) ts) g
    by true i q = (q.0, shallow_more h q.1)
    by false i q = (d, subst (λ z. Shallow d z d) (sym (none_before p (after i) w)) shallow_none)

stays_shallow : {d e : ℕ} {ts : List Token} → Shallow d ts e → StaysShallow d (kinds_of ts)
unfolding StaysShallow
stays_shallow shallow_none = tt
stays_shallow (shallow_more h r) = (h, stays_shallow r)

pub lexed-shallow : {bytes : List ℕ} {ts : List Token} → Lexed bytes ts → IsShallow ts
unfolding depth
lexed-shallow l = subst IsShallow (sym l.newlines) (stays_shallow (kept_shallow false (raw_shallow (omega arith) l.reads)))

pub lexical_fault-shallow : {bytes : List ℕ} {k : FaultKind} {p : ℕ} {ts : List Token} → LexicalFault bytes k p ts → IsShallow ts
unfolding depth
lexical_fault-shallow {p = p} f = subst IsShallow (sym f.newlines) (stays_shallow (kept_shallow false (before_shallow p (raw-order f.reads) (raw_shallow (omega arith) f.reads)).1))
