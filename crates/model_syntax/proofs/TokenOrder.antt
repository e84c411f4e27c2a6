-- The tokens of a script stand one behind the other.
use Rattle.std.proofs.Common.{ℕ, ◌+◌, ◌<◌, ◌≤◌, List, [], ◌∷◌, ◌++◌, length, sym, subst, arith, Bool, true, false, ◌&&◌, not}
use Rattle.std.specs.Prelude.{filter, if◌then◌else◌}
use Rattle.model_syntax.specs.declared.fault.FaultKind.{FaultKind}
use Rattle.model_syntax.specs.declared.token.Token.{Token}
use Rattle.model_syntax.specs.declared.token.TokenKind.{TokenKind}
use Rattle.model_syntax.specs.Source.{Source}
use Rattle.model_syntax.specs.TextForms.{Form, quotes, Content, content_none, content_more}
use Rattle.model_syntax.specs.OpenBrackets.{Open}
use Rattle.model_syntax.specs.Reading.{goes, part, Blank, AfterLine, line_ends, AfterComment, comment_ends, blank, line_comment, comment, newline_ends, newline_blank, AfterFits, name_stands, word_stands, sign_stands, number_stands, lexeme, AfterContent, text_whole, text_opens, text_begins, InCode, code_blank, code_newline, code_lexeme, code_text, code_nothing, Path, path_ends, path_more, InText, in_part, in_closing, in_braces, in_path, Reads, reads_code, reads_text}
use Rattle.model_syntax.specs.Newlines.{kept, is_newline, next_goes_on, goes_on_after}
use Rattle.model_syntax.specs.Tokens.{Raw, raw_none, raw_more, Lexed, LexicalFault, InOrder, begins_before}
use Rattle.model_syntax.proofs.SourceLemmas.{passed-after}
use Rattle.model_syntax.proofs.TokenLaws.{goes_only}
use Rattle.model_syntax.proofs.ScriptExistence.{fits_some, quotes_some}

-- In order from one place up to another.
pub data Within : ℕ → List Token → ℕ → Type 0 where
  no_token : {a b : ℕ} → a ≤ b → Within a [] b
  one_more : {a b : ℕ} {t : Token} {ts : List Token} → a ≤ t.start → t.start < t.end → Within t.end ts b → Within a (t ∷ ts) b

content-after : {B : Source} {f : Form} {t : List ℕ} {a b : ℕ} → Content B f t a b → a ≤ b
content-after content_none = omega arith
content-after (content_more n i s r) = omega (arith, content-after r)

path-order : {B : Source} {ts : List Token} {a b : ℕ} → Path B ts a b → Within a ts b
path-order (path_ends l f n) = one_more (omega arith) (omega (arith, fits_some f)) (no_token (omega arith))
path-order (path_more l f d m r) = one_more (omega arith) (omega (arith, fits_some f)) (one_more (omega arith) (omega arith) (path-order r))

fits-order : {B : Source} {s : List Open} {t : List ℕ} {a : ℕ} {k : TokenKind} {ts : List Token} {u : List Open} {m : ℕ} → AfterFits B s t a k (goes ts u m) → 0 < length t → Within a ts m
fits-order name_stands h = one_more (omega arith) (omega (arith, h)) (no_token (omega arith))
fits-order word_stands h = one_more (omega arith) (omega (arith, h)) (no_token (omega arith))
fits-order (sign_stands r) h = one_more (omega arith) (omega (arith, h)) (no_token (omega arith))
fits-order (number_stands g) h = one_more (omega arith) (omega (arith, h)) (no_token (omega arith))

part-order : (B : Source) (t : List ℕ) (a b : ℕ) → a < b → Within a (part B t a b) b
part-order B [] a b h = no_token (omega (arith, h))
part-order B (c ∷ t) a b h = one_more (omega arith) h (no_token (omega arith))

line-order : {B : Source} {s : List Open} {a b : ℕ} {ts : List Token} {u : List Open} {m : ℕ} → AfterLine B s b (goes ts u m) → a + 2 ≤ b → Within a ts m
line-order (line_ends e) h = no_token (omega (arith, h))

comment-order : {B : Source} {s : List Open} {a b : ℕ} {ts : List Token} {u : List Open} {m : ℕ} → AfterComment B s a b (goes ts u m) → a + 2 ≤ b → Within a ts m
comment-order (comment_ends e) h = no_token (omega (arith, h))

blank-order : {B : Source} {s : List Open} {a : ℕ} {ts : List Token} {u : List Open} {m : ℕ} → Blank B s a (goes ts u m) → Within a ts m
blank-order {a = a} {m = m} (blank p e) = let k = goes_only e in subst (λ z. Within a z m) (sym k.0) (no_token (omega (arith, k.2)))
blank-order (line_comment l r k) = line-order k (passed-after r)
blank-order (comment l r k) = comment-order k (passed-after r)

content-order : {B : Source} {s : List Open} {f : Form} {t : List ℕ} {a b : ℕ} {ts : List Token} {u : List Open} {m : ℕ} → AfterContent B s f t a b (goes ts u m) → a + length (quotes f) ≤ b → Within a ts m
content-order {f = f} (text_whole p) h = one_more (omega arith) (omega (arith, h, quotes_some f)) (no_token (omega arith))
content-order {f = f} (text_opens d e) h = one_more (omega arith) (omega (arith, quotes_some f)) (no_token (omega arith))

-- The tokens of one step stand in order from its place up to the next.
code-order : {B : Source} {s : List Open} {a : ℕ} {ts : List Token} {u : List Open} {m : ℕ} → InCode B s a (goes ts u m) → Within a ts m
code-order (code_blank b) = blank-order b
code-order (code_newline (newline_ends e h p)) = one_more (omega arith) (omega arith) (no_token (omega arith))
code-order (code_newline (newline_blank e h p)) = no_token (omega arith)
code-order (code_lexeme (lexeme f r)) = fits-order r (fits_some f)
code-order (code_text (text_begins o c r)) = content-order r (content-after c)
code-order (code_nothing n) = elim n [ ]

text-order : {B : Source} {s : List Open} {f : Form} {o a : ℕ} {ts : List Token} {u : List Open} {m : ℕ} → InText B s f o a (goes ts u m) → Within a ts m
text-order {B = B} {a = a} (in_part {t = t} {b = b} h c n) = part-order B t a b h
text-order {f = f} (in_closing p) = one_more (omega arith) (omega (arith, quotes_some f)) (no_token (omega arith))
text-order (in_braces d p l) = one_more (omega arith) (omega arith) (no_token (omega arith))
text-order (in_path d p r) = one_more (omega arith) (omega arith) (path-order r)

reads-order : {B : Source} {s : List Open} {a : ℕ} {ts : List Token} {u : List Open} {m : ℕ} → Reads B s a (goes ts u m) → Within a ts m
reads-order (reads_code c p) = code-order p
reads-order (reads_text p) = text-order p

within-from : {a b c : ℕ} {ts : List Token} → a ≤ b → Within b ts c → Within a ts c
within-from h (no_token l) = no_token (omega (arith, h, l))
within-from h (one_more l m w) = one_more (omega (arith, h, l)) m w

within-append : {a b c : ℕ} {ts us : List Token} → Within a ts b → Within b us c → Within a (ts ++ us) c
within-append (no_token l) x = within-from l x
within-append (one_more l m w) x = one_more l m (within-append w x)

pub raw-order : {B : Source} {ts : List Token} {s u : List Open} {a b : ℕ} → Raw B ts s u a b → Within a ts b
raw-order raw_none = no_token (omega arith)
raw-order (raw_more ts r k) = within-append (reads-order r) (raw-order k)

kept-order : {a b : ℕ} {ts : List Token} (x : Bool) → Within a ts b → Within a (kept x ts) b
unfolding kept
kept-order x (no_token l) = no_token l
kept-order {a = a} {b = b} x (one_more {t = t} {ts = ts} l m w) = by (is_newline t.kind) (x && not (next_goes_on ts)) (kept-order false w) (kept-order (not (goes_on_after t.kind)) w)
  where
    by : (n k : Bool) → Within t.end (kept false ts) b → Within t.end (kept (not (goes_on_after t.kind)) ts) b → Within a (if n then (if k then t ∷ kept false ts else kept false ts) else (t ∷ kept (not (goes_on_after t.kind)) ts)) b
    by true true p q = one_more l m p
    by true false p q = within-from (omega (arith, l, m)) p
    by false k p q = one_more l m q

filter-order : {a b : ℕ} {ts : List Token} (P : Token → Bool) → Within a ts b → Within a (filter P ts) b
filter-order P (no_token l) = no_token l
filter-order {a = a} {b = b} P (one_more {t = t} {ts = ts} l m w) = by (P t) (filter-order P w)
  where
    by : (k : Bool) → Within t.end (filter P ts) b → Within a (if k then t ∷ filter P ts else filter P ts) b
    by true p = one_more l m p
    by false p = within-from (omega (arith, l, m)) p

in_order : {a b : ℕ} {ts : List Token} → Within a ts b → InOrder a ts
in_order (no_token l) = tt
in_order (one_more l m w) = (l, m, in_order w)

-- The tokens of a script are in order, and so are those before its lexical fault.
pub lexed-order : {bytes : List ℕ} {ts : List Token} → Lexed bytes ts → InOrder 0 ts
lexed-order l = subst (InOrder 0) (sym l.newlines) (in_order (kept-order false (within-from (omega arith) (raw-order l.reads))))

pub lexical_fault-order : {bytes : List ℕ} {k : FaultKind} {p : ℕ} {ts : List Token} → LexicalFault bytes k p ts → InOrder 0 ts
lexical_fault-order {p = p} f = subst (InOrder 0) (sym f.newlines) (in_order (kept-order false (filter-order (begins_before p) (within-from (omega arith) (raw-order f.reads)))))
