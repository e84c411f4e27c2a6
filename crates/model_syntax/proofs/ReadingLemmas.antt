-- One thing stands at a place of a script.
use Rattle.std.proofs.Common.{◌≡◌, ◌≢◌, ℕ, ◌+◌, ◌<◌, ◌≤◌, ◌⊎◌, inl, inr, ⊎_elim, List, [], ◌∷◌, length, refl, sym, ap, subst, ◌∙◌, arith, Bool, true, false, Option, Some, None, ◌==◌, not, cond, ltb}
use Rattle.std.specs.Prelude.{codes}
use Rattle.std.specs.Char.{is_ascii_digit, is_ascii_alphabetic}
use Rattle.std.specs.Int.{is_in_range}
use Rattle.std.proofs.lemmas.Bool.{true≢false, eqb-true, ltb-true, not-false, false_from_ne_true}
use Rattle.model_syntax.specs.declared.fault.FaultKind.{FaultKind}
use Rattle.model_syntax.specs.declared.fault.FaultKind.TheVariants.{UnendedText, NotUtf8}
use Rattle.model_syntax.specs.declared.token.TokenKind.{TokenKind}
use Rattle.model_syntax.specs.declared.token.TokenKind.TheVariants as kind
use Rattle.model_syntax.specs.declared.sign.Sign.TheVariants as sign
use Rattle.model_syntax.specs.declared.token.Token.{Token}
use Rattle.model_syntax.specs.Source.{Source, Spelled, NoCharacter}
use Rattle.model_syntax.specs.Spelling.{is_letter, is_name_byte}
use Rattle.model_syntax.specs.TextForms.{Form, quotes, is_triple, is_double, GoesOn, goes_on, Content, Begun}
use Rattle.model_syntax.specs.OpenBrackets.{Open, text, depth, innermost_text, text_holds_newlines}
use Rattle.model_syntax.specs.Reading.{Outcome, goes, fails, token, part, is_blank, BeginsLine, EndsLine, IsNotUtf8, AfterLine, line_ends, line_not_utf8, AfterComment, comment_ends, comment_unended, comment_not_utf8, Blank, blank, line_comment, comment, Newline, newline_ends, newline_blank, newline_in_text, AfterFits, name_stands, word_stands, sign_stands, number_stands, sign_too_deep, number_bad, Lexeme, lexeme, BeginsExpression, begins_braces, begins_path, TextFails, fails_at_end, fails_at_newline, fails_at_backslash, fails_at_dollar, fails_too_deep, fails_not_utf8, AfterContent, text_whole, text_opens, text_fails, TextBegins, text_begins, Begins, begins_blank, begins_newline, begins_line, begins_comment, begins_lexeme, begins_text, Nothing, nothing_begins, nothing_in_utf8, nothing_ends, InCode, code_blank, code_newline, code_lexeme, code_text, code_nothing, Path, path_ends, path_more, InText, in_part, in_closing, in_braces, in_path, in_fault, Reads, reads_code, reads_text}
use Rattle.model_syntax.proofs.SourceLemmas.{passed_only, ascii_character, end_no_character}
use Rattle.model_syntax.proofs.SpellingLemmas.{either, in_range, none_of, all_false, member, is_first, is_sign_byte, sign_bytes, first_is, FirstIs, spells_first, fits_only}
use Rattle.model_syntax.proofs.CutOffLemmas.{cut_off-only, no_cut_off, dollar_not_cut_off, cut_off_stops, end_or_byte}
use Rattle.model_syntax.proofs.TextLemmas.{opens_only, quote_first, quote_cases, content_only, stops_at, stops_at_none, dollar_not_plain, newline_not_plain, content_goes}

-- Two numbers of one byte.
two : {C : Type 0} {x : ℕ} (m n : ℕ) → m ≢ n → x ≡ m → x ≡ n → C
two m n h p q = absurd (h (sym p ∙ q))

-- A byte of ASCII is a character.
is_utf8 : {C : Type 0} (B : Source) (n a : ℕ) → n < 128 → B a ≡ n → IsNotUtf8 B a → C
is_utf8 B n a h e u = absurd (u.1 n _ (ascii_character B n a h e))

-- Comments to the line's end, and blanks.
line_stops : {B : Source} {s : List Open} {b : ℕ} {x : Outcome} → AfterLine B s b x → (B b ≡ 10) ⊎ NoCharacter B b
line_stops (line_ends (inl e)) = inl e
line_stops {B = B} {b = b} (line_ends (inr e)) = inr (end_no_character B b e)
line_stops (line_not_utf8 u) = inr u.1

ends_line : {C : Type 0} (B : Source) (b : ℕ) → EndsLine B b → IsNotUtf8 B b → C
ends_line B b (inl e) u = is_utf8 B 10 b (omega arith) e u
ends_line B b (inr e) u = absurd (u.0 e)

line_only : {B : Source} {s : List Open} {b : ℕ} {x y : Outcome} → AfterLine B s b x → AfterLine B s b y → x ≡ y
line_only (line_ends e) (line_ends e') = refl
line_only {B = B} {b = b} (line_ends e) (line_not_utf8 u) = ends_line B b e u
line_only {B = B} {b = b} (line_not_utf8 u) (line_ends e) = ends_line B b e u
line_only (line_not_utf8 u) (line_not_utf8 u') = refl

comment_stops : {B : Source} {s : List Open} {a b : ℕ} {x : Outcome} → AfterComment B s a b x → Spelled B (codes "*/") b ⊎ NoCharacter B b
comment_stops (comment_ends e) = inl e
comment_stops {B = B} {b = b} (comment_unended e) = inr (end_no_character B b e)
comment_stops (comment_not_utf8 u) = inr u.1

comment_only : {B : Source} {s : List Open} {a b : ℕ} {x y : Outcome} → AfterComment B s a b x → AfterComment B s a b y → x ≡ y
comment_only (comment_ends e) (comment_ends e') = refl
comment_only (comment_ends e) (comment_unended e') = two 42 256 (λ k. omega (arith, k)) e.0 e'
comment_only {B = B} {b = b} (comment_ends e) (comment_not_utf8 u) = is_utf8 B 42 b (omega arith) e.0 u
comment_only (comment_unended e) (comment_ends e') = two 42 256 (λ k. omega (arith, k)) e'.0 e
comment_only (comment_unended e) (comment_unended e') = refl
comment_only (comment_unended e) (comment_not_utf8 u) = absurd (u.0 e)
comment_only {B = B} {b = b} (comment_not_utf8 u) (comment_ends e) = is_utf8 B 42 b (omega arith) e.0 u
comment_only (comment_not_utf8 u) (comment_unended e) = absurd (u.0 e)
comment_only (comment_not_utf8 u) (comment_not_utf8 u') = refl

blank_byte : {C : Type 0} (b n : ℕ) → is_blank n ≡ false → is_blank b ≡ true → b ≡ n → C
blank_byte b n f p e = absurd (true≢false (sym p ∙ ap is_blank e ∙ f))

line_byte : (B : Source) (a : ℕ) → BeginsLine B a → (B a ≡ 47) ⊎ (B a ≡ 35)
line_byte B a (inl p) = inl p.0
line_byte B a (inr p) = inr p.1.0

blank_line : {C : Type 0} (B : Source) (a : ℕ) → is_blank (B a) ≡ true → BeginsLine B a → C
blank_line B a p l = ⊎_elim (blank_byte (B a) 47 refl p) (blank_byte (B a) 35 refl p) (line_byte B a l)

line_or_comment : {C : Type 0} (B : Source) (a : ℕ) → BeginsLine B a → Spelled B (codes "/*") a → C
line_or_comment B a (inl p) q = two 47 42 (λ k. omega (arith, k)) p.1.0 q.1.0
line_or_comment B a (inr p) q = two 35 47 (λ k. omega (arith, k)) p.1.0 q.0

blank_only : {B : Source} {s : List Open} {a : ℕ} {x y : Outcome} → Blank B s a x → Blank B s a y → x ≡ y
blank_only (blank p e) (blank q e') = e ∙ sym e'
blank_only {B = B} {a = a} (blank p e) (line_comment l r k) = blank_line B a p l
blank_only {B = B} {a = a} (blank p e) (comment q r k) = blank_byte (B a) 47 refl p q.0
blank_only {B = B} {a = a} (line_comment l r k) (blank p e) = blank_line B a p l
blank_only {B = B} {s = s} {y = y} (line_comment l r k) (line_comment l' r' k') =
    line_only k (subst (λ z. AfterLine B s z y) (sym (passed_only r r' (line_stops k) (line_stops k'))) k')
blank_only {B = B} {a = a} (line_comment l r k) (comment q r' k') = line_or_comment B a l q
blank_only {B = B} {a = a} (comment q r k) (blank p e) = blank_byte (B a) 47 refl p q.0
blank_only {B = B} {a = a} (comment q r' k') (line_comment l r k) = line_or_comment B a l q
blank_only {B = B} {s = s} {a = a} {y = y} (comment q r k) (comment q' r' k') =
    comment_only k (subst (λ z. AfterComment B s a z y) (sym (passed_only r r' (comment_stops k) (comment_stops k'))) k')

-- Newlines.
holds_not : {C : Type 0} (t u : Option (Form × ℕ)) (f : Form) (o : ℕ) → t ≡ u → text_holds_newlines t ≡ true → u ≡ Some (f, o) → is_triple f ≡ false → C
holds_not t u f o e h i p = absurd (true≢false (sym h ∙ ap text_holds_newlines (e ∙ i) ∙ p))

-- where the text opened
opened_at : Option (Form × ℕ) → ℕ
opened_at None = 0
opened_at (Some t) = t.1

same_opening : (s : List Open) (f g : Form) (o p : ℕ) → innermost_text s ≡ Some (f, o) → innermost_text s ≡ Some (g, p) → o ≡ p
unfolding opened_at
same_opening s f g o p d e = ap opened_at (sym d ∙ e)

newline_only : {B : Source} {s : List Open} {a : ℕ} {x y : Outcome} → Newline B s a x → Newline B s a y → x ≡ y
newline_only (newline_ends e h p) (newline_ends e' h' p') = refl
newline_only (newline_ends e h p) (newline_blank e' h' p') = absurd (true≢false (sym p ∙ p'))
newline_only (newline_ends e h p) (newline_in_text e' i t) = holds_not _ _ _ _ refl h i t
newline_only (newline_blank e h p) (newline_ends e' h' p') = absurd (true≢false (sym p' ∙ p))
newline_only (newline_blank e h p) (newline_blank e' h' p') = refl
newline_only (newline_blank e h p) (newline_in_text e' i t) = holds_not _ _ _ _ refl h i t
newline_only (newline_in_text e' i t) (newline_ends e h p) = holds_not _ _ _ _ refl h i t
newline_only (newline_in_text e' i t) (newline_blank e h p) = holds_not _ _ _ _ refl h i t
newline_only {s = s} (newline_in_text e i t) (newline_in_text e' i' t') = ap (fails UnendedText) (same_opening s _ _ _ _ i i')

-- Names, words, numbers and signs.
too_deep : {C : Type 0} (n : ℕ) → n < 128 → 128 ≤ n → C
too_deep n p q = absurd (let k : ⊥ = omega (arith, p, q) in k)

fits_after : {B : Source} {s : List Open} {t : List ℕ} {a : ℕ} {k : TokenKind} {x y : Outcome} → AfterFits B s t a k x → AfterFits B s t a k y → x ≡ y
fits_after name_stands name_stands = refl
fits_after word_stands word_stands = refl
fits_after (sign_stands r) (sign_stands r') = refl
fits_after {s = s} (sign_stands r) (sign_too_deep o d) = too_deep (depth s) (r o) d
fits_after {s = s} (sign_too_deep o d) (sign_stands r) = too_deep (depth s) (r o) d
fits_after (sign_too_deep o d) (sign_too_deep o' d') = refl
fits_after (number_stands g) (number_stands g') = refl
fits_after (number_stands g) (number_bad b) = absurd (g b)
fits_after (number_bad b) (number_stands g) = absurd (g b)
fits_after (number_bad b) (number_bad b') = refl

lexeme_only : {B : Source} {s : List Open} {a : ℕ} {x y : Outcome} → Lexeme B s a x → Lexeme B s a y → x ≡ y
lexeme_only {B = B} {s = s} {a = a} {y = y} (lexeme {t = t} {k = k} f r) (lexeme {t = u} {k = j} f' r') =
    let e = fits_only f f' in
    fits_after r (subst (λ z. AfterFits B s z a k y) (sym e.0) (subst (λ z. AfterFits B s u a z y) (sym e.1) r'))

-- Texts.
newline_not_cut_off : {C : Type 0} {B : Source} {f : Form} {p q : ℕ} → B p ≡ 10 → Begun B f p q → NoCharacter B q → C
newline_not_cut_off e b n = no_cut_off 10 (omega arith) (λ k. omega (arith, k)) (λ k. omega (arith, k)) e b n

braces_not_cut_off : {C : Type 0} {B : Source} {f : Form} {p q : ℕ} → Spelled B (codes "${") p → Begun B f p q → NoCharacter B q → C
braces_not_cut_off e b n = dollar_not_cut_off e.0 (omega (arith, e.1.0)) b n

fails_only : {B : Source} {s : List Open} {f : Form} {o p : ℕ} {k j : FaultKind} {q r : ℕ} → TextFails B s f o p k q → TextFails B s f o p j r → fails k q ≡ fails j r
fails_only (fails_at_end b e) (fails_at_end b' e') = refl
fails_only (fails_at_end b e) (fails_not_utf8 b' u) = end_or_byte b e (end_no_character _ _ e) b' u.0 u.1
fails_only (fails_at_end b e) (fails_at_newline e' t) = refl
fails_only {B = B} (fails_at_end {q = q} b e) (fails_at_backslash e' g n) = absurd (n (q, (b, end_no_character B q e)))
fails_only {B = B} (fails_at_end {q = q} b e) (fails_at_dollar e' d n l m) = absurd (m (q, (b, end_no_character B q e)))
fails_only {B = B} (fails_at_end {q = q} b e) (fails_too_deep e' d h) = braces_not_cut_off e' b (end_no_character B q e)
fails_only (fails_not_utf8 b u) (fails_at_end b' e) = end_or_byte b' e (end_no_character _ _ e) b u.0 u.1
fails_only (fails_not_utf8 b u) (fails_not_utf8 b' u') = ap (fails NotUtf8) (cut_off-only b u.1 b' u'.1)
fails_only (fails_not_utf8 b u) (fails_at_newline e t) = newline_not_cut_off e b u.1
fails_only (fails_not_utf8 {q = q} b u) (fails_at_backslash e g n) = absurd (n (q, (b, u.1)))
fails_only (fails_not_utf8 {q = q} b u) (fails_at_dollar e d n l m) = absurd (m (q, (b, u.1)))
fails_only (fails_not_utf8 b u) (fails_too_deep e d h) = braces_not_cut_off e b u.1
fails_only (fails_at_newline e t) (fails_at_end b e') = refl
fails_only (fails_at_newline e t) (fails_not_utf8 b u) = newline_not_cut_off e b u.1
fails_only (fails_at_newline e t) (fails_at_newline e' t') = refl
fails_only (fails_at_newline e t) (fails_at_backslash e' g n) = two 10 92 (λ k. omega (arith, k)) e e'
fails_only (fails_at_newline e t) (fails_at_dollar e' d n l m) = two 10 36 (λ k. omega (arith, k)) e e'
fails_only (fails_at_newline e t) (fails_too_deep e' d h) = two 10 36 (λ k. omega (arith, k)) e e'.0
fails_only {B = B} (fails_at_backslash e g n) (fails_at_end {q = q} b e') = absurd (n (q, (b, end_no_character B q e')))
fails_only (fails_at_backslash e g n) (fails_not_utf8 {q = q} b u) = absurd (n (q, (b, u.1)))
fails_only (fails_at_backslash e g n) (fails_at_newline e' t) = two 92 10 (λ k. omega (arith, k)) e e'
fails_only (fails_at_backslash e g n) (fails_at_backslash e' g' n') = refl
fails_only (fails_at_backslash e g n) (fails_at_dollar e' d m l c) = refl
fails_only (fails_at_backslash e g n) (fails_too_deep e' d h) = two 92 36 (λ k. omega (arith, k)) e e'.0
fails_only {B = B} (fails_at_dollar e d n l m) (fails_at_end {q = q} b e') = absurd (m (q, (b, end_no_character B q e')))
fails_only (fails_at_dollar e d n l m) (fails_not_utf8 {q = q} b u) = absurd (m (q, (b, u.1)))
fails_only (fails_at_dollar e d n l m) (fails_at_newline e' t) = two 36 10 (λ k. omega (arith, k)) e e'
fails_only (fails_at_dollar e d n l m) (fails_at_backslash e' g c) = refl
fails_only (fails_at_dollar e d n l m) (fails_at_dollar e' d' n' l' m') = refl
fails_only (fails_at_dollar e d n l m) (fails_too_deep e' d' h) = absurd (n e'.1.0)
fails_only {B = B} (fails_too_deep e d h) (fails_at_end {q = q} b e') = braces_not_cut_off e b (end_no_character B q e')
fails_only (fails_too_deep e d h) (fails_not_utf8 b u) = braces_not_cut_off e b u.1
fails_only (fails_too_deep e d h) (fails_at_newline e' t) = two 36 10 (λ k. omega (arith, k)) e.0 e'
fails_only (fails_too_deep e d h) (fails_at_backslash e' g n) = two 36 92 (λ k. omega (arith, k)) e.0 e'
fails_only (fails_too_deep e d h) (fails_at_dollar e' d' n l m) = absurd (n e.1.0)
fails_only (fails_too_deep e d h) (fails_too_deep e' d' h') = refl

expression_byte : {B : Source} {s : List Open} {a : ℕ} → BeginsExpression B s a → B a ≡ 36
expression_byte (begins_braces p h) = p.0
expression_byte (begins_path p l) = p

-- A closing quote is no other byte that means something in a text.
quote_byte : {C : Type 0} (B : Source) (f : Form) (a n : ℕ) → 39 ≢ n → 34 ≢ n → Spelled B (quotes f) a → B a ≡ n → C
quote_byte B f a n h i p e = ⊎_elim (λ k. two 39 n h (quote_first B f a p ∙ k) e) (λ k. two 34 n i (quote_first B f a p ∙ k) e) (quote_cases f)

quote_or_expression : {C : Type 0} (B : Source) (f : Form) (a : ℕ) → Spelled B (quotes f) a → B a ≡ 36 → C
quote_or_expression B f a p e = quote_byte B f a 36 (λ k. omega (arith, k)) (λ k. omega (arith, k)) p e

quote_not_cut_off : {C : Type 0} {B : Source} {f : Form} {p q : ℕ} → Spelled B (quotes f) p → Begun B f p q → NoCharacter B q → C
quote_not_cut_off {B = B} {f = f} {p = p} e b n = absurd (⊎_elim (λ k. no_cut_off 39 (omega arith) (λ j. omega (arith, j)) (λ j. omega (arith, j)) (quote_first B f p e ∙ k) b n) (λ k. no_cut_off 34 (omega arith) (λ j. omega (arith, j)) (λ j. omega (arith, j)) (quote_first B f p e ∙ k) b n) (quote_cases f))

quote_or_fault : {C : Type 0} {B : Source} {s : List Open} {f : Form} {o a : ℕ} {k : FaultKind} {q : ℕ} → Spelled B (quotes f) a → TextFails B s f o a k q → C
quote_or_fault {B = B} p (fails_at_end {q = q} b e) = quote_not_cut_off p b (end_no_character B q e)
quote_or_fault p (fails_not_utf8 b u) = quote_not_cut_off p b u.1
quote_or_fault {B = B} {f = f} {a = a} p (fails_at_newline e t) = quote_byte B f a 10 (λ k. omega (arith, k)) (λ k. omega (arith, k)) p e
quote_or_fault {B = B} {f = f} {a = a} p (fails_at_backslash e g n) = quote_byte B f a 92 (λ k. omega (arith, k)) (λ k. omega (arith, k)) p e
quote_or_fault {B = B} {f = f} {a = a} p (fails_at_dollar e d n l m) = quote_byte B f a 36 (λ k. omega (arith, k)) (λ k. omega (arith, k)) p e
quote_or_fault {B = B} {f = f} {a = a} p (fails_too_deep e d h) = quote_byte B f a 36 (λ k. omega (arith, k)) (λ k. omega (arith, k)) p e.0

letter_brace : {C : Type 0} (b : ℕ) → is_letter b ≡ true → b ≡ 123 → C
letter_brace b p e = absurd (true≢false (sym p ∙ ap is_letter e))

letter_low : (b : ℕ) → is_letter b ≡ true → b < 128
letter_low b e =
    either (is_ascii_alphabetic b) (b == 95)
    (λ m. either (is_in_range 65 90 b) (is_in_range 97 122 b) (λ k. omega (arith, (in_range 65 90 b k).1)) (λ k. omega (arith, (in_range 97 122 b k).1)) m)
    (λ k. omega (arith, eqb-true b 95 k)) e

expression_not_cut_off : {C : Type 0} {B : Source} {s : List Open} {f : Form} {p q : ℕ} → BeginsExpression B s p → Begun B f p q → NoCharacter B q → C
expression_not_cut_off (begins_braces e h) b n = braces_not_cut_off e b n
expression_not_cut_off {B = B} {p = p} (begins_path e r) b n = dollar_not_cut_off e (letter_low (B (p + 1)) r) b n

expression_or_fault : {C : Type 0} {B : Source} {s : List Open} {f : Form} {o a : ℕ} {k : FaultKind} {q : ℕ} → BeginsExpression B s a → TextFails B s f o a k q → C
expression_or_fault {B = B} x (fails_at_end {q = q} b e) = expression_not_cut_off x b (end_no_character B q e)
expression_or_fault x (fails_not_utf8 b u) = expression_not_cut_off x b u.1
expression_or_fault x (fails_at_newline e t) = two 36 10 (λ k. omega (arith, k)) (expression_byte x) e
expression_or_fault x (fails_at_backslash e g n) = two 36 92 (λ k. omega (arith, k)) (expression_byte x) e
expression_or_fault (begins_braces p h) (fails_at_dollar e d n l m) = absurd (n p.1.0)
expression_or_fault (begins_path p r) (fails_at_dollar e d n l m) = absurd (true≢false (sym r ∙ l))
expression_or_fault {s = s} (begins_braces p h) (fails_too_deep e d i) = too_deep (depth s) h i
expression_or_fault {B = B} {a = a} (begins_path p r) (fails_too_deep e d i) = letter_brace (B (a + 1)) r e.1.0

after_only : {B : Source} {s : List Open} {f : Form} {t : List ℕ} {a b : ℕ} {x y : Outcome} → AfterContent B s f t a b x → AfterContent B s f t a b y → x ≡ y
after_only (text_whole p) (text_whole p') = refl
after_only {B = B} {f = f} {b = b} (text_whole p) (text_opens d e) = quote_or_expression B f b p (expression_byte e)
after_only (text_whole p) (text_fails e) = quote_or_fault p e
after_only {B = B} {f = f} {b = b} (text_opens d e) (text_whole p) = quote_or_expression B f b p (expression_byte e)
after_only (text_opens d e) (text_opens d' e') = refl
after_only (text_opens d e) (text_fails r) = expression_or_fault e r
after_only (text_fails e) (text_whole p) = quote_or_fault p e
after_only (text_fails r) (text_opens d e) = expression_or_fault e r
after_only (text_fails r) (text_fails r') = fails_only r r'

pub dollar_stops : {B : Source} {f : Form} {a : ℕ} → is_double f ≡ true → B a ≡ 36 → GoesOn B f a → ⊥
dollar_stops {f = f} d e = stops_at 36 (omega arith) (λ k. omega (arith, k)) (dollar_not_plain f d) e

pub quote_stops : {B : Source} {f : Form} {a : ℕ} → Spelled B (quotes f) a → GoesOn B f a → ⊥
quote_stops p (goes_on i s n) = n p

pub fault_stops : {B : Source} {s : List Open} {f : Form} {o a : ℕ} {k : FaultKind} {q : ℕ} → TextFails B s f o a k q → GoesOn B f a → ⊥
fault_stops {B = B} (fails_at_end {q = q} b e) = cut_off_stops b (end_no_character B q e)
fault_stops (fails_not_utf8 b u) = cut_off_stops b u.1
fault_stops {f = f} (fails_at_newline e t) = stops_at 10 (omega arith) (λ k. omega (arith, k)) (newline_not_plain f t) e
fault_stops (fails_at_backslash e g n) = g
fault_stops (fails_at_dollar e d n l m) = dollar_stops d e
fault_stops (fails_too_deep e d h) = dollar_stops d e.0

pub after_stops : {B : Source} {s : List Open} {f : Form} {t : List ℕ} {a b : ℕ} {x : Outcome} → AfterContent B s f t a b x → GoesOn B f b → ⊥
after_stops (text_whole p) = quote_stops p
after_stops (text_opens d e) = dollar_stops d (expression_byte e)
after_stops (text_fails e) = fault_stops e

text_only : {B : Source} {s : List Open} {a : ℕ} {x y : Outcome} → TextBegins B s a x → TextBegins B s a y → x ≡ y
text_only {B = B} {s = s} {a = a} {y = y} (text_begins {f = f} {t = t} {b = b} o c r) (text_begins {f = g} {t = u} {b = d} o' c' r') =
    let e : g ≡ f = opens_only o' o in
    let c'' : Content B f u (a + length (quotes f)) d = subst (λ z. Content B z u (a + length (quotes z)) d) e c' in
    let r'' : AfterContent B s f u a d y = subst (λ z. AfterContent B s z u a d y) e r' in
    let k = content_only c c'' (after_stops r) (after_stops r'') in
    after_only r (subst (λ z. AfterContent B s f t a z y) (sym k.1) (subst (λ z. AfterContent B s f z a d y) (sym k.0) r''))

-- Outside of texts the first byte tells which rules may go on.
lane : ℕ → ℕ
lane b = cond (member b (codes " \t\r/#")) 1 (cond (b == 10) 2 (cond (is_first b) 3 (cond (member b (39 ∷ 34 ∷ [])) 4 5)))

lane_of : {b : ℕ} (n m : ℕ) → lane n ≡ m → b ≡ n → lane b ≡ m
lane_of n m e p = ap lane p ∙ e

blank_cases : {C : Type 0} (b : ℕ) → (b ≡ 32 → C) → (b ≡ 9 → C) → (b ≡ 13 → C) → is_blank b ≡ true → C
blank_cases b f g h e = either (b == 32) _ (λ k. f (eqb-true b 32 k)) (λ k. either (b == 9) _ (λ l. g (eqb-true b 9 l)) (λ l. h (eqb-true b 13 l)) k) e

blank_lane : {B : Source} {s : List Open} {a : ℕ} {x : Outcome} → Blank B s a x → lane (B a) ≡ 1
unfolding lane member
blank_lane {B = B} {a = a} (blank p e) = blank_cases (B a) (lane_of 32 1 refl) (lane_of 9 1 refl) (lane_of 13 1 refl) p
blank_lane {B = B} {a = a} (line_comment l r k) = ⊎_elim (lane_of 47 1 refl) (lane_of 35 1 refl) (line_byte B a l)
blank_lane (comment p r k) = lane_of 47 1 refl p.0

newline_byte : {B : Source} {s : List Open} {a : ℕ} {x : Outcome} → Newline B s a x → B a ≡ 10
newline_byte (newline_ends e h p) = e
newline_byte (newline_blank e h p) = e
newline_byte (newline_in_text e i t) = e

newline_lane : {B : Source} {s : List Open} {a : ℕ} {x : Outcome} → Newline B s a x → lane (B a) ≡ 2
unfolding lane member
newline_lane n = lane_of 10 2 refl (newline_byte n)

lane_three : (x y z : Bool) (m : ℕ) → (x ≡ true → ⊥) → (y ≡ true → ⊥) → z ≡ true → cond x 1 (cond y 2 (cond z 3 m)) ≡ 3
lane_three true y z m p q e = absurd (p refl)
lane_three false true z m p q e = absurd (q refl)
lane_three false false true m p q e = refl
lane_three false false false m p q e = absurd (true≢false (sym e))

first_lane : (b : ℕ) → is_first b ≡ true → lane b ≡ 3
unfolding lane all_false member is_first is_sign_byte sign_bytes
first_lane b e = lane_three (member b (codes " \t\r/#")) (b == 10) (is_first b) _ (none_of is_first b (codes " \t\r/#") refl e) (λ k. true≢false (sym e ∙ ap is_first (eqb-true b 10 k))) e

stands_first : (B : Source) (t : List ℕ) (a : ℕ) → FirstIs is_first t → Spelled B t a → is_first (B a) ≡ true
stands_first B t a (first_is b bs p) s = ap is_first s.0 ∙ p

lexeme_lane : {B : Source} {s : List Open} {a : ℕ} {x : Outcome} → Lexeme B s a x → lane (B a) ≡ 3
lexeme_lane {B = B} {a = a} (lexeme {t = t} f r) = first_lane (B a) (stands_first B t a (spells_first f.spells) f.stands)

text_lane : {B : Source} {s : List Open} {a : ℕ} {x : Outcome} → TextBegins B s a x → lane (B a) ≡ 4
unfolding lane member is_first is_sign_byte sign_bytes
text_lane {B = B} {a = a} (text_begins {f = f} o c r) = ⊎_elim (λ k. lane_of 39 4 refl (quote_first B f a o.stands ∙ k)) (λ k. lane_of 34 4 refl (quote_first B f a o.stands ∙ k)) (quote_cases f)

lanes : {C : Type 0} (b m n : ℕ) → m ≢ n → lane b ≡ m → lane b ≡ n → C
lanes b m n h p q = absurd (h (sym p ∙ q))

-- Where something begins stands a character of ASCII.
name_low : (b : ℕ) → is_name_byte b ≡ true → b < 128
name_low b e = either (is_letter b) (is_ascii_digit b) (letter_low b) (λ k. omega (arith, (in_range 48 57 b k).1)) e

sign_low : (b : ℕ) → is_sign_byte b ≡ true → b < 128
unfolding all_false member is_sign_byte sign_bytes
sign_low b m = ltb-true b 128 (not-false (ltb b 128) (false_from_ne_true _ (λ p. none_of (λ x. not (ltb x 128)) b sign_bytes refl p m)))

first_low : (b : ℕ) → is_first b ≡ true → b < 128
unfolding is_first
first_low b e = either (is_name_byte b) (is_sign_byte b) (name_low b) (sign_low b) e

low : {b : ℕ} (n : ℕ) → n < 128 → b ≡ n → b < 128
low n h e = omega (arith, h, e)

begins_low : {B : Source} {a : ℕ} → Begins B a → B a < 128
begins_low {B = B} {a = a} (begins_blank p) = blank_cases (B a) (low 32 (omega arith)) (low 9 (omega arith)) (low 13 (omega arith)) p
begins_low (begins_newline e) = low 10 (omega arith) e
begins_low {B = B} {a = a} (begins_line l) = ⊎_elim (low 47 (omega arith)) (low 35 (omega arith)) (line_byte B a l)
begins_low (begins_comment p) = low 47 (omega arith) p.0
begins_low {B = B} {a = a} (begins_lexeme {t = t} p s) = first_low (B a) (stands_first B t a (spells_first p) s)
begins_low {B = B} {a = a} (begins_text f p) = ⊎_elim (λ k. low 39 (omega arith) (quote_first B f a p ∙ k)) (λ k. low 34 (omega arith) (quote_first B f a p ∙ k)) (quote_cases f)

begun_or_nothing : {C : Type 0} {B : Source} {s : List Open} {a : ℕ} {x : Outcome} → Begins B a → Nothing B s a x → C
begun_or_nothing b (nothing_begins c n) = absurd (n b)
begun_or_nothing {B = B} {a = a} b (nothing_in_utf8 u) = is_utf8 B (B a) a (begins_low b) refl u
begun_or_nothing b (nothing_ends e i) = absurd (let k : ⊥ = omega (arith, begins_low b, e) in k)

blank_begins : {B : Source} {s : List Open} {a : ℕ} {x : Outcome} → Blank B s a x → Begins B a
blank_begins (blank p e) = begins_blank p
blank_begins (line_comment l r k) = begins_line l
blank_begins (comment p r k) = begins_comment p

newline_begins : {B : Source} {s : List Open} {a : ℕ} {x : Outcome} → Newline B s a x → Begins B a
newline_begins n = begins_newline (newline_byte n)

lexeme_begins : {B : Source} {s : List Open} {a : ℕ} {x : Outcome} → Lexeme B s a x → Begins B a
lexeme_begins (lexeme f r) = begins_lexeme f.spells f.stands

text_begun : {B : Source} {s : List Open} {a : ℕ} {x : Outcome} → TextBegins B s a x → Begins B a
text_begun (text_begins {f = f} o c r) = begins_text f o.stands

nothing_only : {B : Source} {s : List Open} {a : ℕ} {x y : Outcome} → Nothing B s a x → Nothing B s a y → x ≡ y
nothing_only (nothing_begins c n) (nothing_begins c' n') = refl
nothing_only (nothing_begins c n) (nothing_in_utf8 u) = absurd (u.1 _ _ c)
nothing_only {B = B} {a = a} (nothing_begins c n) (nothing_ends e i) = absurd (end_no_character B a e _ _ c)
nothing_only (nothing_in_utf8 u) (nothing_begins c n) = absurd (u.1 _ _ c)
nothing_only (nothing_in_utf8 u) (nothing_in_utf8 u') = refl
nothing_only (nothing_in_utf8 u) (nothing_ends e i) = absurd (u.0 e)
nothing_only {B = B} {a = a} (nothing_ends e i) (nothing_begins c n) = absurd (end_no_character B a e _ _ c)
nothing_only (nothing_ends e i) (nothing_in_utf8 u) = absurd (u.0 e)
nothing_only {s = s} (nothing_ends e i) (nothing_ends e' i') = ap (fails UnendedText) (same_opening s _ _ _ _ i i')

code_only : {B : Source} {s : List Open} {a : ℕ} {x y : Outcome} → InCode B s a x → InCode B s a y → x ≡ y
code_only (code_blank p) (code_blank q) = blank_only p q
code_only {B = B} {a = a} (code_blank p) (code_newline q) = lanes (B a) 1 2 (λ k. omega (arith, k)) (blank_lane p) (newline_lane q)
code_only {B = B} {a = a} (code_blank p) (code_lexeme q) = lanes (B a) 1 3 (λ k. omega (arith, k)) (blank_lane p) (lexeme_lane q)
code_only {B = B} {a = a} (code_blank p) (code_text q) = lanes (B a) 1 4 (λ k. omega (arith, k)) (blank_lane p) (text_lane q)
code_only (code_blank p) (code_nothing q) = begun_or_nothing (blank_begins p) q
code_only {B = B} {a = a} (code_newline p) (code_blank q) = lanes (B a) 2 1 (λ k. omega (arith, k)) (newline_lane p) (blank_lane q)
code_only (code_newline p) (code_newline q) = newline_only p q
code_only {B = B} {a = a} (code_newline p) (code_lexeme q) = lanes (B a) 2 3 (λ k. omega (arith, k)) (newline_lane p) (lexeme_lane q)
code_only {B = B} {a = a} (code_newline p) (code_text q) = lanes (B a) 2 4 (λ k. omega (arith, k)) (newline_lane p) (text_lane q)
code_only (code_newline p) (code_nothing q) = begun_or_nothing (newline_begins p) q
code_only {B = B} {a = a} (code_lexeme p) (code_blank q) = lanes (B a) 3 1 (λ k. omega (arith, k)) (lexeme_lane p) (blank_lane q)
code_only {B = B} {a = a} (code_lexeme p) (code_newline q) = lanes (B a) 3 2 (λ k. omega (arith, k)) (lexeme_lane p) (newline_lane q)
code_only (code_lexeme p) (code_lexeme q) = lexeme_only p q
code_only {B = B} {a = a} (code_lexeme p) (code_text q) = lanes (B a) 3 4 (λ k. omega (arith, k)) (lexeme_lane p) (text_lane q)
code_only (code_lexeme p) (code_nothing q) = begun_or_nothing (lexeme_begins p) q
code_only {B = B} {a = a} (code_text p) (code_blank q) = lanes (B a) 4 1 (λ k. omega (arith, k)) (text_lane p) (blank_lane q)
code_only {B = B} {a = a} (code_text p) (code_newline q) = lanes (B a) 4 2 (λ k. omega (arith, k)) (text_lane p) (newline_lane q)
code_only {B = B} {a = a} (code_text p) (code_lexeme q) = lanes (B a) 4 3 (λ k. omega (arith, k)) (text_lane p) (lexeme_lane q)
code_only (code_text p) (code_text q) = text_only p q
code_only (code_text p) (code_nothing q) = begun_or_nothing (text_begun p) q
code_only (code_nothing p) (code_blank q) = begun_or_nothing (blank_begins q) p
code_only (code_nothing p) (code_newline q) = begun_or_nothing (newline_begins q) p
code_only (code_nothing p) (code_lexeme q) = begun_or_nothing (lexeme_begins q) p
code_only (code_nothing p) (code_text q) = begun_or_nothing (text_begun q) p
code_only (code_nothing p) (code_nothing q) = nothing_only p q

-- Names behind `$`.
path_letter : {B : Source} {ts : List Token} {a b : ℕ} → Path B ts a b → is_letter (B a) ≡ true
path_letter (path_ends l f n) = l
path_letter (path_more l f d m r) = l

path_only : {B : Source} {ts us : List Token} {a b c : ℕ} → Path B ts a b → Path B us a c → (ts ≡ us) × (b ≡ c)
path_only {B = B} {a = a} (path_ends {t = t} {k = k} l f n) (path_ends {t = u} {k = j} l' f' n') =
    let e = fits_only f f' in
    (ap (λ z. token B z a (a + length t) ∷ []) e.1 ∙ ap (λ z. token B j a (a + length z) ∷ []) e.0, ap (λ z. a + length z) e.0)
path_only {B = B} {a = a} (path_ends {t = t} l f n) (path_more {t = u} l' f' d m r) =
    let e = (fits_only f f').0 in
    absurd (n (ap (λ z. B (a + length z)) e ∙ d, ap (λ z. is_letter (B (a + length z + 1))) e ∙ m))
path_only {B = B} {a = a} (path_more {t = u} l' f' d m r) (path_ends {t = t} l f n) =
    let e = (fits_only f f').0 in
    absurd (n (ap (λ z. B (a + length z)) e ∙ d, ap (λ z. is_letter (B (a + length z + 1))) e ∙ m))
path_only {B = B} {a = a} {c = c} (path_more {t = t} {k = k} {ts = ts} l f d m r) (path_more {t = u} {k = j} {ts = us} l' f' d' m' r') =
    let e = fits_only f f' in
    let i = path_only r (subst (λ z. Path B us (a + length z + 1) c) (sym e.0) r') in (
      ap (λ z. token B z a (a + length t) ∷ token B (kind.Sign sign.Dot) (a + length t) (a + length t + 1) ∷ ts) e.1
          ∙ ap (λ z. token B j a (a + length z) ∷ token B (kind.Sign sign.Dot) (a + length z) (a + length z + 1) ∷ ts) e.0
          ∙ ap (λ z. token B j a (a + length u) ∷ token B (kind.Sign sign.Dot) (a + length u) (a + length u + 1) ∷ z) i.0,
      i.1,
    )

path_or_fault : {C : Type 0} {B : Source} {s : List Open} {f : Form} {o a : ℕ} {k : FaultKind} {q : ℕ} → B a ≡ 36 → is_letter (B (a + 1)) ≡ true → TextFails B s f o a k q → C
path_or_fault {B = B} {s = s} {a = a} p l r = let b : BeginsExpression B s a = begins_path p l in expression_or_fault b r

in_text_only : {B : Source} {s : List Open} {f : Form} {o a : ℕ} {x y : Outcome} → InText B s f o a x → InText B s f o a y → x ≡ y
in_text_only {B = B} {s = s} {f = f} {o = o} {a = a} (in_part {t = t} {b = b} h c n) (in_part {t = u} {b = d} h' c' n') =
    let k = content_only c c' n n' in
    ap (λ z. goes (part B z a b) (text f o ∷ s) b) k.0 ∙ ap (λ z. goes (part B u a z) (text f o ∷ s) z) k.1
in_text_only (in_part h c n) (in_closing p) = absurd (quote_stops p (content_goes h c))
in_text_only (in_part h c n) (in_braces d p l) = absurd (dollar_stops d p.0 (content_goes h c))
in_text_only (in_part h c n) (in_path d p l) = absurd (dollar_stops d p (content_goes h c))
in_text_only (in_part h c n) (in_fault e) = absurd (fault_stops e (content_goes h c))
in_text_only (in_closing p) (in_part h c n) = absurd (quote_stops p (content_goes h c))
in_text_only (in_closing p) (in_closing p') = refl
in_text_only {B = B} {f = f} {a = a} (in_closing p) (in_braces d q l) = quote_or_expression B f a p q.0
in_text_only {B = B} {f = f} {a = a} (in_closing p) (in_path d q l) = quote_or_expression B f a p q
in_text_only (in_closing p) (in_fault e) = quote_or_fault p e
in_text_only (in_braces d p l) (in_part h c n) = absurd (dollar_stops d p.0 (content_goes h c))
in_text_only {B = B} {f = f} {a = a} (in_braces d q l) (in_closing p) = quote_or_expression B f a p q.0
in_text_only (in_braces d p l) (in_braces d' p' l') = refl
in_text_only {B = B} {a = a} (in_braces d p l) (in_path d' p' r) = letter_brace (B (a + 1)) (path_letter r) p.1.0
in_text_only (in_braces d p l) (in_fault e) = expression_or_fault (begins_braces p l) e
in_text_only (in_path d p l) (in_part h c n) = absurd (dollar_stops d p (content_goes h c))
in_text_only {B = B} {f = f} {a = a} (in_path d q l) (in_closing p) = quote_or_expression B f a p q
in_text_only {B = B} {a = a} (in_path d' p' r) (in_braces d p l) = letter_brace (B (a + 1)) (path_letter r) p.1.0
in_text_only {B = B} {s = s} {f = f} {o = o} {a = a} (in_path {ts = ts} {b = b} d p r) (in_path {ts = us} {b = c} d' p' r') =
    let k = path_only r r' in
    ap (λ z. goes (token B kind.PathOpen a (a + 1) ∷ z) (text f o ∷ s) b) k.0 ∙ ap (λ z. goes (token B kind.PathOpen a (a + 1) ∷ us) (text f o ∷ s) z) k.1
in_text_only (in_path d p r) (in_fault e) = path_or_fault p (path_letter r) e
in_text_only (in_fault e) (in_part h c n) = absurd (fault_stops e (content_goes h c))
in_text_only (in_fault e) (in_closing p) = quote_or_fault p e
in_text_only (in_fault e) (in_braces d p l) = expression_or_fault (begins_braces p l) e
in_text_only (in_fault e) (in_path d p r) = path_or_fault p (path_letter r) e
in_text_only (in_fault e) (in_fault e') = fails_only e e'

-- One thing stands at a place: tokens up to one next place, or one fault.
pub reads_only : {B : Source} {s : List Open} {a : ℕ} {x y : Outcome} → Reads B s a x → Reads B s a y → x ≡ y
reads_only (reads_code c p) (reads_code d q) = code_only p q
reads_only (reads_code c p) (reads_text q) = absurd c
reads_only (reads_text p) (reads_code c q) = absurd c
reads_only (reads_text p) (reads_text q) = in_text_only p q

-- Nothing goes on at the end of a script.
code_not_end : {C : Type 0} {B : Source} {s : List Open} {a : ℕ} {ts : List Token} {u : List Open} {m : ℕ} → InCode B s a (goes ts u m) → B a ≡ 256 → C
code_not_end p e = absurd (by p e)
  where
    past : {B : Source} {a : ℕ} → Begins B a → B a ≡ 256 → ⊥
    past b e = omega (arith, begins_low b, e)

    by : {B : Source} {s : List Open} {a : ℕ} {ts : List Token} {u : List Open} {m : ℕ} → InCode B s a (goes ts u m) → B a ≡ 256 → ⊥
    by (code_blank p) e = past (blank_begins p) e
    by (code_newline p) e = past (newline_begins p) e
    by (code_lexeme p) e = past (lexeme_begins p) e
    by (code_text p) e = past (text_begun p) e
    by (code_nothing p) e = elim p [ ]

pub goes_not_end : {B : Source} {s : List Open} {a : ℕ} {ts : List Token} {u : List Open} {m : ℕ} → Reads B s a (goes ts u m) → B a ≡ 256 → ⊥
goes_not_end (reads_code c p) e = code_not_end p e
goes_not_end {B = B} {a = a} (reads_text (in_part h c n)) e = stops_at_none (end_no_character B a e) (content_goes h c)
goes_not_end {B = B} {a = a} (reads_text {f = f} (in_closing p)) e = quote_byte B f a 256 (λ k. omega (arith, k)) (λ k. omega (arith, k)) p e
goes_not_end (reads_text (in_braces d p l)) e = two 36 256 (λ k. omega (arith, k)) p.0 e
goes_not_end (reads_text (in_path d p r)) e = two 36 256 (λ k. omega (arith, k)) p e

-- There is no fault at the end of a script where no text is open.
some_none : (t : Form × ℕ) → Some t ≡ None → ⊥
some_none t e = cc

code_no_fault : {B : Source} {s : List Open} {a : ℕ} {k : FaultKind} {p : ℕ} → InCode B s a (fails k p) → B a ≡ 256 → innermost_text s ≡ None → ⊥
code_no_fault (code_blank p) e n = omega (arith, begins_low (blank_begins p), e)
code_no_fault (code_newline p) e n = omega (arith, begins_low (newline_begins p), e)
code_no_fault (code_lexeme p) e n = omega (arith, begins_low (lexeme_begins p), e)
code_no_fault (code_text p) e n = omega (arith, begins_low (text_begun p), e)
code_no_fault {B = B} {a = a} (code_nothing (nothing_begins c m)) e n = end_no_character B a e _ _ c
code_no_fault (code_nothing (nothing_in_utf8 u)) e n = u.0 e
code_no_fault (code_nothing (nothing_ends {f = f} {o = o} d i)) e n = some_none (f, o) (sym i ∙ n)

pub no_fault_at_end : {B : Source} {s : List Open} {a : ℕ} {k : FaultKind} {p : ℕ} → Reads B s a (fails k p) → B a ≡ 256 → innermost_text s ≡ None → ⊥
unfolding innermost_text
no_fault_at_end (reads_code c p) e n = code_no_fault p e n
no_fault_at_end (reads_text {f = f} {o = o} p) e n = some_none (f, o) n
