-- Every script has tokens or a lexical fault: some rule goes on at every place that reading comes to.
use Rattle.std.proofs.Common.{◌≡◌, ℕ, zero, suc, ◌+◌, ◌<◌, ◌≤◌, ◌⊎◌, inl, inr, ⊎_elim, List, [], ◌∷◌, ◌++◌, length, refl, sym, ap, subst, ◌∙◌, arith, true, false, Option, Some, None, slice_index_or, ◌&&◌, ◌==◌}
use Rattle.std.specs.Prelude.{codes, filter}
use Rattle.std.specs.Char.{digit_value, IsScalar, encode_utf8}
use Rattle.std.specs.Str.Parse.{digits_value}
use Rattle.std.proofs.lemmas.List.{get_or_past}
use Rattle.std.proofs.lemmas.Bool.{true≢false, cases_lt, cases_order, eqb-true}
use Rattle.model_syntax.specs.declared.fault.FaultKind.{FaultKind}
use Rattle.model_syntax.specs.declared.sign.Sign.{Sign}
use Rattle.model_syntax.specs.declared.sign.Sign.TheVariants as sign
use Rattle.model_syntax.specs.declared.token.Token.{Token}
use Rattle.model_syntax.specs.declared.token.TokenKind.{TokenKind}
use Rattle.model_syntax.specs.declared.token.TokenKind.TheVariants as kind
use Rattle.model_syntax.specs.Source.{Source, Spelled, NoCharacter, Passed, character, byte_at}
use Rattle.model_syntax.specs.Places.{mark_end}
use Rattle.model_syntax.specs.Spelling.{is_letter, Spells, spells_sign, spells_word, spells_name, spells_number, Fits, IsBadNumber, bad_large, bad_zero, bad_letter, bad_fraction}
use Rattle.model_syntax.specs.TextForms.{Form, single, triple_single, double, triple_double, quotes, quote, is_triple, is_double, Opens, GoesOn, Content}
use Rattle.model_syntax.specs.OpenBrackets.{Open, paren, bracket, brace, expression, text, depth, innermost_text, ends_statements, holds_newlines, text_holds_newlines, is_opening, after_sign, closed, IsCode}
use Rattle.model_syntax.specs.Reading.{goes, fails, is_blank, BeginsLine, IsNotUtf8, line_ends, line_not_utf8, comment_ends, comment_unended, comment_not_utf8, blank, line_comment, comment, newline_ends, newline_blank, newline_in_text, lexeme, name_stands, word_stands, sign_stands, number_stands, sign_too_deep, number_bad, begins_braces, begins_path, text_whole, text_opens, text_fails, text_begins, Begins, begins_blank, begins_newline, begins_line, begins_comment, begins_lexeme, begins_text, nothing_begins, nothing_in_utf8, nothing_ends, code_blank, code_newline, code_lexeme, code_text, code_nothing, path_ends, path_more, in_part, in_closing, in_braces, in_path, in_fault, Reads, reads_code, reads_text}
use Rattle.model_syntax.specs.Newlines.{kept}
use Rattle.model_syntax.specs.Tokens.{Raw, raw_none, raw_more, Lexed, LexicalFault, begins_before}
use Rattle.model_syntax.proofs.SourceLemmas.{passed-after}
use Rattle.model_syntax.proofs.SpellingLemmas.{both, FirstIs, first_is, spells_first, is_first}
use Rattle.model_syntax.proofs.ReadingLemmas.{goes_not_end}
use Rattle.model_syntax.proofs.StepLemmas.{opens_short, opens_triple}
use Rattle.model_syntax.proofs.Deciding.{Told, told_nat, told_true, told_and, told_or, told_below, told_spelled, told_character, Run, run}
use Rattle.model_syntax.proofs.TokenExistence.{Ended, told_token, told_bool, Filled, fill, AtStop, at_closing, at_expression, at_fault, at_stop, Found, letter_spells}

pub fits_some : {B : Source} {t : List ℕ} {k : TokenKind} {a : ℕ} → Fits B t k a → 0 < length t
fits_some f = by (spells_first f.spells)
  where
    by : {t : List ℕ} → FirstIs is_first t → 0 < length t
    by (first_is b bs p) = omega arith

-- The names behind `$` go on up to where no letter follows.
find_path : (B : Source) (n k a : ℕ) → Ended B n → is_letter (B a) ≡ true → n ≤ a + k → Found B a
find_path B n zero a past e h = absurd (true≢false (sym e ∙ ap is_letter (past a (omega (arith, h)))))
find_path B n (suc k) a past e h = by (λ m d l. find_path B n k m past d (omega (arith, h, l))) (told_token B n a past)
  where
    on : ((m : ℕ) → is_letter (B m) ≡ true → a < m → Found B m) → (t : List ℕ) (k : TokenKind) → Fits B t k a → Told ((B (a + length t) ≡ 46) × (is_letter (B (a + length t + 1)) ≡ true)) → Found B a
    on next t k f (inl p) = let r = next (a + length t + 1) p.1 (omega arith) in record { tokens = _; end = r.end; path = path_more e f p.0 p.1 r.path; after = omega (arith, r.after) }
    on next t k f (inr p) = record { tokens = _; end = a + length t; path = path_ends e f p; after = omega (arith, fits_some f) }

    by : ((m : ℕ) → is_letter (B m) ≡ true → a < m → Found B m) → ((t : List ℕ) × ((k : TokenKind) × Fits B t k a)) ⊎ ((t : List ℕ) (k : TokenKind) → Spells t k → Spelled B t a → ⊥) → Found B a
    by next (inl t) = on next t.0 t.1.0 t.1.1 (told_and (told_nat (B (a + length t.0)) 46) (told_true (is_letter (B (a + length t.0 + 1)))))
    by next (inr f) = absurd (letter_spells B a e f)

-- Texts that are open are of the double forms.
abbrev pub AllDouble : List Open → Type 0
AllDouble [] = Unit {0}
AllDouble (text f o ∷ s) = (is_double f ≡ true) × AllDouble s
AllDouble (o ∷ s) = AllDouble s

-- What comes next at a place: the end, a fault, or tokens up to a next place.
pub data Next (B : Source) (s : List Open) (a : ℕ) : Type 0 where
  next_ends : B a ≡ 256 → innermost_text s ≡ None → Next B s a
  next_fails : (k : FaultKind) (p : ℕ) → Reads B s a (fails k p) → Next B s a
  next_goes : (ts : List Token) (u : List Open) (m : ℕ) → Reads B s a (goes ts u m) → a < m → AllDouble u → Next B s a

pub quotes_some : (f : Form) → 0 < length (quotes f)
quotes_some single = omega arith
quotes_some triple_single = omega arith
quotes_some double = omega arith
quotes_some triple_double = omega arith

-- Inside a text.
text_next : (B : Source) (n : ℕ) (s : List Open) (f : Form) (o a : ℕ) → Ended B n → is_double f ≡ true → AllDouble s → Next B (text f o ∷ s) a
text_next B n s f o a past d w = by (fill B f n n a past (omega arith))
  where
    stop : AtStop B s f o a → Next B (text f o ∷ s) a
    stop (at_closing c) = next_goes _ _ _ (reads_text (in_closing c)) (omega (arith, quotes_some f)) w
    stop (at_expression q (begins_braces p l)) = next_goes _ _ _ (reads_text (in_braces q p l)) (omega arith) (d, w)
    stop (at_expression q (begins_path p l)) = let r = find_path B n n (a + 1) past l (omega arith) in next_goes _ _ _ (reads_text (in_path q p r.path)) (omega (arith, r.after)) (d, w)
    stop (at_fault k p r) = next_fails k p (reads_text (in_fault r))

    empty : {t : List ℕ} {b : ℕ} → Content B f t a b → (GoesOn B f b → ⊥) → b ≡ a → GoesOn B f a → ⊥
    empty c g e = subst (λ z. GoesOn B f z → ⊥) e g

    by : Filled B f a → Next B (text f o ∷ s) a
    by r = ⊎_elim (λ e. stop (at_stop B s f o a (empty r.content r.stops e))) (λ k. ⊎_elim (λ l. absurd (let c : ⊥ = omega (arith, l, r.after) in c)) (λ l. next_goes _ _ _ (reads_text (in_part l r.content r.stops)) l (d, w)) k) (cases_order r.end a)

-- Outside of texts: comments, texts, numbers and signs.
line_next : (B : Source) (n : ℕ) (s : List Open) (a : ℕ) → Ended B n → IsCode s → AllDouble s → BeginsLine B a → Next B s a
line_next B n s a past c w l = by (run B (λ k. B k ≡ 10) n n (a + 2) past (λ k. told_nat (B k) 10) (omega arith))
  where
    after : {b : ℕ} → Passed B (λ k. B k ≡ 10) (a + 2) b → a + 2 ≤ b → (B b ≡ 10) ⊎ ((B b ≡ 256) ⊎ IsNotUtf8 B b) → Next B s a
    after p h (inl e) = next_goes _ _ _ (reads_code c (code_blank (line_comment l p (line_ends (inl e))))) (omega (arith, h)) w
    after p h (inr (inl e)) = next_goes _ _ _ (reads_code c (code_blank (line_comment l p (line_ends (inr e))))) (omega (arith, h)) w
    after p h (inr (inr u)) = next_fails _ _ (reads_code c (code_blank (line_comment l p (line_not_utf8 u))))

    none : (b : ℕ) → NoCharacter B b → Told (B b ≡ 256) → (B b ≡ 10) ⊎ ((B b ≡ 256) ⊎ IsNotUtf8 B b)
    none b m (inl e) = inr (inl e)
    none b m (inr f) = inr (inr (f, m))

    by : Run B (λ k. B k ≡ 10) (a + 2) → Next B s a
    by r = after r.passed (passed-after r.passed) (⊎_elim (λ e. inl e) (λ m. none r.end m (told_nat (B r.end) 256)) r.stops)

comment_next : (B : Source) (n : ℕ) (s : List Open) (a : ℕ) → Ended B n → IsCode s → AllDouble s → Spelled B (codes "/*") a → Next B s a
comment_next B n s a past c w l = by (run B (Spelled B (codes "*/")) n n (a + 2) past (told_spelled B (codes "*/")) (omega arith))
  where
    none : {b : ℕ} → Passed B (Spelled B (codes "*/")) (a + 2) b → NoCharacter B b → Told (B b ≡ 256) → Next B s a
    none p m (inl e) = next_fails _ _ (reads_code c (code_blank (comment l p (comment_unended e))))
    none p m (inr f) = next_fails _ _ (reads_code c (code_blank (comment l p (comment_not_utf8 (f, m)))))

    by : Run B (Spelled B (codes "*/")) (a + 2) → Next B s a
    by r = ⊎_elim (λ e. next_goes _ _ _ (reads_code c (code_blank (comment l r.passed (comment_ends e)))) (omega (arith, passed-after r.passed)) w) (λ m. none r.passed m (told_nat (B r.end) 256)) r.stops

opening_next : (B : Source) (n : ℕ) (s : List Open) (f : Form) (a : ℕ) → Ended B n → IsCode s → AllDouble s → Opens B f a → Next B s a
opening_next B n s f a past c w o = by (fill B f n n (a + length (quotes f)) past (omega arith))
  where
    on : (r : Filled B f (a + length (quotes f))) → AtStop B s f a r.end → Next B s a
    on r (at_closing q) = next_goes _ _ _ (reads_code c (code_text (text_begins o r.content (text_whole q)))) (omega (arith, r.after, quotes_some f)) w
    on r (at_expression d x) = next_goes _ _ _ (reads_code c (code_text (text_begins o r.content (text_opens d x)))) (omega (arith, quotes_some f)) (d, w)
    on r (at_fault k p x) = next_fails k p (reads_code c (code_text (text_begins o r.content (text_fails x))))

    by : Filled B f (a + length (quotes f)) → Next B s a
    by r = on r (at_stop B s f a r.end r.stops)

-- A number is refused, or it is not.
told_zero : (B : Source) (t : List ℕ) (b : ℕ) → ((d : ℕ) × ((ds : List ℕ) × (t ≡ 48 ∷ d ∷ ds))) ⊎ ((d : ℕ) (ds : List ℕ) → t ≡ 48 ∷ d ∷ ds → ⊥)
told_zero B [] b = inr (λ d ds e. let k : 0 ≡ suc (suc (length ds)) = ap length e in omega (arith, k))
told_zero B (x ∷ []) b = inr (λ d ds e. let k : 1 ≡ suc (suc (length ds)) = ap length e in omega (arith, k))
told_zero B (x ∷ y ∷ t) b = ⊎_elim (λ e. inl (y, (t, ap (λ z. z ∷ y ∷ t) e))) (λ f. inr (λ d ds e. f (ap (λ l. slice_index_or l 0 0) e))) (told_nat x 48)

told_bad : (B : Source) (t : List ℕ) (b : ℕ) → Told (IsBadNumber B t b)
told_bad B t b = by (told_below 2147483647 (digits_value 10 t)) (told_zero B t b) (told_true (is_letter (B b))) (told_and (told_nat (B b) 46) (told_below (digit_value (B (b + 1))) 10))
  where
    none : {u : List ℕ} → (2147483647 < digits_value 10 t → ⊥) → ((d : ℕ) (ds : List ℕ) → t ≡ 48 ∷ d ∷ ds → ⊥) → (is_letter (B b) ≡ true → ⊥) → ((B b ≡ 46) × (digit_value (B (b + 1)) < 10) → ⊥) → IsBadNumber B u b → u ≡ t → ⊥
    none f g h i (bad_large l) e = f (subst (λ z. 2147483647 < digits_value 10 z) e l)
    none f g h i bad_zero e = g _ _ (sym e)
    none f g h i (bad_letter l) e = h l
    none f g h i (bad_fraction d l) e = i (d, l)

    by : Told (2147483647 < digits_value 10 t) → ((d : ℕ) × ((ds : List ℕ) × (t ≡ 48 ∷ d ∷ ds))) ⊎ ((d : ℕ) (ds : List ℕ) → t ≡ 48 ∷ d ∷ ds → ⊥) → Told (is_letter (B b) ≡ true) → Told ((B b ≡ 46) × (digit_value (B (b + 1)) < 10)) → Told (IsBadNumber B t b)
    by (inl l) z m p = inl (bad_large l)
    by (inr f) (inl z) m p = inl (subst (λ u. IsBadNumber B u b) (sym z.1.1) bad_zero)
    by (inr f) (inr g) (inl m) p = inl (bad_letter m)
    by (inr f) (inr g) (inr h) (inl p) = inl (bad_fraction p.0 p.1)
    by (inr f) (inr g) (inr h) (inr i) = inr (λ x. none f g h i x refl)

closed_double : (s : List Open) → AllDouble s → AllDouble (closed s)
closed_double [] w = tt
closed_double (paren ∷ s) w = w
closed_double (bracket ∷ s) w = w
closed_double (brace ∷ s) w = w
closed_double (expression ∷ s) w = w
closed_double (text f o ∷ s) w = w.1

after_double : (x : Sign) (s : List Open) → AllDouble s → AllDouble (after_sign x s)
after_double sign.ParenClose s w = closed_double s w
after_double sign.BracketClose s w = closed_double s w
after_double sign.BraceClose s w = closed_double s w
after_double x s w = w

sign_next : (B : Source) (s : List Open) (a : ℕ) → IsCode s → AllDouble s → {t : List ℕ} (x : Sign) → Fits B t (kind.Sign x) a → (is_opening x ≡ true) ⊎ (is_opening x ≡ false) → Told (depth s < 128) → Next B s a
sign_next B s a c w x f o (inl d) = next_goes _ _ _ (reads_code c (code_lexeme (lexeme f (sign_stands (λ e. d))))) (omega (arith, fits_some f)) (after_double x s w)
sign_next B s a c w x f (inl o) (inr d) = next_fails _ _ (reads_code c (code_lexeme (lexeme f (sign_too_deep o (⊎_elim (λ l. absurd (d l)) (λ l. l) (cases_lt (depth s) 128))))))
sign_next B s a c w x f (inr o) (inr d) = next_goes _ _ _ (reads_code c (code_lexeme (lexeme f (sign_stands (λ e. absurd (true≢false (sym e ∙ o))))))) (omega (arith, fits_some f)) (after_double x s w)

lexeme_next : (B : Source) (s : List Open) (a : ℕ) → IsCode s → AllDouble s → {t : List ℕ} {k : TokenKind} → Fits B t k a → Spells t k → Next B s a
lexeme_next B s a c w f (spells_sign x) = sign_next B s a c w x f (told_bool (is_opening x)) (told_below (depth s) 128)
lexeme_next B s a c w f (spells_word x) = next_goes _ _ _ (reads_code c (code_lexeme (lexeme f word_stands))) (omega (arith, fits_some f)) w
lexeme_next B s a c w f (spells_name n m) = next_goes _ _ _ (reads_code c (code_lexeme (lexeme f name_stands))) (omega (arith, fits_some f)) w
lexeme_next B s a c w {t = t} f (spells_number n) = ⊎_elim (λ b. next_fails _ _ (reads_code c (code_lexeme (lexeme f (number_bad b))))) (λ g. next_goes _ _ _ (reads_code c (code_lexeme (lexeme f (number_stands g)))) (omega (arith, fits_some f)) w) (told_bad B t (a + length t))

newline_next : (B : Source) (s : List Open) (a : ℕ) → IsCode s → AllDouble s → B a ≡ 10 → Next B s a
newline_next B s a c w e = by (innermost_text s) refl
  where
    on : (holds_newlines s ≡ true) → (ends_statements s ≡ true) ⊎ (ends_statements s ≡ false) → Next B s a
    on h (inl t) = next_goes _ _ _ (reads_code c (code_newline (newline_ends e h t))) (omega arith) w
    on h (inr t) = next_goes _ _ _ (reads_code c (code_newline (newline_blank e h t))) (omega arith) w

    in_form : (f : Form) (o : ℕ) → innermost_text s ≡ Some (f, o) → (is_triple f ≡ true) ⊎ (is_triple f ≡ false) → Next B s a
    in_form f o i (inl t) = on (ap text_holds_newlines i ∙ t) (told_bool (ends_statements s))
    in_form f o i (inr t) = next_fails _ _ (reads_code c (code_newline (newline_in_text e i t)))

    by : (t : Option (Form × ℕ)) → innermost_text s ≡ t → Next B s a
    by None i = on (ap text_holds_newlines i) (told_bool (ends_statements s))
    by (Some (f, o)) i = in_form f o i (told_bool (is_triple f))

-- The end of the script, or a place at which nothing begins.
nothing_next : (B : Source) (s : List Open) (a : ℕ) → IsCode s → (Begins B a → ⊥) → Next B s a
nothing_next B s a c n = by (told_nat (B a) 256) (told_character B a) (innermost_text s) refl
  where
    by : Told (B a ≡ 256) → ((d : ℕ) × (IsScalar d × Spelled B (encode_utf8 d) a)) ⊎ NoCharacter B a → (t : Option (Form × ℕ)) → innermost_text s ≡ t → Next B s a
    by (inl e) ch None i = next_ends e i
    by (inl e) ch (Some (f, o)) i = next_fails _ _ (reads_code c (code_nothing (nothing_ends e i)))
    by (inr e) (inl ch) t i = next_fails _ _ (reads_code c (code_nothing (nothing_begins (character ch.1.0 ch.1.1) n)))
    by (inr e) (inr m) t i = next_fails _ _ (reads_code c (code_nothing (nothing_in_utf8 (e, m))))

-- Which text opens where a quote stands.
told_triple : (B : Source) (a : ℕ) (f g : Form) → is_triple f ≡ false → is_triple g ≡ true → ((B (a + 1) == quote f) && (B (a + 1 + 1) == quote f)) ≡ true → quote f ≡ quote g → Spelled B (quotes f) a → Spelled B (quotes g) a
told_triple B a single triple_single t u e q s = let k = both _ _ e in (s.0, (eqb-true _ _ k.0, (eqb-true _ _ k.1, tt)))
told_triple B a double triple_double t u e q s = let k = both _ _ e in (s.0, (eqb-true _ _ k.0, (eqb-true _ _ k.1, tt)))
told_triple B a single triple_double t u e q s = absurd (let k : 39 ≡ 34 = q in omega (arith, k))
told_triple B a double triple_single t u e q s = absurd (let k : 34 ≡ 39 = q in omega (arith, k))
told_triple B a single single t u e q s = absurd (true≢false (sym u))
told_triple B a single double t u e q s = absurd (true≢false (sym u))
told_triple B a double single t u e q s = absurd (true≢false (sym u))
told_triple B a double double t u e q s = absurd (true≢false (sym u))
told_triple B a triple_single g t u e q s = absurd (true≢false t)
told_triple B a triple_double g t u e q s = absurd (true≢false t)

quote_next : (B : Source) (n : ℕ) (s : List Open) (f g : Form) (a : ℕ) → Ended B n → IsCode s → AllDouble s → is_triple f ≡ false → is_triple g ≡ true → quote f ≡ quote g → Spelled B (quotes f) a → Next B s a
quote_next B n s f g a past c w t u q r = by (told_bool ((B (a + 1) == quote f) && (B (a + 1 + 1) == quote f)))
  where
    by : (((B (a + 1) == quote f) && (B (a + 1 + 1) == quote f)) ≡ true) ⊎ (((B (a + 1) == quote f) && (B (a + 1 + 1) == quote f)) ≡ false) → Next B s a
    by (inl e) = opening_next B n s g a past c w (opens_triple B g a u (told_triple B a f g t u e q r))
    by (inr e) = opening_next B n s f a past c w (opens_short B f a t r e)

-- Outside of texts.
code_next : (B : Source) (n : ℕ) (s : List Open) (a : ℕ) → Ended B n → IsCode s → AllDouble s → Next B s a
code_next B n s a past c w = by (told_true (is_blank (B a))) (told_nat (B a) 10) (told_or (told_spelled B (codes "//") a) (told_and (told_nat a (mark_end B)) (told_spelled B (codes "#!") a))) (told_spelled B (codes "/*") a) (told_spelled B (quotes single) a) (told_spelled B (quotes double) a) (told_token B n a past)
  where
    none : (is_blank (B a) ≡ true → ⊥) → (B a ≡ 10 → ⊥) → (BeginsLine B a → ⊥) → (Spelled B (codes "/*") a → ⊥) → (Spelled B (quotes single) a → ⊥) → (Spelled B (quotes double) a → ⊥) → ((t : List ℕ) (k : TokenKind) → Spells t k → Spelled B t a → ⊥) → Begins B a → ⊥
    none f g h i j k l (begins_blank p) = f p
    none f g h i j k l (begins_newline p) = g p
    none f g h i j k l (begins_line p) = h p
    none f g h i j k l (begins_comment p) = i p
    none f g h i j k l (begins_lexeme {t = t} {k = x} p s) = l t x p s
    none f g h i j k l (begins_text single p) = j p
    none f g h i j k l (begins_text triple_single p) = j (p.0, tt)
    none f g h i j k l (begins_text double p) = k p
    none f g h i j k l (begins_text triple_double p) = k (p.0, tt)

    by : Told (is_blank (B a) ≡ true) → Told (B a ≡ 10) → Told (BeginsLine B a) → Told (Spelled B (codes "/*") a) → Told (Spelled B (quotes single) a) → Told (Spelled B (quotes double) a) → ((t : List ℕ) × ((k : TokenKind) × Fits B t k a)) ⊎ ((t : List ℕ) (k : TokenKind) → Spells t k → Spelled B t a → ⊥) → Next B s a
    by (inl p) g h i j k l = next_goes _ _ _ (reads_code c (code_blank (blank p refl))) (omega arith) w
    by (inr f) (inl p) h i j k l = newline_next B s a c w p
    by (inr f) (inr g) (inl p) i j k l = line_next B n s a past c w p
    by (inr f) (inr g) (inr h) (inl p) j k l = comment_next B n s a past c w p
    by (inr f) (inr g) (inr h) (inr i) (inl p) k l = quote_next B n s single triple_single a past c w refl refl refl p
    by (inr f) (inr g) (inr h) (inr i) (inr j) (inl p) l = quote_next B n s double triple_double a past c w refl refl refl p
    by (inr f) (inr g) (inr h) (inr i) (inr j) (inr k) (inl p) = lexeme_next B s a c w p.1.1 p.1.1.spells
    by (inr f) (inr g) (inr h) (inr i) (inr j) (inr k) (inr l) = nothing_next B s a c (none f g h i j k l)

-- At every place comes the end, a fault, or tokens.
pub next : (B : Source) (n : ℕ) (s : List Open) (a : ℕ) → Ended B n → AllDouble s → Next B s a
next B n [] a past w = code_next B n [] a past tt w
next B n (paren ∷ s) a past w = code_next B n (paren ∷ s) a past tt w
next B n (bracket ∷ s) a past w = code_next B n (bracket ∷ s) a past tt w
next B n (brace ∷ s) a past w = code_next B n (brace ∷ s) a past tt w
next B n (expression ∷ s) a past w = code_next B n (expression ∷ s) a past tt w
next B n (text f o ∷ s) a past w = text_next B n s f o a past w.0 w.1

-- Reading from a place ends: at the end of the script, or with a fault.
pub record Ending (B : Source) (s : List Open) (a : ℕ) : Type 0 where
  pub tokens : List Token
  pub open_there : List Open
  pub there : ℕ
  pub reads : Raw B tokens s open_there a there
  pub stops : ((B there ≡ 256) × (innermost_text open_there ≡ None)) ⊎ ((k : FaultKind) × ((p : ℕ) × Reads B open_there there (fails k p)))

read_on : (B : Source) (n k : ℕ) (s : List Open) (a : ℕ) → Ended B n → AllDouble s → n ≤ a + k → Ending B s a
read_on B n zero s a past w h = by (next B n s a past w)
  where
    by : Next B s a → Ending B s a
    by (next_ends e i) = record { tokens = []; open_there = s; there = a; reads = raw_none; stops = inl (e, i) }
    by (next_fails k p r) = record { tokens = []; open_there = s; there = a; reads = raw_none; stops = inr (k, (p, r)) }
    by (next_goes ts u m r l d) = absurd (goes_not_end r (past a (omega (arith, h))))
read_on B n (suc k) s a past w h = by (λ u m l d. read_on B n k u m past d (omega (arith, h, l))) (next B n s a past w)
  where
    by : ((u : List Open) (m : ℕ) → a < m → AllDouble u → Ending B u m) → Next B s a → Ending B s a
    by go (next_ends e i) = record { tokens = []; open_there = s; there = a; reads = raw_none; stops = inl (e, i) }
    by go (next_fails j p r) = record { tokens = []; open_there = s; there = a; reads = raw_none; stops = inr (j, (p, r)) }
    by go (next_goes ts u m r l d) = let x = go u m l d in record { tokens = ts ++ x.tokens; open_there = x.open_there; there = x.there; reads = raw_more ts r x.reads; stops = x.stops }

ended : (bytes : List ℕ) → Ended (byte_at bytes) (length bytes)
ended bytes j h = get_or_past bytes j 256 h

-- Every script has tokens or a lexical fault.
pub tokens_or_fault : (bytes : List ℕ) → ((ts : List Token) × Lexed bytes ts) ⊎ ((k : FaultKind) × ((at : ℕ) × ((before : List Token) × LexicalFault bytes k at before)))
tokens_or_fault bytes = by (read_on (byte_at bytes) (length bytes) (length bytes) [] (mark_end (byte_at bytes)) (ended bytes) tt (omega arith))
  where
    by : Ending (byte_at bytes) [] (mark_end (byte_at bytes)) → ((ts : List Token) × Lexed bytes ts) ⊎ ((k : FaultKind) × ((at : ℕ) × ((before : List Token) × LexicalFault bytes k at before)))
    by e = ⊎_elim
        (λ s. inl (kept false e.tokens, record { raw = e.tokens; open_at_end = e.open_there; end = e.there; reads = e.reads; ends = s.0; closed = s.1; newlines = refl }))
        (λ s. inr (s.0, (s.1.0, (kept false (filter (begins_before s.1.0) e.tokens), record { raw = e.tokens; open_there = e.open_there; there = e.there; reads = e.reads; fault = s.1.1; newlines = refl })))) e.stops
