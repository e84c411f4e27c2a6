-- What stands at a place of a script: tokens, a blank or a comment, up to a next place; or the lexical fault.
use Rattle.std.specs.Prelude.{◌≡◌, ◌≢◌, ℕ, ◌+◌, ◌<◌, ◌≤◌, ◌||◌, ◌==◌, ◌⊎◌, Bool, true, false, Some, List, [], ◌∷◌, length, codes, ℤ}
use Rattle.model_syntax.specs.declared.fault.FaultKind.{FaultKind}
use Rattle.model_syntax.specs.declared.fault.FaultKind.TheVariants.{NotUtf8, UnexpectedCharacter, UnendedText, UnendedComment, BadEscape, BadNumber, NestingOver128}
use Rattle.model_syntax.specs.declared.sign.Sign.{Sign}
use Rattle.model_syntax.specs.declared.sign.Sign.TheVariants as sign
use Rattle.model_syntax.specs.declared.word.Word.{Word}
use Rattle.model_syntax.specs.declared.token.TokenKind.{TokenKind}
use Rattle.model_syntax.specs.declared.token.TokenKind.TheVariants as kind
use Rattle.model_syntax.specs.declared.token.Token.{Token}
use Rattle.model_syntax.specs.Source.{Source, past_end, Spelled, Character, NoCharacter, Passed}
use Rattle.model_syntax.specs.Places.{mark_end, place_at}
use Rattle.model_syntax.specs.Spelling.{Spells, Fits, IsBadNumber, is_letter}
use Rattle.model_syntax.specs.TextForms.{Form, quotes, is_triple, is_double, Opens, GoesOn, Content, Begun, IsCutOff}
use Rattle.model_syntax.specs.OpenBrackets.{Open, expression, text, depth, innermost_text, holds_newlines, ends_statements, is_opening, after_sign, IsCode}

-- What stands at a place, or what is wrong there.
pub data Outcome : Type 0 where
  -- these tokens, what is open behind them, and the next place
  goes : List Token → List Open → ℕ → Outcome
  -- a fault, and its place
  fails : FaultKind → ℕ → Outcome

-- A token that stands from one place up to another.
abbrev pub token : Source → TokenKind → ℕ → ℕ → Token
token B k a b = record { kind = k; start = a; end = b; place = place_at B a }

-- A byte stands here, and no character in UTF-8 begins with it.
abbrev pub IsNotUtf8 : Source → ℕ → Type 0
IsNotUtf8 B a = (B a ≢ past_end) × NoCharacter B a

-- Blanks and comments. Space, tab and CR are blanks (this product's own: a form feed is none, and a lone CR ends no line).
abbrev pub is_blank : ℕ → Bool
is_blank b = (b == 32) || ((b == 9) || (b == 13))

-- A comment to the line's end begins: `//`, or `#!` at the very start of the script.
abbrev pub BeginsLine : Source → ℕ → Type 0
BeginsLine B a = Spelled B (codes "//") a ⊎ ((a ≡ mark_end B) × Spelled B (codes "#!") a)

-- The line ends: with a newline, which is not of the comment, or with the script.
abbrev pub EndsLine : Source → ℕ → Type 0
EndsLine B b = (B b ≡ 10) ⊎ (B b ≡ past_end)

-- Behind the characters of a comment to the line's end.
pub data AfterLine (B : Source) (s : List Open) (b : ℕ) : Outcome → Type 0 where
  line_ends : EndsLine B b → AfterLine B s b (goes [] s b)
  line_not_utf8 : IsNotUtf8 B b → AfterLine B s b (fails NotUtf8 b)

-- a: where the comment opened
pub data AfterComment (B : Source) (s : List Open) (a b : ℕ) : Outcome → Type 0 where
  comment_ends : Spelled B (codes "*/") b → AfterComment B s a b (goes [] s (b + 2))
  comment_unended : B b ≡ past_end → AfterComment B s a b (fails UnendedComment a)
  comment_not_utf8 : IsNotUtf8 B b → AfterComment B s a b (fails NotUtf8 b)

-- A blank, a comment to the line's end, or a comment up to the first `*/`.
pub data Blank (B : Source) (s : List Open) (a : ℕ) (x : Outcome) : Type 0 where
  blank : is_blank (B a) ≡ true → x ≡ goes [] s (a + 1) → Blank B s a x
  line_comment : {b : ℕ} → BeginsLine B a → Passed B (λ k. B k ≡ 10) (a + 2) b → AfterLine B s b x → Blank B s a x
  comment : {b : ℕ} → Spelled B (codes "/*") a → Passed B (Spelled B (codes "*/")) (a + 2) b → AfterComment B s a b x → Blank B s a x

-- Newlines (Groovy): each is a token where it may end a statement, and a blank elsewhere. In `${ .. }` of a text that
-- is not triple it is inside that text, which then has no end.
pub data Newline (B : Source) (s : List Open) (a : ℕ) : Outcome → Type 0 where
  newline_ends : B a ≡ 10 → holds_newlines s ≡ true → ends_statements s ≡ true → Newline B s a (goes (token B kind.Newline a (a + 1) ∷ []) s (a + 1))
  newline_blank : B a ≡ 10 → holds_newlines s ≡ true → ends_statements s ≡ false → Newline B s a (goes [] s (a + 1))
  newline_in_text : {f : Form} {o : ℕ} → B a ≡ 10 → innermost_text s ≡ Some (f, o) → is_triple f ≡ false → Newline B s a (fails UnendedText o)

-- Names, words, numbers and signs. This product's own: at most 128 brackets are open at once.
pub data AfterFits (B : Source) (s : List Open) (t : List ℕ) (a : ℕ) : TokenKind → Outcome → Type 0 where
  name_stands : {n : List ℕ} → AfterFits B s t a (kind.Name n) (goes (token B (kind.Name n) a (a + length t) ∷ []) s (a + length t))
  word_stands : {w : Word} → AfterFits B s t a (kind.Word w) (goes (token B (kind.Word w) a (a + length t) ∷ []) s (a + length t))
  sign_stands : {x : Sign} → (is_opening x ≡ true → depth s < 128) → AfterFits B s t a (kind.Sign x) (goes (token B (kind.Sign x) a (a + length t) ∷ []) (after_sign x s) (a + length t))
  number_stands : {v : ℤ} → (IsBadNumber B t (a + length t) → ⊥) → AfterFits B s t a (kind.Int v) (goes (token B (kind.Int v) a (a + length t) ∷ []) s (a + length t))
  sign_too_deep : {x : Sign} → is_opening x ≡ true → 128 ≤ depth s → AfterFits B s t a (kind.Sign x) (fails NestingOver128 a)
  number_bad : {v : ℤ} → IsBadNumber B t (a + length t) → AfterFits B s t a (kind.Int v) (fails BadNumber a)

-- What fits at the place, with what it does there.
pub data Lexeme (B : Source) (s : List Open) (a : ℕ) (x : Outcome) : Type 0 where
  lexeme : {t : List ℕ} {k : TokenKind} → Fits B t k a → AfterFits B s t a k x → Lexeme B s a x

-- An expression begins in a text (Groovy): `${`, or `$` and a letter.
pub data BeginsExpression (B : Source) (s : List Open) (a : ℕ) : Type 0 where
  begins_braces : Spelled B (codes "${") a → depth s < 128 → BeginsExpression B s a
  begins_path : B a ≡ 36 → is_letter (B (a + 1)) ≡ true → BeginsExpression B s a

-- A text that opened at `o` cannot go on at the place `p`. This product's own: what the end of the script cuts off has no
-- end, what a byte outside UTF-8 cuts off is told at that byte, and what any other character cuts off is a bad escape.
pub data TextFails (B : Source) (s : List Open) (f : Form) (o p : ℕ) : FaultKind → ℕ → Type 0 where
  fails_at_end : {q : ℕ} → Begun B f p q → B q ≡ past_end → TextFails B s f o p UnendedText o
  fails_not_utf8 : {q : ℕ} → Begun B f p q → IsNotUtf8 B q → TextFails B s f o p NotUtf8 q
  fails_at_newline : B p ≡ 10 → is_triple f ≡ false → TextFails B s f o p UnendedText o
  fails_at_backslash : B p ≡ 92 → (GoesOn B f p → ⊥) → (IsCutOff B f p → ⊥) → TextFails B s f o p BadEscape p
  fails_at_dollar : B p ≡ 36 → is_double f ≡ true → B (p + 1) ≢ 123 → is_letter (B (p + 1)) ≡ false → (IsCutOff B f p → ⊥) → TextFails B s f o p BadEscape p
  fails_too_deep : Spelled B (codes "${") p → is_double f ≡ true → 128 ≤ depth s → TextFails B s f o p NestingOver128 p

-- Texts (Groovy). One without expressions is one token. One with expressions is its opening, parts, expressions and its
-- closing; its opening is a token once an expression begins.
pub data AfterContent (B : Source) (s : List Open) (f : Form) (t : List ℕ) (a b : ℕ) : Outcome → Type 0 where
  text_whole : Spelled B (quotes f) b → AfterContent B s f t a b (goes (token B (kind.Text t) a (b + length (quotes f)) ∷ []) s (b + length (quotes f)))
  text_opens : is_double f ≡ true → BeginsExpression B s b → AfterContent B s f t a b (goes (token B kind.GStringOpen a (a + length (quotes f)) ∷ []) (text f a ∷ s) (a + length (quotes f)))
  text_fails : {k : FaultKind} {p : ℕ} → TextFails B s f a b k p → AfterContent B s f t a b (fails k p)

-- A text opens here: its form, its characters up to where none goes on, and what stands there.
pub data TextBegins (B : Source) (s : List Open) (a : ℕ) (x : Outcome) : Type 0 where
  text_begins : {f : Form} {t : List ℕ} {b : ℕ} → Opens B f a → Content B f t (a + length (quotes f)) b → AfterContent B s f t a b x → TextBegins B s a x

-- Something of the language begins here.
pub data Begins (B : Source) (a : ℕ) : Type 0 where
  begins_blank : is_blank (B a) ≡ true → Begins B a
  begins_newline : B a ≡ 10 → Begins B a
  begins_line : BeginsLine B a → Begins B a
  begins_comment : Spelled B (codes "/*") a → Begins B a
  begins_lexeme : {t : List ℕ} {k : TokenKind} → Spells t k → Spelled B t a → Begins B a
  begins_text : (f : Form) → Spelled B (quotes f) a → Begins B a

-- Nothing of the language stands here; the end of the script is a fault where a text is open.
pub data Nothing (B : Source) (s : List Open) (a : ℕ) : Outcome → Type 0 where
  nothing_begins : {c b : ℕ} → Character B c a b → (Begins B a → ⊥) → Nothing B s a (fails UnexpectedCharacter a)
  nothing_in_utf8 : IsNotUtf8 B a → Nothing B s a (fails NotUtf8 a)
  nothing_ends : {f : Form} {o : ℕ} → B a ≡ past_end → innermost_text s ≡ Some (f, o) → Nothing B s a (fails UnendedText o)

-- Outside of texts: a blank or comment, a newline, a name, word, number or sign, a text, or nothing of these.
pub data InCode (B : Source) (s : List Open) (a : ℕ) (x : Outcome) : Type 0 where
  code_blank : Blank B s a x → InCode B s a x
  code_newline : Newline B s a x → InCode B s a x
  code_lexeme : Lexeme B s a x → InCode B s a x
  code_text : TextBegins B s a x → InCode B s a x
  code_nothing : Nothing B s a x → InCode B s a x

-- A part of a text is the longest run of characters; a run that stands for nothing is no token.
abbrev pub part : Source → List ℕ → ℕ → ℕ → List Token
part B [] a b = []
part B (c ∷ t) a b = token B (kind.GStringPart (c ∷ t)) a b ∷ []

-- Behind `$`: a name, and further ones behind dots, as far as letters go on.
pub data Path (B : Source) : List Token → ℕ → ℕ → Type 0 where
  path_ends : {t : List ℕ} {k : TokenKind} {a : ℕ} → is_letter (B a) ≡ true → Fits B t k a → ((B (a + length t) ≡ 46) × (is_letter (B (a + length t + 1)) ≡ true) → ⊥) → Path B (token B k a (a + length t) ∷ []) a (a + length t)
  path_more : {t : List ℕ} {k : TokenKind} {ts : List Token} {a b : ℕ} → is_letter (B a) ≡ true → Fits B t k a → B (a + length t) ≡ 46 → is_letter (B (a + length t + 1)) ≡ true → Path B ts (a + length t + 1) b → Path B (token B k a (a + length t) ∷ token B (kind.Sign sign.Dot) (a + length t) (a + length t + 1) ∷ ts) a b

-- Between the opening and the closing of a text of this form, outside its expressions; `s` is what is open around it.
pub data InText (B : Source) (s : List Open) (f : Form) (o a : ℕ) : Outcome → Type 0 where
  in_part : {t : List ℕ} {b : ℕ} → a < b → Content B f t a b → (GoesOn B f b → ⊥) → InText B s f o a (goes (part B t a b) (text f o ∷ s) b)
  in_closing : Spelled B (quotes f) a → InText B s f o a (goes (token B kind.GStringClose a (a + length (quotes f)) ∷ []) s (a + length (quotes f)))
  in_braces : is_double f ≡ true → Spelled B (codes "${") a → depth s < 128 → InText B s f o a (goes (token B kind.ExpressionOpen a (a + 2) ∷ []) (expression ∷ text f o ∷ s) (a + 2))
  in_path : {ts : List Token} {b : ℕ} → is_double f ≡ true → B a ≡ 36 → Path B ts (a + 1) b → InText B s f o a (goes (token B kind.PathOpen a (a + 1) ∷ ts) (text f o ∷ s) b)
  in_fault : {k : FaultKind} {p : ℕ} → TextFails B s f o a k p → InText B s f o a (fails k p)

-- Outside of texts, or inside one, by what is innermost.
pub data Reads (B : Source) : List Open → ℕ → Outcome → Type 0 where
  reads_code : {s : List Open} {a : ℕ} {x : Outcome} → IsCode s → InCode B s a x → Reads B s a x
  reads_text : {f : Form} {o : ℕ} {s : List Open} {a : ℕ} {x : Outcome} → InText B s f o a x → Reads B (text f o ∷ s) a x
