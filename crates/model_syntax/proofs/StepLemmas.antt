-- What is known at a place of a script, put together to what stands there: for lexers, and for the worked examples.
use Rattle.std.proofs.Common.{◌≡◌, ℕ, zero, suc, ◌+◌, ◌<◌, ◌≤◌, ◌⊎◌, inl, inr, ⊎_elim, List, [], ◌∷◌, length, refl, sym, ap, subst, ◌∙◌, arith, Bool, true, false, Some, None, ◌&&◌, ◌||◌, ◌==◌, pos, slice_index_or}
use Rattle.std.specs.Prelude.{All}
use Rattle.std.specs.Char.{digit_value, is_ascii_digit}
use Rattle.std.specs.Str.Parse.{IsNumeral, AllDigits, digits_value}
use Rattle.std.proofs.lemmas.Bool.{true≢false, cases_lt, or_left, eqb-false, and_from, eq-eqb}
use Rattle.std.proofs.lemmas.List.Elements.{All-cons}
use Rattle.model_syntax.specs.declared.sign.Sign.{Sign}
use Rattle.model_syntax.specs.declared.sign.Sign.TheVariants as sign
use Rattle.model_syntax.specs.declared.word.Word.{Word}
use Rattle.model_syntax.specs.declared.word.Word.TheVariants as word
use Rattle.model_syntax.specs.declared.token.TokenKind.{TokenKind}
use Rattle.model_syntax.specs.declared.token.TokenKind.TheVariants as kind
use Rattle.model_syntax.specs.Source.{Source, Spelled, Passed, passed_more}
use Rattle.model_syntax.specs.Spelling.{sign_text, word_text, is_letter, is_name_byte, IsName, Spells, spells_sign, spells_word, spells_name, spells_number, Fits, IsBadNumber, bad_large, bad_zero, bad_letter, bad_fraction}
use Rattle.std.specs.Char.{encode_utf8}
use Rattle.std.proofs.Math.Utf8.{low_scalar}
use Rattle.std.proofs.lemmas.Str.{encode_ascii}
use Rattle.model_syntax.specs.TextForms.{Form, single, triple_single, double, triple_double, quotes, quote, is_triple, is_plain, Opens, Item, item_plain, Content, content_more}
use Rattle.model_syntax.specs.OpenBrackets.{Open, IsCode, depth, is_opening, after_sign}
use Rattle.model_syntax.specs.Reading.{Reads, reads_code, goes, token, code_lexeme, lexeme, name_stands, word_stands, sign_stands, number_stands}
use Rattle.model_syntax.proofs.SourceLemmas.{ascii_character}
use Rattle.model_syntax.proofs.TextLemmas.{quote_first}
use Rattle.model_syntax.proofs.SpellingLemmas.{FirstIs, first_is, name_first, word_first, number_first, sign_first, letter_sign, letter_digit, digit_sign, digit-value, words, word_of, word_of-text, both}

-- the byte at a place within a spelled text
spelled_at : (B : Source) (xs : List ℕ) (a n d : ℕ) → Spelled B xs a → n < length xs → B (a + n) ≡ slice_index_or xs n d
spelled_at B [] a n d s h = absurd (let k : ⊥ = omega (arith, h) in k)
spelled_at B (x ∷ xs) a zero d s h = let e : a + 0 ≡ a = omega arith in ap B e ∙ s.0
spelled_at B (x ∷ xs) a (suc n) d s h = let e : a + suc n ≡ a + 1 + n = omega arith in ap B e ∙ spelled_at B xs (a + 1) n d s.1 (omega (arith, h))

-- A text of such bytes alone is no longer than up to another byte.
pub ends_before : (P : ℕ → Bool) (B : Source) (xs : List ℕ) (a n : ℕ) → All (λ c. P c ≡ true) xs → Spelled B xs a → P (B (a + n)) ≡ false → length xs ≤ n
ends_before P B xs a n h s e = ⊎_elim (λ l. absurd (true≢false (sym (ap P (spelled_at B xs a n 0 s l) ∙ h n 0 l) ∙ e))) (λ l. l) (cases_lt n (length xs))

-- each byte of a text is such
unfoldable pub every : (ℕ → Bool) → List ℕ → Bool
every P [] = true
every P (x ∷ xs) = P x && every P xs

pub every-All : (P : ℕ → Bool) (xs : List ℕ) → every P xs ≡ true → All (λ c. P c ≡ true) xs
unfolding every
every-All P [] e = λ k d h. absurd (let c : ⊥ = omega (arith, h) in c)
every-All P (x ∷ xs) e = let k = both (P x) (every P xs) e in All-cons (λ c. P c ≡ true) x xs k.0 (every-All P xs k.1)

name_byte_from_letter : (b : ℕ) → is_letter b ≡ true → is_name_byte b ≡ true
name_byte_from_letter b e = or_left _ _ e

pub name_all : (t : List ℕ) → IsName t → All (λ c. is_name_byte c ≡ true) t
name_all [] n = absurd n
name_all (b ∷ bs) n = All-cons (λ c. is_name_byte c ≡ true) b bs (name_byte_from_letter b n.0) n.1

pub word_all : (w : Word) → All (λ c. is_name_byte c ≡ true) (word_text w)
unfolding every
word_all word.Def = every-All is_name_byte (word_text word.Def) refl
word_all word.Void = every-All is_name_byte (word_text word.Void) refl
word_all word.If = every-All is_name_byte (word_text word.If) refl
word_all word.Else = every-All is_name_byte (word_text word.Else) refl
word_all word.While = every-All is_name_byte (word_text word.While) refl
word_all word.For = every-All is_name_byte (word_text word.For) refl
word_all word.In = every-All is_name_byte (word_text word.In) refl
word_all word.Return = every-All is_name_byte (word_text word.Return) refl
word_all word.Break = every-All is_name_byte (word_text word.Break) refl
word_all word.Continue = every-All is_name_byte (word_text word.Continue) refl
word_all word.Try = every-All is_name_byte (word_text word.Try) refl
word_all word.Catch = every-All is_name_byte (word_text word.Catch) refl
word_all word.Finally = every-All is_name_byte (word_text word.Finally) refl
word_all word.Throw = every-All is_name_byte (word_text word.Throw) refl
word_all word.New = every-All is_name_byte (word_text word.New) refl
word_all word.True = every-All is_name_byte (word_text word.True) refl
word_all word.False = every-All is_name_byte (word_text word.False) refl
word_all word.Null = every-All is_name_byte (word_text word.Null) refl
word_all word.Import = every-All is_name_byte (word_text word.Import) refl
word_all word.Package = every-All is_name_byte (word_text word.Package) refl
word_all word.Class = every-All is_name_byte (word_text word.Class) refl
word_all word.Interface = every-All is_name_byte (word_text word.Interface) refl
word_all word.Enum = every-All is_name_byte (word_text word.Enum) refl
word_all word.Trait = every-All is_name_byte (word_text word.Trait) refl
word_all word.Extends = every-All is_name_byte (word_text word.Extends) refl
word_all word.Implements = every-All is_name_byte (word_text word.Implements) refl
word_all word.Static = every-All is_name_byte (word_text word.Static) refl
word_all word.Final = every-All is_name_byte (word_text word.Final) refl
word_all word.Switch = every-All is_name_byte (word_text word.Switch) refl
word_all word.Case = every-All is_name_byte (word_text word.Case) refl
word_all word.Default = every-All is_name_byte (word_text word.Default) refl
word_all word.Do = every-All is_name_byte (word_text word.Do) refl
word_all word.Assert = every-All is_name_byte (word_text word.Assert) refl
word_all word.As = every-All is_name_byte (word_text word.As) refl
word_all word.InstanceOf = every-All is_name_byte (word_text word.InstanceOf) refl
word_all word.This = every-All is_name_byte (word_text word.This) refl
word_all word.Super = every-All is_name_byte (word_text word.Super) refl

pub digits_all : (t : List ℕ) → AllDigits 10 t → All (λ c. is_ascii_digit c ≡ true) t
digits_all [] n = λ k d h. absurd (let c : ⊥ = omega (arith, h) in c)
digits_all (b ∷ bs) n = All-cons (λ c. is_ascii_digit c ≡ true) b bs (digit-value b n.0) (digits_all bs n.1)

-- two texts that stand at one place begin with one byte
same_first : {P Q : ℕ → Bool} (B : Source) (t u : List ℕ) (a : ℕ) → FirstIs P t → FirstIs Q u → Spelled B t a → Spelled B u a → ((b : ℕ) → P b ≡ true → Q b ≡ true → ⊥) → ⊥
same_first {P = P} B t u a (first_is b bs p) (first_is c cs q) s r f = f c (ap P (sym r.0 ∙ s.0) ∙ p) q

-- A name or a word is the longest where no letter, digit or `_` stands behind it.
pub longest_name : (B : Source) (t : List ℕ) (a : ℕ) → FirstIs is_letter t → Spelled B t a → is_name_byte (B (a + length t)) ≡ false → (u : List ℕ) (j : TokenKind) → Spells u j → Spelled B u a → length u ≤ length t
longest_name B t a f s e u j (spells_sign x) r = absurd (same_first B t (sign_text x) a f (sign_first x) s r letter_sign)
longest_name B t a f s e u j (spells_word w) r = ends_before is_name_byte B (word_text w) a (length t) (word_all w) r e
longest_name B t a f s e u j (spells_name n m) r = ends_before is_name_byte B u a (length t) (name_all u n) r e
longest_name B t a f s e u j (spells_number n) r = absurd (same_first B t u a f (number_first u n) s r letter_digit)

-- A number is the longest where no digit stands behind it.
pub longest_number : (B : Source) (t : List ℕ) (a : ℕ) → IsNumeral 10 t → Spelled B t a → is_ascii_digit (B (a + length t)) ≡ false → (u : List ℕ) (j : TokenKind) → Spells u j → Spelled B u a → length u ≤ length t
longest_number B t a n s e u j (spells_sign x) r = absurd (same_first B t (sign_text x) a (number_first t n) (sign_first x) s r digit_sign)
longest_number B t a n s e u j (spells_word w) r = absurd (same_first B t (word_text w) a (number_first t n) (word_first w) s r (λ b p q. letter_digit b q p))
longest_number B t a n s e u j (spells_name m k) r = absurd (same_first B t u a (number_first t n) (name_first u m) s r (λ b p q. letter_digit b q p))
longest_number B t a n s e u j (spells_number m) r = ends_before is_ascii_digit B u a (length t) (digits_all u m.1) r e

-- The two bytes are a sign of their own.
unfoldable pub is_pair : ℕ → ℕ → Bool
is_pair b c =
    ((b == 63) && ((c == 58) || (c == 46))) || (((b == 46) && (c == 46)) || (((b == 45) && ((c == 62) || ((c == 61) || (c == 45)))) ||
    (((b == 43) && ((c == 61) || (c == 43))) || (((b == 42) && (c == 61)) || (((b == 37) && (c == 61)) || (((b == 124) && (c == 124)) ||
    (((b == 38) && (c == 38)) || (((b == 61) && (c == 61)) || (((b == 33) && (c == 61)) || (((b == 60) && (c == 61)) || ((b == 62) && (c == 61))))))))))))

pub sign_short : (s : Sign) → length (sign_text s) ≤ 2
sign_short sign.ParenOpen = omega arith
sign_short sign.ParenClose = omega arith
sign_short sign.BracketOpen = omega arith
sign_short sign.BracketClose = omega arith
sign_short sign.BraceOpen = omega arith
sign_short sign.BraceClose = omega arith
sign_short sign.Comma = omega arith
sign_short sign.Semicolon = omega arith
sign_short sign.Colon = omega arith
sign_short sign.Question = omega arith
sign_short sign.Elvis = omega arith
sign_short sign.Dot = omega arith
sign_short sign.SafeDot = omega arith
sign_short sign.Range = omega arith
sign_short sign.Arrow = omega arith
sign_short sign.Assign = omega arith
sign_short sign.PlusAssign = omega arith
sign_short sign.MinusAssign = omega arith
sign_short sign.TimesAssign = omega arith
sign_short sign.ModAssign = omega arith
sign_short sign.Increment = omega arith
sign_short sign.Decrement = omega arith
sign_short sign.Or = omega arith
sign_short sign.And = omega arith
sign_short sign.Equal = omega arith
sign_short sign.NotEqual = omega arith
sign_short sign.Less = omega arith
sign_short sign.LessEqual = omega arith
sign_short sign.Greater = omega arith
sign_short sign.GreaterEqual = omega arith
sign_short sign.Plus = omega arith
sign_short sign.Minus = omega arith
sign_short sign.Times = omega arith
sign_short sign.Mod = omega arith
sign_short sign.Not = omega arith

sign_some : (s : Sign) → 1 ≤ length (sign_text s)
sign_some sign.ParenOpen = omega arith
sign_some sign.ParenClose = omega arith
sign_some sign.BracketOpen = omega arith
sign_some sign.BracketClose = omega arith
sign_some sign.BraceOpen = omega arith
sign_some sign.BraceClose = omega arith
sign_some sign.Comma = omega arith
sign_some sign.Semicolon = omega arith
sign_some sign.Colon = omega arith
sign_some sign.Question = omega arith
sign_some sign.Elvis = omega arith
sign_some sign.Dot = omega arith
sign_some sign.SafeDot = omega arith
sign_some sign.Range = omega arith
sign_some sign.Arrow = omega arith
sign_some sign.Assign = omega arith
sign_some sign.PlusAssign = omega arith
sign_some sign.MinusAssign = omega arith
sign_some sign.TimesAssign = omega arith
sign_some sign.ModAssign = omega arith
sign_some sign.Increment = omega arith
sign_some sign.Decrement = omega arith
sign_some sign.Or = omega arith
sign_some sign.And = omega arith
sign_some sign.Equal = omega arith
sign_some sign.NotEqual = omega arith
sign_some sign.Less = omega arith
sign_some sign.LessEqual = omega arith
sign_some sign.Greater = omega arith
sign_some sign.GreaterEqual = omega arith
sign_some sign.Plus = omega arith
sign_some sign.Minus = omega arith
sign_some sign.Times = omega arith
sign_some sign.Mod = omega arith
sign_some sign.Not = omega arith

-- a sign of two bytes is a pair
sign_pair : (B : Source) (s : Sign) (a : ℕ) → Spelled B (sign_text s) a → (length (sign_text s) ≤ 1) ⊎ (is_pair (B a) (B (a + 1)) ≡ true)
unfolding is_pair
sign_pair B sign.ParenOpen a r = inl (omega arith)
sign_pair B sign.ParenClose a r = inl (omega arith)
sign_pair B sign.BracketOpen a r = inl (omega arith)
sign_pair B sign.BracketClose a r = inl (omega arith)
sign_pair B sign.BraceOpen a r = inl (omega arith)
sign_pair B sign.BraceClose a r = inl (omega arith)
sign_pair B sign.Comma a r = inl (omega arith)
sign_pair B sign.Semicolon a r = inl (omega arith)
sign_pair B sign.Colon a r = inl (omega arith)
sign_pair B sign.Question a r = inl (omega arith)
sign_pair B sign.Elvis a r = inr (ap (λ z. is_pair z (B (a + 1))) r.0 ∙ ap (is_pair (slice_index_or (sign_text sign.Elvis) 0 0)) r.1.0)
sign_pair B sign.Dot a r = inl (omega arith)
sign_pair B sign.SafeDot a r = inr (ap (λ z. is_pair z (B (a + 1))) r.0 ∙ ap (is_pair (slice_index_or (sign_text sign.SafeDot) 0 0)) r.1.0)
sign_pair B sign.Range a r = inr (ap (λ z. is_pair z (B (a + 1))) r.0 ∙ ap (is_pair (slice_index_or (sign_text sign.Range) 0 0)) r.1.0)
sign_pair B sign.Arrow a r = inr (ap (λ z. is_pair z (B (a + 1))) r.0 ∙ ap (is_pair (slice_index_or (sign_text sign.Arrow) 0 0)) r.1.0)
sign_pair B sign.Assign a r = inl (omega arith)
sign_pair B sign.PlusAssign a r = inr (ap (λ z. is_pair z (B (a + 1))) r.0 ∙ ap (is_pair (slice_index_or (sign_text sign.PlusAssign) 0 0)) r.1.0)
sign_pair B sign.MinusAssign a r = inr (ap (λ z. is_pair z (B (a + 1))) r.0 ∙ ap (is_pair (slice_index_or (sign_text sign.MinusAssign) 0 0)) r.1.0)
sign_pair B sign.TimesAssign a r = inr (ap (λ z. is_pair z (B (a + 1))) r.0 ∙ ap (is_pair (slice_index_or (sign_text sign.TimesAssign) 0 0)) r.1.0)
sign_pair B sign.ModAssign a r = inr (ap (λ z. is_pair z (B (a + 1))) r.0 ∙ ap (is_pair (slice_index_or (sign_text sign.ModAssign) 0 0)) r.1.0)
sign_pair B sign.Increment a r = inr (ap (λ z. is_pair z (B (a + 1))) r.0 ∙ ap (is_pair (slice_index_or (sign_text sign.Increment) 0 0)) r.1.0)
sign_pair B sign.Decrement a r = inr (ap (λ z. is_pair z (B (a + 1))) r.0 ∙ ap (is_pair (slice_index_or (sign_text sign.Decrement) 0 0)) r.1.0)
sign_pair B sign.Or a r = inr (ap (λ z. is_pair z (B (a + 1))) r.0 ∙ ap (is_pair (slice_index_or (sign_text sign.Or) 0 0)) r.1.0)
sign_pair B sign.And a r = inr (ap (λ z. is_pair z (B (a + 1))) r.0 ∙ ap (is_pair (slice_index_or (sign_text sign.And) 0 0)) r.1.0)
sign_pair B sign.Equal a r = inr (ap (λ z. is_pair z (B (a + 1))) r.0 ∙ ap (is_pair (slice_index_or (sign_text sign.Equal) 0 0)) r.1.0)
sign_pair B sign.NotEqual a r = inr (ap (λ z. is_pair z (B (a + 1))) r.0 ∙ ap (is_pair (slice_index_or (sign_text sign.NotEqual) 0 0)) r.1.0)
sign_pair B sign.Less a r = inl (omega arith)
sign_pair B sign.LessEqual a r = inr (ap (λ z. is_pair z (B (a + 1))) r.0 ∙ ap (is_pair (slice_index_or (sign_text sign.LessEqual) 0 0)) r.1.0)
sign_pair B sign.Greater a r = inl (omega arith)
sign_pair B sign.GreaterEqual a r = inr (ap (λ z. is_pair z (B (a + 1))) r.0 ∙ ap (is_pair (slice_index_or (sign_text sign.GreaterEqual) 0 0)) r.1.0)
sign_pair B sign.Plus a r = inl (omega arith)
sign_pair B sign.Minus a r = inl (omega arith)
sign_pair B sign.Times a r = inl (omega arith)
sign_pair B sign.Mod a r = inl (omega arith)
sign_pair B sign.Not a r = inl (omega arith)

sign_no_pair : (B : Source) (s : Sign) (a : ℕ) → Spelled B (sign_text s) a → is_pair (B a) (B (a + 1)) ≡ false → length (sign_text s) ≤ 1
sign_no_pair B s a r e = ⊎_elim (λ l. l) (λ p. absurd (true≢false (sym p ∙ e))) (sign_pair B s a r)

-- A sign is the longest where it has two bytes, or where it and the byte behind it are no sign of two.
pub longest_sign : (B : Source) (x : Sign) (a : ℕ) → Spelled B (sign_text x) a → (length (sign_text x) ≡ 2) ⊎ (is_pair (B a) (B (a + 1)) ≡ false) → (u : List ℕ) (j : TokenKind) → Spells u j → Spelled B u a → length u ≤ length (sign_text x)
longest_sign B x a s h u j (spells_sign y) r = ⊎_elim (λ e. omega (arith, e, sign_short y)) (λ e. omega (arith, sign_no_pair B y a r e, sign_some x)) h
longest_sign B x a s h u j (spells_word w) r = absurd (same_first B (sign_text x) (word_text w) a (sign_first x) (word_first w) s r (λ b p q. letter_sign b q p))
longest_sign B x a s h u j (spells_name n m) r = absurd (same_first B (sign_text x) u a (sign_first x) (name_first u n) s r (λ b p q. letter_sign b q p))
longest_sign B x a s h u j (spells_number n) r = absurd (same_first B (sign_text x) u a (sign_first x) (number_first u n) s r (λ b p q. digit_sign b q p))

-- A text that is no word.
pub no_word : (t : List ℕ) → word_of words t ≡ None → (w : Word) → t ≡ word_text w → ⊥
no_word t e w f = let k : None ≡ Some w = sym e ∙ ap (word_of words) f ∙ word_of-text w in cc

-- A name fits.
pub fits_name : (B : Source) (a : ℕ) (t : List ℕ) → IsName t → word_of words t ≡ None → Spelled B t a → is_name_byte (B (a + length t)) ≡ false → Fits B t (kind.Name t) a
fits_name B a t n w r e = record { spells = spells_name n (no_word t w); stands = r; longest = longest_name B t a (name_first t n) r e }

-- The steps of a reader outside of texts.
pub reads_name : (B : Source) (s : List Open) (a : ℕ) (t : List ℕ) → IsCode s → IsName t → word_of words t ≡ None → Spelled B t a → is_name_byte (B (a + length t)) ≡ false → Reads B s a (goes (token B (kind.Name t) a (a + length t) ∷ []) s (a + length t))
reads_name B s a t c n w r e = reads_code c (code_lexeme (lexeme {t = t} (fits_name B a t n w r e) name_stands))

pub reads_word : (B : Source) (s : List Open) (a : ℕ) (w : Word) → IsCode s → Spelled B (word_text w) a → is_name_byte (B (a + length (word_text w))) ≡ false → Reads B s a (goes (token B (kind.Word w) a (a + length (word_text w)) ∷ []) s (a + length (word_text w)))
reads_word B s a w c r e = reads_code c (code_lexeme (lexeme {t = word_text w} (record { spells = spells_word w; stands = r; longest = longest_name B (word_text w) a (word_first w) r e }) word_stands))

pub reads_number : (B : Source) (s : List Open) (a : ℕ) (t : List ℕ) → IsCode s → IsNumeral 10 t → Spelled B t a → is_ascii_digit (B (a + length t)) ≡ false → (IsBadNumber B t (a + length t) → ⊥) → Reads B s a (goes (token B (kind.Int (pos (digits_value 10 t))) a (a + length t) ∷ []) s (a + length t))
reads_number B s a t c n r e g = reads_code c (code_lexeme (lexeme {t = t} (record { spells = spells_number n; stands = r; longest = longest_number B t a n r e }) (number_stands g)))

pub reads_sign : (B : Source) (s : List Open) (a : ℕ) (x : Sign) → IsCode s → Spelled B (sign_text x) a → (length (sign_text x) ≡ 2) ⊎ (is_pair (B a) (B (a + 1)) ≡ false) → (is_opening x ≡ true → depth s < 128) → Reads B s a (goes (token B (kind.Sign x) a (a + length (sign_text x)) ∷ []) (after_sign x s) (a + length (sign_text x)))
reads_sign B s a x c r h d = reads_code c (code_lexeme (lexeme {t = sign_text x} (record { spells = spells_sign x; stands = r; longest = longest_sign B x a r h }) (sign_stands d)))

unfoldable pub leads_zero : List ℕ → Bool
leads_zero [] = false
leads_zero (b ∷ []) = false
leads_zero (b ∷ c ∷ cs) = b == 48

-- A number that is none of the refused ones.
pub good_number : (B : Source) (t : List ℕ) (b : ℕ) → digits_value 10 t ≤ 2147483647 → leads_zero t ≡ false → is_letter (B b) ≡ false → (B b ≡ 46 → 10 ≤ digit_value (B (b + 1))) → IsBadNumber B t b → ⊥
unfolding leads_zero
good_number B t b l z n f (bad_large h) = omega (arith, l, h)
good_number B t b l z n f bad_zero = true≢false z
good_number B t b l z n f (bad_letter e) = true≢false (sym e ∙ n)
good_number B t b l z n f (bad_fraction e h) = omega (arith, f e, h)

-- A text of one quote opens where three do not stand.
pub opens_short : (B : Source) (f : Form) (a : ℕ) → is_triple f ≡ false → Spelled B (quotes f) a → ((B (a + 1) == quote f) && (B (a + 1 + 1) == quote f)) ≡ false → Opens B f a
opens_short B f a t s h = record { stands = s; longest = by f t s h }
  where
    no_three : (b c n : ℕ) → ((b == n) && (c == n)) ≡ false → b ≡ n → c ≡ n → ⊥
    no_three b c n e p q = true≢false (sym (and_from (b == n) (c == n) (eq-eqb b n p) (eq-eqb c n q)) ∙ e)

    two_quotes : {C : Type 0} (b : ℕ) → b ≡ 39 → b ≡ 34 → C
    two_quotes b p q = absurd (let k : 39 ≡ 34 = sym p ∙ q in omega (arith, k))

    by : (f : Form) → is_triple f ≡ false → Spelled B (quotes f) a → ((B (a + 1) == quote f) && (B (a + 1 + 1) == quote f)) ≡ false → (g : Form) → Spelled B (quotes g) a → length (quotes g) ≤ length (quotes f)
    by single t s h single r = omega arith
    by single t s h triple_single r = absurd (no_three (B (a + 1)) (B (a + 1 + 1)) 39 h r.1.0 r.1.1.0)
    by single t s h double r = omega arith
    by single t s h triple_double r = two_quotes (B a) s.0 r.0
    by triple_single t s h g r = absurd (true≢false t)
    by double t s h single r = omega arith
    by double t s h triple_single r = two_quotes (B a) r.0 s.0
    by double t s h double r = omega arith
    by double t s h triple_double r = absurd (no_three (B (a + 1)) (B (a + 1 + 1)) 34 h r.1.0 r.1.1.0)
    by triple_double t s h g r = absurd (true≢false t)

-- A text of three quotes opens where they stand.
pub opens_triple : (B : Source) (f : Form) (a : ℕ) → is_triple f ≡ true → Spelled B (quotes f) a → Opens B f a
opens_triple B f a t s = record { stands = s; longest = λ g r. by f g t }
  where
    by : (f g : Form) → is_triple f ≡ true → length (quotes g) ≤ length (quotes f)
    by single g t = absurd (true≢false (sym t))
    by triple_single single t = omega arith
    by triple_single triple_single t = omega arith
    by triple_single double t = omega arith
    by triple_single triple_double t = omega arith
    by double g t = absurd (true≢false (sym t))
    by triple_double single t = omega arith
    by triple_double triple_single t = omega arith
    by triple_double double t = omega arith
    by triple_double triple_double t = omega arith

-- A character of ASCII that stands for itself goes in front of the content behind it.
pub content_char : (B : Source) (f : Form) (c a : ℕ) {ts : List ℕ} {b : ℕ} → c < 128 → is_plain f c ≡ true → (c == quote f) ≡ false → B a ≡ c → Content B f ts (a + 1) b → Content B f (c ∷ ts) a b
content_char B f c a {ts = ts} {b = b} h p q e r = by (encode_utf8 c) (encode_ascii c h) (item_plain c (low_scalar c (omega (arith, h))) p)
  where
    by : (l : List ℕ) → l ≡ c ∷ [] → Item f l l → Content B f (c ∷ ts) a b
    by l d i = content_more (λ s. eqb-false c (quote f) q (sym e ∙ quote_first B f a s)) (subst (λ z. Item f z z) d i) (e, tt) r

-- A character of ASCII at which a comment does not end.
pub passed_char : (B : Source) (Stop : ℕ → Type 0) (c a : ℕ) {b : ℕ} → c < 128 → B a ≡ c → (Stop a → ⊥) → Passed B Stop (a + 1) b → Passed B Stop a b
passed_char B Stop c a {b = b} h e n r = passed_more n (ascii_character B c a h e) (subst (λ l. Passed B Stop (a + length l) b) (sym (encode_ascii c h)) r)
