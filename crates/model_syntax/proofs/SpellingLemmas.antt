-- Two spellings of one text are the same, and what fits at a place is one token.
use Rattle.std.proofs.Common.{◌≡◌, ℕ, ◌<◌, ◌≤◌, List, [], ◌∷◌, refl, sym, ap, subst, ◌∙◌, arith, Bool, true, false, Option, Some, None, ◌&&◌, ◌||◌, ◌==◌, cond, not, pos}
use Rattle.std.specs.Prelude.{codes}
use Rattle.std.specs.Char.{digit_value, is_ascii_digit}
use Rattle.std.specs.Int.{is_in_range}
use Rattle.std.specs.Str.Parse.{IsNumeral, digits_value}
use Rattle.std.proofs.lemmas.Str.Parse.{digit_from_value}
use Rattle.std.proofs.lemmas.Bool.{true≢false, eqb-true, leb-true, le-leb, and_from, or_left, or_right, not-true}
use Rattle.model_syntax.specs.declared.sign.Sign.{Sign}
use Rattle.model_syntax.specs.declared.sign.Sign.TheVariants as sign
use Rattle.model_syntax.specs.declared.word.Word.{Word}
use Rattle.model_syntax.specs.declared.word.Word.TheVariants as word
use Rattle.model_syntax.specs.declared.token.TokenKind.{TokenKind}
use Rattle.model_syntax.specs.declared.token.TokenKind.TheVariants as kind
use Rattle.model_syntax.specs.Source.{Source}
use Rattle.model_syntax.specs.Spelling.{sign_text, word_text, is_letter, is_name_byte, IsName, Spells, spells_sign, spells_word, spells_name, spells_number, Fits}
use Rattle.model_syntax.proofs.SourceLemmas.{spelled_same}

-- the sign, and the word, that a text spells
unfoldable pub same : List ℕ → List ℕ → Bool
same [] [] = true
same [] (y ∷ ys) = false
same (x ∷ xs) [] = false
same (x ∷ xs) (y ∷ ys) = (x == y) && same xs ys

unfoldable pub signs : List Sign
signs = sign.ParenOpen ∷ sign.ParenClose ∷ sign.BracketOpen ∷ sign.BracketClose ∷ sign.BraceOpen ∷ sign.BraceClose ∷ sign.Comma ∷ sign.Semicolon ∷ sign.Colon ∷ sign.Question ∷ sign.Elvis ∷ sign.Dot ∷ sign.SafeDot ∷ sign.Range ∷ sign.Arrow ∷ sign.Assign ∷ sign.PlusAssign ∷ sign.MinusAssign ∷ sign.TimesAssign ∷ sign.ModAssign ∷ sign.Increment ∷ sign.Decrement ∷ sign.Or ∷ sign.And ∷ sign.Equal ∷ sign.NotEqual ∷ sign.Less ∷ sign.LessEqual ∷ sign.Greater ∷ sign.GreaterEqual ∷ sign.Plus ∷ sign.Minus ∷ sign.Times ∷ sign.Mod ∷ sign.Not ∷ []

unfoldable pub words : List Word
words = word.Def ∷ word.Void ∷ word.If ∷ word.Else ∷ word.While ∷ word.For ∷ word.In ∷ word.Return ∷ word.Break ∷ word.Continue ∷ word.Try ∷ word.Catch ∷ word.Finally ∷ word.Throw ∷ word.New ∷ word.True ∷ word.False ∷ word.Null ∷ word.Import ∷ word.Package ∷ word.Class ∷ word.Interface ∷ word.Enum ∷ word.Trait ∷ word.Extends ∷ word.Implements ∷ word.Static ∷ word.Final ∷ word.Switch ∷ word.Case ∷ word.Default ∷ word.Do ∷ word.Assert ∷ word.As ∷ word.InstanceOf ∷ word.This ∷ word.Super ∷ []

unfoldable pub sign_of : List Sign → List ℕ → Option Sign
sign_of [] t = None
sign_of (s ∷ ss) t = cond (same (sign_text s) t) (Some s) (sign_of ss t)

unfoldable pub word_of : List Word → List ℕ → Option Word
word_of [] t = None
word_of (w ∷ ws) t = cond (same (word_text w) t) (Some w) (word_of ws t)

pub sign_of-text : (s : Sign) → sign_of signs (sign_text s) ≡ Some s
unfolding same signs sign_of
sign_of-text sign.ParenOpen = refl
sign_of-text sign.ParenClose = refl
sign_of-text sign.BracketOpen = refl
sign_of-text sign.BracketClose = refl
sign_of-text sign.BraceOpen = refl
sign_of-text sign.BraceClose = refl
sign_of-text sign.Comma = refl
sign_of-text sign.Semicolon = refl
sign_of-text sign.Colon = refl
sign_of-text sign.Question = refl
sign_of-text sign.Elvis = refl
sign_of-text sign.Dot = refl
sign_of-text sign.SafeDot = refl
sign_of-text sign.Range = refl
sign_of-text sign.Arrow = refl
sign_of-text sign.Assign = refl
sign_of-text sign.PlusAssign = refl
sign_of-text sign.MinusAssign = refl
sign_of-text sign.TimesAssign = refl
sign_of-text sign.ModAssign = refl
sign_of-text sign.Increment = refl
sign_of-text sign.Decrement = refl
sign_of-text sign.Or = refl
sign_of-text sign.And = refl
sign_of-text sign.Equal = refl
sign_of-text sign.NotEqual = refl
sign_of-text sign.Less = refl
sign_of-text sign.LessEqual = refl
sign_of-text sign.Greater = refl
sign_of-text sign.GreaterEqual = refl
sign_of-text sign.Plus = refl
sign_of-text sign.Minus = refl
sign_of-text sign.Times = refl
sign_of-text sign.Mod = refl
sign_of-text sign.Not = refl

pub word_of-text : (w : Word) → word_of words (word_text w) ≡ Some w
unfolding same words word_of
word_of-text word.Def = refl
word_of-text word.Void = refl
word_of-text word.If = refl
word_of-text word.Else = refl
word_of-text word.While = refl
word_of-text word.For = refl
word_of-text word.In = refl
word_of-text word.Return = refl
word_of-text word.Break = refl
word_of-text word.Continue = refl
word_of-text word.Try = refl
word_of-text word.Catch = refl
word_of-text word.Finally = refl
word_of-text word.Throw = refl
word_of-text word.New = refl
word_of-text word.True = refl
word_of-text word.False = refl
word_of-text word.Null = refl
word_of-text word.Import = refl
word_of-text word.Package = refl
word_of-text word.Class = refl
word_of-text word.Interface = refl
word_of-text word.Enum = refl
word_of-text word.Trait = refl
word_of-text word.Extends = refl
word_of-text word.Implements = refl
word_of-text word.Static = refl
word_of-text word.Final = refl
word_of-text word.Switch = refl
word_of-text word.Case = refl
word_of-text word.Default = refl
word_of-text word.Do = refl
word_of-text word.Assert = refl
word_of-text word.As = refl
word_of-text word.InstanceOf = refl
word_of-text word.This = refl
word_of-text word.Super = refl

pub sign_only : (s x : Sign) → sign_text s ≡ sign_text x → s ≡ x
sign_only s x e = let k : Some s ≡ Some x = sym (sign_of-text s) ∙ ap (sign_of signs) e ∙ sign_of-text x in cc

pub word_only : (w x : Word) → word_text w ≡ word_text x → w ≡ x
word_only w x e = let k : Some w ≡ Some x = sym (word_of-text w) ∙ ap (word_of words) e ∙ word_of-text x in cc

-- the byte is one of these
unfoldable pub member : ℕ → List ℕ → Bool
member b [] = false
member b (x ∷ xs) = (b == x) || member b xs

unfoldable pub all_false : (ℕ → Bool) → List ℕ → Bool
all_false P [] = true
all_false P (x ∷ xs) = not (P x) && all_false P xs

pub both : (x y : Bool) → (x && y) ≡ true → (x ≡ true) × (y ≡ true)
both true y e = (refl, e)
both false y e = absurd (cc)

pub either : {C : Type 0} → (x y : Bool) → (x ≡ true → C) → (y ≡ true → C) → (x || y) ≡ true → C
either true y f g e = f refl
either false y f g e = g e

pub none_of : (P : ℕ → Bool) (b : ℕ) (xs : List ℕ) → all_false P xs ≡ true → P b ≡ true → member b xs ≡ true → ⊥
unfolding all_false member
none_of P b [] h p e = true≢false (sym e)
none_of P b (x ∷ xs) h p e =
    let k = both (not (P x)) (all_false P xs) h in
    either (b == x) (member b xs) (λ i. true≢false (sym p ∙ ap P (eqb-true b x i) ∙ not-true (P x) k.0)) (none_of P b xs k.1 p) e

-- the bytes with which signs begin
unfoldable pub sign_bytes : List ℕ
sign_bytes = codes "()[]{},;:?.-=+*%|&!<>"

unfoldable pub is_sign_byte : ℕ → Bool
is_sign_byte b = member b sign_bytes

-- the bytes with which names, words, numbers and signs begin
unfoldable pub is_first : ℕ → Bool
is_first b = is_name_byte b || is_sign_byte b

pub data FirstIs (P : ℕ → Bool) : List ℕ → Type 0 where
  first_is : (b : ℕ) (bs : List ℕ) → P b ≡ true → FirstIs P (b ∷ bs)

pub sign_first : (s : Sign) → FirstIs is_sign_byte (sign_text s)
unfolding is_sign_byte member sign_bytes
sign_first sign.ParenOpen = first_is _ _ refl
sign_first sign.ParenClose = first_is _ _ refl
sign_first sign.BracketOpen = first_is _ _ refl
sign_first sign.BracketClose = first_is _ _ refl
sign_first sign.BraceOpen = first_is _ _ refl
sign_first sign.BraceClose = first_is _ _ refl
sign_first sign.Comma = first_is _ _ refl
sign_first sign.Semicolon = first_is _ _ refl
sign_first sign.Colon = first_is _ _ refl
sign_first sign.Question = first_is _ _ refl
sign_first sign.Elvis = first_is _ _ refl
sign_first sign.Dot = first_is _ _ refl
sign_first sign.SafeDot = first_is _ _ refl
sign_first sign.Range = first_is _ _ refl
sign_first sign.Arrow = first_is _ _ refl
sign_first sign.Assign = first_is _ _ refl
sign_first sign.PlusAssign = first_is _ _ refl
sign_first sign.MinusAssign = first_is _ _ refl
sign_first sign.TimesAssign = first_is _ _ refl
sign_first sign.ModAssign = first_is _ _ refl
sign_first sign.Increment = first_is _ _ refl
sign_first sign.Decrement = first_is _ _ refl
sign_first sign.Or = first_is _ _ refl
sign_first sign.And = first_is _ _ refl
sign_first sign.Equal = first_is _ _ refl
sign_first sign.NotEqual = first_is _ _ refl
sign_first sign.Less = first_is _ _ refl
sign_first sign.LessEqual = first_is _ _ refl
sign_first sign.Greater = first_is _ _ refl
sign_first sign.GreaterEqual = first_is _ _ refl
sign_first sign.Plus = first_is _ _ refl
sign_first sign.Minus = first_is _ _ refl
sign_first sign.Times = first_is _ _ refl
sign_first sign.Mod = first_is _ _ refl
sign_first sign.Not = first_is _ _ refl

pub word_first : (w : Word) → FirstIs is_letter (word_text w)
word_first word.Def = first_is _ _ refl
word_first word.Void = first_is _ _ refl
word_first word.If = first_is _ _ refl
word_first word.Else = first_is _ _ refl
word_first word.While = first_is _ _ refl
word_first word.For = first_is _ _ refl
word_first word.In = first_is _ _ refl
word_first word.Return = first_is _ _ refl
word_first word.Break = first_is _ _ refl
word_first word.Continue = first_is _ _ refl
word_first word.Try = first_is _ _ refl
word_first word.Catch = first_is _ _ refl
word_first word.Finally = first_is _ _ refl
word_first word.Throw = first_is _ _ refl
word_first word.New = first_is _ _ refl
word_first word.True = first_is _ _ refl
word_first word.False = first_is _ _ refl
word_first word.Null = first_is _ _ refl
word_first word.Import = first_is _ _ refl
word_first word.Package = first_is _ _ refl
word_first word.Class = first_is _ _ refl
word_first word.Interface = first_is _ _ refl
word_first word.Enum = first_is _ _ refl
word_first word.Trait = first_is _ _ refl
word_first word.Extends = first_is _ _ refl
word_first word.Implements = first_is _ _ refl
word_first word.Static = first_is _ _ refl
word_first word.Final = first_is _ _ refl
word_first word.Switch = first_is _ _ refl
word_first word.Case = first_is _ _ refl
word_first word.Default = first_is _ _ refl
word_first word.Do = first_is _ _ refl
word_first word.Assert = first_is _ _ refl
word_first word.As = first_is _ _ refl
word_first word.InstanceOf = first_is _ _ refl
word_first word.This = first_is _ _ refl
word_first word.Super = first_is _ _ refl

pub name_first : (t : List ℕ) → IsName t → FirstIs is_letter t
name_first [] n = absurd n
name_first (b ∷ bs) n = first_is b bs n.0

-- a digit's value is below 10, and no other's
pub digit-value : (b : ℕ) → digit_value b < 10 → is_ascii_digit b ≡ true
digit-value b h = let k = digit_from_value b h in and_from _ _ (le-leb 48 b k.0) (le-leb b 57 k.1)

pub number_first : (t : List ℕ) → IsNumeral 10 t → FirstIs is_ascii_digit t
number_first [] n = absurd (let k : ⊥ = omega (arith, n.0) in k)
number_first (b ∷ bs) n = first_is b bs (digit-value b n.1.0)

apart : {P Q : ℕ → Bool} {t : List ℕ} → ((b : ℕ) → P b ≡ true → Q b ≡ true → ⊥) → FirstIs P t → FirstIs Q t → ⊥
apart f (first_is b bs p) (first_is c cs q) = f b p q

weaker : {P Q : ℕ → Bool} {t : List ℕ} → ((b : ℕ) → P b ≡ true → Q b ≡ true) → FirstIs P t → FirstIs Q t
weaker f (first_is b bs p) = first_is b bs (f b p)

pub letter_sign : (b : ℕ) → is_letter b ≡ true → is_sign_byte b ≡ true → ⊥
unfolding is_sign_byte sign_bytes all_false
letter_sign b p q = none_of is_letter b sign_bytes refl p q

pub digit_sign : (b : ℕ) → is_ascii_digit b ≡ true → is_sign_byte b ≡ true → ⊥
unfolding is_sign_byte sign_bytes all_false
digit_sign b p q = none_of is_ascii_digit b sign_bytes refl p q

pub in_range : (lo hi b : ℕ) → is_in_range lo hi b ≡ true → (lo ≤ b) × (b ≤ hi)
in_range lo hi b e = let k = both _ _ e in (leb-true lo b k.0, leb-true b hi k.1)

pub letter_digit : (b : ℕ) → is_letter b ≡ true → is_ascii_digit b ≡ true → ⊥
letter_digit b p q =
    let d = in_range 48 57 b q in
    either _ _
    (λ l. either _ _ (λ k. let r = in_range 65 90 b k in omega (arith, d.1, r.0)) (λ k. let r = in_range 97 122 b k in omega (arith, d.1, r.0)) l)
    (λ k. let r = eqb-true b 95 k in omega (arith, d.1, r)) p

-- Each token's text begins with one of these bytes.
pub spells_first : {t : List ℕ} {k : TokenKind} → Spells t k → FirstIs is_first t
unfolding is_first
spells_first (spells_sign s) = weaker (λ b p. or_right (is_name_byte b) (is_sign_byte b) p) (sign_first s)
spells_first (spells_word w) = weaker (λ b p. or_left _ (is_sign_byte b) (or_left _ (is_ascii_digit b) p)) (word_first w)
spells_first {t = t} (spells_name n m) = weaker (λ b p. or_left _ (is_sign_byte b) (or_left _ (is_ascii_digit b) p)) (name_first t n)
spells_first {t = t} (spells_number n) = weaker (λ b p. or_left _ (is_sign_byte b) (or_right (is_letter b) _ p)) (number_first t n)

same_text : {t u : List ℕ} {k j : TokenKind} → Spells t k → Spells u j → t ≡ u → k ≡ j
same_text (spells_sign s) (spells_sign x) e = ap kind.Sign (sign_only s x e)
same_text (spells_sign s) (spells_word w) e = absurd (apart (λ b p q. letter_sign b q p) (subst (FirstIs is_sign_byte) e (sign_first s)) (word_first w))
same_text {u = u} (spells_sign s) (spells_name n m) e = absurd (apart (λ b p q. letter_sign b q p) (subst (FirstIs is_sign_byte) e (sign_first s)) (name_first u n))
same_text {u = u} (spells_sign s) (spells_number n) e = absurd (apart (λ b p q. digit_sign b q p) (subst (FirstIs is_sign_byte) e (sign_first s)) (number_first u n))
same_text (spells_word w) (spells_sign s) e = absurd (apart letter_sign (subst (FirstIs is_letter) e (word_first w)) (sign_first s))
same_text (spells_word w) (spells_word x) e = ap kind.Word (word_only w x e)
same_text (spells_word w) (spells_name n m) e = absurd (m w (sym e))
same_text {u = u} (spells_word w) (spells_number n) e = absurd (apart letter_digit (subst (FirstIs is_letter) e (word_first w)) (number_first u n))
same_text {t = t} (spells_name n m) (spells_sign s) e = absurd (apart letter_sign (subst (FirstIs is_letter) e (name_first t n)) (sign_first s))
same_text (spells_name n m) (spells_word w) e = absurd (m w e)
same_text (spells_name n m) (spells_name n' m') e = ap kind.Name e
same_text {t = t} {u = u} (spells_name n m) (spells_number n') e = absurd (apart letter_digit (subst (FirstIs is_letter) e (name_first t n)) (number_first u n'))
same_text {t = t} (spells_number n) (spells_sign s) e = absurd (apart digit_sign (subst (FirstIs is_ascii_digit) e (number_first t n)) (sign_first s))
same_text {t = t} (spells_number n) (spells_word w) e = absurd (apart (λ b p q. letter_digit b q p) (subst (FirstIs is_ascii_digit) e (number_first t n)) (word_first w))
same_text {t = t} {u = u} (spells_number n) (spells_name n' m) e = absurd (apart (λ b p q. letter_digit b q p) (subst (FirstIs is_ascii_digit) e (number_first t n)) (name_first u n'))
same_text (spells_number n) (spells_number n') e = ap (λ l. kind.Int (pos (digits_value 10 l))) e

-- A text spells one token.
pub spells_only : {t : List ℕ} {k j : TokenKind} → Spells t k → Spells t j → k ≡ j
spells_only p q = same_text p q refl

-- One token fits at a place.
pub fits_only : {B : Source} {t u : List ℕ} {k j : TokenKind} {a : ℕ} → Fits B t k a → Fits B u j a → (t ≡ u) × (k ≡ j)
fits_only {B = B} {t = t} {u = u} {a = a} p q =
    let e = spelled_same B t u a p.stands q.stands (omega (arith, p.longest _ _ q.spells q.stands, q.longest _ _ p.spells p.stands)) in
    (e, same_text p.spells q.spells e)
