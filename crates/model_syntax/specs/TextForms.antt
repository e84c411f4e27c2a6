-- The four forms of texts, and their characters. As in Groovy but where a rule is marked as this product's own.
use Rattle.std.specs.Prelude.{◌≡◌, ℕ, ◌+◌, ◌<◌, ◌≤◌, ◌||◌, ◌&&◌, ◌==◌, Bool, true, false, not, if◌then◌else◌, Option, Some, None, List, [], ◌∷◌, ◌++◌, length, codes, encode_utf8}
use Rattle.std.specs.Char.{IsScalar}
use Rattle.std.specs.Str.Parse.{AllDigits, digits_value}
use Rattle.model_syntax.specs.Source.{Source, Spelled, NoCharacter}

-- `'..'`, `'''..'''`, `".."` and `"""..."""`
pub data Form : Type 0 where
  single : Form
  triple_single : Form
  double : Form
  triple_double : Form

-- What opens and closes a text.
abbrev pub quotes : Form → List ℕ
quotes single = codes "'"
quotes triple_single = codes "'''"
quotes double = codes "\""
quotes triple_double = codes "\"\"\""

-- The byte of these quotes.
abbrev pub quote : Form → ℕ
quote single = 39
quote triple_single = 39
quote double = 34
quote triple_double = 34

-- Only these hold newlines and their own quote.
abbrev pub is_triple : Form → Bool
is_triple single = false
is_triple triple_single = true
is_triple double = false
is_triple triple_double = true

-- Only these have expressions.
abbrev pub is_double : Form → Bool
is_double single = false
is_double triple_single = false
is_double double = true
is_double triple_double = true

-- A text of this form opens here: three quotes open a triple text, and never an empty text and another.
pub record Opens (B : Source) (f : Form) (a : ℕ) : Type 0 where
  pub stands : Spelled B (quotes f) a
  pub longest : (g : Form) → Spelled B (quotes g) a → length (quotes g) ≤ length (quotes f)

-- What a backslash and this byte stand for: `\n \t \r \b \f \\ \' \" \$`.
abbrev pub escape : ℕ → Option ℕ
escape b =
    if b == 110 then Some 10 else (if b == 116 then Some 9 else (if b == 114 then Some 13 else
    (if b == 98 then Some 8 else (if b == 102 then Some 12 else (if b == 92 then Some 92 else
    (if b == 39 then Some 39 else (if b == 34 then Some 34 else (if b == 36 then Some 36 else None))))))))

-- A character that stands for itself. Only the triple forms hold newlines and their own quote; a backslash begins an
-- escape, and in the double forms `$` begins an expression.
abbrev pub is_plain : Form → ℕ → Bool
is_plain f c = not (c == 92) && ((is_triple f || not ((c == 10) || (c == quote f))) && not (is_double f && (c == 36)))

-- One character of a text of this form: how it is spelled, and the bytes that it stands for. This product's own: `\u` is an
-- escape of texts alone, has one `u`, and gives no surrogate; octal escapes are none.
pub data Item (f : Form) : List ℕ → List ℕ → Type 0 where
  item_plain : (c : ℕ) → IsScalar c → is_plain f c ≡ true → Item f (encode_utf8 c) (encode_utf8 c)
  item_escape : (b c : ℕ) → escape b ≡ Some c → Item f (92 ∷ b ∷ []) (c ∷ [])
  item_unicode : (h : List ℕ) → length h ≡ 4 → AllDigits 16 h → IsScalar (digits_value 16 h) → Item f (92 ∷ 117 ∷ h) (encode_utf8 (digits_value 16 h))
  item_joined_lines : Item f (92 ∷ 10 ∷ []) []

-- A character of the text stands here, and its closing does not.
pub data GoesOn (B : Source) (f : Form) (a : ℕ) : Type 0 where
  goes_on : {xs t : List ℕ} → Item f xs t → Spelled B xs a → (Spelled B (quotes f) a → ⊥) → GoesOn B f a

-- Characters of a text from one place up to another, with the bytes that they stand for. The first closing ends them.
pub data Content (B : Source) (f : Form) : List ℕ → ℕ → ℕ → Type 0 where
  content_none : {a : ℕ} → Content B f [] a a
  content_more : {xs t ts : List ℕ} {a b : ℕ} → (Spelled B (quotes f) a → ⊥) → Item f xs t → Spelled B xs a → Content B f ts (a + length xs) b → Content B f (t ++ ts) a b

-- At the place `p` an escape, or in the double forms the `$` of an expression, has begun and goes on up to `q`, where it is
-- not over; or nothing has begun, and `q` is `p`.
pub data Begun (B : Source) (f : Form) (p : ℕ) : ℕ → Type 0 where
  begun_nothing : Begun B f p p
  begun_backslash : B p ≡ 92 → Begun B f p (p + 1)
  begun_unicode : (h : List ℕ) → length h < 4 → AllDigits 16 h → Spelled B (92 ∷ 117 ∷ h) p → Begun B f p (p + 2 + length h)
  begun_dollar : is_double f ≡ true → B p ≡ 36 → Begun B f p (p + 1)

-- What has begun there is cut off: where it is not over stands no character.
abbrev pub IsCutOff : Source → Form → ℕ → Type 0
IsCutOff B f p = (q : ℕ) × (Begun B f p q × NoCharacter B q)
