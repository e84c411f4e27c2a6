-- What stands at a place of a text is one thing.
use Rattle.std.proofs.Common.{◌≡◌, ◌≢◌, ℕ, ◌+◌, ◌<◌, ◌⊎◌, inl, inr, ⊎_elim, List, [], ◌∷◌, ◌++◌, length, refl, sym, ap, subst, ◌∙◌, arith, true, false, Option, Some, None, cond}
use Rattle.std.specs.Char.{IsScalar, encode_utf8}
use Rattle.std.specs.Str.Parse.{digits_value}
use Rattle.std.proofs.lemmas.Bool.{true≢false}
use Rattle.std.proofs.lemmas.Str.{encode_ascii}
use Rattle.model_syntax.specs.Source.{Source, Spelled, character, NoCharacter}
use Rattle.model_syntax.specs.TextForms.{Form, single, triple_single, double, triple_double, quotes, quote, is_triple, is_double, Opens, escape, is_plain, Item, item_plain, item_escape, item_unicode, item_joined_lines, GoesOn, goes_on, Content, content_none, content_more}
use Rattle.model_syntax.proofs.SourceLemmas.{spelled_same, same_code, ascii_character}
use Rattle.model_syntax.proofs.SpellingLemmas.{same}

forms : List Form
forms = single ∷ triple_single ∷ double ∷ triple_double ∷ []

form_of : List Form → List ℕ → Option Form
form_of [] t = None
form_of (f ∷ fs) t = cond (same (quotes f) t) (Some f) (form_of fs t)

form_of-quotes : (f : Form) → form_of forms (quotes f) ≡ Some f
unfolding same forms form_of
form_of-quotes single = refl
form_of-quotes triple_single = refl
form_of-quotes double = refl
form_of-quotes triple_double = refl

form_only : (f g : Form) → quotes f ≡ quotes g → f ≡ g
form_only f g e = let k : Some f ≡ Some g = sym (form_of-quotes f) ∙ ap (form_of forms) e ∙ form_of-quotes g in cc

-- One form of text opens at a place.
pub opens_only : {B : Source} {f g : Form} {a : ℕ} → Opens B f a → Opens B g a → f ≡ g
opens_only {B = B} {f = f} {g = g} {a = a} p q = form_only f g (spelled_same B (quotes f) (quotes g) a p.stands q.stands (omega (arith, p.longest g q.stands, q.longest f p.stands)))

pub quote_first : (B : Source) (f : Form) (a : ℕ) → Spelled B (quotes f) a → B a ≡ quote f
quote_first B single a p = p.0
quote_first B triple_single a p = p.0
quote_first B double a p = p.0
quote_first B triple_double a p = p.0

pub quote_cases : (f : Form) → (quote f ≡ 39) ⊎ (quote f ≡ 34)
quote_cases single = inl refl
quote_cases triple_single = inl refl
quote_cases double = inr refl
quote_cases triple_double = inr refl

-- A character of one byte that stands for itself.
plain_byte : (B : Source) (f : Form) (c n a : ℕ) → is_plain f c ≡ true → Spelled B (encode_utf8 c) a → n < 128 → B a ≡ n → is_plain f n ≡ true
plain_byte B f c n a p s h e = subst (λ z. is_plain f z ≡ true) (same_code B c n a s (subst (λ l. Spelled B l a) (sym (encode_ascii n h)) (e, tt))) p

pub plain_backslash : {C : Type 0} (B : Source) (f : Form) (c a : ℕ) → is_plain f c ≡ true → Spelled B (encode_utf8 c) a → B a ≡ 92 → C
plain_backslash B f c a p s e = absurd (true≢false (sym (plain_byte B f c 92 a p s (omega arith) e)))

-- One character of a text stands at a place.
pub item_only : (B : Source) (a : ℕ) {f : Form} {xs ys t u : List ℕ} → Item f xs t → Spelled B xs a → Item f ys u → Spelled B ys a → (xs ≡ ys) × (t ≡ u)
item_only B a (item_plain c i p) s (item_plain d j q) r = let k = ap encode_utf8 (same_code B c d a s r) in (k, k)
item_only B a {f = f} (item_plain c i p) s (item_escape b d e) r = plain_backslash B f c a p s r.0
item_only B a {f = f} (item_plain c i p) s (item_unicode h n d v) r = plain_backslash B f c a p s r.0
item_only B a {f = f} (item_plain c i p) s item_joined_lines r = plain_backslash B f c a p s r.0
item_only B a {f = f} (item_escape b d e) s (item_plain c i p) r = plain_backslash B f c a p r s.0
item_only B a (item_escape b c e) s (item_escape b' c' e') r =
    let k : b ≡ b' = sym s.1.0 ∙ r.1.0 in
    let l : Some c ≡ Some c' = sym e ∙ ap escape k ∙ e' in
    let m : c ≡ c' = cc in
    (ap (λ z. 92 ∷ z ∷ []) k, ap (λ z. z ∷ []) m)
item_only B a (item_escape b c e) s (item_unicode h n d v) r = let k : Some c ≡ None = sym e ∙ ap escape (sym s.1.0 ∙ r.1.0) in absurd (cc)
item_only B a (item_escape b c e) s item_joined_lines r = let k : Some c ≡ None = sym e ∙ ap escape (sym s.1.0 ∙ r.1.0) in absurd (cc)
item_only B a {f = f} (item_unicode h n d v) s (item_plain c i p) r = plain_backslash B f c a p r s.0
item_only B a (item_unicode h n d v) s (item_escape b c e) r = let k : Some c ≡ None = sym e ∙ ap escape (sym r.1.0 ∙ s.1.0) in absurd (cc)
item_only B a (item_unicode h n d v) s (item_unicode h' n' d' v') r =
    let k : h ≡ h' = spelled_same B h h' (a + 1 + 1) s.1.1 r.1.1 (n ∙ sym n') in
    (ap (λ z. 92 ∷ 117 ∷ z) k, ap (λ z. encode_utf8 (digits_value 16 z)) k)
item_only B a (item_unicode h n d v) s item_joined_lines r = let k : 117 ≡ 10 = sym s.1.0 ∙ r.1.0 in absurd (omega (arith, k))
item_only B a {f = f} item_joined_lines s (item_plain c i p) r = plain_backslash B f c a p r s.0
item_only B a item_joined_lines s (item_escape b c e) r = let k : Some c ≡ None = sym e ∙ ap escape (sym r.1.0 ∙ s.1.0) in absurd (cc)
item_only B a item_joined_lines s (item_unicode h n d v) r = let k : 117 ≡ 10 = sym r.1.0 ∙ s.1.0 in absurd (omega (arith, k))
item_only B a item_joined_lines s item_joined_lines r = (refl, refl)

-- The characters of a text up to where none of it stands.
pub content_only : {B : Source} {f : Form} {t u : List ℕ} {a b c : ℕ} → Content B f t a b → Content B f u a c → (GoesOn B f b → ⊥) → (GoesOn B f c → ⊥) → (t ≡ u) × (b ≡ c)
content_only content_none content_none p q = (refl, refl)
content_only content_none (content_more n i s r) p q = absurd (p (goes_on i s n))
content_only (content_more n i s r) content_none p q = absurd (q (goes_on i s n))
content_only {B = B} {f = f} {a = a} {c = c} (content_more {xs = xs} {t = t} {ts = ts} n i s r) (content_more {xs = ys} {t = u} {ts = us} n' i' s' r') p q =
    let k = item_only B a i s i' s' in
    let m = content_only r (subst (λ z. Content B f us (a + length z) c) (sym k.0) r') p q in
    (ap (λ z. z ++ ts) k.1 ∙ ap (λ z. u ++ z) m.0, m.1)

-- Where a text goes on stands a character that stands for itself, or a backslash.
goes_cases : {B : Source} {f : Form} {a : ℕ} → GoesOn B f a → ((c : ℕ) × (IsScalar c × (is_plain f c ≡ true) × Spelled B (encode_utf8 c) a)) ⊎ (B a ≡ 92)
goes_cases {B = B} {f = f} {a = a} (goes_on i s n) = by i s
  where
    by : {xs t : List ℕ} → Item f xs t → Spelled B xs a → ((c : ℕ) × (IsScalar c × (is_plain f c ≡ true) × Spelled B (encode_utf8 c) a)) ⊎ (B a ≡ 92)
    by (item_plain c j p) s = inl (c, (j, p, s))
    by (item_escape b c e) s = inr s.0
    by (item_unicode h m d v) s = inr s.0
    by item_joined_lines s = inr s.0

-- A text does not go on at a byte of ASCII that stands for something else in it.
pub stops_at : {B : Source} {f : Form} {a : ℕ} (n : ℕ) → n < 128 → n ≢ 92 → is_plain f n ≡ false → B a ≡ n → GoesOn B f a → ⊥
stops_at {B = B} {f = f} {a = a} n h m p e g = ⊎_elim (λ k. true≢false (sym (plain_byte B f k.0 n a k.1.1 k.1.2 h e) ∙ p)) (λ k. m (sym e ∙ k)) (goes_cases g)

-- Nor where no character stands.
pub stops_at_none : {B : Source} {f : Form} {a : ℕ} → NoCharacter B a → GoesOn B f a → ⊥
stops_at_none {B = B} {a = a} n g = ⊎_elim (λ k. n k.0 _ (character k.1.0 k.1.2)) (λ k. n 92 _ (ascii_character B 92 a (omega arith) k)) (goes_cases g)

pub dollar_not_plain : (f : Form) → is_double f ≡ true → is_plain f 36 ≡ false
dollar_not_plain single e = absurd (true≢false (sym e))
dollar_not_plain triple_single e = absurd (true≢false (sym e))
dollar_not_plain double e = refl
dollar_not_plain triple_double e = refl

pub newline_not_plain : (f : Form) → is_triple f ≡ false → is_plain f 10 ≡ false
newline_not_plain single e = refl
newline_not_plain triple_single e = absurd (true≢false e)
newline_not_plain double e = refl
newline_not_plain triple_double e = absurd (true≢false e)

-- A run of characters that is not empty begins where the text goes on.
pub content_goes : {B : Source} {f : Form} {t : List ℕ} {a b : ℕ} → a < b → Content B f t a b → GoesOn B f a
content_goes h content_none = absurd (let k : ⊥ = omega (arith, h) in k)
content_goes h (content_more n i s r) = goes_on i s n
