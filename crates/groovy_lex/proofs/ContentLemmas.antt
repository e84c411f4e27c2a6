-- The characters of a text at a place.
use Rattle.std.proofs.Common.{◌≡◌, ◌≢◌, ℕ, ◌+◌, ◌-◌, ◌<◌, ◌≤◌, ⊎_elim, List, [], ◌∷◌, ◌++◌, length, take, drop, refl, sym, ap, subst, ◌∙◌, arith, Bool, true, false, Some, None, ◌==◌, append_assoc, append-nil, cond, ltb, ◌/◌}
use Rattle.std.specs.Char.{IsScalar, encode_utf8, digit_value}
use Rattle.std.specs.Str.Parse.{AllDigits, digits_value}
use Rattle.std.proofs.Math.Utf8.{next}
use Rattle.std.proofs.lemmas.Bool.{true≢false, ne_eqb, cases_lt, ltb-true}
use Rattle.std.proofs.lemmas.Bool.Decides.{nat_tests}
use Rattle.std.proofs.lemmas.Str.{encode_ascii}
use Rattle.model_syntax.specs.Source.{Source, byte_at, Spelled, Character, character, NoCharacter}
use Rattle.model_syntax.specs.TextForms.{Form, single, triple_single, double, triple_double, quotes, quote, is_triple, is_double, escape, is_plain, Item, item_plain, item_escape, item_unicode, item_joined_lines, GoesOn, goes_on, Content, content_none, content_more, IsCutOff}
use Rattle.model_syntax.proofs.SourceLemmas.{spelled_same, end_no_character}
use Rattle.model_syntax.proofs.TextLemmas.{plain_backslash}
use Rattle.model_syntax.specs.declared.fault.FaultKind.{FaultKind}
use Rattle.model_syntax.specs.declared.fault.FaultKind.TheVariants.{BadEscape}
use Rattle.model_syntax.specs.OpenBrackets.{Open}
use Rattle.model_syntax.specs.Reading.{begins_braces, begins_path, TextFails, fails_at_end, fails_at_newline, fails_at_backslash, fails_at_dollar, fails_too_deep, fails_not_utf8}
use Rattle.model_syntax.proofs.TokenExistence.{AtStop, at_closing, at_expression, at_fault, at_stop}
use Rattle.groovy_lex.specs.Contents.{four, NoItem, TakesTo}
use Rattle.groovy_lex.proofs.SpelledLemmas.{AreBytes, slice, front_spelled, spelled_inside, byte_inside}
use Rattle.groovy_lex.proofs.CharacterLemmas.{encode_bytes}

two_on : (B : Source) (a : ℕ) → B (a + 1 + 1) ≡ B (a + 2)
two_on B a = let e : a + 1 + 1 ≡ a + 2 = omega arith in ap B e

-- Closing quotes.
pub closes_short : (B : Source) (f : Form) (a : ℕ) → is_triple f ≡ false → B a ≡ quote f → Spelled B (quotes f) a
closes_short B single a t e = (e, tt)
closes_short B triple_single a t e = absurd (true≢false t)
closes_short B double a t e = (e, tt)
closes_short B triple_double a t e = absurd (true≢false t)

pub closes_triple : (B : Source) (f : Form) (a : ℕ) → is_triple f ≡ true → B a ≡ quote f → B (a + 1) ≡ quote f → B (a + 2) ≡ quote f → Spelled B (quotes f) a
closes_triple B single a t e g h = absurd (true≢false (sym t))
closes_triple B triple_single a t e g h = (e, (g, (two_on B a ∙ h, tt)))
closes_triple B double a t e g h = absurd (true≢false (sym t))
closes_triple B triple_double a t e g h = (e, (g, (two_on B a ∙ h, tt)))

pub quotes_triple : (B : Source) (f : Form) (a : ℕ) → is_triple f ≡ true → Spelled B (quotes f) a → (B (a + 1) ≡ quote f) × (B (a + 2) ≡ quote f)
quotes_triple B single a t s = absurd (true≢false (sym t))
quotes_triple B triple_single a t s = (s.1.0, sym (two_on B a) ∙ s.1.1.0)
quotes_triple B double a t s = absurd (true≢false (sym t))
quotes_triple B triple_double a t s = (s.1.0, sym (two_on B a) ∙ s.1.1.0)

-- A character above ASCII stands for itself.
high_plain : (f : Form) (n : ℕ) → 128 ≤ n → is_plain f n ≡ true
high_plain f n h = by f (ne_eqb n 92 (λ e. omega (arith, h, e))) (ne_eqb n 10 (λ e. omega (arith, h, e))) (ne_eqb n 39 (λ e. omega (arith, h, e))) (ne_eqb n 34 (λ e. omega (arith, h, e))) (ne_eqb n 36 (λ e. omega (arith, h, e)))
  where
    by : (f : Form) → (n == 92) ≡ false → (n == 10) ≡ false → (n == 39) ≡ false → (n == 34) ≡ false → (n == 36) ≡ false → is_plain f n ≡ true
    by single p q r s t = rw (p, q, r) refl
    by triple_single p q r s t = rw p refl
    by double p q r s t = rw (p, q, s, t) refl
    by triple_double p q r s t = rw (p, t) refl

first_high_by : (B : Source) (c a : ℕ) (x y z : Bool) → 128 ≤ c → (x ≡ true → c < 128) → Spelled B (cond x (c ∷ []) (cond y ((192 + c / 64) ∷ next c ∷ []) (cond z ((224 + c / 4096) ∷ next (c / 64) ∷ next c ∷ []) ((240 + c / 262144) ∷ next (c / 4096) ∷ next (c / 64) ∷ next c ∷ [])))) a → 128 ≤ B a
first_high_by B c a true y z l h p = absurd (let k : ⊥ = omega (arith, h refl, l) in k)
first_high_by B c a false true z l h p = omega (arith, p.0)
first_high_by B c a false false true l h p = omega (arith, p.0)
first_high_by B c a false false false l h p = omega (arith, p.0)

first_high : (B : Source) (c a : ℕ) → 128 ≤ c → Spelled B (encode_utf8 c) a → 128 ≤ B a
unfolding encode_utf8
first_high B c a l s = first_high_by B c a (ltb c 128) (ltb c 2048) (ltb c 65536) l (ltb-true c 128) s

-- Whether a character stands for itself is told by its first byte.
pub plain_first : (B : Source) (f : Form) (c a : ℕ) → Spelled B (encode_utf8 c) a → is_plain f c ≡ is_plain f (B a)
plain_first B f c a s = ⊎_elim
    (λ l. let k : Spelled B (c ∷ []) a = subst (λ z. Spelled B z a) (encode_ascii c l) s in ap (is_plain f) (sym k.0))
    (λ l. high_plain f c l ∙ sym (high_plain f (B a) (first_high B c a l s))) (cases_lt c 128)

-- No character stands where no byte begins one, and no backslash is.
pub no_plain : (B : Source) (f : Form) (a : ℕ) → B a ≢ 92 → ((c : ℕ) → IsScalar c → is_plain f c ≡ true → Spelled B (encode_utf8 c) a → ⊥) → NoItem B f a
no_plain B f a e n xs t i s = by i s
  where
    by : {xs t : List ℕ} → Item f xs t → Spelled B xs a → ⊥
    by (item_plain c i p) s = n c i p s
    by (item_escape b c p) s = e s.0
    by (item_unicode g m p v) s = e s.0
    by item_joined_lines s = e s.0

pub not_plain : (B : Source) (f : Form) (a : ℕ) → B a ≢ 92 → is_plain f (B a) ≡ false → NoItem B f a
not_plain B f a e p = no_plain B f a e (λ c i q s. true≢false (sym q ∙ plain_first B f c a s ∙ p))

pub no_item : (B : Source) (f : Form) (a : ℕ) → B a ≢ 92 → NoCharacter B a → NoItem B f a
no_item B f a e n = no_plain B f a e (λ c i q s. n c _ (character i s))

-- A character that stands for itself is taken.
pub plain_taken : (bytes : List ℕ) (f : Form) (a e : ℕ) (old : List ℕ) (c : ℕ) → Character (byte_at bytes) c a e → is_plain f (byte_at bytes a) ≡ true → a < e → e ≤ length bytes → TakesTo (byte_at bytes) f a (length bytes) old (old ++ slice bytes a e) e
plain_taken bytes f a e old c ch p l h = by ch l h
  where
    by : {c e : ℕ} → Character (byte_at bytes) c a e → a < e → e ≤ length bytes → TakesTo (byte_at bytes) f a (length bytes) old (old ++ slice bytes a e) e
    by (character {c = c} i s) l h =
        let n : a + length (encode_utf8 c) - a ≡ length (encode_utf8 c) = omega arith in
        let g : slice bytes a (a + length (encode_utf8 c)) ≡ encode_utf8 c = ap (λ z. take z (drop a bytes)) n ∙ front_spelled bytes (encode_utf8 c) a (encode_bytes c i) s in
        record { spelling = encode_utf8 c; meaning = encode_utf8 c; item = item_plain c i (plain_first (byte_at bytes) f c a s ∙ p); stands = s; ends = refl; longer = ap (λ z. old ++ z) g; forward = l; inside = h }

-- Escapes.
pub joined_taken : (bytes : List ℕ) (f : Form) (a : ℕ) (old : List ℕ) → byte_at bytes a ≡ 92 → byte_at bytes (a + 1) ≡ 10 → TakesTo (byte_at bytes) f a (length bytes) old old (a + 2)
joined_taken bytes f a old e n = record { spelling = 92 ∷ 10 ∷ []; meaning = []; item = item_joined_lines; stands = (e, (n, tt)); ends = refl; longer = sym (append-nil old); forward = omega arith; inside = omega (arith, byte_inside bytes (a + 1) (omega (arith, n))) }

escape_low : (b c : ℕ) → escape b ≡ Some c → b < 256
escape_low b c e = grind (arith, nat_tests)

pub escape_taken : (bytes : List ℕ) (f : Form) (a c : ℕ) (old : List ℕ) → byte_at bytes a ≡ 92 → escape (byte_at bytes (a + 1)) ≡ Some c → TakesTo (byte_at bytes) f a (length bytes) old (old ++ c ∷ []) (a + 2)
escape_taken bytes f a c old e n = record { spelling = 92 ∷ byte_at bytes (a + 1) ∷ []; meaning = c ∷ []; item = item_escape (byte_at bytes (a + 1)) c n; stands = (e, (refl, tt)); ends = refl; longer = refl; forward = omega arith; inside = omega (arith, byte_inside bytes (a + 1) (escape_low (byte_at bytes (a + 1)) c n)) }

four_stand : (B : Source) (a : ℕ) → Spelled B (four B a) a
four_stand B a = (refl, (refl, (two_on B a, (let e : a + 1 + 1 + 1 ≡ a + 3 = omega arith in ap B e, tt))))

four_on : (B : Source) (a : ℕ) → Spelled B (four B (a + 2)) (a + 1 + 1)
four_on B a = let e : a + 2 ≡ a + 1 + 1 = omega arith in subst (λ z. Spelled B (four B (a + 2)) z) e (four_stand B (a + 2))

digit_byte : (c : ℕ) → digit_value c < 16 → c < 256
digit_byte c h = grind (arith, nat_tests)

pub unicode_taken : (bytes : List ℕ) (f : Form) (a : ℕ) (old : List ℕ) → byte_at bytes a ≡ 92 → byte_at bytes (a + 1) ≡ 117 → AllDigits 16 (four (byte_at bytes) (a + 2)) → IsScalar (digits_value 16 (four (byte_at bytes) (a + 2))) → TakesTo (byte_at bytes) f a (length bytes) old (old ++ encode_utf8 (digits_value 16 (four (byte_at bytes) (a + 2)))) (a + 6)
unicode_taken bytes f a old e u d i = record { spelling = 92 ∷ 117 ∷ four (byte_at bytes) (a + 2); meaning = _; item = item_unicode (four (byte_at bytes) (a + 2)) refl d i; stands = (e, (u, four_on (byte_at bytes) a)); ends = refl; longer = refl; forward = omega arith; inside = last (byte_inside bytes (a + 2 + 3) (digit_byte (byte_at bytes (a + 2 + 3)) d.1.1.1.0)) }
  where
    last : a + 2 + 3 < length bytes → a + 6 ≤ length bytes
    last h = omega (arith, h)

-- A backslash that begins no escape.
pub no_escape : (B : Source) (f : Form) (a : ℕ) → B a ≡ 92 → escape (B (a + 1)) ≡ None → B (a + 1) ≢ 10 → ((B (a + 1) ≡ 117) × (AllDigits 16 (four B (a + 2)) × IsScalar (digits_value 16 (four B (a + 2)))) → ⊥) → NoItem B f a
no_escape B f a e d l u xs t i s = by i s
  where
    by : {xs t : List ℕ} → Item f xs t → Spelled B xs a → ⊥
    by (item_plain c i p) s = plain_backslash B f c a p s e
    by (item_escape b c p) s = let k : Some c ≡ None = sym p ∙ ap escape (sym s.1.0) ∙ d in cc
    by (item_unicode g n p v) s = let k : g ≡ four B (a + 2) = spelled_same B g (four B (a + 2)) (a + 1 + 1) s.1.1 (four_on B a) n in u (s.1.0, (subst (AllDigits 16) k p, subst (λ z. IsScalar (digits_value 16 z)) k v))
    by item_joined_lines s = l s.1.0

-- One more character behind the content.
pub content_behind : {B : Source} {f : Form} {t xs u : List ℕ} {a b : ℕ} → Content B f t a b → (Spelled B (quotes f) b → ⊥) → Item f xs u → Spelled B xs b → Content B f (t ++ u) a (b + length xs)
content_behind {B = B} {f = f} {xs = xs} {u = u} {b = b} content_none n i s = subst (λ z. Content B f z b (b + length xs)) (append-nil u) (content_more n i s content_none)
content_behind {B = B} {f = f} {xs = xs} {u = v} {a = a} {b = b} (content_more {t = t} {ts = ts} m j r c) n i s = subst (λ z. Content B f z a (b + length xs)) (sym (append_assoc t ts v)) (content_more m j r (content_behind c n i s))

pub stops_by : {B : Source} {f : Form} {a : ℕ} → NoItem B f a → GoesOn B f a → ⊥
stops_by n (goes_on i s m) = n _ _ i s

-- Where a text does not go on, and neither its closing nor anything else of it stands, it is cut off.
pub only_cut_off : (B : Source) (s : List Open) (f : Form) (o p : ℕ) → (GoesOn B f p → ⊥) → (Spelled B (quotes f) p → ⊥) → ((B p ≡ 36) × (is_double f ≡ true) → ⊥) → ((B p ≡ 10) × (is_triple f ≡ false) → ⊥) → (B p ≡ 92 → ⊥) → (IsCutOff B f p → ⊥) → TextFails B s f o p BadEscape p
only_cut_off B s f o p g q d l b n = absurd (by (at_stop B s f o p g))
  where
    fault : {k : FaultKind} {z : ℕ} → TextFails B s f o p k z → ⊥
    fault (fails_at_end {q = r} c e) = n (r, (c, end_no_character B r e))
    fault (fails_not_utf8 {q = r} c u) = n (r, (c, u.1))
    fault (fails_at_newline e t) = l (e, t)
    fault (fails_at_backslash e m c) = b e
    fault (fails_at_dollar e w m i c) = d (e, w)
    fault (fails_too_deep r w i) = d (r.0, w)

    by : AtStop B s f o p → ⊥
    by (at_closing r) = q r
    by (at_expression w (begins_braces r i)) = d (r.0, w)
    by (at_expression w (begins_path e i)) = d (e, w)
    by (at_fault k z r) = fault r

pub content_taken : {B : Source} {f : Form} {t u : List ℕ} {a b n e : ℕ} → Content B f t a b → (Spelled B (quotes f) b → ⊥) → TakesTo B f b n t u e → Content B f u a e
content_taken {B = B} {f = f} {t = t} {u = u} {a = a} {b = b} {e = e} c q k =
    subst (λ z. Content B f z a e) (sym k.longer) (subst (λ z. Content B f (t ++ k.meaning) a z) (sym k.ends) (content_behind c q k.item k.stands))

quotes_bytes : (f : Form) → AreBytes (quotes f)
quotes_bytes single = (omega arith, tt)
quotes_bytes triple_single = (omega arith, (omega arith, (omega arith, tt)))
quotes_bytes double = (omega arith, tt)
quotes_bytes triple_double = (omega arith, (omega arith, (omega arith, tt)))

-- Quotes that stand end within the script.
pub quotes_past : (bytes : List ℕ) (f : Form) (a : ℕ) → a ≤ length bytes → Spelled (byte_at bytes) (quotes f) a → a + length (quotes f) ≤ length bytes
quotes_past bytes f a h s = spelled_inside bytes (quotes f) a h (quotes_bytes f) s
