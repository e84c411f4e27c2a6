-- At every place a token fits or none does, and a text goes on or stops in one of the ways that it can.
use Rattle.std.proofs.Common.{◌≡◌, ℕ, zero, suc, ◌+◌, ◌-◌, ◌<◌, ◌≤◌, ◌⊎◌, inl, inr, ⊎_elim, List, [], ◌∷◌, ◌++◌, length, refl, sym, ap, subst, ◌∙◌, arith, Bool, true, false, Option, Some, None, ◌&&◌, ◌||◌, ◌==◌, not}
use Rattle.std.specs.Char.{IsScalar, encode_utf8, is_ascii_digit}
use Rattle.std.specs.Str.Parse.{AllDigits, digits_value}
use Rattle.std.proofs.lemmas.Bool.{true≢false, cases_lt, cases_order, eqb-true, false_from_ne_true}
use Rattle.std.proofs.lemmas.Str.{encode_ascii}
use Rattle.std.proofs.Math.Utf8.{low_scalar}
use Rattle.model_syntax.specs.declared.fault.FaultKind.{FaultKind}
use Rattle.model_syntax.specs.declared.word.Word.{Word}
use Rattle.model_syntax.specs.declared.token.Token.{Token}
use Rattle.model_syntax.specs.declared.token.TokenKind.{TokenKind}
use Rattle.model_syntax.specs.declared.token.TokenKind.TheVariants as kind
use Rattle.model_syntax.specs.Source.{Source, Spelled, NoCharacter, character}
use Rattle.model_syntax.specs.Spelling.{word_text, is_letter, is_name_byte, Spells, spells_sign, spells_word, spells_name, spells_number, Fits}
use Rattle.model_syntax.specs.TextForms.{Form, single, triple_single, double, triple_double, quotes, quote, is_triple, is_double, escape, is_plain, Item, item_plain, item_escape, item_unicode, item_joined_lines, GoesOn, goes_on, Content, content_none, content_more, Begun, begun_nothing, begun_backslash, begun_unicode, begun_dollar, IsCutOff}
use Rattle.model_syntax.specs.OpenBrackets.{Open, depth}
use Rattle.model_syntax.specs.Reading.{BeginsExpression, begins_braces, begins_path, TextFails, fails_at_end, fails_at_newline, fails_at_backslash, fails_at_dollar, fails_too_deep, fails_not_utf8, Path}
use Rattle.model_syntax.proofs.SourceLemmas.{spelled_same, same_code, end_no_character, window}
use Rattle.model_syntax.proofs.TextLemmas.{plain_backslash, stops_at_none}
use Rattle.model_syntax.proofs.ReadingLemmas.{quote_stops}
use Rattle.model_syntax.proofs.StepLemmas.{ends_before, name_all, word_all, digits_all, sign_short}
use Rattle.model_syntax.proofs.Deciding.{Told, told_nat, told_true, told_and, told_below, told_digits, told_spelled, told_character, told_word, encode-some, search_token, window-length, window-stands}

-- Past its end a script has no bytes.
abbrev pub Ended : Source → ℕ → Type 0
Ended B n = (j : ℕ) → n ≤ j → B j ≡ 256

token_bound : (B : Source) (n a : ℕ) → Ended B n → (u : List ℕ) (j : TokenKind) → Spells u j → Spelled B u a → length u ≤ (n - a) + 2
token_bound B n a past u j (spells_sign s) r = omega (arith, sign_short s)
token_bound B n a past u j (spells_word w) r = omega (arith, ends_before is_name_byte B (word_text w) a (n - a) (word_all w) r (ap is_name_byte (past (a + (n - a)) (omega arith))))
token_bound B n a past u j (spells_name m k) r = omega (arith, ends_before is_name_byte B u a (n - a) (name_all u m) r (ap is_name_byte (past (a + (n - a)) (omega arith))))
token_bound B n a past u j (spells_number m) r = omega (arith, ends_before is_ascii_digit B u a (n - a) (digits_all u m.1) r (ap is_ascii_digit (past (a + (n - a)) (omega arith))))

pub told_token : (B : Source) (n a : ℕ) → Ended B n → ((t : List ℕ) × ((k : TokenKind) × Fits B t k a)) ⊎ ((t : List ℕ) (k : TokenKind) → Spells t k → Spelled B t a → ⊥)
told_token B n a past = search_token B a ((n - a) + 2) (token_bound B n a past)

-- One character of a text stands at a place, or none.
Items : Source → Form → ℕ → Type 0
Items B f a = (xs : List ℕ) × ((t : List ℕ) × (Item f xs t × Spelled B xs a))

NoItem : Source → Form → ℕ → Type 0
NoItem B f a = (xs t : List ℕ) → Item f xs t → Spelled B xs a → ⊥

told_escape : (B : Source) (f : Form) (a : ℕ) → B a ≡ 92 → Items B f a ⊎ NoItem B f a
unfolding Items NoItem
told_escape B f a e = by (escape (B (a + 1))) refl (told_nat (B (a + 1)) 10) (told_and (told_nat (B (a + 1)) 117) (told_and (told_digits 16 h) (told_true _)))
  where
    h : List ℕ
    h = window B (a + 1 + 1) 4

    none : {xs t : List ℕ} → escape (B (a + 1)) ≡ None → (B (a + 1) ≡ 10 → ⊥) → ((B (a + 1) ≡ 117) × (AllDigits 16 h × IsScalar (digits_value 16 h)) → ⊥) → Item f xs t → Spelled B xs a → ⊥
    none d l u (item_plain c i p) s = plain_backslash B f c a p s e
    none d l u (item_escape b c p) s = let k : Some c ≡ None = sym p ∙ ap escape (sym s.1.0) ∙ d in cc
    none d l u (item_unicode g n p v) s = let k : g ≡ h = spelled_same B g h (a + 1 + 1) s.1.1 (window-stands B (a + 1 + 1) 4) (n ∙ sym (window-length B (a + 1 + 1) 4)) in u (s.1.0, (subst (AllDigits 16) k p, subst (λ z. IsScalar (digits_value 16 z)) k v))
    none d l u item_joined_lines s = l s.1.0

    by : (o : Option ℕ) → escape (B (a + 1)) ≡ o → Told (B (a + 1) ≡ 10) → Told ((B (a + 1) ≡ 117) × (AllDigits 16 h × IsScalar (digits_value 16 h))) → Items B f a ⊎ NoItem B f a
    by (Some c) d l u = inl (92 ∷ B (a + 1) ∷ [], (c ∷ [], (item_escape (B (a + 1)) c d, (e, (refl, tt)))))
    by None d (inl l) u = inl (92 ∷ 10 ∷ [], ([], (item_joined_lines, (e, (l, tt)))))
    by None d (inr l) (inl u) = inl (92 ∷ 117 ∷ h, (encode_utf8 (digits_value 16 h), (item_unicode h (window-length B (a + 1 + 1) 4) u.1.0 u.1.1, (e, (u.0, window-stands B (a + 1 + 1) 4)))))
    by None d (inr l) (inr u) = inr (λ xs t i s. none d l u i s)

told_plain : (B : Source) (f : Form) (a : ℕ) → (B a ≡ 92 → ⊥) → Items B f a ⊎ NoItem B f a
unfolding Items NoItem
told_plain B f a e = by (told_character B a)
  where
    none : {xs t : List ℕ} → ((c : ℕ) → IsScalar c → is_plain f c ≡ true → Spelled B (encode_utf8 c) a → ⊥) → Item f xs t → Spelled B xs a → ⊥
    none n (item_plain c i p) s = n c i p s
    none n (item_escape b c p) s = e s.0
    none n (item_unicode g m p v) s = e s.0
    none n item_joined_lines s = e s.0

    on : (c : ℕ) → IsScalar c → Spelled B (encode_utf8 c) a → Told (is_plain f c ≡ true) → Items B f a ⊎ NoItem B f a
    on c i s (inl p) = inl (encode_utf8 c, (encode_utf8 c, (item_plain c i p, s)))
    on c i s (inr n) = inr (λ xs t j r. none (λ d l q u. n (subst (λ z. is_plain f z ≡ true) (same_code B d c a u s) q)) j r)

    by : ((c : ℕ) × (IsScalar c × Spelled B (encode_utf8 c) a)) ⊎ NoCharacter B a → Items B f a ⊎ NoItem B f a
    by (inl ch) = on ch.0 ch.1.0 ch.1.1 (told_true (is_plain f ch.0))
    by (inr n) = inr (λ xs t j r. none (λ c i p s. n c _ (character i s)) j r)

told_item : (B : Source) (f : Form) (a : ℕ) → Items B f a ⊎ NoItem B f a
told_item B f a = ⊎_elim (told_escape B f a) (told_plain B f a) (told_nat (B a) 92)

told_goes : (B : Source) (f : Form) (a : ℕ) → Told (GoesOn B f a)
unfolding Items NoItem
told_goes B f a = by (told_item B f a) (told_spelled B (quotes f) a)
  where
    none : NoItem B f a → GoesOn B f a → ⊥
    none n (goes_on {xs = xs} {t = t} i s c) = n xs t i s

    by : Items B f a ⊎ NoItem B f a → Told (Spelled B (quotes f) a) → Told (GoesOn B f a)
    by i (inl s) = inr (quote_stops s)
    by (inl i) (inr n) = inl (goes_on i.1.1.0 i.1.1.1 n)
    by (inr n) (inr m) = inr (none n)

item_some : {f : Form} {xs t : List ℕ} → Item f xs t → 0 < length xs
item_some (item_plain c i p) = encode-some c
item_some (item_escape b c p) = omega arith
item_some (item_unicode h n d v) = omega arith
item_some item_joined_lines = omega arith

-- The characters of a text from a place on.
pub record Filled (B : Source) (f : Form) (a : ℕ) : Type 0 where
  pub held : List ℕ
  pub end : ℕ
  pub content : Content B f held a end
  pub stops : GoesOn B f end → ⊥
  pub after : a ≤ end

pub fill : (B : Source) (f : Form) (n k a : ℕ) → Ended B n → n ≤ a + k → Filled B f a
fill B f n zero a past h = record { held = []; end = a; content = content_none; stops = stops_at_none (end_no_character B a (past a (omega (arith, h)))); after = omega arith }
fill B f n (suc k) a past h = by (λ m l. fill B f n k m past (omega (arith, h, l))) (told_goes B f a)
  where
    on : ((m : ℕ) → a < m → Filled B f m) → GoesOn B f a → Filled B f a
    on next (goes_on {xs = xs} {t = t} i s c) = let r = next (a + length xs) (omega (arith, item_some i)) in record { held = t ++ r.held; end = r.end; content = content_more c i s r.content; stops = r.stops; after = omega (arith, r.after) }

    by : ((m : ℕ) → a < m → Filled B f m) → Told (GoesOn B f a) → Filled B f a
    by next (inl g) = on next g
    by next (inr g) = record { held = []; end = a; content = content_none; stops = g; after = omega arith }

-- What stands where a text does not go on: its closing, an expression, or a fault.
pub data AtStop (B : Source) (s : List Open) (f : Form) (o p : ℕ) : Type 0 where
  at_closing : Spelled B (quotes f) p → AtStop B s f o p
  at_expression : is_double f ≡ true → BeginsExpression B s p → AtStop B s f o p
  at_fault : (k : FaultKind) (q : ℕ) → TextFails B s f o p k q → AtStop B s f o p

plain_of : (t d x y z w : Bool) → x ≡ false → (t ≡ true) ⊎ ((y ≡ false) × (z ≡ false)) → (d ≡ false) ⊎ (w ≡ false) → (not x && ((t || not (y || z)) && not (d && w))) ≡ true
plain_of t d true y z w p q r = absurd (true≢false p)
plain_of true false false y z w p q r = refl
plain_of true true false y z false p q r = refl
plain_of true true false y z true p q r = absurd (⊎_elim (λ e. true≢false e) (λ e. true≢false e) r)
plain_of false d false true z w p q r = absurd (⊎_elim (λ e. true≢false (sym e)) (λ e. true≢false e.0) q)
plain_of false d false false true w p q r = absurd (⊎_elim (λ e. true≢false (sym e)) (λ e. true≢false e.1) q)
plain_of false false false false false w p q r = refl
plain_of false true false false false false p q r = refl
plain_of false true false false false true p q r = absurd (⊎_elim (λ e. true≢false e) (λ e. true≢false e) r)

not_equal : (m n : ℕ) → (m ≡ n → ⊥) → (m == n) ≡ false
not_equal m n f = false_from_ne_true (m == n) (λ e. f (eqb-true m n e))

goes_plain : (B : Source) (f : Form) (c p : ℕ) → IsScalar c → Spelled B (encode_utf8 c) p → is_plain f c ≡ true → (Spelled B (quotes f) p → ⊥) → GoesOn B f p
goes_plain B f c p i s q n = goes_on (item_plain c i q) s n

goes_ascii : (B : Source) (f : Form) (c p : ℕ) → c < 128 → B p ≡ c → is_plain f c ≡ true → (Spelled B (quotes f) p → ⊥) → GoesOn B f p
goes_ascii B f c p h e q n = goes_plain B f c p (low_scalar c (omega (arith, h))) (subst (λ l. Spelled B l p) (sym (encode_ascii c h)) (e, tt)) q n

first_of : (B : Source) (c m p : ℕ) → m < 128 → Spelled B (encode_utf8 c) p → c ≡ m → B p ≡ m
first_of B c m p h s e = (subst (λ l. Spelled B l p) (encode_ascii m h) (subst (λ z. Spelled B (encode_utf8 z) p) e s)).0

newline_plain : (f : Form) → is_triple f ≡ true → is_plain f 10 ≡ true
newline_plain single e = absurd (true≢false (sym e))
newline_plain triple_single e = refl
newline_plain double e = absurd (true≢false (sym e))
newline_plain triple_double e = refl

dollar_plain : (f : Form) → is_double f ≡ false → is_plain f 36 ≡ true
dollar_plain single e = refl
dollar_plain triple_single e = refl
dollar_plain double e = absurd (true≢false e)
dollar_plain triple_double e = absurd (true≢false e)

quote_closes : (B : Source) (f : Form) (p : ℕ) → is_triple f ≡ false → B p ≡ quote f → Spelled B (quotes f) p
quote_closes B single p t e = (e, tt)
quote_closes B triple_single p t e = absurd (true≢false t)
quote_closes B double p t e = (e, tt)
quote_closes B triple_double p t e = absurd (true≢false t)

quote_low : (f : Form) → quote f < 128
quote_low single = omega arith
quote_low triple_single = omega arith
quote_low double = omega arith
quote_low triple_double = omega arith

pub told_bool : (b : Bool) → (b ≡ true) ⊎ (b ≡ false)
told_bool true = inl refl
told_bool false = inr refl

-- What has begun at a place may be cut off.
told_none : (B : Source) (a : ℕ) → Told (NoCharacter B a)
told_none B a = ⊎_elim (λ ch. inr (λ n. n ch.0 _ (character ch.1.0 ch.1.1))) (λ n. inl n) (told_character B a)

told_begun : (B : Source) (f : Form) (p q : ℕ) → Told (Begun B f p q)
told_begun B f p q = by (told_nat p q) (told_nat (p + 1) q) (told_nat (B p) 92) (told_and (told_true (is_double f)) (told_nat (B p) 36)) (told_nat (p + 2 + length h) q) (told_and (told_below (length h) 4) (told_and (told_digits 16 h) (told_spelled B (92 ∷ 117 ∷ h) p)))
  where
    h : List ℕ
    h = window B (p + 1 + 1) (q - (p + 2))

    Unicode : List ℕ → Type 0
    Unicode g = (length g < 4) × (AllDigits 16 g × Spelled B (92 ∷ 117 ∷ g) p)

    same_digits : (g : List ℕ) → p + 2 + length g ≡ q → Spelled B g (p + 1 + 1) → g ≡ h
    same_digits g e s = spelled_same B g h (p + 1 + 1) s (window-stands B (p + 1 + 1) (q - (p + 2))) (omega (arith, e, window-length B (p + 1 + 1) (q - (p + 2))))

    none : {r : ℕ} → (p ≡ q → ⊥) → (p + 1 ≡ q → ⊥) ⊎ ((B p ≡ 92 → ⊥) × ((is_double f ≡ true) × (B p ≡ 36) → ⊥)) → (p + 2 + length h ≡ q → ⊥) ⊎ (Unicode h → ⊥) → Begun B f p r → r ≡ q → ⊥
    none n m u begun_nothing e = n e
    none n m u (begun_backslash b) e = ⊎_elim (λ k. k e) (λ k. k.0 b) m
    none n m u (begun_dollar d b) e = ⊎_elim (λ k. k e) (λ k. k.1 (d, b)) m
    none n m u (begun_unicode g l d s) e = let i = same_digits g e s.1.1 in ⊎_elim (λ k. k (subst (λ z. p + 2 + length z ≡ q) i e)) (λ k. k (subst Unicode i (l, (d, s)))) u

    at : {r : ℕ} → r ≡ q → Begun B f p r → Told (Begun B f p q)
    at e b = inl (subst (Begun B f p) e b)

    by : Told (p ≡ q) → Told (p + 1 ≡ q) → Told (B p ≡ 92) → Told ((is_double f ≡ true) × (B p ≡ 36)) → Told (p + 2 + length h ≡ q) → Told (Unicode h) → Told (Begun B f p q)
    by (inl e) m b d l u = at e begun_nothing
    by (inr n) (inl e) (inl b) d l u = at e (begun_backslash b)
    by (inr n) (inl e) (inr b) (inl d) l u = at e (begun_dollar d.0 d.1)
    by (inr n) m b d (inl e) (inl u) = at e (begun_unicode h u.0 u.1.0 u.1.1)
    by (inr n) (inr m) b d (inr l) u = inr (λ g. none n (inl m) (inl l) g refl)
    by (inr n) (inr m) b d (inl e) (inr u) = inr (λ g. none n (inl m) (inr u) g refl)
    by (inr n) (inl e) (inr b) (inr d) (inr l) u = inr (λ g. none n (inr (b, d)) (inl l) g refl)
    by (inr n) (inl e) (inr b) (inr d) (inl k) (inr u) = inr (λ g. none n (inr (b, d)) (inr u) g refl)

begun_near : {B : Source} {f : Form} {p q : ℕ} → Begun B f p q → q < p + 6
begun_near begun_nothing = omega arith
begun_near (begun_backslash b) = omega arith
begun_near (begun_unicode h l d s) = omega (arith, l)
begun_near (begun_dollar d b) = omega arith

told_cut_off : (B : Source) (f : Form) (p : ℕ) → Told (IsCutOff B f p)
told_cut_off B f p = ⊎_elim (λ c. inl c) (λ n. inr (λ c. n c.0 (begun_near c.1.0) c.1)) (search (p + 6))
  where
    Cut : ℕ → Type 0
    Cut q = Begun B f p q × NoCharacter B q

    search : (n : ℕ) → IsCutOff B f p ⊎ ((q : ℕ) → q < n → Cut q → ⊥)
    search zero = inr (λ q l c. omega (arith, l))
    search (suc n) = ⊎_elim (λ c. inl c) (λ g. by g (told_and (told_begun B f p n) (told_none B n))) (search n)
      where
        by : ((q : ℕ) → q < n → Cut q → ⊥) → Told (Cut n) → IsCutOff B f p ⊎ ((q : ℕ) → q < suc n → Cut q → ⊥)
        by g (inl c) = inl (n, c)
        by g (inr m) = inr (λ q l c. ⊎_elim (λ e. m (subst Cut e c)) (λ k. ⊎_elim (λ i. g q i c) (λ i. omega (arith, i, l)) k) (cases_order q n))

at_cut_off : (B : Source) (s : List Open) (f : Form) (o p : ℕ) → IsCutOff B f p → AtStop B s f o p
at_cut_off B s f o p c = ⊎_elim (λ e. at_fault _ _ (fails_at_end c.1.0 e)) (λ n. at_fault _ _ (fails_not_utf8 c.1.0 (n, c.1.1))) (told_nat (B c.0) 256)

at_dollar : (B : Source) (s : List Open) (f : Form) (o p : ℕ) → B p ≡ 36 → is_double f ≡ true → AtStop B s f o p
at_dollar B s f o p e d = by (told_nat (B (p + 1)) 123) (told_below (depth s) 128) (told_bool (is_letter (B (p + 1)))) (told_cut_off B f p)
  where
    by : Told (B (p + 1) ≡ 123) → Told (depth s < 128) → (is_letter (B (p + 1)) ≡ true) ⊎ (is_letter (B (p + 1)) ≡ false) → Told (IsCutOff B f p) → AtStop B s f o p
    by (inl b) (inl l) r u = at_expression d (begins_braces (e, (b, tt)) l)
    by (inl b) (inr l) r u = at_fault _ _ (fails_too_deep (e, (b, tt)) d (⊎_elim (λ k. absurd (l k)) (λ k. k) (cases_lt (depth s) 128)))
    by (inr b) l (inl r) u = at_expression d (begins_path e r)
    by (inr b) l (inr r) (inl c) = at_cut_off B s f o p c
    by (inr b) l (inr r) (inr n) = at_fault _ _ (fails_at_dollar e d b r n)

at_character : (B : Source) (s : List Open) (f : Form) (o p : ℕ) → (GoesOn B f p → ⊥) → (Spelled B (quotes f) p → ⊥) → (B p ≡ 256 → ⊥) → (B p ≡ 92 → ⊥) → (B p ≡ 10 → ⊥) → (B p ≡ 36 → ⊥) → AtStop B s f o p
at_character B s f o p g n end back line dollar = by (told_character B p) (told_bool (is_triple f))
  where
    plain : (c : ℕ) → Spelled B (encode_utf8 c) p → (is_triple f ≡ true) ⊎ (is_triple f ≡ false) → is_plain f c ≡ true
    plain c s t = plain_of (is_triple f) (is_double f) (c == 92) (c == 10) (c == quote f) (c == 36)
        (not_equal c 92 (λ e. back (first_of B c 92 p (omega arith) s e)))
        (⊎_elim (λ e. inl e) (λ e. inr (not_equal c 10 (λ d. line (first_of B c 10 p (omega arith) s d)), not_equal c (quote f) (λ d. n (quote_closes B f p e (first_of B c (quote f) p (quote_low f) s d))))) t)
        (inr (not_equal c 36 (λ e. dollar (first_of B c 36 p (omega arith) s e))))

    by : ((c : ℕ) × (IsScalar c × Spelled B (encode_utf8 c) p)) ⊎ NoCharacter B p → (is_triple f ≡ true) ⊎ (is_triple f ≡ false) → AtStop B s f o p
    by (inl ch) t = absurd (g (goes_plain B f ch.0 p ch.1.0 ch.1.1 (plain ch.0 ch.1.1 t) n))
    by (inr m) t = at_fault _ _ (fails_not_utf8 begun_nothing (end, m))

pub at_stop : (B : Source) (s : List Open) (f : Form) (o p : ℕ) → (GoesOn B f p → ⊥) → AtStop B s f o p
at_stop B s f o p g = by (told_spelled B (quotes f) p) (told_nat (B p) 256) (told_nat (B p) 92) (told_nat (B p) 10) (told_nat (B p) 36) (told_bool (is_triple f)) (told_bool (is_double f))
  where
    by : Told (Spelled B (quotes f) p) → Told (B p ≡ 256) → Told (B p ≡ 92) → Told (B p ≡ 10) → Told (B p ≡ 36) → (is_triple f ≡ true) ⊎ (is_triple f ≡ false) → (is_double f ≡ true) ⊎ (is_double f ≡ false) → AtStop B s f o p
    by (inl c) e b l d t q = at_closing c
    by (inr c) (inl e) b l d t q = at_fault _ _ (fails_at_end begun_nothing e)
    by (inr c) (inr e) (inl b) l d t q = ⊎_elim (λ u. at_cut_off B s f o p u) (λ n. at_fault _ _ (fails_at_backslash b g n)) (told_cut_off B f p)
    by (inr c) (inr e) (inr b) (inl l) d (inl t) q = absurd (g (goes_ascii B f 10 p (omega arith) l (newline_plain f t) c))
    by (inr c) (inr e) (inr b) (inl l) d (inr t) q = at_fault _ _ (fails_at_newline l t)
    by (inr c) (inr e) (inr b) (inr l) (inl d) t (inl q) = at_dollar B s f o p d q
    by (inr c) (inr e) (inr b) (inr l) (inl d) t (inr q) = absurd (g (goes_ascii B f 36 p (omega arith) d (dollar_plain f q) c))
    by (inr c) (inr e) (inr b) (inr l) (inr d) t q = at_character B s f o p g c e b l d

-- Names behind `$`.
pub record Found (B : Source) (a : ℕ) : Type 0 where
  pub tokens : List Token
  pub end : ℕ
  pub path : Path B tokens a end
  pub after : a < end

pub letter_spells : (B : Source) (a : ℕ) → is_letter (B a) ≡ true → ((t : List ℕ) (k : TokenKind) → Spells t k → Spelled B t a → ⊥) → ⊥
letter_spells B a e n = by (told_word (B a ∷ []))
  where
    by : ((w : Word) × (word_text w ≡ B a ∷ [])) ⊎ ((w : Word) → word_text w ≡ B a ∷ [] → ⊥) → ⊥
    by (inl w) = n (B a ∷ []) (kind.Word w.0) (subst (λ z. Spells z (kind.Word w.0)) w.1 (spells_word w.0)) (refl, tt)
    by (inr f) = n (B a ∷ []) (kind.Name (B a ∷ [])) (spells_name (e, λ k d h. absurd (let c : ⊥ = omega (arith, h) in c)) (λ w d. f w (sym d))) (refl, tt)
