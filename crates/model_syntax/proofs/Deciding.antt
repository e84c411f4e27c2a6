-- What stands at a place of a script can be told: a text, a character, a token, or none.
use Rattle.std.proofs.Common.{◌≡◌, ℕ, zero, suc, ◌+◌, ◌<◌, ◌≤◌, ◌⊎◌, inl, inr, ⊎_elim, List, [], ◌∷◌, length, refl, sym, ap, subst, ◌∙◌, arith, Bool, true, false, Option, Some, None, ◌==◌, cond, pos}
use Rattle.std.specs.Prelude.{All}
use Rattle.std.specs.Char.{IsScalar, encode_utf8, digit_value}
use Rattle.std.specs.Str.Parse.{IsNumeral, AllDigits, digits_value}
use Rattle.std.proofs.lemmas.Bool.{true≢false, cases_lt, cases_order, eqb-true}
use Rattle.std.proofs.lemmas.List.Elements.{All-cons}
use Rattle.std.proofs.lemmas.Str.{length-encode, len_utf8_bounds}
use Rattle.model_syntax.specs.declared.sign.Sign.{Sign}
use Rattle.model_syntax.specs.declared.word.Word.{Word}
use Rattle.model_syntax.specs.declared.token.TokenKind.{TokenKind}
use Rattle.model_syntax.specs.declared.token.TokenKind.TheVariants as kind
use Rattle.model_syntax.specs.Source.{Source, Spelled, Character, character, NoCharacter, Passed, passed_none, passed_more}
use Rattle.model_syntax.specs.Spelling.{sign_text, word_text, is_letter, is_name_byte, IsName, Spells, spells_sign, spells_word, spells_name, spells_number, Fits}
use Rattle.model_syntax.proofs.SourceLemmas.{end_no_character, spelled_same, window, scalar_low}
use Rattle.model_syntax.proofs.SpellingLemmas.{same, signs, words, sign_of, word_of, sign_of-text, word_of-text, both, FirstIs, first_is, spells_first, is_first}

-- A claim that is told: it holds, or it does not.
abbrev pub Told : Type 0 → Type 0
Told A = A ⊎ (A → ⊥)

pub told_nat : (m n : ℕ) → Told (m ≡ n)
told_nat m n = ⊎_elim (λ e. inl e) (λ k. inr (λ e. ⊎_elim (λ l. omega (arith, l, e)) (λ l. omega (arith, l, e)) k)) (cases_order m n)

pub told_true : (b : Bool) → Told (b ≡ true)
told_true true = inl refl
told_true false = inr (λ e. true≢false (sym e))

pub not_true : (b : Bool) → (b ≡ true → ⊥) → b ≡ false
not_true true f = absurd (f refl)
not_true false f = refl

pub told_and : {A C : Type 0} → Told A → Told C → Told (A × C)
told_and (inl a) (inl c) = inl (a, c)
told_and (inl a) (inr f) = inr (λ p. f p.1)
told_and (inr f) d = inr (λ p. f p.0)

pub told_or : {A C : Type 0} → Told A → Told C → Told (A ⊎ C)
told_or (inl a) d = inl (inl a)
told_or (inr f) (inl c) = inl (inr c)
told_or (inr f) (inr g) = inr (λ e. ⊎_elim f g e)

pub told_spelled : (B : Source) (xs : List ℕ) (a : ℕ) → Told (Spelled B xs a)
told_spelled B [] a = inl tt
told_spelled B (x ∷ xs) a = told_and (told_nat (B a) x) (told_spelled B xs (a + 1))

-- A character stands at a place, or none.
search_character : (B : Source) (a n : ℕ) → ((c : ℕ) × (IsScalar c × Spelled B (encode_utf8 c) a)) ⊎ ((c : ℕ) → c < n → IsScalar c → Spelled B (encode_utf8 c) a → ⊥)
search_character B a zero = inr (λ c h i s. omega (arith, h))
search_character B a (suc n) = ⊎_elim (λ r. inl r) (λ f. by f (told_and (told_true _) (told_spelled B (encode_utf8 n) a))) (search_character B a n)
  where
    by : ((c : ℕ) → c < n → IsScalar c → Spelled B (encode_utf8 c) a → ⊥) → Told (IsScalar n × Spelled B (encode_utf8 n) a) → ((c : ℕ) × (IsScalar c × Spelled B (encode_utf8 c) a)) ⊎ ((c : ℕ) → c < suc n → IsScalar c → Spelled B (encode_utf8 c) a → ⊥)
    by f (inl r) = inl (n, r)
    by f (inr g) = inr (λ c h i s. ⊎_elim (λ e. g (subst IsScalar e i, subst (λ z. Spelled B (encode_utf8 z) a) e s)) (λ k. ⊎_elim (λ l. f c l i s) (λ l. omega (arith, l, h)) k) (cases_order c n))

pub told_character : (B : Source) (a : ℕ) → ((c : ℕ) × (IsScalar c × Spelled B (encode_utf8 c) a)) ⊎ NoCharacter B a
told_character B a = ⊎_elim (λ r. inl r) (λ f. inr (none f)) (search_character B a 1114112)
  where
    by : {c b : ℕ} → ((c : ℕ) → c < 1114112 → IsScalar c → Spelled B (encode_utf8 c) a → ⊥) → Character B c a b → ⊥
    by f (character {c = c} i s) = f c (scalar_low c i) i s

    none : ((c : ℕ) → c < 1114112 → IsScalar c → Spelled B (encode_utf8 c) a → ⊥) → NoCharacter B a
    none f c b ch = by f ch

pub encode-some : (c : ℕ) → 0 < length (encode_utf8 c)
encode-some c = omega (arith, length-encode c, (len_utf8_bounds c).0)

-- Characters go on up to a stop, or to where none stands.
pub record Run (B : Source) (Stop : ℕ → Type 0) (a : ℕ) : Type 0 where
  pub end : ℕ
  pub passed : Passed B Stop a end
  pub stops : Stop end ⊎ NoCharacter B end

pub run : (B : Source) (Stop : ℕ → Type 0) (n k a : ℕ) → ((j : ℕ) → n ≤ j → B j ≡ 256) → ((j : ℕ) → Told (Stop j)) → n ≤ a + k → Run B Stop a
run B Stop n zero a past told h = record { end = a; passed = passed_none; stops = inr (end_no_character B a (past a (omega (arith, h)))) }
run B Stop n (suc k) a past told h = by (λ c. run B Stop n k (a + length (encode_utf8 c)) past told (omega (arith, h, encode-some c))) (told a) (told_character B a)
  where
    on : (c : ℕ) → (Stop a → ⊥) → IsScalar c → Spelled B (encode_utf8 c) a → Run B Stop (a + length (encode_utf8 c)) → Run B Stop a
    on c f i s r = record { end = r.end; passed = passed_more f (character i s) r.passed; stops = r.stops }

    by : ((c : ℕ) → Run B Stop (a + length (encode_utf8 c))) → Told (Stop a) → ((c : ℕ) × (IsScalar c × Spelled B (encode_utf8 c) a)) ⊎ NoCharacter B a → Run B Stop a
    by next (inl e) ch = record { end = a; passed = passed_none; stops = inl e }
    by next (inr f) (inr e) = record { end = a; passed = passed_none; stops = inr e }
    by next (inr f) (inl ch) = on ch.0 f ch.1.0 ch.1.1 (next ch.0)

-- What a list of bytes spells, standing alone.
same-true : (xs ys : List ℕ) → same xs ys ≡ true → xs ≡ ys
unfolding same
same-true [] [] e = refl
same-true [] (y ∷ ys) e = absurd (true≢false (sym e))
same-true (x ∷ xs) [] e = absurd (true≢false (sym e))
same-true (x ∷ xs) (y ∷ ys) e = let k = both (x == y) (same xs ys) e in ap (λ z. z ∷ xs) (eqb-true x y k.0) ∙ ap (λ z. y ∷ z) (same-true xs ys k.1)

sign_of-some : (ss : List Sign) (t : List ℕ) (s : Sign) → sign_of ss t ≡ Some s → sign_text s ≡ t
unfolding sign_of
sign_of-some [] t s e = absurd (let k : None ≡ Some s = e in cc)
sign_of-some (x ∷ ss) t s e = by (sign_of-some ss t s) (same (sign_text x) t) refl
  where
    by : (sign_of ss t ≡ Some s → sign_text s ≡ t) → (b : Bool) → same (sign_text x) t ≡ b → sign_text s ≡ t
    by next true d = let k : Some x ≡ Some s = sym (ap (λ z. cond z (Some x) (sign_of ss t)) d) ∙ e in let l : x ≡ s = cc in ap sign_text (sym l) ∙ same-true (sign_text x) t d
    by next false d = next (sym (ap (λ z. cond z (Some x) (sign_of ss t)) d) ∙ e)

word_of-some : (ws : List Word) (t : List ℕ) (w : Word) → word_of ws t ≡ Some w → word_text w ≡ t
unfolding word_of
word_of-some [] t w e = absurd (let k : None ≡ Some w = e in cc)
word_of-some (x ∷ ws) t w e = by (word_of-some ws t w) (same (word_text x) t) refl
  where
    by : (word_of ws t ≡ Some w → word_text w ≡ t) → (b : Bool) → same (word_text x) t ≡ b → word_text w ≡ t
    by next true d = let k : Some x ≡ Some w = sym (ap (λ z. cond z (Some x) (word_of ws t)) d) ∙ e in let l : x ≡ w = cc in ap word_text (sym l) ∙ same-true (word_text x) t d
    by next false d = next (sym (ap (λ z. cond z (Some x) (word_of ws t)) d) ∙ e)

told_sign : (t : List ℕ) → ((s : Sign) × (sign_text s ≡ t)) ⊎ ((s : Sign) → sign_text s ≡ t → ⊥)
told_sign t = by (sign_of signs t) refl
  where
    by : (o : Option Sign) → sign_of signs t ≡ o → ((s : Sign) × (sign_text s ≡ t)) ⊎ ((s : Sign) → sign_text s ≡ t → ⊥)
    by (Some s) e = inl (s, sign_of-some signs t s e)
    by None e = inr (λ s d. let k : Some s ≡ None = sym (sign_of-text s) ∙ ap (sign_of signs) d ∙ e in cc)

pub told_word : (t : List ℕ) → ((w : Word) × (word_text w ≡ t)) ⊎ ((w : Word) → word_text w ≡ t → ⊥)
told_word t = by (word_of words t) refl
  where
    by : (o : Option Word) → word_of words t ≡ o → ((w : Word) × (word_text w ≡ t)) ⊎ ((w : Word) → word_text w ≡ t → ⊥)
    by (Some w) e = inl (w, word_of-some words t w e)
    by None e = inr (λ w d. let k : Some w ≡ None = sym (word_of-text w) ∙ ap (word_of words) d ∙ e in cc)

told_all : (P : ℕ → Bool) (xs : List ℕ) → Told (All (λ c. P c ≡ true) xs)
told_all P [] = inl (λ k d h. absurd (let c : ⊥ = omega (arith, h) in c))
told_all P (x ∷ xs) = by (told_true (P x)) (told_all P xs)
  where
    by : Told (P x ≡ true) → Told (All (λ c. P c ≡ true) xs) → Told (All (λ c. P c ≡ true) (x ∷ xs))
    by (inl p) (inl q) = inl (All-cons (λ c. P c ≡ true) x xs p q)
    by (inl p) (inr g) = inr (λ h. g (λ k d l. h (suc k) d (omega (arith, l))))
    by (inr f) q = inr (λ h. f (h 0 0 (omega arith)))

told_name : (t : List ℕ) → Told (IsName t)
told_name [] = inr (λ n. n)
told_name (b ∷ bs) = told_and (told_true (is_letter b)) (told_all is_name_byte bs)

pub told_below : (m n : ℕ) → Told (m < n)
told_below m n = ⊎_elim (λ l. inl l) (λ l. inr (λ k. omega (arith, l, k))) (cases_lt m n)

pub told_digits : (r : ℕ) (ds : List ℕ) → Told (AllDigits r ds)
told_digits r [] = inl tt
told_digits r (d ∷ ds) = told_and (told_below (digit_value d) r) (told_digits r ds)

told_number : (t : List ℕ) → Told (IsNumeral 10 t)
told_number t = told_and (told_below 0 (length t)) (told_digits 10 t)

pub told_spells : (t : List ℕ) → ((k : TokenKind) × Spells t k) ⊎ ((k : TokenKind) → Spells t k → ⊥)
told_spells t = by (told_sign t) (told_word t) (told_name t) (told_number t)
  where
    none : {k : TokenKind} {u : List ℕ} → Spells u k → u ≡ t → ((s : Sign) → sign_text s ≡ t → ⊥) → ((w : Word) → word_text w ≡ t → ⊥) → (IsName t → ⊥) → (IsNumeral 10 t → ⊥) → ⊥
    none (spells_sign s) e f g h i = f s e
    none (spells_word w) e f g h i = g w e
    none (spells_name n m) e f g h i = h (subst IsName e n)
    none (spells_number n) e f g h i = i (subst (IsNumeral 10) e n)

    by : ((s : Sign) × (sign_text s ≡ t)) ⊎ ((s : Sign) → sign_text s ≡ t → ⊥) → ((w : Word) × (word_text w ≡ t)) ⊎ ((w : Word) → word_text w ≡ t → ⊥) → Told (IsName t) → Told (IsNumeral 10 t) → ((k : TokenKind) × Spells t k) ⊎ ((k : TokenKind) → Spells t k → ⊥)
    by (inl s) g h i = inl (kind.Sign s.0, subst (λ z. Spells z (kind.Sign s.0)) s.1 (spells_sign s.0))
    by (inr f) (inl w) h i = inl (kind.Word w.0, subst (λ z. Spells z (kind.Word w.0)) w.1 (spells_word w.0))
    by (inr f) (inr g) (inl n) i = inl (kind.Name t, spells_name n (λ w e. g w (sym e)))
    by (inr f) (inr g) (inr h) (inl n) = inl (kind.Int (pos (digits_value 10 t)), spells_number n)
    by (inr f) (inr g) (inr h) (inr i) = inr (λ k s. none s refl f g h i)

pub window-length : (B : Source) (a n : ℕ) → length (window B a n) ≡ n
unfolding window
window-length B a zero = refl
window-length B a (suc n) = ap suc (window-length B (a + 1) n)

pub window-stands : (B : Source) (a n : ℕ) → Spelled B (window B a n) a
unfolding window
window-stands B a zero = tt
window-stands B a (suc n) = (refl, window-stands B (a + 1) n)

-- The token that fits at a place, where one of at most m bytes is the longest; or none.
pub search_token : (B : Source) (a m : ℕ) → ((u : List ℕ) (j : TokenKind) → Spells u j → Spelled B u a → length u ≤ m) → ((t : List ℕ) × ((k : TokenKind) × Fits B t k a)) ⊎ ((t : List ℕ) (k : TokenKind) → Spells t k → Spelled B t a → ⊥)
search_token B a zero h = inr (λ t k p s. empty (spells_first p) (h t k p s))
  where
    empty : {t : List ℕ} → FirstIs is_first t → length t ≤ 0 → ⊥
    empty (first_is b bs p) l = omega (arith, l)
search_token B a (suc m) h = by (λ f. search_token B a m (shorter f)) (told_spells (window B a (suc m)))
  where
    shorter : ((k : TokenKind) → Spells (window B a (suc m)) k → ⊥) → (u : List ℕ) (j : TokenKind) → Spells u j → Spelled B u a → length u ≤ m
    shorter f u j p s = ⊎_elim (λ e. absurd (f j (subst (λ z. Spells z j) (spelled_same B u (window B a (suc m)) a s (window-stands B a (suc m)) (e ∙ sym (window-length B a (suc m)))) p))) (λ k. ⊎_elim (λ l. omega (arith, l)) (λ l. absurd (let c : ⊥ = omega (arith, l, h u j p s) in c)) k) (cases_order (length u) (suc m))

    by : (((k : TokenKind) → Spells (window B a (suc m)) k → ⊥) → ((t : List ℕ) × ((k : TokenKind) × Fits B t k a)) ⊎ ((t : List ℕ) (k : TokenKind) → Spells t k → Spelled B t a → ⊥)) → ((k : TokenKind) × Spells (window B a (suc m)) k) ⊎ ((k : TokenKind) → Spells (window B a (suc m)) k → ⊥) → ((t : List ℕ) × ((k : TokenKind) × Fits B t k a)) ⊎ ((t : List ℕ) (k : TokenKind) → Spells t k → Spelled B t a → ⊥)
    by next (inl p) = inl (window B a (suc m), (p.0, record { spells = p.1; stands = window-stands B a (suc m); longest = λ u j q s. omega (arith, h u j q s, window-length B a (suc m)) }))
    by next (inr f) = next f
