-- What stands at a place is one thing: bytes, a character, characters up to a stop.
use Rattle.std.proofs.Common.{◌≡◌, ℕ, zero, suc, ◌+◌, ◌<◌, ◌≤◌, ◌⊎◌, inl, inr, List, [], ◌∷◌, ◌++◌, length, refl, sym, ap, subst, ◌∙◌, arith, ◌/◌, ltb, ⊎_elim}
use Rattle.std.specs.Prelude.{Bool, true, false, cond}
use Rattle.std.specs.Char.{IsScalar, encode_utf8}
use Rattle.std.proofs.Math.Utf8.{low_scalar, scalar_cases, next}
use Rattle.std.proofs.lemmas.Bool.{ltb-true}
use Rattle.std.proofs.lemmas.Str.{encode_same, encode_ascii}
use Rattle.model_syntax.specs.Source.{Source, Spelled, Character, character, NoCharacter, Passed, passed_none, passed_more}

-- two lists of one length that stand at one place are the same
pub spelled_same : (B : Source) (xs ys : List ℕ) (a : ℕ) → Spelled B xs a → Spelled B ys a → length xs ≡ length ys → xs ≡ ys
spelled_same B [] [] a p q e = refl
spelled_same B [] (y ∷ ys) a p q e = absurd (let k : ⊥ = omega (arith, e) in k)
spelled_same B (x ∷ xs) [] a p q e = absurd (let k : ⊥ = omega (arith, e) in k)
spelled_same B (x ∷ xs) (y ∷ ys) a p q e = let r = spelled_same B xs ys (a + 1) p.1 q.1 (omega (arith, e)) in subst (λ z. x ∷ xs ≡ z ∷ ys) (sym p.0 ∙ q.0) (ap (λ l. x ∷ l) r)

unfoldable pub window : Source → ℕ → ℕ → List ℕ
window B a zero = []
window B a (suc n) = B a ∷ window B (a + 1) n

pub window-spelled : (B : Source) (xs : List ℕ) (a m : ℕ) → Spelled B xs a → window B a (length xs + m) ≡ xs ++ window B (a + length xs) m
unfolding window
window-spelled B [] a m p = let e : 0 + m ≡ m = omega arith in let f : a + 0 ≡ a = omega arith in rw (e, f) refl
window-spelled B (x ∷ xs) a m p =
    let e : suc (length xs) + m ≡ suc (length xs + m) = omega arith in
    let f : a + suc (length xs) ≡ a + 1 + length xs = omega arith in
    rw (e, f) (subst (λ z. B a ∷ window B (a + 1) (length xs + m) ≡ z ∷ (xs ++ window B (a + 1 + length xs) m)) p.0 (ap (λ l. B a ∷ l) (window-spelled B xs (a + 1) m p.1)))

pub same_code : (B : Source) (c d a : ℕ) → Spelled B (encode_utf8 c) a → Spelled B (encode_utf8 d) a → c ≡ d
same_code B c d a p q =
    let n = length (encode_utf8 c) in
    let m = length (encode_utf8 d) in
    let e : n + m ≡ m + n = omega arith in
    (encode_same c d (window B (a + n) m) (window B (a + m) n) (sym (window-spelled B (encode_utf8 c) a m p) ∙ ap (window B a) e ∙ window-spelled B (encode_utf8 d) a n q)).0

pub character_only : {B : Source} {c d a b e : ℕ} → Character B c a b → Character B d a e → (c ≡ d) × (b ≡ e)
character_only {B = B} (character {c = c} {a = a} i p) (character {c = d} j q) = let k = same_code B c d a p q in (k, ap (λ z. a + length (encode_utf8 z)) k)

character-after : {B : Source} {c a b : ℕ} → Character B c a b → a ≤ b
character-after (character i p) = omega arith

-- the first stop, or the first place with no character, is one place
pub passed_only : {B : Source} {S : ℕ → Type 0} {a b c : ℕ} → Passed B S a b → Passed B S a c → S b ⊎ NoCharacter B b → S c ⊎ NoCharacter B c → b ≡ c
passed_only passed_none passed_none p q = refl
passed_only passed_none (passed_more n ch r) (inl s) q = absurd (n s)
passed_only passed_none (passed_more n ch r) (inr nc) q = absurd (nc _ _ ch)
passed_only (passed_more n ch r) passed_none p (inl s) = absurd (n s)
passed_only (passed_more n ch r) passed_none p (inr nc) = absurd (nc _ _ ch)
passed_only {B = B} {S = S} {c = c} (passed_more n ch r) (passed_more n' ch' r') p q =
    let k = character_only ch ch' in
    passed_only r (subst (λ z. Passed B S z c) (sym k.1) r') p q

-- a character of one byte
pub ascii_character : (B : Source) (n a : ℕ) → n < 128 → B a ≡ n → Character B n a (a + length (encode_utf8 n))
ascii_character B n a h e = character (low_scalar n (omega (arith, h))) (subst (λ l. Spelled B l a) (sym (encode_ascii n h)) (e, tt))

first_low : (B : Source) (c a : ℕ) (x y z : Bool) → c < 1114112 → (x ≡ true → c < 128) → (y ≡ true → c < 2048) → (z ≡ true → c < 65536) → Spelled B (cond x (c ∷ []) (cond y ((192 + c / 64) ∷ next c ∷ []) (cond z ((224 + c / 4096) ∷ next (c / 64) ∷ next c ∷ []) ((240 + c / 262144) ∷ next (c / 4096) ∷ next (c / 64) ∷ next c ∷ [])))) a → B a < 245
first_low B c a true y z h i j k p = omega (arith, p.0, i refl)
first_low B c a false true z h i j k p = omega (arith, p.0, j refl)
first_low B c a false false true h i j k p = omega (arith, p.0, k refl)
first_low B c a false false false h i j k p = omega (arith, p.0, h)

pub scalar_low : (c : ℕ) → IsScalar c → c < 1114112
scalar_low c e = ⊎_elim (λ h. omega (arith, h)) (λ h. h.1) (scalar_cases c e)

pub character_low : {B : Source} {c a b : ℕ} → Character B c a b → B a < 245
unfolding encode_utf8
character_low {B = B} (character {c = c} {a = a} i p) = first_low B c a (ltb c 128) (ltb c 2048) (ltb c 65536) (scalar_low c i) (ltb-true c 128) (ltb-true c 2048) (ltb-true c 65536) p

pub high_no_character : (B : Source) (a : ℕ) → 245 ≤ B a → NoCharacter B a
high_no_character B a h c b ch = omega (arith, h, character_low ch)

pub end_no_character : (B : Source) (a : ℕ) → B a ≡ 256 → NoCharacter B a
end_no_character B a e = high_no_character B a (omega (arith, e))

pub passed-after : {B : Source} {S : ℕ → Type 0} {a b : ℕ} → Passed B S a b → a ≤ b
passed-after passed_none = omega arith
passed-after (passed_more n ch r) = omega (arith, character-after ch, passed-after r)
