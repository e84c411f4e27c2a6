-- A character of a script, and its bytes as UTF-8.
use Rattle.std.proofs.Common.{◌≡◌, ℕ, ◌+◌, ◌<◌, ◌≤◌, List, [], ◌∷◌, length, take, drop, refl, sym, ap, subst, ◌∙◌, arith, ⊎_elim, Bool, true, false, cond, ltb, ◌/◌, append-nil, length-drop, length-append}
use Rattle.std.specs.Char.{IsScalar, encode_utf8}
use Rattle.std.specs.Str.{IsUtf8}
use Rattle.std.proofs.Math.Utf8.{scalars, encodes, next}
use Rattle.std.proofs.Math.Seq.{take-append_seam}
use Rattle.std.proofs.lemmas.List.{take-take, length-take-le}
use Rattle.std.proofs.lemmas.Bool.{cases_lt, ltb-true}
use Rattle.std.proofs.lemmas.Str.{length-encode, len_utf8_bounds, encode_ascii}
use Rattle.model_syntax.specs.Source.{Source, byte_at, Spelled, Character, character, NoCharacter, Passed, passed_none, passed_more}
use Rattle.model_syntax.proofs.SourceLemmas.{scalar_low, ascii_character}
use Rattle.std.proofs.lemmas.Bool.Decides.{nat_tests}
use Rattle.model_syntax.proofs.SpellingLemmas.{both}
use Rattle.groovy_lex.proofs.SpelledLemmas.{AreBytes, spelled_front, front_spelled, spelled_inside}

encode_bytes_by : (c : ℕ) (x y z : Bool) → c < 1114112 → (x ≡ true → c < 128) → (y ≡ true → c < 2048) → (z ≡ true → c < 65536) → AreBytes (cond x (c ∷ []) (cond y ((192 + c / 64) ∷ next c ∷ []) (cond z ((224 + c / 4096) ∷ next (c / 64) ∷ next c ∷ []) ((240 + c / 262144) ∷ next (c / 4096) ∷ next (c / 64) ∷ next c ∷ []))))
encode_bytes_by c true y z h i j k = (omega (arith, i refl), tt)
encode_bytes_by c false true z h i j k = (omega (arith, j refl), (omega arith, tt))
encode_bytes_by c false false true h i j k = (omega (arith, k refl), (omega arith, (omega arith, tt)))
encode_bytes_by c false false false h i j k = (omega (arith, h), (omega arith, (omega arith, (omega arith, tt))))

pub encode_bytes : (c : ℕ) → IsScalar c → AreBytes (encode_utf8 c)
unfolding encode_utf8
encode_bytes c i = encode_bytes_by c (ltb c 128) (ltb c 2048) (ltb c 65536) (scalar_low c i) (ltb-true c 128) (ltb-true c 2048) (ltb-true c 65536)

-- A character is UTF-8.
one_scalar : (c : ℕ) → IsScalar c → scalars (c ∷ []) ≡ true
one_scalar c i = rw i refl

one_utf8 : (c : ℕ) → IsScalar c → IsUtf8 (encode_utf8 c)
one_utf8 c i = (c ∷ [], (one_scalar c i, append-nil (encode_utf8 c)))

-- A byte of ASCII is one.
pub ascii_at : (B : Source) (a : ℕ) → B a < 128 → (c : ℕ) × Character B c a (a + 1)
ascii_at B a h = (B a, subst (λ l. Character B (B a) a (a + length l)) (encode_ascii (B a) h) (ascii_character B (B a) a h refl))

-- A character behind those that were passed.
pub passed_behind : {B : Source} {S : ℕ → Type 0} {c a b m : ℕ} → Passed B S a b → (S b → ⊥) → Character B c b m → Passed B S a m
passed_behind passed_none n ch = passed_more n ch passed_none
passed_behind (passed_more k ch r) n d = passed_more k ch (passed_behind r n d)

-- It has more than one byte where its first is above ASCII.
more_bytes : (B : Source) (c a : ℕ) → Spelled B (encode_utf8 c) a → 128 ≤ B a → 2 ≤ length (encode_utf8 c)
more_bytes B c a s h = ⊎_elim (λ l. low l) (λ l. omega (arith, length-encode c, wide l)) (cases_lt c 128)
  where
    low : c < 128 → 2 ≤ length (encode_utf8 c)
    low l = let k : Spelled B (c ∷ []) a = subst (λ z. Spelled B z a) (encode_ascii c l) s in absurd (let n : ⊥ = omega (arith, k.0, h, l) in n)

    wide : 128 ≤ c → 2 ≤ length (encode_utf8 c)
    wide l = rw length-encode (grind (arith, nat_tests))

-- Where two to four bytes are not UTF-8 there is no character.
pub no_character : (bytes : List ℕ) (a : ℕ) → a < length bytes → 128 ≤ byte_at bytes a → ((k : ℕ) → 2 ≤ k → k < 5 → a + k ≤ length bytes → IsUtf8 (take k (drop a bytes)) → ⊥) → NoCharacter (byte_at bytes) a
no_character bytes a l h n c b ch = by ch
  where
    by : {c b : ℕ} → Character (byte_at bytes) c a b → ⊥
    by (character {c = c} i s) = n (length (encode_utf8 c)) (more_bytes (byte_at bytes) c a s h) (omega (arith, length-encode c, (len_utf8_bounds c).1)) (spelled_inside bytes (encode_utf8 c) a (omega (arith, l)) (encode_bytes c i) s) (subst IsUtf8 (sym (front_spelled bytes (encode_utf8 c) a (encode_bytes c i) s)) (one_utf8 c i))

-- The fewest bytes from a place on that are UTF-8 are one character.
pub utf8_character : (bytes : List ℕ) (a w : ℕ) → 2 ≤ w → a + w ≤ length bytes → 128 ≤ byte_at bytes a → IsUtf8 (take w (drop a bytes)) → ((k : ℕ) → 2 ≤ k → k < w → a + k ≤ length bytes → IsUtf8 (take k (drop a bytes)) → ⊥) → (c : ℕ) × Character (byte_at bytes) c a (a + w)
utf8_character bytes a w h l g u n = by u.0 u.1.0 u.1.1
  where
    size : length (take w (drop a bytes)) ≡ w
    size = length-take-le w (drop a bytes) (omega (arith, length-drop a bytes, l))

    by : (cs : List ℕ) → scalars cs ≡ true → encodes cs ≡ take w (drop a bytes) → (c : ℕ) × Character (byte_at bytes) c a (a + w)
    by [] i e = absurd (let k : 0 ≡ w = ap length e ∙ size in let z : ⊥ = omega (arith, k, h) in z)
    by (c ∷ cs) i e = first (both _ _ i).0 inside
      where
        inside : length (encode_utf8 c) ≤ w
        inside = omega (arith, length-append (encode_utf8 c) (encodes cs), size, ap length e)

        front : take (length (encode_utf8 c)) (drop a bytes) ≡ encode_utf8 c
        front = sym (take-take (length (encode_utf8 c)) w (drop a bytes) inside) ∙ ap (take (length (encode_utf8 c))) (sym e) ∙ take-append_seam (encode_utf8 c) (encodes cs)

        first : IsScalar c → length (encode_utf8 c) ≤ w → (c : ℕ) × Character (byte_at bytes) c a (a + w)
        first s k = ⊎_elim (λ z. absurd (n (length (encode_utf8 c)) (more_bytes (byte_at bytes) c a (spelled_front bytes (encode_utf8 c) a front) g) z (omega (arith, z, l)) (subst IsUtf8 (sym front) (one_utf8 c s)))) (λ z. let q : length (encode_utf8 c) ≡ w = omega (arith, z, k) in (c, subst (λ m. Character (byte_at bytes) c a (a + m)) q (character s (spelled_front bytes (encode_utf8 c) a front)))) (cases_lt (length (encode_utf8 c)) w)
