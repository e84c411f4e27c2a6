-- What stands at a place of a script, and its bytes as a list.
use Rattle.std.proofs.Common.{◌≡◌, ℕ, suc, ◌+◌, ◌-◌, ◌<◌, ◌≤◌, List, [], ◌∷◌, length, take, drop, get_or, refl, sym, ap, ◌∙◌, arith, ⊎_elim, Bool, true, Fits, w8, length-drop}
use Rattle.std.specs.Prelude.{All}
use Rattle.std.proofs.lemmas.List.{get_or-drop, drop-drop, drop_more, get_or_past, get_or_default, length-take-le}
use Rattle.std.proofs.lemmas.List.Elements.{All-cons}
use Rattle.std.proofs.lemmas.Bool.{cases_lt}
use Rattle.model_syntax.specs.Source.{Source, byte_at, Spelled}

-- The first byte of what is left of the script at a place, and what is left behind it.
rest_first : (bytes : List ℕ) (a y : ℕ) (ys : List ℕ) → drop a bytes ≡ y ∷ ys → byte_at bytes a ≡ y
rest_first bytes a y ys e = let z : a + 0 ≡ a = omega arith in ap (byte_at bytes) (sym z) ∙ sym (get_or-drop a bytes 0 256) ∙ ap (λ l. get_or l 0 256) e

rest_behind : (bytes : List ℕ) (a y : ℕ) (ys : List ℕ) → drop a bytes ≡ y ∷ ys → drop (a + 1) bytes ≡ ys
rest_behind bytes a y ys e = sym (drop-drop 1 a bytes) ∙ ap (drop 1) e

-- The bytes that a slice of the script has stand where it begins.
spelled_by : (bytes xs : List ℕ) (a : ℕ) (l : List ℕ) → drop a bytes ≡ l → take (length xs) l ≡ xs → Spelled (byte_at bytes) xs a
spelled_by bytes [] a l d e = tt
spelled_by bytes (x ∷ xs) a [] d e = let k : [] ≡ x ∷ xs = e in absurd (cc)
spelled_by bytes (x ∷ xs) a (y ∷ ys) d e =
    let k : y ∷ take (length xs) ys ≡ x ∷ xs = e in
    let f : y ≡ x = cc in
    let g : take (length xs) ys ≡ xs = cc in
    (rest_first bytes a y ys d ∙ f, spelled_by bytes xs (a + 1) ys (rest_behind bytes a y ys d) g)

pub spelled_front : (bytes xs : List ℕ) (a : ℕ) → take (length xs) (drop a bytes) ≡ xs → Spelled (byte_at bytes) xs a
spelled_front bytes xs a e = spelled_by bytes xs a (drop a bytes) refl e

-- Bytes below 256.
abbrev pub AreBytes : List ℕ → Type 0
AreBytes [] = Unit {0}
AreBytes (x ∷ xs) = (x < 256) × AreBytes xs

pub byte_inside : (bytes : List ℕ) (a : ℕ) → byte_at bytes a < 256 → a < length bytes
byte_inside bytes a h = ⊎_elim (λ l. l) (λ l. absurd (let e = get_or_past bytes a 256 l in let k : ⊥ = omega (arith, e, h) in k)) (cases_lt a (length bytes))

pub front_spelled : (bytes xs : List ℕ) (a : ℕ) → AreBytes xs → Spelled (byte_at bytes) xs a → take (length xs) (drop a bytes) ≡ xs
front_spelled bytes [] a b s = refl
front_spelled bytes (x ∷ xs) a b s =
    let h : a < length bytes = byte_inside bytes a (omega (arith, s.0, b.0)) in
    ap (take (suc (length xs))) (drop_more bytes a 256 h) ∙ ap (λ z. z ∷ take (length xs) (drop (a + 1) bytes)) s.0 ∙ ap (λ z. x ∷ z) (front_spelled bytes xs (a + 1) b.1 s.1)

pub spelled_inside : (bytes xs : List ℕ) (a : ℕ) → a ≤ length bytes → AreBytes xs → Spelled (byte_at bytes) xs a → a + length xs ≤ length bytes
spelled_inside bytes [] a h b s = omega (arith, h)
spelled_inside bytes (x ∷ xs) a h b s =
    let k : a < length bytes = byte_inside bytes a (omega (arith, s.0, b.0)) in
    omega (arith, spelled_inside bytes xs (a + 1) (omega (arith, k)) b.1 s.1)

-- A script has a byte at each place before its end.
pub no_byte_behind : (bytes : List ℕ) (a : ℕ) → ((i : ℕ) → Fits w8 (get_or bytes i 0)) → a ≤ length bytes → byte_at bytes a ≡ 256 → a ≡ length bytes
no_byte_behind bytes a f h e = ⊎_elim (λ l. absurd (let k = get_or_default bytes a 256 0 l in let b = f a in let z : ⊥ = omega (arith, k, e, b) in z)) (λ l. omega (arith, l, h)) (cases_lt a (length bytes))

-- A slice of a script.
abbrev pub slice : List ℕ → ℕ → ℕ → List ℕ
slice bytes a b = take (b - a) (drop a bytes)

pub slice_length : (bytes : List ℕ) (a b : ℕ) → a ≤ b → b ≤ length bytes → length (slice bytes a b) ≡ b - a
slice_length bytes a b h l = length-take-le (b - a) (drop a bytes) (omega (arith, length-drop a bytes, h, l))

pub slice_stands : (bytes : List ℕ) (a b : ℕ) → a ≤ b → b ≤ length bytes → Spelled (byte_at bytes) (slice bytes a b) a
slice_stands bytes a b h l = spelled_front bytes (slice bytes a b) a (ap (λ n. take n (drop a bytes)) (slice_length bytes a b h l))

-- Each byte that stands there passes a test.
pub run_all : (P : ℕ → Bool) (B : Source) (xs : List ℕ) (a : ℕ) → Spelled B xs a → ((k : ℕ) → a ≤ k → k < a + length xs → P (B k) ≡ true) → All (λ c. P c ≡ true) xs
run_all P B [] a s p = λ k d h. absurd (let c : ⊥ = omega (arith, h) in c)
run_all P B (x ∷ xs) a s p = All-cons (λ c. P c ≡ true) x xs (ap P (sym s.0) ∙ p a (omega arith) (omega arith)) (run_all P B xs (a + 1) s.1 (λ k h l. p k (omega (arith, h)) (omega (arith, l))))
