-- The characters of a text by the bytes that begin them.
use Rattle.std.proofs.Common.{◌≡◌, ℕ, zero, suc, ◌+◌, ◌-◌, ◌<◌, ◌≤◌, Bool, true, false, cond, eqb, List, [], ◌∷◌, length, get_or, take, drop, refl, sym, ap, ◌∙◌, subst, inl, inr, arith}
use Rattle.std.proofs.lemmas.Bool.Decides.{nat_tests}
use Rattle.std.proofs.lemmas.List.{append-nil}
use Rattle.std.proofs.lemmas.List.Sums.{sum_by-cons}
use Rattle.std.specs.Fmt.{is_char_start}
use Rattle.std.specs.List.{count_by}
use Rattle.model_values.specs.Characters.{byte_before, characters, concatenated, part_of}
use Rattle.cell_heap.specs.Places.{place_behind, place_of_character}
use Rattle.cell_heap.proofs.PlaceLemmas.{true_or_false}

-- the first character begins with this byte
record Begins (d : ℕ) (cs : List (List ℕ)) : Type 0 where
  pub rest : List ℕ
  pub others : List (List ℕ)
  pub is : cs ≡ (d ∷ rest) ∷ others

begins_by : (b : Bool) (d e : ℕ) (es : List ℕ) (cs : List (List ℕ)) → Begins d (cond b ((d ∷ []) ∷ (e ∷ es) ∷ cs) ((d ∷ e ∷ es) ∷ cs))
begins_by true d e es cs = record { rest = []; others = (e ∷ es) ∷ cs; is = refl }
begins_by false d e es cs = record { rest = e ∷ es; others = cs; is = refl }

byte_before-begins : (d : ℕ) (cs : List (List ℕ)) → Begins d (byte_before d cs)
byte_before-begins d [] = record { rest = []; others = []; is = refl }
byte_before-begins d ([] ∷ cs) = record { rest = []; others = cs; is = refl }
byte_before-begins d ((e ∷ es) ∷ cs) = begins_by (is_char_start e) d e es cs

begins : (d : ℕ) (ds : List ℕ) → Begins d (characters (d ∷ ds))
begins d ds = byte_before-begins d (characters ds)

-- a byte in front of a character that begins, and of one that does not
characters-start : (b d : ℕ) (ds : List ℕ) → is_char_start d ≡ true → characters (b ∷ d ∷ ds) ≡ (b ∷ []) ∷ characters (d ∷ ds)
characters-start b d ds s =
    let p = begins d ds in
    ap (byte_before b) p.is
    ∙ ap (λ t. cond t ((b ∷ []) ∷ (d ∷ p.rest) ∷ p.others) ((b ∷ d ∷ p.rest) ∷ p.others)) s
    ∙ ap (λ cs. (b ∷ []) ∷ cs) (sym p.is)

characters-inside : (b d : ℕ) (ds : List ℕ) → is_char_start d ≡ false → characters (b ∷ d ∷ ds) ≡ (b ∷ d ∷ (begins d ds).rest) ∷ (begins d ds).others
characters-inside b d ds s =
    let p = begins d ds in
    ap (byte_before b) p.is ∙ ap (λ t. cond t ((b ∷ []) ∷ (d ∷ p.rest) ∷ p.others) ((b ∷ d ∷ p.rest) ∷ p.others)) s

length-characters : (b : ℕ) (bs : List ℕ) → length (characters (b ∷ bs)) ≡ 1 + count_by is_char_start bs
length-characters b [] = omega arith
length-characters b (d ∷ ds) =
    let number : Bool → ℕ = λ t. cond t 1 0 in
    let more = length-characters d ds in
    let counted = sum_by-cons (λ x. cond (is_char_start x) 1 0) d ds in
    elim (true_or_false (is_char_start d)) [
      | inl s ↦
          let one = ap number s in
          omega (arith, counted, ap length (characters-start b d ds s), more, one)
      | inr s ↦
          let none = ap number s in
          omega (arith, counted, ap length (characters-inside b d ds s), ap length (begins d ds).is, more, none)
    ]

nonzero : (n : ℕ) → false ≡ eqb n 0 → 0 < n
nonzero n e = grind (arith, nat_tests)

-- the characters of a text by the bytes behind its first
pub length-characters-behind : (s : List ℕ) → false ≡ eqb (length s) 0 → length (characters s) ≡ 1 + count_by is_char_start (drop 1 s)
length-characters-behind [] e = let no : ⊥ = omega (arith, nonzero 0 e) in absurd no
length-characters-behind (b ∷ bs) e = length-characters b bs

-- k cuts the text behind its first n characters
pub record Cuts (s : List ℕ) (n k : ℕ) : Type 0 where
  pub front : take k s ≡ concatenated (take n (characters s))
  pub back : characters (drop k s) ≡ drop n (characters s)
  pub within : k ≤ length s

drop-nil : (n : ℕ) → drop n (let none : List (List ℕ) = [] in none) ≡ []
drop-nil zero = refl
drop-nil (suc n) = refl

take-nil : (n : ℕ) → take n (let none : List (List ℕ) = [] in none) ≡ []
take-nil zero = refl
take-nil (suc n) = refl

-- one character of one byte more in front
cuts-start : (b d : ℕ) (ds : List ℕ) (n k : ℕ) → is_char_start d ≡ true → Cuts (d ∷ ds) n k → Cuts (b ∷ d ∷ ds) (suc n) (suc k)
cuts-start b d ds n k s c = record {
  front = ap (λ x. b ∷ x) c.front ∙ ap (λ cs. concatenated (take (suc n) cs)) (sym (characters-start b d ds s));
  back = c.back ∙ ap (λ cs. drop (suc n) cs) (sym (characters-start b d ds s));
  within = omega (arith, c.within);
}

-- one byte more in front of the first character
cuts-inside : (b d : ℕ) (ds : List ℕ) (n k : ℕ) → is_char_start d ≡ false → Cuts (d ∷ ds) (suc n) (suc k) → Cuts (b ∷ d ∷ ds) (suc n) (suc (suc k))
cuts-inside b d ds n k s c =
    let p = begins d ds in record {
      front = ap (λ x. b ∷ x) (c.front ∙ ap (λ cs. concatenated (take (suc n) cs)) p.is) ∙ ap (λ cs. concatenated (take (suc n) cs)) (sym (characters-inside b d ds s));
      back = c.back ∙ ap (λ cs. drop (suc n) cs) p.is ∙ ap (λ cs. drop (suc n) cs) (sym (characters-inside b d ds s));
      within = omega (arith, c.within);
    }

nothing : (s : List ℕ) → Cuts s 0 0
nothing s = record { front = refl; back = refl; within = omega arith }

cuts-behind : (b : ℕ) (bs : List ℕ) (n : ℕ) → Cuts (b ∷ bs) (suc n) (suc (place_behind n bs))
cuts-behind b [] n = record {
  front = ap (λ cs. b ∷ concatenated cs) (sym (take-nil n));
  back = sym (drop-nil n);
  within = omega arith;
}
cuts-behind b (d ∷ ds) zero =
    elim (true_or_false (is_char_start d)) [
      | inl s ↦
          let k : cond (is_char_start d) 0 (1 + place_behind zero ds) ≡ 0 = ap (λ t. cond t 0 (1 + place_behind zero ds)) s in
          subst (λ (k : ℕ). Cuts (b ∷ d ∷ ds) 1 (suc k)) (sym k) (cuts-start b d ds 0 0 s (nothing (d ∷ ds)))
      | inr s ↦
          let one : 1 + place_behind zero ds ≡ suc (place_behind zero ds) = omega arith in
          let k : cond (is_char_start d) 0 (1 + place_behind zero ds) ≡ suc (place_behind zero ds) = ap (λ t. cond t 0 (1 + place_behind zero ds)) s ∙ one in
          subst (λ (k : ℕ). Cuts (b ∷ d ∷ ds) 1 (suc k)) (sym k) (cuts-inside b d ds 0 (place_behind zero ds) s (cuts-behind d ds zero))
    ]
cuts-behind b (d ∷ ds) (suc n) =
    elim (true_or_false (is_char_start d)) [
      | inl s ↦
          let one : 1 + place_behind n ds ≡ suc (place_behind n ds) = omega arith in
          let k : cond (is_char_start d) (1 + place_behind n ds) (1 + place_behind (suc n) ds) ≡ suc (place_behind n ds) = ap (λ t. cond t (1 + place_behind n ds) (1 + place_behind (suc n) ds)) s ∙ one in
          subst (λ (k : ℕ). Cuts (b ∷ d ∷ ds) (suc (suc n)) (suc k)) (sym k) (cuts-start b d ds (suc n) (suc (place_behind n ds)) s (cuts-behind d ds n))
      | inr s ↦
          let one : 1 + place_behind (suc n) ds ≡ suc (place_behind (suc n) ds) = omega arith in
          let k : cond (is_char_start d) (1 + place_behind n ds) (1 + place_behind (suc n) ds) ≡ suc (place_behind (suc n) ds) = ap (λ t. cond t (1 + place_behind n ds) (1 + place_behind (suc n) ds)) s ∙ one in
          subst (λ (k : ℕ). Cuts (b ∷ d ∷ ds) (suc (suc n)) (suc k)) (sym k) (cuts-inside b d ds (suc n) (place_behind (suc n) ds) s (cuts-behind d ds (suc n)))
    ]

pub cuts : (s : List ℕ) (n : ℕ) → Cuts s n (place_of_character s n)
cuts [] n = record { front = ap concatenated (sym (take-nil n)); back = sym (drop-nil n); within = omega arith }
cuts (b ∷ bs) zero = nothing (b ∷ bs)
cuts (b ∷ bs) (suc n) =
    let one : 1 + place_behind n bs ≡ suc (place_behind n bs) = omega arith in
    subst (λ (k : ℕ). Cuts (b ∷ bs) (suc n) k) (sym one) (cuts-behind b bs n)

-- the characters from one place up to another, by the bytes at which these begin
pub part_of-by_places : (s : List ℕ) (i j : ℕ) → take (place_of_character (drop (place_of_character s i) s) (j - i)) (drop (place_of_character s i) s) ≡ part_of s i j
part_of-by_places s i j =
    let behind = drop (place_of_character s i) s in
    (cuts behind (j - i)).front ∙ ap (λ cs. concatenated (take (j - i) cs)) (cuts s i).back

one_character : (cs : List (List ℕ)) (j : ℕ) → j < length cs → concatenated (take 1 (drop j cs)) ≡ get_or cs j []
one_character [] j h = let no : ⊥ = omega (arith, h) in absurd no
one_character (c ∷ cs) zero h = append-nil c
one_character (c ∷ cs) (suc j) h = one_character cs j (omega (arith, h))

-- one character alone
pub part_of-one : (s : List ℕ) (j : ℕ) → j < length (characters s) → part_of s j (j + 1) ≡ get_or (characters s) j []
part_of-one s j h =
    let one : (j + 1) - j ≡ 1 = omega arith in
    ap (λ n. concatenated (take n (drop j (characters s)))) one ∙ one_character (characters s) j h
