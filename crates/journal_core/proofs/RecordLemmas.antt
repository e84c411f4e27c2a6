-- What a file of records stands for.
use Rattle.std.proofs.Common.{◌≡◌, ◌≢◌, ◌<◌, ◌≤◌, inl, inr, ℕ, zero, suc, ◌+◌, ◌-◌, ◌^◌, List, [], ◌∷◌, ◌++◌, length, take, drop, true, false, refl, sym, ◌∙◌, ap, arith, append_assoc, length-append}
use Rattle.std.specs.Prelude.{nat_lt, if◌then◌else◌}
use Rattle.std.proofs.lemmas.List.{append-nil, take_at, drop_at, drop-drop}
use Rattle.std.proofs.lemmas.Bool.{cases_eq, lt-ltb}
use Rattle.std.proofs.lemmas.Bool.Decides.{nat_tests}
use Rattle.byteorder.specs.Endian.{big_bytes, big_number}
use Rattle.byteorder.specs.Numbers.{big_number-reads_back, length-bytes_high_first}
use Rattle.journal_core.specs.Records.{Walked, one_more, walk, records, framed, body, Fit, Has, HasWithOrWithout}

-- where a record stands with the next gate behind it
walk_step : (b p tail : List ℕ) (n : ℕ) → length b ≡ 4 → big_number 4 (b ++ (p ++ tail)) ≡ length p → 0 < length tail → walk (suc n) (1 ∷ b ++ (p ++ tail)) ≡ one_more p (walk n tail)
walk_step b p tail n four size some =
    let rest = b ++ (p ++ tail) in
    let long : 4 + length p < length rest = omega (arith, four, some, length-append b (p ++ tail), length-append p tail) in
    let fits : nat_lt (4 + big_number 4 rest) (length rest) ≡ true = lt-ltb _ _ (omega (arith, size, long)) in
    let behind : drop 4 rest ≡ p ++ tail = drop_at b (p ++ tail) 4 four in
    let payload : take (big_number 4 rest) (drop 4 rest) ≡ p = ap (λ (m : ℕ). take m (drop 4 rest)) size ∙ ap (λ (l : List ℕ). take (length p) l) behind ∙ take_at p tail (length p) refl in
    let left : drop (4 + big_number 4 rest) rest ≡ tail =
    ap (λ (m : ℕ). drop (4 + m) rest) size ∙ sym (drop-drop (length p) 4 rest) ∙ ap (λ (l : List ℕ). drop (length p) l) behind ∙ drop_at p tail (length p) refl in
    ap (λ t. if t then one_more (take (big_number 4 rest) (drop 4 rest)) (walk n (drop (4 + big_number 4 rest) rest)) else record { payloads = []; is_whole = false }) fits
    ∙ (λ i. one_more (payload i) (walk n (left i)))

-- a record as the definitions spell it
walk_record : (p tail : List ℕ) (n : ℕ) → length p < 2 ^ 32 → 0 < length tail → walk (suc n) ((1 ∷ big_bytes 4 (length p)) ++ p ++ tail) ≡ one_more p (walk n tail)
walk_record p tail n fit some =
    let b = big_bytes 4 (length p) in
    ap (λ (l : List ℕ). walk (suc n) (1 ∷ l)) (append_assoc b p tail)
    ∙ walk_step b p tail n (length-bytes_high_first 4 (length p)) (big_number-reads_back 4 (length p) (p ++ tail) fit) some

-- records up to a closed gate
pub walk_framed : (ps : List (List ℕ)) (gate : ℕ) (rest : List ℕ) (n : ℕ) → gate ≢ 1 → Fit ps → length ps ≤ n → walk n (framed ps ++ gate ∷ rest) ≡ record { payloads = ps; is_whole = true }
walk_framed [] gate rest zero shut fit le = refl
walk_framed [] gate rest (suc n) shut fit le = grind (arith, nat_tests)
walk_framed (p ∷ ps) gate rest zero shut fit le = absurd (omega arith)
walk_framed (p ∷ ps) gate rest (suc n) shut fit le =
    let tail = framed ps ++ gate ∷ rest in
    let some : 0 < length tail = omega (arith, length-append (framed ps) (gate ∷ rest)) in
    ap (λ (l : List ℕ). walk (suc n) l) (append_assoc ((1 ∷ big_bytes 4 (length p)) ++ p) (framed ps) (gate ∷ rest))
    ∙ walk_record p tail n fit.0 some ∙ ap (one_more p) (walk_framed ps gate rest n shut fit.1 (omega arith))

pub length-frame : (p rest : List ℕ) → length ((1 ∷ big_bytes 4 (length p)) ++ p ++ rest) ≡ 5 + length p + length rest
length-frame p rest =
    omega (arith, length-append ((1 ∷ big_bytes 4 (length p)) ++ p) rest, length-append (1 ∷ big_bytes 4 (length p)) p, length-bytes_high_first 4 (length p))

pub length-framed : (ps : List (List ℕ)) → length ps ≤ length (framed ps)
length-framed [] = omega arith
length-framed (p ∷ ps) = omega (arith, length-framed ps, length-frame p (framed ps))

pub has_framed : (ps : List (List ℕ)) (gate : ℕ) (rest : List ℕ) → gate ≢ 1 → Fit ps → Has ps (framed ps ++ gate ∷ rest)
has_framed [] gate rest shut fit =
    let w = walk_framed [] gate rest (suc (length rest)) shut fit (omega arith) in
    elim (nat_lt (suc (length rest)) 6) as (λ t. (if t then record { payloads = []; is_whole = true } else walk (suc (length rest)) (gate ∷ rest)) ≡ record { payloads = []; is_whole = true }) [ true ↦ refl | false ↦ w ]
has_framed (p ∷ ps) gate rest shut fit =
    let file = framed (p ∷ ps) ++ gate ∷ rest in
    let size = length-append (framed (p ∷ ps)) (gate ∷ rest) in
    let long : nat_lt (length file) 6 ≡ false = grind (arith, nat_tests, size, length-frame p (framed ps)) in
    ap (λ t. if t then record { payloads = []; is_whole = true } else walk (length file) file) long
    ∙ walk_framed (p ∷ ps) gate rest (length file) shut fit (omega (arith, size, length-framed (p ∷ ps)))

pub framed-push : (ps : List (List ℕ)) (p rest : List ℕ) → framed (ps ++ p ∷ []) ++ rest ≡ framed ps ++ ((1 ∷ big_bytes 4 (length p)) ++ p ++ rest)
framed-push [] p rest = ap (λ (l : List ℕ). l ++ rest) (append-nil ((1 ∷ big_bytes 4 (length p)) ++ p))
framed-push (q ∷ ps) p rest =
    let front = (1 ∷ big_bytes 4 (length q)) ++ q in
    append_assoc front (framed (ps ++ p ∷ [])) rest ∙ ap (λ (l : List ℕ). front ++ l) (framed-push ps p rest) ∙ sym (append_assoc front (framed ps) ((1 ∷ big_bytes 4 (length p)) ++ p ++ rest))

pub Fit-push : (ps : List (List ℕ)) (p : List ℕ) → Fit ps → length p < 2 ^ 32 → Fit (ps ++ p ∷ [])
Fit-push [] p fit short = (short, tt)
Fit-push (q ∷ ps) p fit short = (fit.0, Fit-push ps p fit.1 short)

-- a record behind a gate that may be open
pub body_behind : (ps : List (List ℕ)) (p tail : List ℕ) → framed ps ++ 1 ∷ (body p ++ tail) ≡ framed (ps ++ p ∷ []) ++ 0 ∷ tail
body_behind ps p tail =
    ap (λ (l : List ℕ). framed ps ++ 1 ∷ l) (append_assoc (big_bytes 4 (length p) ++ p) (0 ∷ []) tail) ∙ sym (framed-push ps p (0 ∷ tail))

-- whatever the gate is, the file has the record or it does not
pub either_gate : (ps : List (List ℕ)) (p tail : List ℕ) (gate : ℕ) → Fit ps → length p < 2 ^ 32 → HasWithOrWithout ps p (framed ps ++ gate ∷ (body p ++ tail))
either_gate ps p tail gate fit short = elim (cases_eq gate 1) [
  | inl is_open ↦ inr (ap records (ap (λ (g : ℕ). framed ps ++ g ∷ (body p ++ tail)) is_open ∙ body_behind ps p tail) ∙ has_framed (ps ++ p ∷ []) 0 tail (omega arith) (Fit-push ps p fit short))
  | inr shut ↦ inl (has_framed ps gate (body p ++ tail) shut fit)
]

-- records, and then what the rest gives
abbrev pub in_front : List (List ℕ) → Walked → Walked
in_front ps w = record { payloads = ps ++ w.payloads; is_whole = w.is_whole }

pub walk_through : (ps : List (List ℕ)) (rest : List ℕ) (m n : ℕ) → m ≡ length ps + n → Fit ps → 0 < length rest → walk m (framed ps ++ rest) ≡ in_front ps (walk n rest)
walk_through [] rest m n is fit some = let same : m ≡ n = omega arith in ap (λ (k : ℕ). walk k rest) same
walk_through (p ∷ ps) rest zero n is fit some = absurd (omega arith)
walk_through (p ∷ ps) rest (suc m) n is fit some =
    let tail = framed ps ++ rest in
    let left : 0 < length tail = omega (arith, length-append (framed ps) rest) in
    ap (λ (l : List ℕ). walk (suc m) l) (append_assoc ((1 ∷ big_bytes 4 (length p)) ++ p) (framed ps) rest)
    ∙ walk_record p tail m fit.0 left ∙ ap (one_more p) (walk_through ps rest m n (omega arith) fit.1 some)

walk_cut : (rest : List ℕ) (n : ℕ) → length rest ≤ 4 + big_number 4 rest → walk (suc n) (1 ∷ rest) ≡ record { payloads = []; is_whole = false }
walk_cut rest n short =
    let no : nat_lt (4 + big_number 4 rest) (length rest) ≡ false = grind (arith, nat_tests) in
    ap (λ t. if t then one_more (take (big_number 4 rest) (drop 4 rest)) (walk n (drop (4 + big_number 4 rest) rest)) else record { payloads = []; is_whole = false }) no

pub records_walk : (file : List ℕ) → 6 ≤ length file → records file ≡ walk (length file) file
records_walk file long =
    let no : nat_lt (length file) 6 ≡ false = grind (arith, nat_tests) in
    ap (λ t. if t then record { payloads = []; is_whole = true } else walk (length file) file) no

-- an open gate whose record does not end in the file
pub damaged : (file : List ℕ) (ps : List (List ℕ)) (rest : List ℕ) → 6 ≤ length file → file ≡ framed ps ++ 1 ∷ rest → Fit ps → length rest ≤ 4 + big_number 4 rest → records file ≡ record { payloads = ps; is_whole = false }
damaged file ps rest long is fit short =
    let size = ap length is ∙ length-append (framed ps) (1 ∷ rest) in
    let few = length-framed ps in
    let n = length file - length ps - 1 in
    let fuel : length file ≡ length ps + suc n = omega (arith, size, few) in
    records_walk file long ∙ ap (λ (l : List ℕ). walk (length file) l) is ∙ walk_through ps (1 ∷ rest) (length file) (suc n) fuel fit (omega arith)
    ∙ ap (in_front ps) (walk_cut rest n short) ∙ ap (λ (l : List (List ℕ)). record { payloads = l; is_whole = false }) (append-nil ps)

pub short_has : (file : List ℕ) → length file < 6 → Has [] file
short_has file short =
    let yes : nat_lt (length file) 6 ≡ true = lt-ltb (length file) 6 short in
    ap (λ t. if t then record { payloads = []; is_whole = true } else walk (length file) file) yes
