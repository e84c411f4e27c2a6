-- Texts within texts: what the methods of texts find, cut and read.
use Rattle.std.specs.Prelude.{ℕ, zero, suc, ◌+◌, ◌-◌, ◌*◌, nat_eq, nat_le, Bool, true, false, ◌&&◌, ◌||◌, if◌then◌else◌, List, [], ◌∷◌, ◌++◌, length, reverse, ℤ, pos, neg_ℤ, Option, Some, None}
use Rattle.std.specs.Cmp.Lexicographic.{pointwise}
use Rattle.std.specs.Fmt.{is_char_start}

-- whether s begins with t
abbrev pub begins_with : List ℕ → List ℕ → Bool
begins_with s [] = true
begins_with [] (c ∷ cs) = false
begins_with (b ∷ bs) (c ∷ cs) = nat_eq b c && begins_with bs cs

abbrev pub ends_with : List ℕ → List ℕ → Bool
ends_with s t = begins_with (reverse s) (reverse t)

-- how many characters stand before the first place of t in s, behind n others
abbrev pub found_from : ℕ → List ℕ → List ℕ → Option ℕ
found_from n [] t = if begins_with [] t then Some n else None
found_from n (b ∷ bs) t = if begins_with (b ∷ bs) t then Some n else found_from (if is_char_start b then n + 1 else n) bs t

-- s behind its first k bytes, with b for each place of a from the left; a is not empty
abbrev pub replaced_behind : ℕ → List ℕ → List ℕ → List ℕ → List ℕ
replaced_behind k [] a b = []
replaced_behind zero (c ∷ cs) a b =
    if begins_with (c ∷ cs) a then b ++ replaced_behind (length a - 1) cs a b else c ∷ replaced_behind zero cs a b
replaced_behind (suc k) (c ∷ cs) a b = replaced_behind k cs a b

-- Java: `trim` drops the characters up to U+0020
abbrev pub trimmed_front : List ℕ → List ℕ
trimmed_front [] = []
trimmed_front (b ∷ bs) = if nat_le b 32 then trimmed_front bs else b ∷ bs

abbrev pub trimmed : List ℕ → List ℕ
trimmed s = reverse (trimmed_front (reverse (trimmed_front s)))

abbrev pub is_among : List (List ℕ) → List ℕ → Bool
is_among [] c = false
is_among (d ∷ ds) c = pointwise nat_eq d c || is_among ds c

abbrev pub onto_first : List ℕ → List (List ℕ) → List (List ℕ)
onto_first c [] = c ∷ []
onto_first c (p ∷ ps) = (c ++ p) ∷ ps

-- the pieces between the characters that cut, one more than there are of these
abbrev pub pieces : (List ℕ → Bool) → List (List ℕ) → List (List ℕ)
pieces cuts [] = [] ∷ []
pieces cuts (c ∷ cs) = if cuts c then [] ∷ pieces cuts cs else onto_first c (pieces cuts cs)

abbrev pub without_empty : List (List ℕ) → List (List ℕ)
without_empty [] = []
without_empty ([] ∷ ps) = without_empty ps
without_empty ((b ∷ bs) ∷ ps) = (b ∷ bs) ∷ without_empty ps

abbrev pub without_last_empty : List (List ℕ) → List (List ℕ)
without_last_empty [] = []
without_last_empty ([] ∷ []) = []
without_last_empty ([] ∷ p ∷ ps) = [] ∷ without_last_empty (p ∷ ps)
without_last_empty ((b ∷ bs) ∷ ps) = (b ∷ bs) ∷ without_last_empty ps

-- Java: a line ends with LF, CR or both; here each end becomes one LF
abbrev pub plain_ends : Bool → List ℕ → List ℕ
plain_ends after_cr [] = []
plain_ends after_cr (b ∷ bs) =
    if nat_eq b 13 then 10 ∷ plain_ends true bs
    else if after_cr && nat_eq b 10 then plain_ends false bs
    else b ∷ plain_ends false bs

abbrev pub digit_of : ℕ → Option ℕ
digit_of b = if nat_le 48 b && nat_le b 57 then Some (b - 48) else None

-- the number that digits spell behind m
abbrev pub digits_behind : ℕ → List ℕ → Option ℕ
digits_behind m [] = Some m
digits_behind m (b ∷ bs) = elim (digit_of b) as (λ o. Option ℕ) [ Some d ↦ digits_behind (10 * m + d) bs | None ↦ None ]

abbrev pub up_to : ℕ → Option ℕ → Option ℕ
up_to most None = None
up_to most (Some m) = if nat_le m most then Some m else None

abbrev pub signed : Bool → Option ℕ → Option ℤ
signed negative None = None
signed true (Some m) = Some (neg_ℤ (pos m))
signed false (Some m) = Some (pos m)

-- one digit or more, up to a number
abbrev pub some_digits : ℕ → List ℕ → Option ℕ
some_digits most [] = None
some_digits most (b ∷ bs) = up_to most (digits_behind 0 (b ∷ bs))

-- Java: an int is a sign or none and decimal digits, and fits 32 bits
abbrev pub int_of : List ℕ → Option ℤ
int_of [] = None
int_of (b ∷ bs) =
    if nat_eq b 45 then signed true (some_digits 2147483648 bs)
    else if nat_eq b 43 then signed false (some_digits 2147483647 bs)
    else signed false (some_digits 2147483647 (b ∷ bs))
