-- Variables that stand by rising names: where a name stands among them, and what is found there.
use Rattle.std.proofs.Common.{◌≡◌, ◌∙◌, ◌≤◌, ◌<◌, ◌-◌, ℕ, zero, suc, ◌++◌, Bool, true, false, not, if◌then◌else◌, List, [], ◌∷◌, length, take, drop, get_or, Some, None, Ordering, Less, Equal, Greater, refl, sym, ap, arith}
use Rattle.std.specs.Cmp.Lexicographic.{slice_cmp, texts_ties}
use Rattle.std.specs.Ordering.{nat_cmp, is_lt, is_eq, ordering_reverse}
use Rattle.std.specs.List.Sorted.{IsPartitionedBy}
use Rattle.std.proofs.lemmas.Cmp.{nat_list_cmp_total}
use Rattle.model_values.specs.declared.cell.Binding.{Binding}
use Rattle.model_run.specs.Names.{look, same_text, with_binding}
use Rattle.model_run.specs.Fitting.{NamesRise}
use Rattle.cps_variables.specs.Places.{IsPlace, is_up_to}

abbrev by_bytes : List ℕ → List ℕ → Ordering
by_bytes = slice_cmp nat_cmp

is_less : (o : Ordering) → is_lt o ≡ true → o ≡ Less
is_less Less h = refl
is_less Equal h = absurd (cc h)
is_less Greater h = absurd (cc h)

-- what is before a name that is no later than x is before x
before : (b c x : List ℕ) → is_lt (by_bytes b c) ≡ true → not (is_lt (by_bytes x c)) ≡ true → by_bytes b x ≡ Less
before b c x lt ge = by (by_bytes x c) refl ge
  where
    less : by_bytes b c ≡ Less
    less = is_less (by_bytes b c) lt

    by : (o : Ordering) → by_bytes x c ≡ o → not (is_lt o) ≡ true → by_bytes b x ≡ Less
    by Less e h = absurd (cc h)
    by Equal e h = nat_list_cmp_total.antisymm b x ∙ ap ordering_reverse (nat_list_cmp_total.congr x c b e) ∙ sym (nat_list_cmp_total.antisymm b c) ∙ less
    by Greater e h = nat_list_cmp_total.trans b c x less (nat_list_cmp_total.antisymm c x ∙ ap ordering_reverse e)

-- a name that is before x is no later, and another one
up_to : (b x : List ℕ) → by_bytes b x ≡ Less → not (is_lt (by_bytes x b)) ≡ true
up_to b x lt = ap (λ o. not (is_lt o)) (nat_list_cmp_total.antisymm x b ∙ ap ordering_reverse lt)

other : (b x : List ℕ) → by_bytes b x ≡ Less → same_text b x ≡ false
other b x lt = texts_ties b x ∙ ap is_eq lt

-- and so is one that is later
later : (b x : List ℕ) → not (is_lt (by_bytes x b)) ≡ false → same_text b x ≡ false
later b x gt = texts_ties b x ∙ ap is_eq (nat_list_cmp_total.antisymm b x ∙ ap ordering_reverse (less (by_bytes x b) gt))
  where
    less : (o : Ordering) → not (is_lt o) ≡ false → o ≡ Less
    less Less h = refl
    less Equal h = absurd (cc h)
    less Greater h = absurd (cc h)

behind : (b : Binding) (bs : List Binding) → NamesRise (b ∷ bs) → NamesRise bs
behind b [] rise = tt
behind b (c ∷ bs) rise = rise.1

-- the first is before each that is no later than x
first_before : (x : List ℕ) (b : Binding) (bs : List Binding) (d : Binding) (j : ℕ) → NamesRise (b ∷ bs) → j < length bs → is_up_to x (get_or bs j d) ≡ true → by_bytes b.name x ≡ Less
first_before x b [] d j rise lt h = absurd (omega (arith, lt))
first_before x b (c ∷ bs) d zero rise lt h = before b.name c.name x rise.0 h
first_before x b (c ∷ bs) d (suc j) rise lt h = before b.name c.name x rise.0 (up_to c.name x (first_before x c bs d j rise.1 (omega (arith, lt)) h))

pub parted : (x : List ℕ) (bs : List Binding) → NamesRise bs → IsPartitionedBy (is_up_to x) bs
parted x [] rise i j d le lt h = absurd (omega (arith, lt))
parted x (b ∷ bs) rise zero zero d le lt h = h
parted x (b ∷ bs) rise zero (suc j) d le lt h = up_to b.name x (first_before x b bs d j rise (omega (arith, lt)) h)
parted x (b ∷ bs) rise (suc i) zero d le lt h = absurd (omega (arith, le))
parted x (b ∷ bs) rise (suc i) (suc j) d le lt h = parted x bs (behind b bs rise) i j d (omega (arith, le)) (omega (arith, lt)) h

-- the place among those behind the first
next_place : (x : List ℕ) (b : Binding) (bs : List Binding) (n : ℕ) → IsPlace x (b ∷ bs) (suc n) → IsPlace x bs n
next_place x b bs n p = record {
  within = (let le : suc n ≤ suc (length bs) = p.within in omega (arith, le));
  parts = (λ k d low lt. p.parts.0 (suc k) d (omega arith) (omega (arith, lt)), λ k d low lt. p.parts.1 (suc k) d (omega (arith, low)) (omega (arith, lt)));
}

-- where a new variable is put
pub put : (x : List ℕ) (c : ℕ) (bs : List Binding) (n : ℕ) → IsPlace x bs n → with_binding x c bs ≡ take n bs ++ record { name = x; cell = c } ∷ drop n bs
put x c [] zero p = refl
put x c [] (suc n) p = absurd (let le : suc n ≤ 0 = p.within in omega (arith, le))
put x c (b ∷ bs) zero p = ap (λ t. if t then record { name = x; cell = c } ∷ b ∷ bs else b ∷ with_binding x c bs) (is_before (is_lt (by_bytes x b.name)) (p.parts.1 0 b (omega arith) (omega arith)))
  where
    is_before : (t : Bool) → not t ≡ false → t ≡ true
    is_before true h = refl
    is_before false h = absurd (cc h)
put x c (b ∷ bs) (suc n) p =
    ap (λ t. if t then record { name = x; cell = c } ∷ b ∷ bs else b ∷ with_binding x c bs) (is_not (is_lt (by_bytes x b.name)) (p.parts.0 0 b (omega arith) (omega arith)))
    ∙ ap (λ bs. b ∷ bs) (put x c bs n (next_place x b bs n p))
  where
    is_not : (t : Bool) → not t ≡ true → t ≡ false
    is_not true h = absurd (cc h)
    is_not false h = refl

-- where all are later, none has the name
pub none_there : (x : List ℕ) (bs : List Binding) → IsPlace x bs 0 → look x bs ≡ None
none_there x [] p = refl
none_there x (b ∷ bs) p =
    ap (λ t. if t then Some b.cell else look x bs) (later b.name x (p.parts.1 0 b (omega arith) (omega arith)))
    ∙ none_there x bs (record { within = omega arith; parts = (λ k d low lt. absurd (omega (arith, lt)), λ k d low lt. p.parts.1 (suc k) d (omega arith) (omega (arith, lt))) })

-- else only the last that is not later may have it
pub at_place : (x : List ℕ) (bs : List Binding) (n : ℕ) (d : Binding) → NamesRise bs → IsPlace x bs (suc n) → look x bs ≡ (if same_text (get_or bs n d).name x then Some (get_or bs n d).cell else None)
at_place x [] n d rise p = absurd (let le : suc n ≤ 0 = p.within in omega (arith, le))
at_place x (b ∷ bs) zero d rise p = ap (λ o. if same_text b.name x then Some b.cell else o) (none_there x bs (next_place x b bs 0 p))
at_place x (b ∷ bs) (suc n) d rise p =
    let le : suc (suc n) ≤ suc (length bs) = p.within in
    ap (λ t. if t then Some b.cell else look x bs) (other b.name x (first_before x b bs d n rise (omega (arith, le)) (p.parts.0 (suc n) d (omega arith) (omega arith))))
    ∙ at_place x bs n d (behind b bs rise) (next_place x b bs (suc n) p)

-- what stands right in front of the place is what is found, if it has the name
pub found : (x : List ℕ) (bs : List Binding) (n : ℕ) (b : Binding) (t : Bool) → NamesRise bs → IsPlace x bs n → (n ≡ 0 → ⊥) → b ≡ get_or bs (n - 1) b → t ≡ same_text b.name x → (if t then Some b.cell else None) ≡ look x bs
found x bs zero b t rise p some is same = absurd (some refl)
found x bs (suc n) b t rise p some is same =
    let e : suc n - 1 ≡ n = omega arith in
    sym (at_place x bs n b rise p ∙ ap (λ d. if same_text d.name x then Some d.cell else None) (sym (is ∙ ap (λ i. get_or bs i b) e)) ∙ ap (λ s. if s then Some b.cell else None) (sym same))
