-- What is left of a list, one step on.
use Rattle.std.proofs.Common.{◌≡◌, ◌∙◌, ℕ, suc, ◌+◌, ◌-◌, ◌<◌, ◌≤◌, Bool, true, false, List, [], ◌∷◌, ◌++◌, length, get_or, take, drop, Option, Some, None, refl, ap, sym, arith}
use Rattle.std.specs.Prelude.{slice_get, if◌then◌else◌, not, nat_eq, ◌&&◌}
use Rattle.std.specs.Prelude.{◌||◌, codes, Err}
use Rattle.std.proofs.lemmas.Bool.{eqb-true}
use Rattle.std.proofs.lemmas.List.{append_assoc, at_drop_more, at_drop_all, take_more, length-take, take-append-drop}
use Rattle.model_values.specs.TextOf.{key_text}
use Rattle.model_values.specs.declared.key.Key.{Key}
use Rattle.model_run.specs.Names.{same_text}
use Rattle.model_run.specs.Grants.{pair}
use Rattle.model_run.specs.Steps.{override_of}
use Rattle.model_run.specs.StepTable as table
use Rattle.step_arguments.specs.Binding.{FitsAs}
use Rattle.step_arguments.specs.declared.fits.Misfit.{Misfit}
use Rattle.step_arguments.specs.declared.fits.Misfit.TheVariants.{Memory, Bad, Limit}
use Rattle.std.proofs.lemmas.Option.{get_or_from_slice_get, slice_get_within}
use Rattle.model_values.specs.Kinds.{kind}
use Rattle.model_values.specs.declared.cell.Cell.{Cell}
use Rattle.model_values.specs.declared.value.Value.{Value}
use Rattle.model_run.specs.StepTable.{Fit, Fits, branch_fit, is_closure, is_override_name, split_last, with_front}

-- the next one stands at the front
pub next_item : {X Y : Type 0} (F : List X → Y) (xs : List X) (i : ℕ) (x : X) → i < length xs → x ≡ get_or xs i x → F (drop i xs) ≡ F (x ∷ drop (i + 1) xs)
next_item F xs i x lt is = at_drop_more F xs i x lt ∙ ap (λ y. F (y ∷ drop (i + 1) xs)) (sym is)

-- the same where it was looked up
pub next_found : {X Y : Type 0} (F : List X → Y) (xs : List X) (i : ℕ) (x : X) → Some x ≡ slice_get xs i → F (drop i xs) ≡ F (x ∷ drop (i + 1) xs)
next_found F xs i x is = next_item F xs i x (slice_get_within xs i x (sym is)) (sym (get_or_from_slice_get xs i x x (sym is)))

-- one more in front of the rest
pub one_more : {X : Type 0} (front : List X) (x : X) (rest whole : List X) → front ++ x ∷ rest ≡ whole → (front ++ x ∷ []) ++ rest ≡ whole
one_more front x rest whole is = append_assoc front (x ∷ []) rest ∙ is

if_front : (b : Bool) (u v : Value) (vs : List Value) → with_front u (if b then (vs, Some v) else (vs ++ v ∷ [], None)) ≡ (if b then (u ∷ vs, Some v) else (u ∷ (vs ++ v ∷ []), None))
if_front true u v vs = refl
if_front false u v vs = refl

pub split_end : (h : List Cell) (vs : List Value) (v : Value) → split_last h (vs ++ v ∷ []) ≡ (if is_closure (kind h v) then (vs, Some v) else (vs ++ v ∷ [], None))
split_end h [] v = refl
split_end h (u ∷ []) v = if_front (is_closure (kind h v)) u v []
split_end h (u ∷ t ∷ vs) v = ap (with_front u) (split_end h (t ∷ vs) v) ∙ if_front (is_closure (kind h v)) u v (t ∷ vs)

by_sign : (b : ℕ) (n m bs : List ℕ) (same : Bool) → length n ≡ length m → is_override_name (b ∷ n) bs ≡ is_override_name (b ∷ m) bs → (if same then not (nat_eq (length n) 0) else not (nat_eq b 43) && is_override_name (b ∷ n) bs) ≡ (if same then not (nat_eq (length m) 0) else not (nat_eq b 43) && is_override_name (b ∷ m) bs)
by_sign b n m bs true e rest = ap (λ k. not (nat_eq k 0)) e
by_sign b n m bs false e rest = ap (λ x. not (nat_eq b 43) && x) rest

-- only how long a name is counts
pub same_long : (n m : List ℕ) (t : List ℕ) → length n ≡ length m → is_override_name n t ≡ is_override_name m t
same_long n m [] e = refl
same_long n m (b ∷ bs) e = by_sign b n m bs (nat_eq b 61) e (same_long (b ∷ n) (b ∷ m) bs (ap suc e))

-- behind a byte that is no sign
other : (b k : ℕ) → (b ≡ k → ⊥) → nat_eq b k ≡ false
other b k differ = by (nat_eq b k) refl
  where
    by : (t : Bool) → nat_eq b k ≡ t → nat_eq b k ≡ false
    by true e = absurd (differ (eqb-true b k e))
    by false e = e

pub name_goes_on : (text : List ℕ) (i : ℕ) → i < length text → (get_or text i 0 ≡ 61 → ⊥) → (get_or text i 0 ≡ 43 → ⊥) → is_override_name (take i text) (drop i text) ≡ is_override_name (take (i + 1) text) (drop (i + 1) text)
name_goes_on text i lt no_sign no_plus =
    let b = get_or text i 0 in
    let rest = drop (i + 1) text in
    let long : length (b ∷ take i text) ≡ length (take (i + 1) text) = omega (arith, length-take i text, length-take (i + 1) text) in
    at_drop_more (is_override_name (take i text)) text i 0 lt
    ∙ ap (λ t. if t then not (nat_eq (length (take i text)) 0) else not (nat_eq b 43) && is_override_name (b ∷ take i text) rest) (other b 61 no_sign)
    ∙ ap (λ t. not t && is_override_name (b ∷ take i text) rest) (other b 43 no_plus)
    ∙ same_long (b ∷ take i text) (take (i + 1) text) rest long

-- the first byte of a name is no plus
is_no_plus : (b : ℕ) (here : Bool) → not (nat_eq b 43) && here ≡ true → b ≡ 43 → ⊥
is_no_plus b here is plus = let wrong : false ≡ true = sym (ap (λ k. not (nat_eq k 43) && here) plus) ∙ is in absurd (cc wrong)

-- a text with a sign has one behind its first byte, where that byte is none
pub sign_behind : (text : List ℕ) (i : ℕ) → i < length text → (get_or text i 0 ≡ 61 → ⊥) → is_override_name (take i text) (drop i text) ≡ true → is_override_name (take (i + 1) text) (drop (i + 1) text) ≡ true
sign_behind text i lt no_sign is =
    let b = get_or text i 0 in
    let behind = is_override_name (b ∷ take i text) (drop (i + 1) text) in
    let opened = at_drop_more (is_override_name (take i text)) text i 0 lt ∙ ap (λ t. if t then not (nat_eq (length (take i text)) 0) else not (nat_eq b 43) && behind) (other b 61 no_sign) in
    sym (name_goes_on text i lt no_sign (is_no_plus b behind (sym opened ∙ is))) ∙ is

-- the name of an override has one byte more
pub name_longer : (text : List ℕ) (i : ℕ) → i < length text → (get_or text i 0 ≡ 61 → ⊥) → override_of (take (i + 1) text) (drop (i + 1) text) ≡ override_of (take i text) (drop i text)
name_longer text i lt no_sign =
    let b = get_or text i 0 in
    let rest = drop (i + 1) text in
    ap (λ n. override_of n rest) (take_more text i 0 lt)
    ∙ sym (at_drop_more (override_of (take i text)) text i 0 lt ∙ ap (λ t. if t then pair (take i text) rest else override_of (take i text ++ b ∷ []) rest) (other b 61 no_sign))

-- the last of values, and the others
last_behind : (xs : List Value) (d : Value) → (length xs ≡ 0 → ⊥) → take (length xs - 1) xs ++ get_or xs (length xs - 1) d ∷ [] ≡ xs
last_behind xs d some =
    let n = length xs - 1 in
    let lt : n < length xs = omega (arith, some) in
    let whole : length xs ≤ n + 1 = omega arith in
    ap (λ ys. take n xs ++ get_or xs n d ∷ ys) (sym (at_drop_all (λ (ys : List Value). ys) xs (n + 1) whole))
    ∙ ap (λ ys. take n xs ++ ys) (sym (at_drop_more (λ (ys : List Value). ys) xs n d lt)) ∙ take-append-drop n xs

pub split_closure : (h : List Cell) (xs : List Value) (d : Value) → (length xs ≡ 0 → ⊥) → true ≡ is_closure (kind h (get_or xs (length xs - 1) d)) → (take (length xs - 1) xs, Some (get_or xs (length xs - 1) d)) ≡ split_last h xs
split_closure h xs d some is =
    let n = length xs - 1 in
    ap (λ (t : Bool). if t then (take n xs, Some (get_or xs n d)) else (take n xs ++ get_or xs n d ∷ [], None)) is
    ∙ sym (split_end h (take n xs) (get_or xs n d)) ∙ ap (split_last h) (last_behind xs d some)

pub split_plain : (h : List Cell) (xs : List Value) (d : Value) → (length xs ≡ 0 → ⊥) → false ≡ is_closure (kind h (get_or xs (length xs - 1) d)) → (xs, None) ≡ split_last h xs
split_plain h xs d some is =
    let n = length xs - 1 in
    ap (λ ys. (ys, None)) (sym (last_behind xs d some))
    ∙ ap (λ (t : Bool). if t then (take n xs, Some (get_or xs n d)) else (take n xs ++ get_or xs n d ∷ [], None)) is
    ∙ sym (split_end h (take n xs) (get_or xs n d)) ∙ ap (split_last h) (last_behind xs d some)

pub none_left : {X : Type 0} (xs : List X) → length xs < 1 → xs ≡ []
none_left [] lt = refl
none_left (x ∷ xs) lt = absurd (omega arith)

pub one_left : {X : Type 0} (xs : List X) (d : X) → 1 ≤ length xs → length xs < 2 → xs ≡ get_or xs 0 d ∷ []
one_left [] d ge lt = absurd (omega arith)
one_left (x ∷ xs) d ge lt = ap (λ ys. x ∷ ys) (none_left xs (omega arith))

-- an entry of a map that is no branch, or is one
or_bad : (bad : Bool) (part rest : Fit) (m : Misfit) → FitsAs (if bad then part else Fits) (Err m) → FitsAs (if bad then part else rest) (Err m)
or_bad true part rest m h = h
or_bad false part rest Memory h = tt
or_bad false part rest (Bad p) h = absurd (cc h)
or_bad false part rest (Limit k) h = absurd (cc h)

or_good : (bad : Bool) (p : Option (List ℕ)) (rest : Fit) → (if bad then table.Bad p else Fits) ≡ Fits → (if bad then table.Bad p else rest) ≡ rest
or_good true p rest h = absurd (cc h)
or_good false p rest h = refl

abbrev is_bad : List Cell → Key × Value → Bool
is_bad h e = same_text (key_text e.0) (codes "failFast") || not (is_closure (kind h e.1))

pub bad_entry : (h : List Cell) (e : Key × Value) (es : List (Key × Value)) (m : Misfit) → FitsAs (branch_fit h (e ∷ [])) (Err m) → FitsAs (branch_fit h (e ∷ es)) (Err m)
bad_entry h e es m = or_bad (is_bad h e) (table.Bad (Some (key_text e.0))) (branch_fit h es) m

pub good_entry : (h : List Cell) (e : Key × Value) (es : List (Key × Value)) → branch_fit h (e ∷ []) ≡ Fits → branch_fit h (e ∷ es) ≡ branch_fit h es
good_entry h e es = or_good (is_bad h e) (Some (key_text e.0)) (branch_fit h es)
