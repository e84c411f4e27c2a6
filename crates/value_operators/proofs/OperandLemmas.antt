-- Lists, maps and ranges that operators make.
use Rattle.std.proofs.Common.{◌≡◌, ℕ, zero, suc, ◌+◌, ◌<◌, ◌≤◌, true, if◌then◌else◌, List, [], ◌∷◌, length, take, ltb, Some, slice_get, refl, ap, arith}
use Rattle.std.specs.List.{All}
use Rattle.std.specs.Prelude.{ℤ, pos, neg_ℤ, nat_abs, ◌+ℤ◌, ◌-ℤ◌, int_le}
use Rattle.std.proofs.lemmas.Bool.Decides.{nat_tests}
use Rattle.std.proofs.lemmas.List.Elements.{All-nil, All-cons, All-head, All-tail}
use Rattle.indexmap.specs.IndexMap.{insert_all, insert_entry}
use Rattle.model_values.specs.Cells.{Meets, new_cell, new_list}
use Rattle.model_values.specs.Keys.{same_key}
use Rattle.model_values.specs.Limits.{product_limits}
use Rattle.model_values.specs.Operators.{numbers, numbers_from}
use Rattle.model_values.specs.declared.cell.Cell.{Cell}
use Rattle.model_values.specs.declared.cell.Cell.TheVariants.{List as ListCell}
use Rattle.model_values.specs.declared.key.Key.{Key}
use Rattle.model_values.specs.declared.limit.LimitKind.TheVariants.{CollectionSize}
use Rattle.model_values.specs.declared.value.Value.{Value}
use Rattle.model_values.specs.declared.value.Value.TheVariants.{Int as Whole}
use Rattle.cell_heap.specs.Soundness.{ValueBelow}
use Rattle.cell_heap.proofs.EntryLemmas.{All-insert}

-- an entry more is put in
pub insert_all_more : (es fs : List (Key × Value)) (i : ℕ) (e : Key × Value) → slice_get fs i ≡ Some e → insert_all same_key es (take (i + 1) fs) ≡ insert_entry same_key (insert_all same_key es (take i fs)) e.0 e.1
insert_all_more es [] i e got = absurd cc
insert_all_more es (f ∷ fs) zero e got =
    let same : f ≡ e = cc in ap (λ (x : Key × Value). insert_entry same_key es x.0 x.1) same
insert_all_more es (f ∷ fs) (suc i) e got =
    let next : suc i + 1 ≡ suc (i + 1) = omega arith in rw next (insert_all_more (insert_entry same_key es f.0 f.1) fs i e got)

pub insert_all_below : (n : ℕ) (es fs : List (Key × Value)) → All (λ e. ValueBelow n e.1) es → All (λ e. ValueBelow n e.1) fs → All (λ e. ValueBelow n e.1) (insert_all same_key es fs)
insert_all_below n es [] a b = a
insert_all_below n es (f ∷ fs) a b =
    insert_all_below n (insert_entry same_key es f.0 f.1) fs (All-insert f.0 f.1 (ValueBelow n) es (All-head (λ (e : Key × Value). ValueBelow n e.1) f fs b) a) (All-tail (λ (e : Key × Value). ValueBelow n e.1) f fs b)

numbers_from_below : (n : ℕ) (step x : ℤ) (m : ℕ) → All (ValueBelow n) (numbers_from step x m)
numbers_from_below n step x zero = All-cons (ValueBelow n) (Whole x) [] tt (All-nil (ValueBelow n))
numbers_from_below n step x (suc m) = All-cons (ValueBelow n) (Whole x) (numbers_from step (x +ℤ step) m) tt (numbers_from_below n step (x +ℤ step) m)

pub numbers_below : (n : ℕ) (x y : ℤ) → All (ValueBelow n) (numbers x y)
numbers_below n x y = numbers_from_below n (if int_le x y then pos 1 else neg_ℤ (pos 1)) x (nat_abs (y -ℤ x))

length_numbers_from : (step x : ℤ) (m : ℕ) → length (numbers_from step x m) ≡ m + 1
length_numbers_from step x zero = refl
length_numbers_from step x (suc m) = omega (arith, length_numbers_from step (x +ℤ step) m)

-- a list that is too long
pub new_list_long : (h : List Cell) (vs : List Value) → 65536 < length vs → new_list product_limits h vs ≡ Meets CollectionSize
new_list_long h vs lt =
    let long : ltb 65536 (length vs) ≡ true = grind (arith, nat_tests) in
    ap (λ b. if b then Meets CollectionSize else new_cell product_limits h (ListCell vs)) long

pub numbers_long : (h : List Cell) (x y : ℤ) → 65536 ≤ nat_abs (y -ℤ x) → new_list product_limits h (numbers x y) ≡ Meets CollectionSize
numbers_long h x y le =
    let size = length_numbers_from (if int_le x y then pos 1 else neg_ℤ (pos 1)) x (nat_abs (y -ℤ x)) in
    new_list_long h (numbers x y) (omega (arith, size, le))
