-- New variables: their heap bytes, and the limit that they meet.
use Rattle.std.proofs.Common.{◌≡◌, ◌∙◌, ℕ, zero, suc, ◌+◌, ◌*◌, ◌<◌, ◌≤◌, true, false, if◌then◌else◌, List, [], ◌∷◌, ◌++◌, length, map, take, get_or, ltb, Some, None, refl, sym, ap, append_assoc, length-append, arith}
use Rattle.std.proofs.lemmas.Bool.Decides.{nat_tests}
use Rattle.model_values.specs.Cells.{heap_bytes, no_room}
use Rattle.model_values.specs.Limits.{product_limits}
use Rattle.model_values.specs.declared.cell.Cell.{Cell}
use Rattle.model_values.specs.declared.cell.Cell.TheVariants.{Variable}
use Rattle.model_values.specs.declared.limit.LimitKind.TheVariants.{Cells, HeapBytes}
use Rattle.model_values.specs.declared.value.Value.{Value}
use Rattle.cell_heap.specs.Refusals.{new_cell_limit}
use Rattle.value_ops.proofs.CellLemmas.{heap_bytes_append, one_fits}

pub variable_count : (vs : List Value) → length (map Variable vs) ≡ length vs
variable_count [] = refl
variable_count (v ∷ vs) = omega (arith, variable_count vs)

pub variable_bytes : (vs : List Value) → heap_bytes (map Variable vs) ≡ 16 * length vs
variable_bytes [] = omega arith
variable_bytes (v ∷ vs) = omega (arith, variable_bytes vs)

pub room_for : (h : List Cell) (vs : List Value) → length h + length vs ≤ 1048576 → heap_bytes h + 16 * length vs ≤ 268435456 → no_room product_limits h (map Variable vs) ≡ None
room_for h vs p q =
    let few : ltb 1048576 (length h + length (map Variable vs)) ≡ false = grind (arith, nat_tests, variable_count vs) in
    let small : ltb 268435456 (heap_bytes h + heap_bytes (map Variable vs)) ≡ false = grind (arith, nat_tests, variable_bytes vs) in
    ap (λ b. if b then Some Cells else if ltb 268435456 (heap_bytes h + heap_bytes (map Variable vs)) then Some HeapBytes else None) few ∙ ap (λ b. if b then Some HeapBytes else None) small

pub too_many : (h : List Cell) (vs : List Value) → 1048576 < length h + length vs → no_room product_limits h (map Variable vs) ≡ Some Cells
too_many h vs p =
    let many : ltb 1048576 (length h + length (map Variable vs)) ≡ true = grind (arith, nat_tests, variable_count vs) in
    ap (λ b. if b then Some Cells else if ltb 268435456 (heap_bytes h + heap_bytes (map Variable vs)) then Some HeapBytes else None) many

pub too_large : (h : List Cell) (vs : List Value) → length h + length vs ≤ 1048576 → 268435456 < heap_bytes h + 16 * length vs → no_room product_limits h (map Variable vs) ≡ Some HeapBytes
too_large h vs p q =
    let few : ltb 1048576 (length h + length (map Variable vs)) ≡ false = grind (arith, nat_tests, variable_count vs) in
    let large : ltb 268435456 (heap_bytes h + heap_bytes (map Variable vs)) ≡ true = grind (arith, nat_tests, variable_bytes vs) in
    ap (λ b. if b then Some Cells else if ltb 268435456 (heap_bytes h + heap_bytes (map Variable vs)) then Some HeapBytes else None) few ∙ ap (λ b. if b then Some HeapBytes else None) large

take_more : (vs : List Value) (n : ℕ) (d : Value) → n < length vs → map Variable (take (n + 1) vs) ≡ map Variable (take n vs) ++ Variable (get_or vs n d) ∷ []
take_more [] n d lt = absurd (omega (arith, lt))
take_more (v ∷ vs) zero d lt = refl
take_more (v ∷ vs) (suc n) d lt =
    let e : suc n + 1 ≡ suc (n + 1) = omega arith in rw e (ap (λ cs. Variable v ∷ cs) (take_more vs n d (omega (arith, lt))))

take_few : (vs : List Value) (n : ℕ) → n < length vs → length (map Variable (take n vs)) ≡ n
take_few [] n lt = absurd (omega (arith, lt))
take_few (v ∷ vs) zero lt = refl
take_few (v ∷ vs) (suc n) lt = ap suc (take_few vs n (omega (arith, lt)))

take_bytes : (vs : List Value) (n : ℕ) → n < length vs → heap_bytes (map Variable (take n vs)) ≡ 16 * n
take_bytes [] n lt = absurd (omega (arith, lt))
take_bytes (v ∷ vs) zero lt = omega arith
take_bytes (v ∷ vs) (suc n) lt = omega (arith, take_bytes vs n (omega (arith, lt)))

-- one variable more
pub made_more : (h cells new : List Cell) (vs : List Value) (n : ℕ) (d : Value) → n < length vs → cells ≡ h ++ map Variable (take n vs) → new ≡ cells ++ Variable (get_or vs n d) ∷ [] → new ≡ h ++ map Variable (take (n + 1) vs)
made_more h cells new vs n d lt before grown =
    grown ∙ ap (λ cs. cs ++ Variable (get_or vs n d) ∷ []) before ∙ append_assoc h (map Variable (take n vs)) (Variable (get_or vs n d) ∷ []) ∙ ap (λ cs. h ++ cs) (sym (take_more vs n d lt))

pub one_more_fits : (h cells : List Cell) (vs : List Value) (n : ℕ) (v : Value) → cells ≡ h ++ map Variable (take n vs) → n < length vs → length h + length vs ≤ 1048576 → heap_bytes h + 16 * length vs ≤ 268435456 → new_cell_limit cells (Variable v) ≡ None
one_more_fits h cells vs n v grown lt few small =
    let size = ap length grown ∙ length-append h (map Variable (take n vs)) in
    let bytes = ap heap_bytes grown ∙ heap_bytes_append h (map Variable (take n vs)) in
    one_fits cells (Variable v) (omega arith) (omega (arith, size, take_few vs n lt, lt, few)) (omega (arith, bytes, take_bytes vs n lt, lt, small))

pub cells_grown : (h cells : List Cell) (vs : List Value) (n : ℕ) → cells ≡ h ++ map Variable (take n vs) → length h ≤ length cells
cells_grown h cells vs n grown = omega (arith, ap length grown, length-append h (map Variable (take n vs)))
