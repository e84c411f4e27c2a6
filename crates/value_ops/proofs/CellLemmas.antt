-- Several new cells at once: their number and heap bytes, and the limit that they meet.
use Rattle.std.proofs.Common.{◌≡◌, ℕ, zero, suc, ◌+◌, ◌<◌, ◌≤◌, Bool, true, false, if◌then◌else◌, List, [], ◌∷◌, ◌++◌, length, get_or, take, ltb, Option, Some, None, Result, Err, refl, sym, ap, ◌∙◌, append_assoc, length-append, arith}
use Rattle.std.proofs.lemmas.Bool.Decides.{nat_tests}
use Rattle.std.proofs.lemmas.List.{length-take-le}
use Rattle.model_values.specs.Cells.{Answer, Gives, Meets, cell_bytes, heap_bytes, new_list_of, no_room, with_new}
use Rattle.model_values.specs.Limits.{product_limits}
use Rattle.model_values.specs.TextMethods.{text_cells}
use Rattle.model_values.specs.declared.cell.Cell.{Cell}
use Rattle.model_values.specs.declared.cell.Cell.TheVariants.{List as ListCell, Text as TextCell}
use Rattle.model_values.specs.declared.value.Value.{Value}
use Rattle.model_values.specs.declared.value.Value.TheVariants.{Cell as InCell}
use Rattle.model_values.specs.declared.limit.LimitKind.{LimitKind}
use Rattle.model_values.specs.declared.limit.LimitKind.TheVariants.{Cells, CollectionSize, HeapBytes}
use Rattle.cell_heap.specs.Contents.{entry_count}
use Rattle.cell_heap.specs.Follows.{Follows}
use Rattle.cell_heap.specs.Refusals.{limit_of, new_cell_limit}
use Rattle.cell_heap.specs.Region.{Region}
use Rattle.cell_heap.specs.declared.refusal.CellRefusal.{CellRefusal}
use Rattle.cell_heap.specs.declared.refusal.CellRefusal.TheVariants.{Memory, Cells as TooManyCells, Bytes as TooManyBytes, Entries as TooManyEntries}

pub length_text_cells : (ts : List (List ℕ)) → length (text_cells ts) ≡ length ts
length_text_cells [] = refl
length_text_cells (t ∷ ts) = omega (arith, length_text_cells ts)

pub heap_bytes_append : (xs ys : List Cell) → heap_bytes (xs ++ ys) ≡ heap_bytes xs + heap_bytes ys
heap_bytes_append [] ys = omega arith
heap_bytes_append (x ∷ xs) ys = omega (arith, heap_bytes_append xs ys)

pub text_cells_append : (ts us : List (List ℕ)) → text_cells (ts ++ us) ≡ text_cells ts ++ text_cells us
text_cells_append [] us = refl
text_cells_append (t ∷ ts) us = ap (λ cs. TextCell t ∷ cs) (text_cells_append ts us)

-- the sizes of texts with another cell behind them
pub length_all : (ts : List (List ℕ)) (c : Cell) → length (text_cells ts ++ c ∷ []) ≡ length ts + 1
length_all ts c = omega (arith, length-append (text_cells ts) (c ∷ []), length_text_cells ts)

pub bytes_all : (ts : List (List ℕ)) (c : Cell) → heap_bytes (text_cells ts ++ c ∷ []) ≡ heap_bytes (text_cells ts) + cell_bytes c
bytes_all ts c = omega (arith, heap_bytes_append (text_cells ts) (c ∷ []))

-- the two tests of room by their numbers
abbrev by_tests : ℕ → ℕ → Option LimitKind
by_tests cells bytes = if ltb 1048576 cells then Some Cells else if ltb 268435456 bytes then Some HeapBytes else None

tests_none : (cells bytes : ℕ) → cells ≤ 1048576 → bytes ≤ 268435456 → by_tests cells bytes ≡ None
tests_none cells bytes p q =
    let few : ltb 1048576 cells ≡ false = grind (arith, nat_tests) in
    let small : ltb 268435456 bytes ≡ false = grind (arith, nat_tests) in
    ap (λ b. if b then Some Cells else if ltb 268435456 bytes then Some HeapBytes else None) few ∙ ap (λ b. if b then Some HeapBytes else None) small

tests_cells : (cells bytes : ℕ) → 1048576 < cells → by_tests cells bytes ≡ Some Cells
tests_cells cells bytes p =
    let many : ltb 1048576 cells ≡ true = grind (arith, nat_tests) in
    ap (λ b. if b then Some Cells else if ltb 268435456 bytes then Some HeapBytes else None) many

tests_bytes : (cells bytes : ℕ) → cells ≤ 1048576 → 268435456 < bytes → by_tests cells bytes ≡ Some HeapBytes
tests_bytes cells bytes p q =
    let few : ltb 1048576 cells ≡ false = grind (arith, nat_tests) in
    let large : ltb 268435456 bytes ≡ true = grind (arith, nat_tests) in
    ap (λ b. if b then Some Cells else if ltb 268435456 bytes then Some HeapBytes else None) few ∙ ap (λ b. if b then Some HeapBytes else None) large

tests_few : (b c : Bool) → (if b then Some Cells else if c then Some HeapBytes else None) ≡ None → (b ≡ false) × (c ≡ false)
tests_few true c e = absurd cc
tests_few false true e = absurd cc
tests_few false false e = (refl, refl)

not_less : (m n : ℕ) → ltb m n ≡ false → n ≤ m
not_less m n e = grind (arith, nat_tests)

module _ (h : List Cell) (ts : List (List ℕ)) (c : Cell) where
  pub all_fit : length h + length ts + 1 ≤ 1048576 → heap_bytes h + heap_bytes (text_cells ts) + cell_bytes c ≤ 268435456 → no_room product_limits h (text_cells ts ++ c ∷ []) ≡ None
  all_fit p q = tests_none (length h + length (text_cells ts ++ c ∷ [])) (heap_bytes h + heap_bytes (text_cells ts ++ c ∷ [])) (omega (arith, p, length_all ts c)) (omega (arith, q, bytes_all ts c))

  pub all_too_many : 1048576 < length h + length ts + 1 → no_room product_limits h (text_cells ts ++ c ∷ []) ≡ Some Cells
  all_too_many p = tests_cells (length h + length (text_cells ts ++ c ∷ [])) (heap_bytes h + heap_bytes (text_cells ts ++ c ∷ [])) (omega (arith, p, length_all ts c))

  pub all_too_large : length h + length ts + 1 ≤ 1048576 → 268435456 < heap_bytes h + heap_bytes (text_cells ts) + cell_bytes c → no_room product_limits h (text_cells ts ++ c ∷ []) ≡ Some HeapBytes
  all_too_large p q = tests_bytes (length h + length (text_cells ts ++ c ∷ [])) (heap_bytes h + heap_bytes (text_cells ts ++ c ∷ [])) (omega (arith, p, length_all ts c)) (omega (arith, q, bytes_all ts c))

  pub room_left : no_room product_limits h (text_cells ts ++ c ∷ []) ≡ None → (length h + length ts + 1 ≤ 1048576) × (heap_bytes h + heap_bytes (text_cells ts) + cell_bytes c ≤ 268435456)
  room_left e =
      let p = tests_few (ltb 1048576 (length h + length (text_cells ts ++ c ∷ []))) (ltb 268435456 (heap_bytes h + heap_bytes (text_cells ts ++ c ∷ []))) e in
      (omega (arith, not_less _ _ p.0, length_all ts c), omega (arith, not_less _ _ p.1, bytes_all ts c))

-- a cell of few entries that fits
one_none : (h : List Cell) (c : Cell) → length h + 1 ≤ 1048576 → heap_bytes h + (cell_bytes c + 0) ≤ 268435456 → no_room product_limits h (c ∷ []) ≡ None
one_none h c p q = tests_none (length h + 1) (heap_bytes h + (cell_bytes c + 0)) p q

pub one_fits : (h : List Cell) (c : Cell) → entry_count c ≤ 65536 → length h + 1 ≤ 1048576 → heap_bytes h + cell_bytes c ≤ 268435456 → new_cell_limit h c ≡ None
one_fits h c few p q =
    let small : ltb 65536 (entry_count c) ≡ false = grind (arith, nat_tests) in
    ap (λ b. if b then Some CollectionSize else no_room product_limits h (c ∷ [])) small ∙ one_none h c p (omega (arith, q))

-- a refusal of what fits is want of memory
pub is_memory : (r : CellRefusal) → limit_of r ≡ None → r ≡ Memory
is_memory Memory e = refl
is_memory TooManyCells e = absurd cc
is_memory TooManyBytes e = absurd cc
is_memory TooManyEntries e = absurd cc

-- a text more
pub bytes_taken : (ts : List (List ℕ)) (n : ℕ) (d : List ℕ) → n < length ts → heap_bytes (text_cells (take n ts)) + (16 + length (get_or ts n d)) ≤ heap_bytes (text_cells ts)
bytes_taken [] n d lt = absurd (omega (arith, lt))
bytes_taken (t ∷ ts) zero d lt = omega arith
bytes_taken (t ∷ ts) (suc n) d lt = omega (arith, bytes_taken ts n d (omega (arith, lt)))

pub text_fits : (h cells : List Cell) (ts : List (List ℕ)) (n : ℕ) (d : List ℕ) → cells ≡ h ++ text_cells (take n ts) → n < length ts → length h + length ts ≤ 1048576 → heap_bytes h + heap_bytes (text_cells ts) ≤ 268435456 → new_cell_limit cells (TextCell (get_or ts n d)) ≡ None
text_fits h cells ts n d grown lt few small =
    let size = ap length grown ∙ length-append h (text_cells (take n ts)) in
    let bytes = ap heap_bytes grown ∙ heap_bytes_append h (text_cells (take n ts)) in
    one_fits cells (TextCell (get_or ts n d)) (omega arith) (omega (arith, size, length_text_cells (take n ts), length-take-le n ts (omega (arith, lt)), lt, few)) (omega (arith, bytes, bytes_taken ts n d lt, small))

-- only the room has changed
pub Follows_room : (old new : Region) (n : ℕ) → new ≡ record old { spare = n } → Follows old new
Follows_room old new n e = rw e (record { grows = omega arith; unmarked = λ id p. p; same = λ id p. refl })

pub bytes_take_more : (ts : List (List ℕ)) (i : ℕ) (d : List ℕ) → i < length ts → heap_bytes (text_cells (take (i + 1) ts)) ≡ heap_bytes (text_cells (take i ts)) + (16 + length (get_or ts i d))
bytes_take_more [] i d lt = absurd (omega (arith, lt))
bytes_take_more (t ∷ ts) zero d lt = omega arith
bytes_take_more (t ∷ ts) (suc i) d lt =
    let e : suc i + 1 ≡ suc (i + 1) = omega arith in rw e (omega (arith, bytes_take_more ts i d (omega (arith, lt))))

take_more : (ts : List (List ℕ)) (n : ℕ) (d : List ℕ) → n < length ts → text_cells (take (n + 1) ts) ≡ text_cells (take n ts) ++ TextCell (get_or ts n d) ∷ []
take_more [] n d lt = absurd (omega (arith, lt))
take_more (t ∷ ts) zero d lt = refl
take_more (t ∷ ts) (suc n) d lt =
    let e : suc n + 1 ≡ suc (n + 1) = omega arith in rw e (ap (λ cs. TextCell t ∷ cs) (take_more ts n d (omega (arith, lt))))

-- a text more was made
pub made_more : (h cells new : List Cell) (ts : List (List ℕ)) (n k : ℕ) (t : List ℕ) → k ≡ n + 1 → n < length ts → t ≡ get_or ts n t → cells ≡ h ++ text_cells (take n ts) → new ≡ cells ++ TextCell t ∷ [] → new ≡ h ++ text_cells (take k ts)
made_more h cells new ts n k t next lt at before grown =
    grown ∙ ap (λ cs. cs ++ TextCell t ∷ []) before ∙ append_assoc h (text_cells (take n ts)) (TextCell t ∷ [])
    ∙ ap (λ u. h ++ (text_cells (take n ts) ++ TextCell u ∷ [])) at
    ∙ ap (λ cs. h ++ cs) (sym (take_more ts n t lt)) ∙ ap (λ m. h ++ text_cells (take m ts)) (sym next)

pub refused_for_memory : (r : CellRefusal) → limit_of r ≡ None → ◌≡◌ {A = Result ℕ CellRefusal} (Err r) (Err Memory)
refused_for_memory r e = ap (λ x. Err x) (is_memory r e)

-- texts and a list of few values
pub new_list_of_few : (h : List Cell) (ts : List (List ℕ)) (vs : List Value) → ltb 65536 (length vs) ≡ false → new_list_of product_limits h (text_cells ts) vs ≡ with_new product_limits h (text_cells ts ++ ListCell vs ∷ []) (λ g. Gives g (InCell (length h + length ts)))
new_list_of_few h ts vs few =
    let all : ℕ → Answer = λ n. with_new product_limits h (text_cells ts ++ ListCell vs ∷ []) (λ g. Gives g (InCell (length h + n))) in
    ap (λ b. if b then Meets CollectionSize else all (length (text_cells ts))) few ∙ ap all (length_text_cells ts)
