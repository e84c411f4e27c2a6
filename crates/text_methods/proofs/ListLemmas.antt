-- Lists of new texts.
use Rattle.std.proofs.Common.{◌≡◌, ℕ, suc, ◌+◌, ◌<◌, ◌≤◌, ltb, Bool, cond, List, [], ◌∷◌, ◌++◌, length, drop, Some, None, refl, sym, ap, ap₂, ◌∙◌, arith}
use Rattle.std.specs.List.{All}
use Rattle.std.proofs.lemmas.Bool.{lt-ltb, le-ltb}
use Rattle.std.proofs.lemmas.List.{append_assoc, drop_more, length-append}
use Rattle.std.proofs.lemmas.List.Elements.{All-nil, All-cons}
use Rattle.cell_heap.specs.Soundness.{ValueBelow}
use Rattle.model_values.specs.Cells.{Meets, Gives, new_list_of, no_room, unless_limit, heap_bytes}
use Rattle.model_values.specs.Limits.{product_limits}
use Rattle.model_values.specs.TextMethods.{cells_from, new_texts, text_cells}
use Rattle.model_values.specs.declared.cell.Cell.{Cell}
use Rattle.model_values.specs.declared.cell.Cell.TheVariants.{List as ListCell}
use Rattle.model_values.specs.declared.limit.LimitKind.TheVariants.{CollectionSize, Cells, HeapBytes}
use Rattle.model_values.specs.declared.value.Value.{Value}
use Rattle.model_values.specs.declared.value.Value.TheVariants.{Cell as InCell}

length_cells_from : (n : ℕ) (ts : List (List ℕ)) → length (cells_from n ts) ≡ length ts
length_cells_from n [] = refl
length_cells_from n (t ∷ ts) = ap (λ k. suc k) (length_cells_from (n + 1) ts)

length_text_cells : (ts : List (List ℕ)) → length (text_cells ts) ≡ length ts
length_text_cells [] = refl
length_text_cells (t ∷ ts) = ap (λ k. suc k) (length_text_cells ts)

pub cells_more : (done : List Value) (first : ℕ) (ts : List (List ℕ)) (at : ℕ) → at < length ts → done ++ cells_from (first + at) (drop at ts) ≡ (done ++ InCell (first + at) ∷ []) ++ cells_from (first + (at + 1)) (drop (at + 1) ts)
cells_more done first ts at lt =
    let next : (first + at) + 1 ≡ first + (at + 1) = omega arith in
    ap (λ (xs : List (List ℕ)). done ++ cells_from (first + at) xs) (drop_more ts at [] lt)
    ∙ ap (λ (n : ℕ). done ++ (InCell (first + at) ∷ cells_from n (drop (at + 1) ts))) next
    ∙ sym (append_assoc done (InCell (first + at) ∷ []) (cells_from (first + (at + 1)) (drop (at + 1) ts)))

pub too_long : (h : List Cell) (ts : List (List ℕ)) → 65536 < length ts → new_texts product_limits h ts ≡ Meets CollectionSize
too_long h ts more =
    let vs = cells_from (length h) ts in
    let size : 65536 < length vs = omega (arith, length_cells_from (length h) ts) in
    ap (λ (b : Bool). cond b (Meets CollectionSize) (unless_limit (no_room product_limits h (text_cells ts ++ ListCell vs ∷ [])) (Gives (h ++ (text_cells ts ++ ListCell vs ∷ [])) (InCell (length h + length (text_cells ts)))))) (lt-ltb 65536 (length vs) size)

pub no_cells : (h : List Cell) (ts : List (List ℕ)) → length ts ≤ 65536 → 1048576 ≤ length h + length ts → new_texts product_limits h ts ≡ Meets Cells
no_cells h ts few more =
    let vs = cells_from (length h) ts in
    let new = text_cells ts ++ ListCell vs ∷ [] in
    let size : length vs ≤ 65536 = omega (arith, length_cells_from (length h) ts) in
    let count : 1048576 < length h + length new = omega (arith, length-append (text_cells ts) (ListCell vs ∷ []), length_text_cells ts) in
    ap (λ (b : Bool). cond b (Meets CollectionSize) (unless_limit (no_room product_limits h new) (Gives (h ++ new) (InCell (length h + length (text_cells ts)))))) (le-ltb 65536 (length vs) size)
    ∙ ap (λ (b : Bool). unless_limit (cond b (Some Cells) (cond (ltb 268435456 (heap_bytes h + heap_bytes new)) (Some HeapBytes) None)) (Gives (h ++ new) (InCell (length h + length (text_cells ts))))) (lt-ltb 1048576 (length h + length new) count)

pub cells_below : (n m : ℕ) (ts : List (List ℕ)) → n + length ts ≤ m → All (ValueBelow m) (cells_from n ts)
cells_below n m [] le = All-nil (ValueBelow m)
cells_below n m (t ∷ ts) le = All-cons (ValueBelow m) (InCell n) (cells_from (n + 1) ts) (omega (arith, le)) (cells_below (n + 1) m ts (omega (arith, le)))

pub texts_are : (h : List Cell) (n : ℕ) (texts ts : List (List ℕ)) (values : List Value) → length h ≡ n → texts ≡ ts → values ≡ cells_from n texts → new_list_of product_limits h (text_cells texts) values ≡ new_texts product_limits h ts
texts_are h n texts ts values count same is =
    let cells : ℕ → List (List ℕ) → List Value = λ k xs. cells_from k xs in
    ap₂ (λ (xs : List (List ℕ)) (vs : List Value). new_list_of product_limits h (text_cells xs) vs) same (is ∙ ap₂ cells (sym count) same)
