-- The entries of a map, one further: their values, and their keys as values with the cells that these need.
use Rattle.std.proofs.Common.{◌≡◌, ℕ, ◌+◌, ◌<◌, ◌≤◌, Bool, cond, ltb, List, [], ◌∷◌, ◌++◌, length, drop, Some, None, slice_get, sym, ap, ap₂, ◌∙◌, append_assoc, length-append, subst, arith}
use Rattle.std.proofs.lemmas.Bool.{lt-ltb, le-ltb}
use Rattle.std.proofs.lemmas.List.Elements.{All-nil, All-cons, All-head, All-tail}
use Rattle.std.specs.List.{All}
use Rattle.std.specs.Map.{values_of}
use Rattle.cell_heap.specs.Soundness.{ValueBelow}
use Rattle.model_values.specs.Cells.{Gives, Meets, heap_bytes, new_list_of, no_room, unless_limit}
use Rattle.model_values.specs.Limits.{product_limits}
use Rattle.model_values.specs.ListMethods.{key_cells, key_values}
use Rattle.model_values.specs.TextMethods.{text_cells}
use Rattle.cell_heap.specs.ValueTypes.{Value, Whole, InCell, Key, IntKey, TextKey, Cell, TextCell, ListCell, CollectionSize, Cells, HeapBytes}
use Rattle.value_ops.proofs.CellLemmas.{length_text_cells, text_cells_append}
use Rattle.value_view.proofs.PartLemmas.{entries-more}

pub values-more : (done : List Value) (es : List (Key × Value)) (i : ℕ) (e : Key × Value) (whole : List Value) → slice_get es i ≡ Some e → done ++ values_of (drop i es) ≡ whole → (done ++ e.1 ∷ []) ++ values_of (drop (i + 1) es) ≡ whole
values-more done es i e whole got before =
    append_assoc done (e.1 ∷ []) (values_of (drop (i + 1) es)) ∙ sym (ap (λ (fs : List (Key × Value)). done ++ values_of fs) (entries-more es i e got)) ∙ before

-- a key that is a text has a cell, and a number has none
pub texts-more : (ts : List (List ℕ)) (t : List ℕ) (es : List (Key × Value)) (i : ℕ) (v : Value) (whole : List Cell) → slice_get es i ≡ Some (TextKey t, v) → text_cells ts ++ key_cells (drop i es) ≡ whole → text_cells (ts ++ t ∷ []) ++ key_cells (drop (i + 1) es) ≡ whole
texts-more ts t es i v whole got before =
    let rest = key_cells (drop (i + 1) es) in
    ap (λ (cs : List Cell). cs ++ rest) (text_cells_append ts (t ∷ [])) ∙ append_assoc (text_cells ts) (TextCell t ∷ []) rest
    ∙ sym (ap (λ (fs : List (Key × Value)). text_cells ts ++ key_cells fs) (entries-more es i (TextKey t, v) got)) ∙ before

pub texts-same : (ts : List (List ℕ)) (x : _) (es : List (Key × Value)) (i : ℕ) (v : Value) (whole : List Cell) → slice_get es i ≡ Some (IntKey x, v) → text_cells ts ++ key_cells (drop i es) ≡ whole → text_cells ts ++ key_cells (drop (i + 1) es) ≡ whole
texts-same ts x es i v whole got before =
    sym (ap (λ (fs : List (Key × Value)). text_cells ts ++ key_cells fs) (entries-more es i (IntKey x, v) got)) ∙ before

pub keys-text : (done : List Value) (n : ℕ) (t : List ℕ) (es : List (Key × Value)) (i : ℕ) (v : Value) (whole : List Value) → slice_get es i ≡ Some (TextKey t, v) → done ++ key_values n (drop i es) ≡ whole → (done ++ InCell n ∷ []) ++ key_values (n + 1) (drop (i + 1) es) ≡ whole
keys-text done n t es i v whole got before =
    append_assoc done (InCell n ∷ []) (key_values (n + 1) (drop (i + 1) es))
    ∙ sym (ap (λ (fs : List (Key × Value)). done ++ key_values n fs) (entries-more es i (TextKey t, v) got)) ∙ before

pub keys-number : (done : List Value) (n : ℕ) (x : _) (es : List (Key × Value)) (i : ℕ) (v : Value) (whole : List Value) → slice_get es i ≡ Some (IntKey x, v) → done ++ key_values n (drop i es) ≡ whole → (done ++ Whole x ∷ []) ++ key_values n (drop (i + 1) es) ≡ whole
keys-number done n x es i v whole got before =
    append_assoc done (Whole x ∷ []) (key_values n (drop (i + 1) es))
    ∙ sym (ap (λ (fs : List (Key × Value)). done ++ key_values n fs) (entries-more es i (IntKey x, v) got)) ∙ before

-- how many values there are, and which cells they name
length_keys : (n : ℕ) (es : List (Key × Value)) → length (key_values n es) ≡ length es
length_keys n [] = omega arith
length_keys n ((IntKey x, v) ∷ es) = omega (arith, length_keys n es)
length_keys n ((TextKey t, v) ∷ es) = omega (arith, length_keys (n + 1) es)

keys_within : (n m : ℕ) (es : List (Key × Value)) → n + length (key_cells es) ≤ m → All (ValueBelow m) (key_values n es)
keys_within n m [] le = All-nil (ValueBelow m)
keys_within n m ((IntKey x, v) ∷ es) le = All-cons (ValueBelow m) (Whole x) (key_values n es) tt (keys_within n m es (omega (arith, le)))
keys_within n m ((TextKey t, v) ∷ es) le = All-cons (ValueBelow m) (InCell n) (key_values (n + 1) es) (omega (arith, le)) (keys_within (n + 1) m es (omega (arith, le)))

pub keys_below : (n : ℕ) (es : List (Key × Value)) (ts : List (List ℕ)) (vs : List Value) → text_cells ts ≡ key_cells es → vs ≡ key_values n es → All (ValueBelow (n + length ts)) vs
keys_below n es ts vs texts values =
    subst (λ (ws : List Value). All (ValueBelow (n + length ts)) ws) (sym values) (keys_within n (n + length ts) es (omega (arith, length_text_cells ts, ap length texts)))

-- too many keys, and too many cells
pub keys_too_many : (h : List Cell) (es : List (Key × Value)) → 65536 < length es → new_list_of product_limits h (key_cells es) (key_values (length h) es) ≡ Meets CollectionSize
keys_too_many h es more =
    let vs = key_values (length h) es in
    let new = key_cells es ++ ListCell vs ∷ [] in
    let size : 65536 < length vs = omega (arith, length_keys (length h) es, more) in
    ap (λ (b : Bool). cond b (Meets CollectionSize) (unless_limit (no_room product_limits h new) (Gives (h ++ new) (InCell (length h + length (key_cells es)))))) (lt-ltb 65536 (length vs) size)

pub keys_no_cells : (h : List Cell) (es : List (Key × Value)) → length es ≤ 65536 → 1048576 ≤ length h → new_list_of product_limits h (key_cells es) (key_values (length h) es) ≡ Meets Cells
keys_no_cells h es few full =
    let vs = key_values (length h) es in
    let new = key_cells es ++ ListCell vs ∷ [] in
    let size : length vs ≤ 65536 = omega (arith, length_keys (length h) es, few) in
    let count : 1048576 < length h + length new = omega (arith, length-append (key_cells es) (ListCell vs ∷ []), full) in
    ap (λ (b : Bool). cond b (Meets CollectionSize) (unless_limit (no_room product_limits h new) (Gives (h ++ new) (InCell (length h + length (key_cells es)))))) (le-ltb 65536 (length vs) size)
    ∙ ap (λ (b : Bool). unless_limit (cond b (Some Cells) (cond (ltb 268435456 (heap_bytes h + heap_bytes new)) (Some HeapBytes) None)) (Gives (h ++ new) (InCell (length h + length (key_cells es))))) (lt-ltb 1048576 (length h + length new) count)

pub keys_are : (h : List Cell) (es : List (Key × Value)) (ts : List (List ℕ)) (vs : List Value) → text_cells ts ≡ key_cells es → vs ≡ key_values (length h) es → new_list_of product_limits h (key_cells es) (key_values (length h) es) ≡ new_list_of product_limits h (text_cells ts) vs
keys_are h es ts vs texts values = sym (ap₂ (λ (cs : List Cell) (ws : List Value). new_list_of product_limits h cs ws) texts values)

pub values_below : (n : ℕ) (es : List (Key × Value)) → All (λ e. ValueBelow n e.1) es → All (ValueBelow n) (values_of es)
values_below n [] all = All-nil (ValueBelow n)
values_below n (e ∷ es) all = All-cons (ValueBelow n) e.1 (values_of es) (All-head (λ e. ValueBelow n e.1) e es all) (values_below n es (All-tail (λ e. ValueBelow n e.1) e es all))
