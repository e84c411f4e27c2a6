-- The tests of values decide what the table of frames says of them, both ways.
use Rattle.std.proofs.Common.{◌≡◌, ◌∙◌, ◌<◌, ◌≤◌, ◌+◌, ◌-◌, Bool, true, false, not, List, [], ◌∷◌, length, Option, Some, refl, ap, arith}
use Rattle.std.specs.Prelude.{nat_lt, ◌&&◌, slice_get, pos}
use Rattle.std.proofs.lemmas.Bool.{ltb-true, ltb-false, lt-ltb, le-ltb}
use Rattle.model_run.specs.ValueTypes.{Value, Null, Truth, Whole, InCell, Cell}
use Rattle.model_values.specs.declared.cell.Cell.TheVariants as cell
use Rattle.model_values.specs.Fitting.{There, HasClosure, HasText, HasThrowable}
use Rattle.model_run.specs.State.{Common}
use Rattle.model_run.specs.Fitting.{known}
use Rattle.model_run.specs.FrameTable.{Sort, Any, Up_to, A_count, Flag, Flow_node, A_closure, A_throwable, Text_or_null, Further, No_more, One_more, Any_more}
use Rattle.model_run.specs.Nesting.{FurtherFit, ValuesFit}
use Rattle.frame_rows.specs.Values.{all_there, further_fit, is_closure, is_text, is_there, is_throwable, value_fits, values_fit}

left_true : (a b : Bool) → (a && b) ≡ true → a ≡ true
left_true true b e = refl
left_true false b e = e

right_true : (a b : Bool) → (a && b) ≡ true → b ≡ true
right_true true b e = e
right_true false b e = absurd (cc e)

both_true : (a b : Bool) → a ≡ true → b ≡ true → (a && b) ≡ true
both_true a b e d = ap (λ x. x && b) e ∙ d

not_true : (a : Bool) → not a ≡ true → a ≡ false
not_true true e = absurd (cc e)
not_true false e = refl

there : (h : List Cell) (v : Value) → is_there h v ≡ true → There h v
there h (InCell c) e = ltb-true c (length h) e
there h Null e = tt
there h (Truth b) e = tt
there h (Whole z) e = tt

is_so : (h : List Cell) (v : Value) → There h v → is_there h v ≡ true
is_so h (InCell c) lt = lt-ltb c (length h) lt
is_so h Null lt = refl
is_so h (Truth b) lt = refl
is_so h (Whole z) lt = refl

closure : (o : Option Cell) → is_closure o ≡ true → HasClosure o
closure (Some (cell.Closure k env)) e = tt
closure o e = absurd (cc e)

closure_so : (o : Option Cell) → HasClosure o → is_closure o ≡ true
closure_so (Some (cell.Closure k env)) h = refl
closure_so o h = absurd h

throwable : (o : Option Cell) → is_throwable o ≡ true → HasThrowable o
throwable (Some (cell.Thrown c m)) e = tt
throwable o e = absurd (cc e)

throwable_so : (o : Option Cell) → HasThrowable o → is_throwable o ≡ true
throwable_so (Some (cell.Thrown c m)) h = refl
throwable_so o h = absurd h

text : (o : Option Cell) → is_text o ≡ true → HasText o
text (Some (cell.Text t)) e = tt
text o e = absurd (cc e)

text_so : (o : Option Cell) → HasText o → is_text o ≡ true
text_so (Some (cell.Text t)) h = refl
text_so o h = absurd h

-- a value that the test lets pass is of its sort
pub fits_known : (u : Common) (s : Sort) (v : Value) → value_fits u.cells (length u.nodes) s v ≡ true → known u s v
fits_known u Any v e = there u.cells v e
fits_known u (Up_to m) (Whole (pos n)) e = ltb-false m n (not_true (nat_lt m n) e)
fits_known u A_count (Whole (pos n)) e = tt
fits_known u Flag (Truth b) e = tt
fits_known u Flow_node (Whole (pos n)) e =
    let low : 1 < n = ltb-true 1 n (left_true (nat_lt 1 n) (nat_lt (n - 2) (length u.nodes)) e) in
    let high : n - 2 < length u.nodes = ltb-true (n - 2) (length u.nodes) (right_true (nat_lt 1 n) (nat_lt (n - 2) (length u.nodes)) e) in
    (omega (arith, low), omega (arith, low, high))
fits_known u A_closure (InCell c) e = closure (slice_get u.cells c) e
fits_known u A_throwable (InCell c) e = throwable (slice_get u.cells c) e
fits_known u Text_or_null Null e = tt
fits_known u Text_or_null (InCell c) e = text (slice_get u.cells c) e
fits_known u s v e = absurd (cc e)

-- and one of its sort passes
pub known_fits : (u : Common) (s : Sort) (v : Value) → known u s v → value_fits u.cells (length u.nodes) s v ≡ true
known_fits u Any v h = is_so u.cells v h
known_fits u (Up_to m) (Whole (pos n)) h = ap not (le-ltb m n h)
known_fits u A_count (Whole (pos n)) h = refl
known_fits u Flag (Truth b) h = refl
known_fits u Flow_node (Whole (pos n)) h =
    let low : 2 ≤ n = h.0 in
    let high : n < length u.nodes + 2 = h.1 in
    both_true (nat_lt 1 n) (nat_lt (n - 2) (length u.nodes)) (lt-ltb 1 n (omega (arith, low))) (lt-ltb (n - 2) (length u.nodes) (omega (arith, low, high)))
known_fits u A_closure (InCell c) h = closure_so (slice_get u.cells c) h
known_fits u A_throwable (InCell c) h = throwable_so (slice_get u.cells c) h
known_fits u Text_or_null Null h = refl
known_fits u Text_or_null (InCell c) h = text_so (slice_get u.cells c) h
known_fits u s v h = absurd h

many_known : (u : Common) (vs : List Value) → all_there u.cells vs ≡ true → FurtherFit (known u) Any_more vs
many_known u [] e = tt
many_known u (v ∷ vs) e = (there u.cells v (left_true (is_there u.cells v) (all_there u.cells vs) e), many_known u vs (right_true (is_there u.cells v) (all_there u.cells vs) e))

known_many : (u : Common) (vs : List Value) → FurtherFit (known u) Any_more vs → all_there u.cells vs ≡ true
known_many u [] h = refl
known_many u (v ∷ vs) h = both_true (is_there u.cells v) (all_there u.cells vs) (is_so u.cells v h.0) (known_many u vs h.1)

further_known : (u : Common) (x : Further) (vs : List Value) → further_fit u.cells x vs ≡ true → FurtherFit (known u) x vs
further_known u x [] e = tt
further_known u No_more (v ∷ vs) e = absurd (cc e)
further_known u One_more (v ∷ []) e = (there u.cells v e, refl)
further_known u One_more (v ∷ w ∷ vs) e = absurd (cc e)
further_known u Any_more (v ∷ vs) e = many_known u (v ∷ vs) e

known_further : (u : Common) (x : Further) (vs : List Value) → FurtherFit (known u) x vs → further_fit u.cells x vs ≡ true
known_further u x [] h = refl
known_further u No_more (v ∷ vs) h = absurd h
known_further u One_more (v ∷ []) h = is_so u.cells v h.0
known_further u One_more (v ∷ w ∷ vs) h = absurd (cc h.1)
known_further u Any_more (v ∷ vs) h = known_many u (v ∷ vs) h

-- the same of all values of a frame
pub values_known : (u : Common) (x : Further) (xs : List Sort) (vs : List Value) → values_fit u.cells (length u.nodes) x xs vs ≡ true → ValuesFit (known u) x xs vs
values_known u x [] vs e = further_known u x vs e
values_known u x (s ∷ xs) [] e = absurd (cc e)
values_known u x (s ∷ xs) (v ∷ vs) e =
    let a = value_fits u.cells (length u.nodes) s v in
    let b = values_fit u.cells (length u.nodes) x xs vs in
    (fits_known u s v (left_true a b e), values_known u x xs vs (right_true a b e))

pub known_values : (u : Common) (x : Further) (xs : List Sort) (vs : List Value) → ValuesFit (known u) x xs vs → values_fit u.cells (length u.nodes) x xs vs ≡ true
known_values u x [] vs h = known_further u x vs h
known_values u x (s ∷ xs) [] h = absurd h
known_values u x (s ∷ xs) (v ∷ vs) h =
    both_true (value_fits u.cells (length u.nodes) s v) (values_fit u.cells (length u.nodes) x xs vs) (known_fits u s v h.0) (known_values u x xs vs h.1)
