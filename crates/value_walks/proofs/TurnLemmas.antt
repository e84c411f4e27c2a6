-- How long the element of a turn is: an entry of a map is its key and its value.
use Rattle.std.proofs.Common.{◌≡◌, ℕ, Bool, true, false, cond, List, [], ◌∷◌, ◌++◌, ◌+◌, length, Option, Some, None, Ok, Err, Result, slice_get, refl, subst}
use Rattle.std.specs.Prelude.{pos, int_lt, IfOk, IfSome}
use Rattle.cell_heap.specs.Region.{Region}
use Rattle.model_run.specs.Calls.{element_size}
use Rattle.model_values.specs.Cells.{no_room}
use Rattle.model_values.specs.Kinds.{Kind, null, flag, number, text, items, pairs, closure, thrown}
use Rattle.model_values.specs.Limits.{product_limits}
use Rattle.model_values.specs.Walks.{Turn as Element, Turns, Past, Stops, element_turn, entry_map, entry_turn, key_cell, key_value, unless_full, walk_turn}
use Rattle.model_values.specs.declared.cell.Cell.{Cell}
use Rattle.model_values.specs.declared.key.Key.{Key}
use Rattle.model_values.specs.declared.limit.LimitKind.{LimitKind}
use Rattle.model_values.specs.declared.value.Value.{Value}
use Rattle.model_values.specs.declared.value.Value.TheVariants.{Cell as InCell, Int as Whole}
use Rattle.value_view.specs.declared.refusal.OpRefusal.{OpRefusal}
use Rattle.value_walks.specs.Turns.{TurnAnswers, listed}
use Rattle.value_walks.specs.declared.turns.Turn.{Turn}

-- if the turn begins, its element has n values
abbrev IsSized : ℕ → Element → Type 0
IsSized n (Turns g args element) = length element ≡ n
IsSized n Past = Unit {0}
IsSized n (Stops k) = Unit {0}

unless_full_sized : (n : ℕ) (h : List Cell) (o : Option LimitKind) (t : Element) → IsSized n t → IsSized n (unless_full product_limits h o t)
unless_full_sized n h None t s = s
unless_full_sized n h (Some k) t s = tt

value_sized : (h : List Cell) (o : Option Value) → IsSized 1 (element_turn product_limits h o)
value_sized h None = tt
value_sized h (Some v) = refl

entry_sized : (h : List Cell) (two : Bool) (o : Option (Key × Value)) → IsSized 2 (entry_turn product_limits h two o)
entry_sized h true None = tt
entry_sized h false None = tt
entry_sized h true (Some e) =
    let entry = key_value (length h) e.0 ∷ e.1 ∷ [] in
    unless_full_sized 2 h (no_room product_limits h (key_cell e.0)) (Turns (h ++ key_cell e.0) entry entry) refl
entry_sized h false (Some e) =
    let map = entry_map (key_value (length h) e.0) e.1 in
    unless_full_sized 2 h (no_room product_limits h (key_cell e.0 ++ map ∷ []))
    (Turns (h ++ key_cell e.0 ++ map ∷ []) (InCell (length h + length (key_cell e.0)) ∷ []) (key_value (length h) e.0 ∷ e.1 ∷ [])) refl

number_sized : (b : Bool) (h : List Cell) (v : Value) → IsSized 1 (cond b (Turns h (v ∷ []) (v ∷ [])) Past)
number_sized true h v = refl
number_sized false h v = tt

turn_sized : (h : List Cell) (k : Kind) (two : Bool) (i : ℕ) → IsSized (element_size k) (walk_turn product_limits h k two i)
turn_sized h null two i = tt
turn_sized h (flag b) two i = tt
turn_sized h (number x) two i = number_sized (int_lt (pos i) x) h (Whole (pos i))
turn_sized h (text t) two i = tt
turn_sized h (items c vs) two i = value_sized h (slice_get vs i)
turn_sized h (pairs c es) two i = entry_sized h two (slice_get es i)
turn_sized h (closure c) two i = tt
turn_sized h (thrown c class m) two i = tt

pub element_sized : (h : List Cell) (k : Kind) (two : Bool) (i : ℕ) (old new : Region) (r : Result (Option Turn) OpRefusal) → TurnAnswers (walk_turn product_limits h k two i) old new r → IfOk r (λ turn. IfSome turn (λ some. length (listed some.element) ≡ element_size k))
element_sized h k two i old new (Ok (Some turn)) a = subst (IsSized (element_size k)) a (turn_sized h k two i)
element_sized h k two i old new (Ok None) a = tt
element_sized h k two i old new (Err e) a = tt
