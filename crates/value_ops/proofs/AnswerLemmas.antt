-- What a call on the heap answers, as the answer of a table: a cell that was made or changed, or the limit that was met.
use Rattle.std.proofs.Common.{◌≡◌, ℕ, ◌+◌, ◌<◌, Bool, true, false, if◌then◌else◌, List, [], ◌∷◌, ◌++◌, length, ltb, Option, Some, None, Err, Ok, Result, slice_set, refl, sym, ap, ap₂, ◌∙◌, subst, length-append, arith}
use Rattle.std.specs.Map.{lookup}
use Rattle.indexmap.specs.IndexMap.{insert_entry}
use Rattle.model_values.specs.Cells.{Answer, Gives, Throws, Meets, heap_bytes, key_bytes, list_push, map_put, new_list, new_map, new_text, no_room, put_over, throw, unless_limit}
use Rattle.model_values.specs.Keys.{same_key}
use Rattle.model_values.specs.Limits.{product_limits}
use Rattle.model_values.specs.declared.cell.Cell.{Cell}
use Rattle.model_values.specs.declared.cell.Cell.TheVariants.{Text as TextCell, List as ListCell, Map as MapCell}
use Rattle.model_values.specs.declared.key.Key.{Key}
use Rattle.model_values.specs.declared.limit.LimitKind.{LimitKind}
use Rattle.model_values.specs.declared.limit.LimitKind.TheVariants.{CollectionSize, HeapBytes, TextLength}
use Rattle.model_values.specs.declared.value.Value.{Value}
use Rattle.model_values.specs.declared.value.Value.TheVariants.{Bool as Truth, Cell as InCell}
use Rattle.cell_heap.specs.Refusals.{limit_of, list_push_limit, map_put_limit, new_cell_limit, put_limit}
use Rattle.cell_heap.specs.Region.{Region}
use Rattle.cell_heap.specs.declared.refusal.CellRefusal.{CellRefusal}
use Rattle.cell_heap.specs.declared.refusal.CellRefusal.TheVariants.{Memory as NoMemory, Cells as TooManyCells, Bytes as TooManyBytes, Entries as TooManyEntries}
use Rattle.cell_heap.proofs.FollowsLemmas.{Follows-same}
use Rattle.value_ops.specs.Effects.{EffectBelow, HasAnswer, IsReadAs, NamesNone, made_cell}
use Rattle.value_ops.specs.declared.effect.Effect.{Effect}
use Rattle.std.specs.Result.{IfOk}
use Rattle.value_view.specs.Answers.{Answers, Leaves, ResultBelow}
use Rattle.std.specs.Prelude.{codes}
use Rattle.model_values.specs.Throws.{throw_kind}
use Rattle.model_values.specs.declared.throwable.Class.TheVariants.{IllegalArgument}
use Rattle.value_view.specs.Seen.{seen}
use Rattle.value_view.specs.declared.kind.Kind.{Kind}
use Rattle.value_view.specs.declared.kind.Kind.TheVariants.{Null, Flag, Number, Text, List as Items, Map as Pairs, Closure, Thrown as ThrownKind}
use Rattle.value_view.specs.Refusals.{refusal_of}
use Rattle.value_view.specs.declared.refusal.OpRefusal.{OpRefusal}
use Rattle.value_view.specs.declared.refusal.OpRefusal.TheVariants.{Memory, Thrown, Limit}

-- a call that was refused and has changed nothing
pub answers_refused : (limit : Option LimitKind) (go : Answer) (r : CellRefusal) (old new : Region) → limit ≡ limit_of r → new ≡ old → Answers (unless_limit limit go) old new (Err (refusal_of r))
answers_refused limit go NoMemory old new e same = ap (λ (s : Region). s.cells) same
answers_refused limit go TooManyCells old new e same = (ap (λ o. unless_limit o go) e, ap (λ (s : Region). s.cells) same)
answers_refused limit go TooManyBytes old new e same = (ap (λ o. unless_limit o go) e, ap (λ (s : Region). s.cells) same)
answers_refused limit go TooManyEntries old new e same = (ap (λ o. unless_limit o go) e, ap (λ (s : Region). s.cells) same)

below_refused : (n : ℕ) (r : CellRefusal) → ResultBelow n (Err (refusal_of r))
below_refused n NoMemory = tt
below_refused n TooManyCells = tt
below_refused n TooManyBytes = tt
below_refused n TooManyEntries = tt

pub leaves_refused : (r : CellRefusal) (old new : Region) → new ≡ old → Leaves old new (Err (refusal_of r))
leaves_refused r old new same = record { follows = Follows-same old new same; below = below_refused (length new.cells) r }

-- a call that changed no cell
pub leaves_same : (old new : Region) (result : Result Value OpRefusal) → new ≡ old → ResultBelow (length new.cells) result → Leaves old new result
leaves_same old new result same below = record { follows = Follows-same old new same; below = below }

-- a new cell
pub gives_made : (old new : Region) (c : Cell) (id : ℕ) → new_cell_limit old.cells c ≡ None → id ≡ length old.cells → new.cells ≡ old.cells ++ c ∷ [] → made_cell old.cells c ≡ Gives new.cells (InCell id)
gives_made old new c id none number grown =
    ap (λ o. unless_limit o (Gives (old.cells ++ c ∷ []) (InCell (length old.cells)))) none ∙ sym (ap₂ (λ cs n. Gives cs (InCell n)) grown number)

pub throws_made : (old new : Region) (c : Cell) (id : ℕ) → new_cell_limit old.cells c ≡ None → id ≡ length old.cells → new.cells ≡ old.cells ++ c ∷ [] → unless_limit (new_cell_limit old.cells c) (Throws (old.cells ++ c ∷ []) (length old.cells)) ≡ Throws new.cells id
throws_made old new c id none number grown =
    ap (λ o. unless_limit o (Throws (old.cells ++ c ∷ []) (length old.cells))) none ∙ sym (ap₂ (λ cs n. Throws cs n) grown number)

pub made_below : (old new : Region) (c : Cell) (id : ℕ) → id ≡ length old.cells → new.cells ≡ old.cells ++ c ∷ [] → id < length new.cells
made_below old new c id number grown = omega (arith, number, ap length grown, length-append old.cells (c ∷ []))

-- a table that tests the entries first is `made_cell`
by_entries : (b : Bool) (o : Option LimitKind) (go : Answer) → (if b then Meets CollectionSize else unless_limit o go) ≡ unless_limit (if b then Some CollectionSize else o) go
by_entries true o go = refl
by_entries false o go = refl

pub new_list-made : (h : List Cell) (vs : List Value) → new_list product_limits h vs ≡ made_cell h (ListCell vs)
new_list-made h vs = by_entries (ltb 65536 (length vs)) (no_room product_limits h (ListCell vs ∷ [])) (Gives (h ++ ListCell vs ∷ []) (InCell (length h)))

pub new_map-made : (h : List Cell) (es : List (Key × Value)) → new_map product_limits h es ≡ made_cell h (MapCell es)
new_map-made h es = by_entries (ltb 65536 (length es)) (no_room product_limits h (MapCell es ∷ [])) (Gives (h ++ MapCell es ∷ []) (InCell (length h)))

pub new_text-made : (h : List Cell) (t : List ℕ) → ltb 1048576 (length t) ≡ false → new_text product_limits h t ≡ made_cell h (TextCell t)
new_text-made h t short = ap (λ b. if b then Meets TextLength else made_cell h (TextCell t)) short

pub new_text-long : (h : List Cell) (t : List ℕ) → ltb 1048576 (length t) ≡ true → new_text product_limits h t ≡ Meets TextLength
new_text-long h t long = ap (λ b. if b then Meets TextLength else made_cell h (TextCell t)) long

-- a list and a map that grow
by_growth : (a b : Bool) (go : Answer) → (if a then Meets CollectionSize else if b then Meets HeapBytes else go) ≡ unless_limit (if a then Some CollectionSize else if b then Some HeapBytes else None) go
by_growth true b go = refl
by_growth false true go = refl
by_growth false false go = refl

pub list_push-by_limit : (h : List Cell) (c : ℕ) (vs : List Value) (v : Value) → list_push product_limits h c vs v ≡ unless_limit (list_push_limit h vs) (Gives (slice_set h c (ListCell (vs ++ v ∷ []))) (Truth true))
list_push-by_limit h c vs v = by_growth (ltb 65536 (length vs + 1)) (ltb 268435456 (heap_bytes h + 16)) (Gives (slice_set h c (ListCell (vs ++ v ∷ []))) (Truth true))

put_over-by_limit : (h : List Cell) (o : Option Value) (c : ℕ) (es : List (Key × Value)) (k : Key) (v gives : Value) → put_over product_limits h o c es k v gives ≡ unless_limit (put_limit (heap_bytes h) es k o) (Gives (slice_set h c (MapCell (insert_entry same_key es k v))) gives)
put_over-by_limit h (Some old) c es k v gives = refl
put_over-by_limit h None c es k v gives =
    let go = Gives (slice_set h c (MapCell (insert_entry same_key es k v))) gives in
    let same : heap_bytes h + 32 + key_bytes k ≡ heap_bytes h + (32 + key_bytes k) = omega arith in
    by_growth (ltb 65536 (length es + 1)) (ltb 268435456 (heap_bytes h + 32 + key_bytes k)) go
    ∙ ap (λ n. unless_limit (if ltb 65536 (length es + 1) then Some CollectionSize else if ltb 268435456 n then Some HeapBytes else None) go) same

pub map_put-by_limit : (h : List Cell) (c : ℕ) (es : List (Key × Value)) (k : Key) (v gives : Value) → map_put product_limits h c es k v gives ≡ unless_limit (map_put_limit h es k) (Gives (slice_set h c (MapCell (insert_entry same_key es k v))) gives)
map_put-by_limit h c es k v gives = put_over-by_limit h (lookup (same_key k) es) c es k v gives

-- a call whose limit was not met
pub admitted : (limit : Option LimitKind) (go : Answer) → limit ≡ None → unless_limit limit go ≡ go
admitted limit go none = ap (λ o. unless_limit o go) none

-- an answer under another name
pub answers_as : (a b : Answer) (old new : Region) (result : Result Value OpRefusal) → b ≡ a → Answers a old new result → Answers b old new result
answers_as a b old new result e h = subst (λ x. Answers x old new result) (sym e) h

-- operands that could not be read: no cell has changed
pub answers_read : (a : Answer) (r : Region) (e : OpRefusal) → IsReadAs r.cells a (Err e) → Answers a r r (Err e)
answers_read a r Memory h = refl
answers_read a r (Thrown c) h = absurd h
answers_read a r (Limit k) h = (h, refl)

below_read : (a : Answer) (r : Region) (e : OpRefusal) → IsReadAs r.cells a (Err e) → ResultBelow (length r.cells) (Err e)
below_read a r Memory h = tt
below_read a r (Thrown c) h = absurd h
below_read a r (Limit k) h = tt

pub leaves_read : (a : Answer) (r : Region) (e : OpRefusal) → IsReadAs r.cells a (Err e) → Leaves r r (Err e)
leaves_read a r e h = record { follows = Follows-same r r refl; below = below_read a r e h }

-- what names no cell is among any first cells
pub below_any : {E : Type 0} (r : Result Effect E) (n : ℕ) → IfOk r NamesNone → IfOk r (EffectBelow n)
below_any (Ok e) n h = h n
below_any (Err e) n h = h

-- a kind that is no throwable
pub thrown_other : {E : Type 0} (r : Result Effect E) (k : Kind) → ((x : _) (x' : _) (x'' : _) → k ≡ ThrownKind x x' x'' → ⊥) → IfOk r (HasAnswer (λ h. throw product_limits h IllegalArgument (codes "not a throwable"))) → IfOk r (HasAnswer (λ h. throw_kind product_limits h (seen k)))
thrown_other r Null n h = h
thrown_other r (Flag b) n h = h
thrown_other r (Number x) n h = h
thrown_other r (Text t) n h = h
thrown_other r (Items c vs) n h = h
thrown_other r (Pairs c es) n h = h
thrown_other r (Closure c) n h = h
thrown_other r (ThrownKind c class m) n h = absurd (n c class m refl)
