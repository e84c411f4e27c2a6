-- What a call answers, by its name alone; and what the cell of a list or of a map holds.
use Rattle.std.proofs.Common.{◌≡◌, ℕ, Bool, true, false, cond, Result, Ok, List, length, Option, Some, None, slice_get, refl, ap, subst, ◌∙◌}
use Rattle.std.specs.Prelude.{is_some}
use Rattle.cell_heap.specs.Contents.{pairs_in, values_in}
use Rattle.cell_heap.specs.Region.{Region}
use Rattle.list_methods.specs.CollectionCalls.{collection_call, has_collection}
use Rattle.model_values.specs.Cells.{Answer}
use Rattle.model_values.specs.Fitting.{HasList, HasMap}
use Rattle.model_values.specs.Kinds.{Kind, items, pairs, cell_kind, kind}
use Rattle.model_values.specs.Limits.{product_limits}
use Rattle.model_values.specs.MethodNames.{Method, method_named}
use Rattle.model_values.specs.MethodTable.{has_named, own_by, own_call, own_method}
use Rattle.cell_heap.specs.ValueTypes.{Value, Null, Truth, Whole, InCell, Key, Cell, Variable, TextCell, ListCell, MapCell, ClosureCell, ThrownCell}
use Rattle.model_values.proofs.TableLaws.{own_call_has}
use Rattle.text_methods.specs.Calls.{CallAnswers, is_collection}
use Rattle.value_view.specs.declared.refusal.OpRefusal.{OpRefusal}

-- a list in a cell, and a map
list_by_cell : (d : ℕ) (o : Option Cell) (c : ℕ) (vs : List Value) → cell_kind d o ≡ items c vs → (d ≡ c) × HasList o × (values_in o ≡ vs)
list_by_cell d (Some (ListCell ws)) c vs e = let p : d ≡ c = cc in let q : ws ≡ vs = cc in (p, tt, q)
list_by_cell d (Some (TextCell t)) c vs e = cc
list_by_cell d (Some (MapCell es)) c vs e = cc
list_by_cell d (Some (ClosureCell node env)) c vs e = cc
list_by_cell d (Some (ThrownCell class m)) c vs e = cc
list_by_cell d (Some (Variable v)) c vs e = cc
list_by_cell d None c vs e = cc

pub list_by_kind : (h : List Cell) (a : Value) (c : ℕ) (vs : List Value) → kind h a ≡ items c vs → HasList (slice_get h c) × (values_in (slice_get h c) ≡ vs)
list_by_kind h (InCell d) c vs e =
    let p = list_by_cell d (slice_get h d) c vs e in
    subst (λ n. HasList (slice_get h n) × (values_in (slice_get h n) ≡ vs)) p.0 (p.1, p.2)
list_by_kind h Null c vs e = cc
list_by_kind h (Truth b) c vs e = cc
list_by_kind h (Whole x) c vs e = cc

map_by_cell : (d : ℕ) (o : Option Cell) (c : ℕ) (es : List (Key × Value)) → cell_kind d o ≡ pairs c es → (d ≡ c) × HasMap o × (pairs_in o ≡ es)
map_by_cell d (Some (MapCell fs)) c es e = let p : d ≡ c = cc in let q : fs ≡ es = cc in (p, tt, q)
map_by_cell d (Some (TextCell t)) c es e = cc
map_by_cell d (Some (ListCell vs)) c es e = cc
map_by_cell d (Some (ClosureCell node env)) c es e = cc
map_by_cell d (Some (ThrownCell class m)) c es e = cc
map_by_cell d (Some (Variable v)) c es e = cc
map_by_cell d None c es e = cc

pub map_by_kind : (h : List Cell) (a : Value) (c : ℕ) (es : List (Key × Value)) → kind h a ≡ pairs c es → HasMap (slice_get h c) × (pairs_in (slice_get h c) ≡ es)
map_by_kind h (InCell d) c es e =
    let p = map_by_cell d (slice_get h d) c es e in
    subst (λ n. HasMap (slice_get h n) × (pairs_in (slice_get h n) ≡ es)) p.0 (p.1, p.2)
map_by_kind h Null c es e = cc
map_by_kind h (Truth b) c es e = cc
map_by_kind h (Whole x) c es e = cc

-- a call that gave a value or none, by whether the table has such a method
is_there : (r : Result (Option Value) OpRefusal) (v : Option Value) → r ≡ Ok None → r ≡ Ok v → is_some v ≡ false
is_there r v a b = let e : v ≡ None = cc in ap is_some e

by_answer : (o : Option (Answer × ℕ)) (old new : Region) (n count : ℕ) (v : Option Value) → CallAnswers o old new n count (Ok v) → is_some v ≡ is_some o
by_answer None old new n count v a = is_there (Ok v) v a.0 refl
by_answer (Some r) old new n count (Some v) a = refl
by_answer (Some r) old new n count None a = absurd a

by_kind : (b t : Bool) (o : Option (Answer × ℕ)) → is_some o ≡ t → is_some (cond b o None) ≡ cond b t false
by_kind true t o e = e
by_kind false t o e = refl

pub named_from : (h : List Cell) (a : Value) (name : List ℕ) (args : List Value) (old new : Region) (n count : ℕ) (v : Option Value) → CallAnswers (collection_call h a name args n) old new n count (Ok v) → is_some v ≡ has_collection (kind h a) name (length args)
named_from h a name args old new n count v answer =
    by_answer (collection_call h a name args n) old new n count v answer
    ∙ by_kind (is_collection (kind h a)) (has_named (kind h a) name (length args)) (own_call product_limits h a name args n) (own_call_has product_limits h a name args n)

-- a call on a list or a map by its kind and its method
pub call_by : (h : List Cell) (a : Value) (name : List ℕ) (args : List Value) (n : ℕ) (m : Method) (on : Kind) → method_named name ≡ Some m → kind h a ≡ on → is_collection on ≡ true → collection_call h a name args n ≡ own_method product_limits h a on m args n
call_by h a name args n m on named is is_one =
    ap (λ (b : Bool). cond b (own_call product_limits h a name args n) None) (ap is_collection is ∙ is_one)
    ∙ ap (λ (o : Option Method). own_by product_limits h o a args n) named
    ∙ ap (λ (k : Kind). own_method product_limits h a k m args n) is
