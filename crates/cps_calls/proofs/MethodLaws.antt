-- Calls of methods: the closure that a value is, and what a call comes to behind its count.
use Rattle.std.proofs.Common.{◌≡◌, ◌∙◌, ℕ, suc, ◌&&◌, nat_eq, length, Bool, true, false, if◌then◌else◌, List, [], ◌∷◌, Option, Some, None, refl, sym, ap, arith}
use Rattle.std.specs.Prelude.{codes, get_or, slice_get, unwrap_or}
use Rattle.std.proofs.lemmas.Bool.{eqb-true}
use Rattle.model_syntax.specs.declared.node.NodeForm.{NodeForm}
use Rattle.model_syntax.specs.declared.node.NodeForm.TheVariants as form
use Rattle.model_values.specs.Cells.{Answer}
use Rattle.model_values.specs.Kinds.{Kind, cell_kind, closure, items, kind, number, pairs}
use Rattle.model_values.specs.Limits.{product_limits}
use Rattle.model_values.specs.MethodNames.{Method, method_named, Call, Each, Collect, Find, FindAll, Any, Every, Times, ToString}
use Rattle.model_values.specs.Methods.{Called, CallsClosure, Done, is_walk, method_call, walk_call}
use Rattle.model_values.specs.MethodTable.{called_or_none, closure_by, closure_call, closure_method, own_call}
use Rattle.model_values.specs.Throws.{no_method}
use Rattle.model_values.proofs.TableLaws.{method_call_is}
use Rattle.model_values.specs.declared.cell.Cell.{Cell}
use Rattle.model_values.specs.declared.cell.Cell.TheVariants.{Variable, Text as TextCell, List as ListCell, Map as MapCell, Closure as ClosureCell, Thrown as ThrownCell}
use Rattle.model_values.specs.declared.value.Value.{Value}
use Rattle.model_values.specs.declared.value.Value.TheVariants.{Null, Bool as Truth, Int as Whole, Cell as InCell}
use Rattle.model_run.specs.declared.callee.Callee.{Callee}
use Rattle.model_run.specs.Calls.{walk_method, walks}
use Rattle.model_run.specs.Callables.{closure_in, closure_of}
use Rattle.model_run.specs.State.{World}
use Rattle.method_names.specs.Names.{seen}
use Rattle.method_names.specs.declared.method.Method.{Method as Name}
use Rattle.method_names.specs.declared.method.Method.TheVariants as name
use Rattle.cps_calls.specs.Calls.{called_closure, method_name}
use Rattle.cps_calls.specs.Kinds.{is_closure_kind}

-- the cell of a closure
cell_closure : (n c : ℕ) (o : Option Cell) → cell_kind n o ≡ closure c → n ≡ c
cell_closure n c (Some (ClosureCell k env)) e = cc e
cell_closure n c (Some (Variable v)) e = absurd (cc e)
cell_closure n c (Some (TextCell t)) e = absurd (cc e)
cell_closure n c (Some (ListCell vs)) e = absurd (cc e)
cell_closure n c (Some (MapCell es)) e = absurd (cc e)
cell_closure n c (Some (ThrownCell class m)) e = absurd (cc e)
cell_closure n c None e = absurd (cc e)

in_cell : (w : World) (v : Value) (c : ℕ) → kind w.shared.cells v ≡ closure c → closure_of w v ≡ closure_of w (InCell c)
in_cell w (InCell n) c e = ap (λ m. closure_of w (InCell m)) (cell_closure n c (slice_get w.shared.cells n) e)
in_cell w Null c e = absurd (cc e)
in_cell w (Truth b) c e = absurd (cc e)
in_cell w (Whole z) c e = absurd (cc e)

some_cell : (n : ℕ) (o : Option Cell) → is_closure_kind (cell_kind n o) ≡ true → closure_in o ≡ None → ⊥
some_cell n (Some (ClosureCell k env)) e none = cc none
some_cell n (Some (Variable v)) e none = cc e
some_cell n (Some (TextCell t)) e none = cc e
some_cell n (Some (ListCell vs)) e none = cc e
some_cell n (Some (MapCell es)) e none = cc e
some_cell n (Some (ThrownCell class m)) e none = cc e
some_cell n None e none = cc e

some_closure : (w : World) (v : Value) → is_closure_kind (kind w.shared.cells v) ≡ true → closure_of w v ≡ None → ⊥
some_closure w (InCell n) e none = some_cell n (slice_get w.shared.cells n) e none
some_closure w Null e none = cc e
some_closure w (Truth b) e none = cc e
some_closure w (Whole z) e none = cc e

-- a closure in a cell
in_closure : (n : ℕ) (o : Option Cell) (callee : Callee) → closure_in o ≡ Some callee → cell_kind n o ≡ closure n
in_closure n (Some (ClosureCell k env)) callee e = refl
in_closure n (Some (Variable v)) callee e = absurd (cc e)
in_closure n (Some (TextCell t)) callee e = absurd (cc e)
in_closure n (Some (ListCell vs)) callee e = absurd (cc e)
in_closure n (Some (MapCell es)) callee e = absurd (cc e)
in_closure n (Some (ThrownCell class m)) callee e = absurd (cc e)
in_closure n None callee e = absurd (cc e)

pub record IsInCell (w : World) (v : Value) (callee : Callee) : Type 0 where
  pub cell : ℕ
  pub kind_is : kind w.shared.cells v ≡ closure cell
  pub callee_is : closure_of w (InCell cell) ≡ Some callee

pub closure_cell : (w : World) (v : Value) (callee : Callee) → closure_of w v ≡ Some callee → IsInCell w v callee
closure_cell w (InCell n) callee e = record { cell = n; kind_is = in_closure n (slice_get w.shared.cells n) callee e; callee_is = e }
closure_cell w Null callee e = absurd (cc e)
closure_cell w (Truth b) callee e = absurd (cc e)
closure_cell w (Whole z) callee e = absurd (cc e)

-- both tests hold
left_of : (b c : Bool) → (b && c) ≡ true → b ≡ true
left_of true c e = refl
left_of false c e = absurd (cc e)

pub right_of : (b c : Bool) → (b && c) ≡ true → c ≡ true
right_of true c e = e
right_of false c e = absurd (cc e)

-- no method with a closure
one_argument : (m : Method) (on : Kind) (args : List Value) → (nat_eq (length args) 1 && is_walk on m) ≡ false → (v : Value) → args ≡ v ∷ [] → is_walk on m ≡ false
one_argument m on args e v is = ap (λ vs. nat_eq (length vs) 1 && is_walk on m) (sym is) ∙ e

module _ (h : List Cell) where
  no_closure : (on : Kind) (m : Method) (args : List Value) (n : ℕ) → (is_closure_kind on ≡ true → m ≡ Call → ⊥) → ((v : Value) → args ≡ v ∷ [] → is_walk on m ≡ false) → closure_method product_limits h on m args n ≡ None
  no_closure (closure c) Call args n never few = absurd (never refl refl)
  no_closure on m [] n never few = refl
  no_closure on m (v ∷ []) n never few = ap (λ b. if b then Some (walk_call product_limits h m (kind h v) n) else None) (few v refl)
  no_closure on m (v ∷ x ∷ vs) n never few = refl

  by_closure : (on : Kind) (args : List Value) (n c : ℕ) → on ≡ closure c → closure_method product_limits h on Call args n ≡ Some (CallsClosure c)
  by_closure on args n c e = ap (λ k. closure_method product_limits h k Call args n) e

  by_walk : (on : Kind) (m : Method) (v : Value) (n : ℕ) → is_walk on m ≡ true → closure_method product_limits h on m (v ∷ []) n ≡ Some (walk_call product_limits h m (kind h v) n)
  by_walk (closure c) Call v n e = absurd (cc e)
  by_walk on m v n e = ap (λ b. if b then Some (walk_call product_limits h m (kind h v) n) else None) e

  -- what a call comes to that gives nothing without a closure
  abbrev rest : Value → List ℕ → List Value → ℕ → Option Method → Called
  rest on name args n o = called_or_none product_limits h None (closure_by product_limits h o on args n) (kind h on) name n

  pub throws_unnamed : (on : Value) (name : List ℕ) (args : List Value) (n : ℕ) → method_named name ≡ None → called_or_none product_limits h None (closure_call product_limits h on name args n) (kind h on) name n ≡ Done (no_method product_limits h (kind h on) name) n
  throws_unnamed on name args n e = ap (rest on name args n) e

  pub throws_named : (on : Value) (name : List ℕ) (args : List Value) (n : ℕ) (m : Method) → method_named name ≡ Some m → (is_closure_kind (kind h on) ≡ true → m ≡ Call → ⊥) → (nat_eq (length args) 1 && is_walk (kind h on) m) ≡ false → called_or_none product_limits h None (closure_call product_limits h on name args n) (kind h on) name n ≡ Done (no_method product_limits h (kind h on) name) n
  throws_named on name args n m e never few =
      ap (rest on name args n) e
      ∙ ap (λ o. called_or_none product_limits h None o (kind h on) name n) (no_closure (kind h on) m args n never (one_argument m (kind h on) args few))

  pub calls_named : (on : Value) (name : List ℕ) (args : List Value) (n c : ℕ) → method_named name ≡ Some Call → kind h on ≡ closure c → called_or_none product_limits h None (closure_call product_limits h on name args n) (kind h on) name n ≡ CallsClosure c
  calls_named on name args n c e is =
      ap (rest on name args n) e ∙ ap (λ o. called_or_none product_limits h None o (kind h on) name n) (by_closure (kind h on) args n c is)

  walks_one : (on : Kind) (m : Method) (args : List Value) (d : Value) (n : ℕ) → (nat_eq (length args) 1 && is_walk on m) ≡ true → closure_method product_limits h on m args n ≡ Some (walk_call product_limits h m (kind h (get_or args 0 d)) n)
  walks_one on m [] d n e = absurd (cc e)
  walks_one on m (x ∷ []) d n e = by_walk on m x n (right_of (nat_eq 1 1) (is_walk on m) e)
  walks_one on m (x ∷ y ∷ ys) d n e =
      let one : suc (suc (length ys)) ≡ 1 = eqb-true _ _ (left_of (nat_eq (suc (suc (length ys))) 1) (is_walk on m) e) in
      absurd (omega arith)

  pub walks_named : (on : Value) (name : List ℕ) (args : List Value) (d : Value) (n : ℕ) (m : Method) → method_named name ≡ Some m → (nat_eq (length args) 1 && is_walk (kind h on) m) ≡ true → called_or_none product_limits h None (closure_call product_limits h on name args n) (kind h on) name n ≡ walk_call product_limits h m (kind h (get_or args 0 d)) n
  walks_named on name args d n m e is =
      ap (rest on name args n) e ∙ ap (λ o. called_or_none product_limits h None o (kind h on) name n) (walks_one (kind h on) m args d n is)

-- the method `call` walks over nothing, so a walk is that of its node's name
no_call_walk : (k : Kind) → is_walk k Call ≡ true → ⊥
no_call_walk (items c vs) e = cc e
no_call_walk (pairs c es) e = cc e
no_call_walk (number x) e = cc e
no_call_walk k e = cc e

call_walks : (m : Method) (k : Kind) → method_named (codes "call") ≡ Some m → is_walk k m ≡ true → ⊥
call_walks m k e is = let same : Call ≡ m = cc e in no_call_walk k (ap (is_walk k) same ∙ is)

pub walk_is : (f : NodeForm) (m : Method) (k : Kind) → method_named (method_name f) ≡ Some m → is_walk k m ≡ true → walk_method f ≡ m
walk_is (form.Method access x) m k e is = ap (λ o. unwrap_or o ToString) e
walk_is f m k e is = absurd (call_walks m k e is)

-- a method that walks over a kind walks
pub walk_walks : (on : Kind) (m : Method) → is_walk on m ≡ true → walks m ≡ true
walk_walks on Each e = refl
walk_walks on Collect e = refl
walk_walks on Find e = refl
walk_walks on FindAll e = refl
walk_walks on Any e = refl
walk_walks on Every e = refl
walk_walks on Times e = refl
walk_walks (items c vs) m e = absurd (cc e)
walk_walks (pairs c es) m e = absurd (cc e)
walk_walks (number x) m e = absurd (cc e)
walk_walks k m e = absurd (cc e)

-- no other method than `call`
pub no_call : (m : Name) (w : World) (v : Value) → (m ≡ name.Call → ⊥) → called_closure (seen m) w v ≡ None
no_call name.Call w v never = absurd (never refl)
no_call m w v never = refl

pub record IsCallOf (m : Method) (w : World) (v : Value) (callee : Callee) : Type 0 where
  pub method : m ≡ Call
  pub closure_is : closure_of w v ≡ Some callee

pub is_call : (m : Method) (w : World) (v : Value) (callee : Callee) → called_closure m w v ≡ Some callee → IsCallOf m w v callee
is_call Call w v callee e = record { method = refl; closure_is = e }
is_call m w v callee e = absurd (cc e)

pub not_called : (m : Method) (w : World) (v : Value) → called_closure m w v ≡ None → is_closure_kind (kind w.shared.cells v) ≡ true → m ≡ Call → ⊥
not_called m w v none is call = some_closure w v is (sym (ap (λ x. called_closure x w v) call) ∙ none)

-- What calls a closure calls one that is there.
no_walk_calls : (h : List Cell) (b : Bool) (k : Kind) (m : Method) (n c : ℕ) → (if b then Some (walk_call product_limits h m k n) else None) ≡ Some (CallsClosure c) → ⊥
no_walk_calls h false k m n c e = cc e
no_walk_calls h true (closure d) m n c e = cc e
no_walk_calls h true k m n c e = cc e

closure_method_calls : (h : List Cell) (on : Kind) (m : Method) (args : List Value) (n c : ℕ) → closure_method product_limits h on m args n ≡ Some (CallsClosure c) → on ≡ closure c
closure_method_calls h (closure d) Call args n c e = let same : d ≡ c = cc e in ap closure same
closure_method_calls h on m [] n c e = absurd (cc e)
closure_method_calls h on m (v ∷ []) n c e = absurd (no_walk_calls h (is_walk on m) (kind h v) m n c e)
closure_method_calls h on m (v ∷ x ∷ vs) n c e = absurd (cc e)

by_calls : (h : List Cell) (o : Option Method) (on : Value) (args : List Value) (n c : ℕ) → closure_by product_limits h o on args n ≡ Some (CallsClosure c) → kind h on ≡ closure c
by_calls h None on args n c e = absurd (cc e)
by_calls h (Some m) on args n c e = closure_method_calls h (kind h on) m args n c e

table_calls : (h : List Cell) (own : Option (Answer × ℕ)) (clo : Option Called) (on : Kind) (name : List ℕ) (n c : ℕ) → called_or_none product_limits h own clo on name n ≡ CallsClosure c → clo ≡ Some (CallsClosure c)
table_calls h (Some r) clo on name n c e = absurd (cc e)
table_calls h None (Some x) on name n c e = ap Some e
table_calls h None None on name n c e = absurd (cc e)

pub calls_kind : (h : List Cell) (on : Value) (name : List ℕ) (args : List Value) (n c : ℕ) → method_call product_limits h on name args n ≡ CallsClosure c → kind h on ≡ closure c
calls_kind h on name args n c e =
    by_calls h (method_named name) on args n c (table_calls h (own_call product_limits h on name args n) (closure_call product_limits h on name args n) (kind h on) name n c (sym (method_call_is product_limits h on name args n) ∙ e))

pub calls_there : (w : World) (on : Value) (name : List ℕ) (args : List Value) (n c : ℕ) → method_call product_limits w.shared.cells on name args n ≡ CallsClosure c → closure_of w (InCell c) ≡ None → ⊥
calls_there w on name args n c e none =
    let is : kind w.shared.cells on ≡ closure c = calls_kind w.shared.cells on name args n c e in
    some_closure w on (ap is_closure_kind is) (in_cell w on c is ∙ none)
