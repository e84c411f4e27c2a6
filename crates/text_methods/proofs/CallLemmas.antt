-- What a call answers, by its name alone.
use Rattle.std.proofs.Common.{◌≡◌, ℕ, ◌≤◌, ◌<◌, Err, get_or, subst, Bool, true, false, cond, Result, Ok, List, [], ◌∷◌, length, map, Option, Some, None, refl, sym, ap, ◌∙◌, arith}
use Rattle.std.specs.Prelude.{ℤ, is_some}
use Rattle.cell_heap.specs.Region.{Region}
use Rattle.model_values.specs.Cells.{Answer}
use Rattle.model_values.specs.Kinds.{Kind, kind}
use Rattle.model_values.specs.Limits.{product_limits}
use Rattle.model_values.specs.MethodNames as table
use Rattle.model_values.specs.Methods.{number_method}
use Rattle.model_values.specs.TextMethods.{text_method}
use Rattle.model_values.specs.declared.cell.Cell.{Cell}
use Rattle.model_values.specs.declared.value.Value.{Value}
use Rattle.model_values.proofs.TableLaws.{own_call_has}
use Rattle.model_values.specs.MethodTable.{has_named, own_call}
use Rattle.method_names.specs.Names.{seen}
use Rattle.method_names.specs.declared.method.Method.{Method}
use Rattle.method_names.specs.declared.method.Method.TheVariants.{Intdiv, Size}
use Rattle.value_view.specs.declared.refusal.OpRefusal.{OpRefusal}
use Rattle.value_view.specs.declared.refusal.OpRefusal.TheVariants.{Memory, Thrown, Limit}
use Rattle.value_ops.specs.declared.effect.Effect.{Effect}
use Rattle.text_methods.specs.Reads.{ReadsAlways}
use Rattle.text_methods.specs.Calls.{CallAnswers, ReadsHere, has_single, is_collection, single_call}

-- no method of a text takes more than two arguments
three_or_more : (h : List Cell) (s : List ℕ) (m : Method) (x y z : Kind) (ks : List Kind) → text_method product_limits h s (seen m) (x ∷ y ∷ z ∷ ks) ≡ None
three_or_more h s Size x y z ks = refl
three_or_more h s m x y z ks = refl

pub more_arguments : (h : List Cell) (s : List ℕ) (m : Method) (args : List Value) → 3 ≤ length args → text_method product_limits h s (seen m) (map (kind h) args) ≡ None
more_arguments h s m [] more = let none : ⊥ = omega (arith, more) in absurd none
more_arguments h s m (a ∷ []) more = let none : ⊥ = omega (arith, more) in absurd none
more_arguments h s m (a ∷ b ∷ []) more = let none : ⊥ = omega (arith, more) in absurd none
more_arguments h s m (a ∷ b ∷ d ∷ ds) more = three_or_more h s m (kind h a) (kind h b) (kind h d) (map (kind h) ds)

is_there : (r : Result (Option Value) OpRefusal) (v : Option Value) → r ≡ Ok None → r ≡ Ok v → is_some v ≡ false
is_there r v a b = let e : v ≡ None = cc in ap is_some e

by_answer : (o : Option (Answer × ℕ)) (old new : Region) (n count : ℕ) (v : Option Value) → CallAnswers o old new n count (Ok v) → is_some v ≡ is_some o
by_answer None old new n count v a = is_there (Ok v) v a.0 refl
by_answer (Some r) old new n count (Some v) a = refl
by_answer (Some r) old new n count None a = absurd a

by_kind : (b t : Bool) (o : Option (Answer × ℕ)) → is_some o ≡ t → is_some (cond b None o) ≡ cond b false t
by_kind true t o e = refl
by_kind false t o e = e

pub named_from : (h : List Cell) (a : Value) (name : List ℕ) (args : List Value) (old new : Region) (n count : ℕ) (v : Option Value) → CallAnswers (single_call h a name args n) old new n count (Ok v) → is_some v ≡ has_single (kind h a) name (length args)
named_from h a name args old new n count v answer =
    by_answer (single_call h a name args n) old new n count v answer
    ∙ by_kind (is_collection (kind h a)) (has_named (kind h a) name (length args)) (own_call product_limits h a name args n) (own_call_has product_limits h a name args n)

always_here : (h : List Cell) (o : List Cell → Option Answer) (r : Result (Option Effect) OpRefusal) → ReadsAlways o r → ReadsHere h (o h) r
always_here h o (Ok None) p = p h
always_here h o (Ok (Some effect)) p = (p.0 h, p.1 (length h))
always_here h o (Err (Limit k)) p = p h
always_here h o (Err (Thrown c)) p = p
always_here h o (Err Memory) p = p h

-- `intdiv` with its one argument
pub intdiv_here : (h : List Cell) (x : ℤ) (m : Method) (args : List Value) (k : Kind) (d : Value) (r : Result (Option Effect) OpRefusal) → m ≡ Intdiv → 1 ≤ length args → length args < 2 → k ≡ kind h (get_or args 0 d) → ReadsAlways (λ g. number_method product_limits g x table.Intdiv (k ∷ [])) r → ReadsHere h (number_method product_limits h x (seen m) (map (kind h) args)) r
intdiv_here h x m [] k d r is least less same p = let none : ⊥ = omega (arith, least) in absurd none
intdiv_here h x m (a ∷ []) k d r is least less same p =
    subst (λ (j : Method). ReadsHere h (number_method product_limits h x (seen j) (kind h a ∷ [])) r) (sym is)
    (subst (λ (q : Kind). ReadsHere h (number_method product_limits h x table.Intdiv (q ∷ [])) r) same (always_here h (λ g. number_method product_limits g x table.Intdiv (k ∷ [])) r p))
intdiv_here h x m (a ∷ b ∷ bs) k d r is least less same p = let none : ⊥ = omega (arith, less) in absurd none
