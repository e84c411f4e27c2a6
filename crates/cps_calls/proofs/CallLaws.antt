-- A call of a method, by what its value has: a method without a closure, a walk, the closure that it is, or none.
use Rattle.std.proofs.Common.{◌≡◌, ◌∙◌, ◌<◌, ◌≤◌, ◌+◌, ℕ, suc, Bool, true, false, if◌then◌else◌, List, [], nat_lt, Option, Some, None, refl, sym, ap, subst, arith}
use Rattle.std.specs.Prelude.{Result as Outcome, Ok, Err}
use Rattle.std.proofs.lemmas.Bool.Decides.{nat_tests}
use Rattle.cell_heap.specs.Region.{Region}
use Rattle.model_values.specs.Cells.{Answer}
use Rattle.model_values.specs.Limits.{product_limits}
use Rattle.model_values.specs.Methods.{Called, Done, Walks, CallsClosure, method_call}
use Rattle.model_values.specs.MethodTable.{called_or_none, closure_call, own_call}
use Rattle.model_values.proofs.TableLaws.{method_call_is}
use Rattle.model_values.specs.Kinds.{kind}
use Rattle.model_values.specs.MethodNames.{Method}
use Rattle.model_values.specs.declared.cell.Cell.{Cell}
use Rattle.model_values.specs.declared.value.Value.{Value}
use Rattle.model_values.specs.declared.value.Value.TheVariants.{Null, Cell as InCell}
use Rattle.model_run.specs.declared.callee.Callee.{Callee}
use Rattle.model_run.specs.declared.ending.Ending.TheVariants.{Normal, Thrown as Has_thrown}
use Rattle.model_run.specs.declared.ending.Entry.TheVariants.{Body}
use Rattle.model_run.specs.Around.{Around, cells, ended, limits}
use Rattle.model_run.specs.Callables.{calling, closure_of}
use Rattle.model_run.specs.Calls.{call_method, called, enter, walk, walk_method}
use Rattle.model_run.specs.State.{World, Reply, Env, Ended, Limited, answered, changed, counted, may_count, operating, put_cells, raised, seeing, tick, with_shared}
use Rattle.model_run.specs.Terms.{Term, form_of, term_at}
use Rattle.model_run.proofs.Room.{spends_count}
use Rattle.text_methods.specs.Calls.{CallAnswers}
use Rattle.value_view.specs.Answers.{Answers, CountsTo}
use Rattle.value_view.specs.declared.refusal.OpRefusal.{OpRefusal}
use Rattle.value_view.specs.declared.refusal.OpRefusal.TheVariants as op
use Rattle.cps_frames.specs.Changes.{Met, Passed}
use Rattle.cps_frames.specs.Halts.{halt_of}
use Rattle.cps_frames.specs.Moves.{Comes, ComesTo}
use Rattle.cps_frames.specs.Standing.{Standing, Beside, state, shape_at, room_of}
use Rattle.cps_frames.specs.declared.halt.Halt.{Halt}
use Rattle.cps_frames.specs.declared.thread.Move.{Move}
use Rattle.cps_frames.specs.declared.thread.Move.TheVariants.{Ends, Enter, Hits}
use Rattle.cps_frames.proofs.MoveLaws.{Saying, comes_as, comes_call, comes_ends, comes_hits, met, met_beside, to_as, to_counted}
use Rattle.model_values.specs.declared.limit.LimitKind.{LimitKind}
use Rattle.cps_calls.proofs.MethodLaws.{calls_there}
use Rattle.cps_calls.specs.Calls.{method_name}

-- the count that is raised to what it has become
pub raised_to : (c n : ℕ) → c ≤ n → (if nat_lt c n then n else c) ≡ n
raised_to c n le = by (nat_lt c n) refl
  where
    by : (b : Bool) → nat_lt c n ≡ b → (if b then n else c) ≡ n
    by true e = refl
    by false e = let ge : n ≤ c = grind (arith, nat_tests) in omega arith

abbrev count_to : ℕ → World → World
count_to n = with_shared (λ u. record u { count = n })

raised_is : (n : ℕ) (w : World) → w.shared.count ≤ n → raised n w ≡ count_to n w
raised_is n w le = ap (λ c. count_to c w) (raised_to w.shared.count n le)

-- what a call of a method without a closure has answered
pub record Answered_by (own : Option (Answer × ℕ)) (old new : Region) (count : ℕ) (x : Outcome Value OpRefusal) : Type 0 where
  pub answer : Answer
  pub count_is : ℕ
  pub own_is : own ≡ Some (answer, count_is)
  pub answers : Answers answer old new x
  pub counts : CountsTo count_is count x

pub own_gives : (own : Option (Answer × ℕ)) (old new : Region) (n m : ℕ) (v : Value) → CallAnswers own old new n m (Ok (Some v)) → Answered_by own old new m (Ok v)
own_gives None old new n m v a = absurd (cc (a.0))
own_gives (Some r) old new n m v a = record { answer = r.0; count_is = r.1; own_is = refl; answers = a.0; counts = a.1 }

pub own_refuses : (own : Option (Answer × ℕ)) (old new : Region) (n m : ℕ) (o : OpRefusal) → CallAnswers own old new n m (Err o) → Answered_by own old new m (Err o)
own_refuses None old new n m o a = absurd (cc (a.0))
own_refuses (Some r) old new n m o a = record { answer = r.0; count_is = r.1; own_is = refl; answers = a.0; counts = a.1 }

pub own_none : (own : Option (Answer × ℕ)) (old new : Region) (n m : ℕ) → CallAnswers own old new n m (Ok None) → (own ≡ None) × (new ≡ old) × (m ≡ n)
own_none None old new n m a = (refl, a.1, a.2)
own_none (Some r) old new n m a = absurd a

-- the move that an answer is
abbrev pub moved : Outcome Value OpRefusal → Outcome Move Halt
moved (Ok v) = Ok (Ends (Normal v))
moved (Err o) = Err (halt_of o)

-- what a call leaves: its cells, and its count
pub record Left (new : Region) (u v : Standing) : Type 0 where
  pub world : v.world ≡ put_cells new.cells (count_to v.world.shared.count u.world)
  pub stack : v.stack ≡ u.stack
  pub beside : Beside u v

room_counted : (u v : Standing) (new : Region) → Left new u v → u.world.shared.count ≤ v.world.shared.count → room_of v.world ≤ room_of u.world
room_counted u v new l le = subst (λ w. room_of w ≤ room_of u.world) (sym l.world) (omega arith)

pub call_ends : (k : ℕ) (answer : Answer) (n : ℕ) (old new : Region) (x : Outcome Value OpRefusal) (u v : Standing) → Answers answer old new x → CountsTo n v.world.shared.count x → u.world.shared.count ≤ n → u.world.shared.cells ≡ old.cells → Left new u v → ComesTo k 1 (λ sh a. changed (raised n) (answered answer ended)) u (moved x) v
call_ends k answer n old new (Ok y) u v answers counts le was l =
    let more : u.world.shared.count ≤ v.world.shared.count = omega (arith, le, counts) in
    let raise : raised n u.world ≡ count_to v.world.shared.count u.world = raised_is n u.world le ∙ ap (λ c. count_to c u.world) (sym counts) in
    comes_ends k 1 _ u v (Normal y) l.stack l.beside (ap (λ w. w.setting) l.world) (room_counted u v new l more) (omega arith)
    (λ a rs. ap (λ b. answered b ended (state (raised n u.world) rs)) answers ∙ ap (λ w. Ended (Normal y) (state (put_cells new.cells w) rs)) raise ∙ ap (λ w. Ended (Normal y) (state w rs)) (sym l.world))
call_ends k answer n old new (Err (op.Thrown c)) u v answers counts le was l =
    let more : u.world.shared.count ≤ v.world.shared.count = omega (arith, le, counts) in
    let raise : raised n u.world ≡ count_to v.world.shared.count u.world = raised_is n u.world le ∙ ap (λ c. count_to c u.world) (sym counts) in
    comes_ends k 1 _ u v (Has_thrown c) l.stack l.beside (ap (λ w. w.setting) l.world) (room_counted u v new l more) (omega arith)
    (λ a rs. ap (λ b. answered b ended (state (raised n u.world) rs)) answers ∙ ap (λ w. Ended (Has_thrown c) (state (put_cells new.cells w) rs)) raise ∙ ap (λ w. Ended (Has_thrown c) (state w rs)) (sym l.world))
call_ends k answer n old new (Err (op.Limit x)) u v answers counts le was l =
    let more : u.world.shared.count ≤ v.world.shared.count = omega (arith, le, counts) in
    let raise : raised n u.world ≡ count_to v.world.shared.count u.world = raised_is n u.world le ∙ ap (λ c. count_to c u.world) (sym counts) in
    let same : put_cells new.cells (count_to v.world.shared.count u.world) ≡ count_to v.world.shared.count u.world = ap (λ h. put_cells h (count_to v.world.shared.count u.world)) (answers.1 ∙ sym was) in
    comes_hits k 1 _ u v x l.stack l.beside (ap (λ w. w.setting) l.world) (room_counted u v new l more) (omega arith)
    (λ a rs. ap (λ b. answered b ended (state (raised n u.world) rs)) answers.0 ∙ ap (λ w. Limited x (state w rs)) raise ∙ ap (λ w. Limited x (state w rs)) (sym (l.world ∙ same)))
call_ends k answer n old new (Err op.Memory) u v answers counts le was l = tt

-- what throws, with the count as it is
pub to_unraised : (k : ℕ) (answer : Answer) (u : Standing) (result : Outcome Move Halt) (v : Standing) → ComesTo k 1 (λ sh a. operating (λ w. answer) ended) u result v → ComesTo k 1 (λ sh a. changed (raised u.world.shared.count) (answered answer ended)) u result v
to_unraised k answer u result v =
    to_as k 1 (λ sh a. changed (raised u.world.shared.count) (answered answer ended)) (λ sh a. operating (λ w. answer) ended) u result v
    (λ a rs. ap (λ w. answered answer ended (state w rs)) (raised_is u.world.shared.count u.world (omega arith)))

module _ (k : ℕ) (env : Env) (on : Value) (args : List Value) where
  -- the call, before its count
  abbrev pub says : Saying
  says sh a = seeing (call_method a k sh env (method_name sh.form) on args)

  abbrev pub name_in : Standing → List ℕ
  name_in u = method_name (shape_at u.world k).form

  -- what the table says behind the count is what it says of the count that is to come
  read : (u u' : Standing) (x : Called) → limits u.world ≡ product_limits → Passed may_count counted u u' → method_call product_limits u'.world.shared.cells on (name_in u) args u'.world.shared.count ≡ x → method_call (limits u.world) (cells u.world) on (name_in u) args (suc u.world.shared.count) ≡ x
  read u u' x lim p e =
      let one : suc u.world.shared.count ≡ u.world.shared.count + 1 = omega arith in
      ap (λ l. method_call l (cells u.world) on (name_in u) args (suc u.world.shared.count)) lim
      ∙ ap (λ n. method_call product_limits (cells u.world) on (name_in u) args n) one
      ∙ ap (λ w. method_call product_limits w.shared.cells on (name_in u) args w.shared.count) (sym p.made) ∙ e

  pub to_done : (r : ℕ) (answer : Answer) (n : ℕ) (u u' : Standing) (result : Outcome Move Halt) (v : Standing) → limits u.world ≡ product_limits → Passed may_count counted u u' → method_call product_limits u'.world.shared.cells on (name_in u) args u'.world.shared.count ≡ Done answer n → ComesTo k 1 (λ sh a. changed (raised n) (answered answer ended)) u' result v → ComesTo k r says u result v
  to_done r answer n u u' result v lim p e c =
      to_as k r says (λ sh a. tick (changed (raised n) (answered answer ended))) u result v
      (λ a rs. ap (λ x. called a k (shape_at u.world k) env u.world on args x (state u.world rs)) (read u u' (Done answer n) lim p e))
      (to_counted k r 1 may_count counted spends_count (λ sh a. changed (raised n) (answered answer ended)) u u' result v p (omega arith) c)

  pub to_walks : (r c : ℕ) (m : Method) (u u' : Standing) (result : Outcome Move Halt) (v : Standing) → limits u.world ≡ product_limits → Passed may_count counted u u' → method_call product_limits u'.world.shared.cells on (name_in u) args u'.world.shared.count ≡ Walks m c → ComesTo k 1 (λ sh a. walk a k env (walk_method sh.form) 0 on (InCell c) []) u' result v → ComesTo k r says u result v
  to_walks r c m u u' result v lim p e inner =
      to_as k r says (λ sh a. tick (walk a k env (walk_method sh.form) 0 on (InCell c) [])) u result v
      (λ a rs. ap (λ x. called a k (shape_at u.world k) env u.world on args x (state u.world rs)) (read u u' (Walks m c) lim p e))
      (to_counted k r 1 may_count counted spends_count (λ sh a. walk a k env (walk_method sh.form) 0 on (InCell c) []) u u' result v p (omega arith) inner)

  pub calls : (r c : ℕ) (callee : Callee) (u u' : Standing) → limits u.world ≡ product_limits → Passed may_count counted u u' → method_call product_limits u'.world.shared.cells on (name_in u) args u'.world.shared.count ≡ CallsClosure c → closure_of u'.world (InCell c) ≡ Some callee → Comes k r says u (Enter (Body args) callee.node callee.env) u'
  calls r c callee u u' lim p e is =
      comes_as k r says (λ sh a. tick (a.call callee.node args callee.env)) u (Enter (Body args) callee.node callee.env) u'
      (λ a rs. ap (λ x. called a k (shape_at u.world k) env u.world on args x (state u.world rs)) (read u u' (CallsClosure c) lim p e) ∙ ap (λ o. calling o (ended Null) (enter a args) (state u.world rs)) (subst (λ w. closure_of w (InCell c) ≡ Some callee) p.made is))
      (comes_call k r callee.node args callee.env may_count counted spends_count u u' p)

  met_called : (l : LimitKind) (u v : Standing) → limits u.world ≡ product_limits → Met may_count l u v → (a : Around) (rs : List Reply) (x : Called) → method_call (limits u.world) (cells u.world) on (name_in u) args (suc u.world.shared.count) ≡ x → called a k (shape_at u.world k) env u.world on args x (state u.world rs) ≡ Limited l (state v.world rs)
  met_called l u v lim p a rs (Done answer n) e = met may_count counted l u v p (changed (raised n) (answered answer ended)) rs
  met_called l u v lim p a rs (Walks m c) e = met may_count counted l u v p (walk a k env (walk_method (shape_at u.world k).form) 0 on (InCell c) []) rs
  met_called l u v lim p a rs (CallsClosure c) e =
      there (closure_of u.world (InCell c)) (calls_there u.world on (name_in u) args (suc u.world.shared.count) c (ap (λ x. method_call x (cells u.world) on (name_in u) args (suc u.world.shared.count)) (sym lim) ∙ e))
    where
      there : (o : Option Callee) → (o ≡ None → ⊥) → calling o (ended Null) (enter a args) (state u.world rs) ≡ Limited l (state v.world rs)
      there None never = absurd (never refl)
      there (Some callee) never = met may_count counted l u v p (a.call callee.node args callee.env) rs

  -- where no more may be counted
  pub call_met : (r : ℕ) (l : LimitKind) (u v : Standing) → limits u.world ≡ product_limits → Met may_count l u v → 0 < r → Comes k r says u (Hits l) v
  call_met r l u v lim p above =
      comes_hits k r says u v l p.stack (met_beside may_count l u v p) (ap (λ w. w.setting) p.world) (subst (λ w. room_of w ≤ room_of u.world) (sym p.world) (omega arith)) above
      (λ a rs. met_called l u v lim p a rs (method_call (limits u.world) (cells u.world) on (name_in u) args (suc u.world.shared.count)) refl)

-- what the table says, by what there is without a closure
pub own_call_is : (h : List Cell) (on : Value) (name : List ℕ) (args : List Value) (n : ℕ) (answer : Answer) (m : ℕ) → own_call product_limits h on name args n ≡ Some (answer, m) → method_call product_limits h on name args n ≡ Done answer m
own_call_is h on name args n answer m e = method_call_is product_limits h on name args n ∙ ap (λ o. called_or_none product_limits h o (closure_call product_limits h on name args n) (kind h on) name n) e

pub no_own_call : (h : List Cell) (on : Value) (name : List ℕ) (args : List Value) (n : ℕ) → own_call product_limits h on name args n ≡ None → method_call product_limits h on name args n ≡ called_or_none product_limits h None (closure_call product_limits h on name args n) (kind h on) name n
no_own_call h on name args n e = method_call_is product_limits h on name args n ∙ ap (λ o. called_or_none product_limits h o (closure_call product_limits h on name args n) (kind h on) name n) e

-- the name that a node calls, in a script
abbrev pub name_of : Term → ℕ → List ℕ
name_of root node = method_name (form_of (term_at root node))

-- the same of a script and of arguments that are read again
pub read_again : (P : Term → List Value → Type 0) (root root' : Term) (vs vs' : List Value) → root ≡ root' → vs ≡ vs' → P root vs → P root' vs'
read_again P root root' vs vs' e f p = subst (λ r. P r vs') e (subst (P root) f p)
