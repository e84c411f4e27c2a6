-- Walks: how a turn begins, what its closure is, and what comes behind it.
use Rattle.std.proofs.Common.{◌≡◌, ◌∙◌, ◌<◌, ◌≤◌, ◌+◌, ◌^◌, ℕ, zero, suc, Bool, true, false, List, [], ◌∷◌, ◌++◌, length, nat_eq, Option, Some, None, refl, sym, ap, subst, arith}
use Rattle.std.specs.Prelude.{drop, pos, negsuc, slice_get, unwrap_or, Result as Outcome, Ok, Err, ◌*◌}
use Rattle.std.specs.List.{All, AllByRecursion as AllAre}
use Rattle.std.proofs.lemmas.List.Elements.{All-cons, All-nil}
use Rattle.cell_heap.specs.Soundness.{ValueBelow}
use Rattle.cell_heap.specs.Region.{Region}
use Rattle.model_syntax.specs.declared.node.NodeForm.{NodeForm}
use Rattle.model_syntax.specs.declared.node.NodeForm.TheVariants as form
use Rattle.run_laws.specs.Evaluation.{TurnFits}
use Rattle.model_values.specs.Fitting.{CellFits, CellsFit, HasClosure, IsIn, There}
use Rattle.model_values.specs.Walks.{Turn as Element, Turns, Past, Stops, Keeps, Ends, turn as element_at}
use Rattle.model_values.specs.Limits.{product_limits}
use Rattle.model_values.specs.declared.cell.Cell.{Cell}
use Rattle.model_values.specs.declared.cell.Cell.TheVariants.{Variable, Text as TextCell, List as ListCell, Map as MapCell, Closure as ClosureCell, Thrown as ThrownCell}
use Rattle.model_values.specs.declared.limit.LimitKind.{LimitKind}
use Rattle.model_values.specs.declared.value.Value.{Value}
use Rattle.model_values.specs.declared.value.Value.TheVariants.{Null, Bool as Truth, Int as Whole, Cell as InCell}
use Rattle.model_values.specs.Cells.{Answer}
use Rattle.model_values.specs.Kinds.{kind as kind_of}
use Rattle.model_values.specs.MethodNames.{Method, method_named, ToString, Each, Collect, Find, FindAll, Any as AnyOf, Every, Times}
use Rattle.model_run.specs.declared.callee.Callee.{Callee}
use Rattle.model_run.specs.declared.ending.Entry.TheVariants.{Body, Turn}
use Rattle.model_run.specs.declared.ending.Ending.{Ending}
use Rattle.model_run.specs.declared.frame.Frame.{Frame}
use Rattle.model_run.specs.declared.frame.FrameKind.TheVariants as kind
use Rattle.model_run.specs.Around.{Around, Shape, cells, ended, frame, limits, position, value_at, whole}
use Rattle.model_run.specs.Callables.{calling, closure_in, closure_of, parameters_of}
use Rattle.model_run.specs.Calls.{after_walk_turn, begun_turn, element_size, held_in_turn, takes_two, walk, walk_after, walk_method, walk_turn, walked, walks}
use Rattle.model_run.specs.Fitting.{closure_rule, known}
use Rattle.model_run.specs.FrameTable.{Any, A_closure, A_count, Further, No_more, One_more, Any_more, frame_row, is_callable, is_closure_form, is_method, is_walk, walk_further, walk_values}
use Rattle.model_run.specs.Forms.{after, enter, turn}
use Rattle.model_run.specs.Nesting.{FrameFits, FurtherFit, ValuesFit, anything, shape_at as shape_in}
use Rattle.model_run.specs.State.{Common, World, Reply, State, Env, Limited, choose, through, may_count, changed, counted, guarded, operating, seeing, unless_limit}
use Rattle.model_run.specs.Terms.{Term, form_of, nodes_of, term_at}
use Rattle.model_run.proofs.Room.{spends_count}
use Rattle.model_run.proofs.Under.{first_of_both, second_of_both}
use Rattle.value_view.specs.declared.refusal.OpRefusal.{OpRefusal}
use Rattle.value_view.specs.declared.refusal.OpRefusal.TheVariants as op
use Rattle.value_walks.specs.Turns.{TurnAnswers, has_turn}
use Rattle.cps_frames.specs.Changes.{Passed, Met, changed_by}
use Rattle.cps_frames.specs.Halts.{halt_of}
use Rattle.value_walks.specs.Walking.{frame_after, kept_between}
use Rattle.cps_calls.specs.Calls.{method_name}
use Rattle.cps_calls.specs.Walking.{IsCount}
use Rattle.cps_calls.proofs.BodyLaws.{closure_callable}
use Rattle.cps_frames.specs.Moves.{Comes, ComesTo}
use Rattle.cps_frames.specs.Order.{extra, rank, tier}
use Rattle.cps_frames.specs.Ways.{value_of}
use Rattle.cps_frames.specs.declared.halt.Halt.{Halt}
use Rattle.cps_frames.specs.declared.thread.Move.{Move}
use Rattle.cps_frames.specs.Standing.{Standing, Beside, state, shape_at, room_of}
use Rattle.cps_frames.specs.declared.thread.Move.TheVariants.{Enter, Hits}
use Rattle.cps_frames.proofs.MoveLaws.{Saying, comes_hits, comes_inside, comes_next, to_as, to_kind, to_value, met, met_beside, passed}

-- a cell of a list that fits
all_at : {X : Type 0} (P : X → Type 0) (xs : List X) → AllAre P xs → (i : ℕ) (x : X) → slice_get xs i ≡ Some x → P x
all_at P [] all i x e = absurd (cc e)
all_at P (y ∷ ys) all zero x e = let same : y ≡ x = cc e in subst P same all.0
all_at P (y ∷ ys) all (suc i) x e = all_at P ys all.1 i x e

-- a node of the script that is a closure
record IsClosure (root : Term) (k : ℕ) : Type 0 where
  node : k < length (nodes_of root)
  form : is_closure_form (shape_in root k).form ≡ true

in_script : (root : Term) (h : List Cell) (o : Option Cell) (callee : Callee) → ((c : Cell) → o ≡ Some c → CellFits (closure_rule root) h c) → closure_in o ≡ Some callee → IsClosure root callee.node
in_script root h (Some (ClosureCell k env)) callee fits e =
    let same : k ≡ callee.node = cc (ap (λ o. node_of o) e) in
    let rule : closure_rule root k env = (fits (ClosureCell k env) refl).0 in
    subst (IsClosure root) same (record { node = rule.0; form = rule.1 })
  where
    node_of : Option Callee → ℕ
    node_of (Some c) = c.node
    node_of None = 0
in_script root h (Some (Variable v)) callee fits e = absurd (cc e)
in_script root h (Some (TextCell t)) callee fits e = absurd (cc e)
in_script root h (Some (ListCell vs)) callee fits e = absurd (cc e)
in_script root h (Some (MapCell es)) callee fits e = absurd (cc e)
in_script root h (Some (ThrownCell class m)) callee fits e = absurd (cc e)
in_script root h None callee fits e = absurd (cc e)

closure_callee : (root : Term) (w : World) (v : Value) (callee : Callee) → CellsFit (closure_rule root) w.shared.cells → closure_of w v ≡ Some callee → IsClosure root callee.node
closure_callee root w (InCell n) callee fits e = in_script root w.shared.cells (slice_get w.shared.cells n) callee (λ c is. all_at (CellFits (closure_rule root) w.shared.cells) w.shared.cells fits n c is) e
closure_callee root w Null callee fits e = absurd (cc e)
closure_callee root w (Truth b) callee fits e = absurd (cc e)
closure_callee root w (Whole z) callee fits e = absurd (cc e)

-- the body of a closure is a node of the script, and is called
pub callee_there : (root : Term) (w : World) (v : Value) (callee : Callee) → CellsFit (closure_rule root) w.shared.cells → closure_of w v ≡ Some callee → callee.node < length (nodes_of root)
callee_there root w v callee fits e = (closure_callee root w v callee fits e).node

pub callee_called : (root : Term) (w : World) (v : Value) (callee : Callee) → CellsFit (closure_rule root) w.shared.cells → closure_of w v ≡ Some callee → is_callable (shape_in root callee.node).form ≡ true
callee_called root w v callee fits e = closure_callable (shape_in root callee.node).form (closure_callee root w v callee fits e).form

-- A closure among the cells: it is below their end, has a body, and is found by its kind.
has_place : (cs : List Cell) (n : ℕ) → HasClosure (slice_get cs n) → n < length cs
has_place [] n h = absurd h
has_place (c ∷ cs) zero h = omega arith
has_place (c ∷ cs) (suc n) h = let lt : n < length cs = has_place cs n h in omega (arith, lt)

pub closure_below : (h : List Cell) (v : Value) → IsIn HasClosure h v → ValueBelow (length h) v
closure_below h (InCell n) is = has_place h n is
closure_below h Null is = absurd is
closure_below h (Truth b) is = absurd is
closure_below h (Whole z) is = absurd is

has_body : (o : Option Cell) → HasClosure o → closure_in o ≡ None → ⊥
has_body (Some (ClosureCell k env)) h e = cc e
has_body (Some (Variable v)) h e = h
has_body (Some (TextCell t)) h e = h
has_body (Some (ListCell vs)) h e = h
has_body (Some (MapCell es)) h e = h
has_body (Some (ThrownCell class m)) h e = h
has_body None h e = h

-- what is not some of anything is none
pub none_left : {T : Type 0} (o : Option T) → ((x : T) → o ≡ Some x → ⊥) → o ≡ None
none_left (Some x) never = absurd (never x refl)
none_left None never = refl

pub closure_has_body : (w : World) (v : Value) → IsIn HasClosure w.shared.cells v → closure_of w v ≡ None → ⊥
closure_has_body w (InCell n) is e = has_body (slice_get w.shared.cells n) is e
closure_has_body w Null is e = is
closure_has_body w (Truth b) is e = is
closure_has_body w (Whole z) is e = is

of_body : (o : Option Cell) (callee : Callee) → closure_in o ≡ Some callee → HasClosure o
of_body (Some (ClosureCell k env)) callee e = tt
of_body (Some (Variable v)) callee e = absurd (cc e)
of_body (Some (TextCell t)) callee e = absurd (cc e)
of_body (Some (ListCell vs)) callee e = absurd (cc e)
of_body (Some (MapCell es)) callee e = absurd (cc e)
of_body (Some (ThrownCell class m)) callee e = absurd (cc e)
of_body None callee e = absurd (cc e)

pub closure_of_body : (w : World) (v : Value) (callee : Callee) → closure_of w v ≡ Some callee → IsIn HasClosure w.shared.cells v
closure_of_body w (InCell n) callee e = of_body (slice_get w.shared.cells n) callee e
closure_of_body w Null callee e = absurd (cc e)
closure_of_body w (Truth b) callee e = absurd (cc e)
closure_of_body w (Whole z) callee e = absurd (cc e)

-- a turn as it was read of the cells of the world, and of its script
pub turn_there : (w : World) (on : Value) (callee : Callee) (i : ℕ) (h : List Cell) (root : Term) (two : Bool) → h ≡ w.shared.cells → root ≡ w.setting.script → two ≡ nat_eq (length (parameters_of (form_of (term_at root callee.node)))) 2 → element_at product_limits h on two i ≡ element_at product_limits w.shared.cells on (takes_two w callee) i
turn_there w on callee i h root two cells script is =
    ap (λ x. element_at product_limits x on two i) cells
    ∙ ap (λ b. element_at product_limits w.shared.cells on b i) (is ∙ ap (λ x. nat_eq (length (parameters_of (form_of (term_at x callee.node)))) 2) script)

-- past the end there is no turn
pub no_turn : (t : Element) → has_turn t ≡ false → t ≡ Past
no_turn Past e = refl
no_turn (Turns h args el) e = absurd (cc e)
no_turn (Stops k) e = absurd (cc e)

-- The frame of a turn: its method walks, and what it keeps.
pub record KeepsTurn (u : Common) (m : Method) (vs : List Value) : Type 0 where
  pub walks_it : walks m ≡ true
  pub on : There u.cells (value_at 0 vs)
  pub closure : IsIn HasClosure u.cells (value_at 1 vs)
  pub count : IsCount (value_at 2 vs)
  pub kept : ValuesFit anything (walk_further m) (walk_values m) (drop 3 vs)
  pub there : AllAre (There u.cells) (drop 3 vs)
  pub three : 3 ≤ length vs

further_any : (u : Common) (further : Further) (vs : List Value) → FurtherFit (known u) further vs → FurtherFit anything further vs
further_any u further [] fits = tt
further_any u No_more (v ∷ vs) fits = fits
further_any u One_more (v ∷ vs) fits = (tt, fits.1)
further_any u Any_more (v ∷ vs) fits = (tt, further_any u Any_more vs fits.1)

further_there : (u : Common) (further : Further) (vs : List Value) → FurtherFit (known u) further vs → AllAre (There u.cells) vs
further_there u further [] fits = tt
further_there u No_more (v ∷ vs) fits = absurd fits
further_there u One_more (v ∷ vs) fits = (fits.0, subst (AllAre (There u.cells)) (sym fits.1) tt)
further_there u Any_more (v ∷ vs) fits = (fits.0, further_there u Any_more vs fits.1)

kept_any : (u : Common) (m : Method) (vs : List Value) → ValuesFit (known u) (walk_further m) (walk_values m) vs → ValuesFit anything (walk_further m) (walk_values m) vs × AllAre (There u.cells) vs
kept_any u Find [] fits = absurd fits
kept_any u Find (v ∷ vs) fits = ((tt, further_any u One_more vs fits.1), (fits.0, further_there u One_more vs fits.1))
kept_any u FindAll [] fits = absurd fits
kept_any u FindAll (v ∷ vs) fits = ((tt, further_any u Any_more vs fits.1), (fits.0, further_there u Any_more vs fits.1))
kept_any u Collect vs fits = (further_any u Any_more vs fits, further_there u Any_more vs fits)
kept_any u m vs fits = (further_any u No_more vs fits, further_there u No_more vs fits)

known_closure : (u : Common) (v : Value) → known u A_closure v → IsIn HasClosure u.cells v
known_closure u (InCell n) h = h
known_closure u Null h = absurd h
known_closure u (Truth b) h = absurd h
known_closure u (Whole z) h = absurd h

a_count : (u : Common) (v : Value) → known u A_count v → IsCount v
a_count u (Whole (pos n)) h = tt
a_count u (Whole (negsuc n)) h = absurd h
a_count u Null h = absurd h
a_count u (Truth b) h = absurd h
a_count u (InCell n) h = absurd h

keeps_values : (u : Common) (m : Method) (vs : List Value) → walks m ≡ true → ValuesFit (known u) (walk_further m) (Any ∷ A_closure ∷ A_count ∷ walk_values m) vs → KeepsTurn u m vs
keeps_values u m [] is fits = absurd fits
keeps_values u m (x ∷ []) is fits = absurd fits.1
keeps_values u m (x ∷ y ∷ []) is fits = absurd fits.1.1
keeps_values u m (x ∷ y ∷ z ∷ vs) is fits = record { walks_it = is; on = fits.0; closure = known_closure u y fits.1.0; count = a_count u z fits.1.1.0; kept = (kept_any u m vs fits.1.1.1).0; there = (kept_any u m vs fits.1.1.1).1; three = omega arith }

-- The method of a node by its name.
pub walk_calls : (f : NodeForm) → is_walk f ≡ true → is_method f ≡ true
walk_calls f is = first_of_both (is_method f) (walks (walk_method f)) is

pub named_method : (f : NodeForm) (m : Method) → is_method f ≡ true → Some m ≡ method_named (method_name f) → walk_method f ≡ m
named_method (form.Method access x) m is e = ap (λ o. unwrap_or o ToString) (sym e)
named_method f m is e = absurd (cc is)

-- a name that no method has walks over nothing
pub unnamed_method : (f : NodeForm) → is_method f ≡ true → None ≡ method_named (method_name f) → walks (walk_method f) ≡ false
unnamed_method (form.Method access x) is e = ap (λ o. walks (unwrap_or o ToString)) (sym e)
unnamed_method f is e = absurd (cc is)

pub walk_named : (f : NodeForm) → is_walk f ≡ true → None ≡ method_named (method_name f) → ⊥
walk_named f is e =
    let none : false ≡ true = sym (unnamed_method f (walk_calls f is) e) ∙ second_of_both (is_method f) (walks (walk_method f)) is in
    cc none

pub keeps_turn : (root : Term) (u : Common) (f : Frame) → FrameFits (known u) root f → f.kind ≡ kind.WalkTurn → KeepsTurn u (walk_method (shape_in root f.node).form) f.values
keeps_turn root u f fits is =
    let sh = shape_in root f.node in
    let stands : is_walk sh.form ≡ true = subst (λ d. (frame_row d sh f.left f.env).stands ≡ true) is fits.meets.stands in
    keeps_values u (walk_method sh.form) f.values (second_of_both (is_method sh.form) (walks (walk_method sh.form)) stands)
    (subst (λ d. ValuesFit (known u) (frame_row d sh f.left f.env).further (frame_row d sh f.left f.env).values f.values) is fits.meets.values)

-- and its node walks, so it calls a method
pub turn_walks : (root : Term) (u : Common) (f : Frame) → FrameFits (known u) root f → f.kind ≡ kind.WalkTurn → is_walk (shape_in root f.node).form ≡ true
turn_walks root u f fits is = subst (λ d. (frame_row d (shape_in root f.node) f.left f.env).stands ≡ true) is fits.meets.stands

pub turn_method : (root : Term) (u : Common) (f : Frame) → FrameFits (known u) root f → f.kind ≡ kind.WalkTurn → is_method (shape_in root f.node).form ≡ true
turn_method root u f fits is = walk_calls (shape_in root f.node).form (turn_walks root u f fits is)

pub there_below : (h : List Cell) (v : Value) → There h v → ValueBelow (length h) v
there_below h (InCell n) there = there
there_below h Null there = tt
there_below h (Truth b) there = tt
there_below h (Whole z) there = tt

pub all_below : (h : List Cell) (vs : List Value) → AllAre (There h) vs → All (ValueBelow (length h)) vs
all_below h [] all = All-nil (ValueBelow (length h))
all_below h (v ∷ vs) all = All-cons (ValueBelow (length h)) v vs (there_below h v all.0) (all_below h vs all.1)

-- Behind a turn whose closure gave a value.
high : (f : Frame) → f.kind ≡ kind.WalkTurn → 2 ^ 71 ≤ rank f
high f is = let e : rank f ≡ tier kind.WalkTurn * 2 ^ 34 + (f.left + f.left) + extra kind.WalkTurn = ap (λ d. tier d * 2 ^ 34 + (f.left + f.left) + extra d) is in omega (arith, e)

-- what a frame of a turn does with that value
abbrev behind : Frame → Value → Saying
behind f x sh a = seeing (λ w. walked a f.env (position (value_at 2 f.values)) (value_at 0 f.values) (value_at 1 f.values) (walk_after w (walk_method sh.form) (value_at 0 f.values) (drop 3 f.values) x))

pub to_behind : (f : Frame) (e : Ending) (x : Value) (u : Standing) (result : Outcome Move Halt) (v : Standing) → f.kind ≡ kind.WalkTurn → value_of e ≡ Ok x → ComesTo f.node (rank f) (behind f x) u result v → ComesTo f.node (rank f) (λ sh a. after f sh a e) u result v
to_behind f e x u result v is value c = to_kind (rank f) f kind.WalkTurn e u result v is (to_value f.node (rank f) (behind f) e x u result v value c)

pub walk_goes_on : (f : Frame) (e : Ending) (x : Value) (i : ℕ) (kept next : List Value) (u : Standing) → f.kind ≡ kind.WalkTurn → value_of e ≡ Ok x → i ≡ position (value_at 2 f.values) → kept ≡ value_at 0 f.values ∷ value_at 1 f.values ∷ next → walk_after u.world (walk_method (shape_at u.world f.node).form) (value_at 0 f.values) (drop 3 f.values) x ≡ Keeps next → Comes f.node (rank f) (λ sh a. after f sh a e) u (Enter (Turn (i + 1) kept) f.node f.env) u
walk_goes_on f e x i kept next u is value at front goes =
    let one : suc (position (value_at 2 f.values)) ≡ i + 1 = omega (arith, at) in
    to_behind f e x u (Ok (Enter (Turn (i + 1) kept) f.node f.env)) u is value
    (to_as f.node (rank f) (behind f x) (λ sh a. a.again (i + 1) kept f.env) u (Ok (Enter (Turn (i + 1) kept) f.node f.env)) u
    (λ a rs. ap (λ b. walked a f.env (position (value_at 2 f.values)) (value_at 0 f.values) (value_at 1 f.values) b (state u.world rs)) goes
    ∙ ap (λ n. a.again n (value_at 0 f.values ∷ value_at 1 f.values ∷ next) f.env (state u.world rs)) one
    ∙ ap (λ ws. a.again (i + 1) ws f.env (state u.world rs)) (sym front))
    (comes_next f.node (rank f) (i + 1) kept f.env u (high f is)))

pub turn_ranks : (f : Frame) → f.kind ≡ kind.WalkTurn → 0 < rank f
turn_ranks f is = let h : 2 ^ 71 ≤ rank f = high f is in omega (arith, h)

pub walk_ends : (f : Frame) (e : Ending) (x : Value) (answer : Answer) (u : Standing) (result : Outcome Move Halt) (v : Standing) → f.kind ≡ kind.WalkTurn → value_of e ≡ Ok x → walk_after u.world (walk_method (shape_at u.world f.node).form) (value_at 0 f.values) (drop 3 f.values) x ≡ Ends answer → ComesTo f.node (rank f) (λ sh a. operating (λ w. answer) ended) u result v → ComesTo f.node (rank f) (λ sh a. after f sh a e) u result v
walk_ends f e x answer u result v is value ends c =
    to_behind f e x u result v is value
    (to_as f.node (rank f) (behind f x) (λ sh a. operating (λ w. answer) ended) u result v
    (λ a rs. ap (λ b. walked a f.env (position (value_at 2 f.values)) (value_at 0 f.values) (value_at 1 f.values) b (state u.world rs)) ends) c)

-- what was read of the frame
pub same_after : (w : World) (m m' : Method) (on on' : Value) (held held' : List Value) (x : Value) → m ≡ m' → on ≡ on' → held ≡ held' → frame_after w.shared.cells m (element_size (kind_of w.shared.cells on)) held x ≡ frame_after w.shared.cells m' (element_size (kind_of w.shared.cells on')) held' x
same_after w m m' on on' held held' x em eo eh =
    ap (λ n. frame_after w.shared.cells n (element_size (kind_of w.shared.cells on)) held x) em
    ∙ ap (λ o. frame_after w.shared.cells m' (element_size (kind_of w.shared.cells o)) held x) eo
    ∙ ap (λ vs. frame_after w.shared.cells m' (element_size (kind_of w.shared.cells on')) vs x) eh

-- Between two turns: what is not kept does not matter.
pub walk_keeps : (a : Around) (k : ℕ) (env : Env) (m : Method) (i : ℕ) (on f : Value) (kept : List Value) (s : State) → walks m ≡ true → walk a k env m i on f kept s ≡ walk a k env m i on f (kept_between m kept) s
walk_keeps a k env Each i on f kept s e = refl
walk_keeps a k env Collect i on f kept s e = refl
walk_keeps a k env Find i on f kept s e = refl
walk_keeps a k env FindAll i on f kept s e = refl
walk_keeps a k env AnyOf i on f kept s e = refl
walk_keeps a k env Every i on f kept s e = refl
walk_keeps a k env Times i on f kept s e = refl
walk_keeps a k env m i on f kept s e = absurd (cc e)

pub between_below : (h : List Cell) (m : Method) (vs : List Value) → All (ValueBelow (length h)) vs → All (ValueBelow (length h)) (kept_between m vs)
between_below h Collect vs all = all
between_below h FindAll vs all = all
between_below h m vs all = All-nil (ValueBelow (length h))

pub turn_fits : (f : NodeForm) (u : Common) (kept : List Value) → is_method f ≡ true → TurnFits f u kept → There u.cells (value_at 0 kept) × There u.cells (value_at 1 kept) × AllAre (There u.cells) (drop 2 kept)
turn_fits (form.Method access x) u kept e fits = fits
turn_fits f u kept e fits = absurd (cc e)

pub method_turn : (f : NodeForm) (a : Around) (k : ℕ) (sh : Shape) (env : Env) (i : ℕ) (kept : List Value) (s : State) → is_method f ≡ true → walks (walk_method sh.form) ≡ true → turn a k sh env i kept f s ≡ walk a k env (walk_method sh.form) i (value_at 0 kept) (value_at 1 kept) (drop 2 kept) s
method_turn (form.Method access x) a k sh env i kept s e is = ap (λ b. choose b (walk a k env (walk_method sh.form) i (value_at 0 kept) (value_at 1 kept) (drop 2 kept)) (ended Null) s) is
method_turn f a k sh env i kept s e is = absurd (cc e)

-- what a node does that is entered for a turn
pub enters_turn : (k : ℕ) (env : Env) (i : ℕ) (on f : Value) (kept : List Value) (u : Standing) (result : Outcome Move Halt) (v : Standing) → is_method (shape_at u.world k).form ≡ true → walks (walk_method (shape_at u.world k).form) ≡ true → ComesTo k (2 ^ 66) (λ sh a. walk a k env (walk_method sh.form) i on f kept) u result v → ComesTo k (2 ^ 66) (λ sh a. enter (Turn i (on ∷ f ∷ kept)) a k sh env) u result v
enters_turn k env i on f kept u result v is walks_it =
    to_as k (2 ^ 66) (λ sh a. enter (Turn i (on ∷ f ∷ kept)) a k sh env) (λ sh a. walk a k env (walk_method sh.form) i on f kept) u result v
    (λ a rs. method_turn (shape_at u.world k).form a k (shape_at u.world k) env i (on ∷ f ∷ kept) (state u.world rs) is walks_it)

-- a walk with a closure
pub walk_with : (a : Around) (k : ℕ) (env : Env) (m : Method) (i : ℕ) (on f : Value) (kept : List Value) (w : World) (rs : List Reply) (callee : Callee) → closure_of w f ≡ Some callee → walk a k env m i on f kept (state w rs) ≡ walk_turn a k env m i on f kept callee (element_at (limits w) (cells w) on (takes_two w callee) i) (state w rs)
walk_with a k env m i on f kept w rs callee e = ap (λ o. calling o (ended Null) (λ c. walk_turn a k env m i on f kept c (element_at (limits w) (cells w) on (takes_two w c) i)) (state w rs)) e

pub walk_without : (a : Around) (k : ℕ) (env : Env) (m : Method) (i : ℕ) (on f : Value) (kept : List Value) (w : World) (rs : List Reply) → closure_of w f ≡ None → walk a k env m i on f kept (state w rs) ≡ ended Null (state w rs)
walk_without a k env m i on f kept w rs e = ap (λ o. calling o (ended Null) (λ c. walk_turn a k env m i on f kept c (element_at (limits w) (cells w) on (takes_two w c) i)) (state w rs)) e

module _ (k : ℕ) (env : Env) (i : ℕ) (on f : Value) (kept : List Value) (callee : Callee) where
  met_turn : (a : Around) (m : Method) (t : Element) (l : LimitKind) (u v : Standing) → has_turn t ≡ true → Met may_count l u v → (rs : List Reply) → walk_turn a k env m i on f kept callee t (state u.world rs) ≡ Limited l (state v.world rs)
  unfolding through
  met_turn a m Past l u v e p rs = absurd (cc e)
  met_turn a m (Stops x) l u v e p rs = met may_count counted l u v p (Limited x) rs
  met_turn a m (Turns h args el) l u v e p rs =
      ap (through (frame kind.WalkTurn k 0 env (on ∷ f ∷ whole i ∷ held_in_turn m args el kept)) (after_walk_turn a env m i on f (held_in_turn m args el kept))) (met may_count (begun_turn h) l u v p (a.call callee.node args callee.env) rs)

  -- where no more may be counted
  pub turn_met : (r : ℕ) (t : Element) (l : LimitKind) (u v : Standing) → has_turn t ≡ true → Met may_count l u v → 0 < r → Comes k r (λ sh a. walk_turn a k env (walk_method sh.form) i on f kept callee t) u (Hits l) v
  turn_met r t l u v e p above =
      comes_hits k r _ u v l p.stack (met_beside may_count l u v p) (ap (λ w. w.setting) p.world) (subst (λ w. room_of w ≤ room_of u.world) (sym p.world) (omega arith)) above
      (λ a rs. met_turn a (walk_method (shape_at u.world k).form) t l u v e p rs)

  -- where its cells are not made
  pub turn_refused : (r : ℕ) (t : Element) (o : OpRefusal) (old new : Region) (u u' v : Standing) → TurnAnswers t old new (Err o) → Passed may_count counted u u' → (new.cells ≡ old.cells → v.world ≡ u'.world) → v.stack ≡ u.stack → Beside u v → 0 < r → ComesTo k r (λ sh a. walk_turn a k env (walk_method sh.form) i on f kept callee t) u (Err (halt_of o)) v
  turn_refused r t op.Memory old new u u' v answer p same stack beside above = tt
  turn_refused r t (op.Thrown c) old new u u' v answer p same stack beside above = absurd answer
  turn_refused r t (op.Limit l) old new u u' v answer p same stack beside above =
      let world : v.world ≡ u'.world = same answer.1 in
      let spent : suc (room_of u'.world) ≤ room_of u.world = subst (λ w. suc (room_of w) ≤ room_of u.world) (sym p.made) ((spends_count u.world).less p.free) in
      let room : suc (room_of v.world) ≤ room_of u.world = subst (λ w. suc (room_of w) ≤ room_of u.world) (sym world) spent in
      comes_hits k r _ u v l stack beside (ap (λ w. w.setting) world ∙ ap (λ w. w.setting) p.made) (omega (arith, room)) above
      (λ a rs. ap (λ x. walk_turn a k env (walk_method (shape_at u.world k).form) i on f kept callee x (state u.world rs)) answer.0 ∙ passed may_count counted u u' p (Limited l) rs ∙ ap (λ w. Limited l (state w rs)) (sym world))

  -- where it begins
  pub turn_begins : (r : ℕ) (t : Element) (m : Method) (h : List Cell) (args el vs : List Value) (u v : Standing) → t ≡ Turns h args el → vs ≡ on ∷ f ∷ whole i ∷ held_in_turn m args el kept → m ≡ walk_method (shape_at u.world k).form → may_count u.world ≡ None → suc (room_of v.world) ≤ room_of u.world → v.world ≡ changed_by (begun_turn h) u.world → v.stack ≡ u.stack ++ frame kind.WalkTurn k 0 env vs ∷ [] → Beside u v → Comes k r (λ sh a. walk_turn a k env (walk_method sh.form) i on f kept callee t) u (Enter (Body args) callee.node callee.env) v
  turn_begins r t m h args el vs u v begins is method free spent world stack beside =
      let same : vs ≡ on ∷ f ∷ whole i ∷ held_in_turn (walk_method (shape_at u.world k).form) args el kept = is ∙ ap (λ x. on ∷ f ∷ whole i ∷ held_in_turn x args el kept) method in
      let put : v.stack ≡ u.stack ++ frame kind.WalkTurn k 0 env (on ∷ f ∷ whole i ∷ held_in_turn (walk_method (shape_at u.world k).form) args el kept) ∷ [] = stack ∙ ap (λ ws. u.stack ++ frame kind.WalkTurn k 0 env ws ∷ []) same in
      comes_inside r callee.node (frame kind.WalkTurn k 0 env (on ∷ f ∷ whole i ∷ held_in_turn (walk_method (shape_at u.world k).form) args el kept)) args callee.env _ u v spent put beside (ap (λ w. w.setting) world) (omega arith)
      (λ a rs. ap (λ x. walk_turn a k env (walk_method (shape_at u.world k).form) i on f kept callee x (state u.world rs)) begins
      ∙ ap (through (frame kind.WalkTurn k 0 env (on ∷ f ∷ whole i ∷ held_in_turn (walk_method (shape_at u.world k).form) args el kept)) (after_walk_turn a env (walk_method (shape_at u.world k).form) i on f (held_in_turn (walk_method (shape_at u.world k).form) args el kept)))
      (begun a h args u v free world rs))
    where
      begun : (a : Around) (h : List Cell) (args : List Value) (u v : Standing) → may_count u.world ≡ None → v.world ≡ changed_by (begun_turn h) u.world → (rs : List Reply) → guarded may_count (begun_turn h) (a.call callee.node args callee.env) (state u.world rs) ≡ a.call callee.node args callee.env (state v.world rs)
      begun a h args u v free world rs = ap (λ l. unless_limit l (changed (begun_turn h) (a.call callee.node args callee.env)) (state u.world rs)) free ∙ ap (λ w. a.call callee.node args callee.env (state w rs)) (sym world)
