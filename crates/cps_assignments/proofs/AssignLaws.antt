-- Declarations and assignments, in the words of the machine.
use Rattle.std.proofs.Common.{◌≡◌, ◌∙◌, ◌<◌, ◌≤◌, ◌^◌, ℕ, zero, suc, Bool, true, false, List, [], ◌∷◌, ◌++◌, refl, sym, ap, subst, arith}
use Rattle.std.specs.Prelude.{Result as Outcome, Ok, Err, Some, None}
use Rattle.model_syntax.specs.declared.node.NodeForm.{NodeForm}
use Rattle.model_syntax.specs.declared.node.NodeForm.TheVariants as form
use Rattle.model_syntax.specs.declared.tree.AssignSign.{AssignSign}
use Rattle.model_values.specs.Cells.{Answer}
use Rattle.model_values.specs.Operators.{apply}
use Rattle.model_values.specs.declared.limit.LimitKind.{LimitKind}
use Rattle.model_values.specs.declared.cell.Binding.{Binding}
use Rattle.model_values.specs.declared.cell.Cell.{Cell}
use Rattle.model_values.specs.declared.operator.Op.{Op}
use Rattle.model_values.specs.declared.value.Value.{Value}
use Rattle.model_values.specs.declared.value.Value.TheVariants.{Null}
use Rattle.model_run.specs.Around.{Around, Shape, arity, cells, ended, form_at, frame, limits, under, value_at}
use Rattle.model_run.specs.Assignments.{after_receiver, assign_at, assign_by, assign_value, at_target, operator_in, place_size, read_target, receiver, sign_operator, write_target}
use Rattle.model_run.specs.Forms.{after, enter, name_of, start}
use Rattle.model_run.specs.Names.{declare, write_name}
use Rattle.model_run.specs.Nesting.{shape_at}
use Rattle.model_run.specs.State.{World, State, Env, Result, Ended, Limited, counted, guarded, may_count, on_value, operating, tick}
use Rattle.model_run.specs.Statements.{declaration}
use Rattle.model_run.specs.declared.ending.Ending.{Ending}
use Rattle.model_run.specs.declared.ending.Ending.TheVariants.{Normal}
use Rattle.model_run.specs.declared.ending.Entry.TheVariants.{First, Inside}
use Rattle.model_run.specs.declared.frame.FrameKind.TheVariants as kind
use Rattle.model_run.proofs.Room.{spends_count}
use Rattle.value_view.specs.declared.refusal.OpRefusal.{OpRefusal}
use Rattle.value_view.specs.declared.refusal.OpRefusal.TheVariants as op
use Rattle.cps_frames.specs.Changes.{Done, Met, Passed, Passes}
use Rattle.cps_frames.specs.Halts.{halt_of}
use Rattle.cps_frames.specs.Moves.{Comes, ComesTo}
use Rattle.cps_frames.specs.Standing.{Beside, Standing, room_of, state}
use Rattle.cps_frames.specs.declared.halt.Halt.{Halt}
use Rattle.cps_frames.specs.declared.halt.Halt.TheVariants.{Limit}
use Rattle.cps_frames.specs.declared.thread.Move.{Move}
use Rattle.cps_frames.specs.declared.thread.Move.TheVariants.{Ends, Hits}
use Rattle.cps_frames.proofs.MoveLaws.{comes_as, comes_ended, comes_ends, comes_hits, comes_met, to_as, to_kind, to_value, to_counted, to_given, to_passed, to_refused, to_thrown}
use Rattle.cps_frames.proofs.WayLaws.{value_err}
use Rattle.cps_frames.specs.Ways.{value_of}
use Rattle.model_run.specs.declared.frame.Frame.{Frame}
use Rattle.cps_variables.specs.Sight.{Has, Written, with_variables}
use Rattle.model_run.specs.FrameTable.{is_declaration}
use Rattle.cps_assignments.specs.Kinds.{starts_here}
use Rattle.cps_assignments.specs.Targets.{is_name, is_property, read_answer, stepped, suffix_counted, suffix_limit}
use Rattle.cps_assignments.proofs.TargetLaws.{keeps_suffix, read_is, write_is}

abbrev pub Says : Type 0
Says = Shape → Around → State → Result

-- the target of a node
abbrev pub target : Standing → ℕ → NodeForm
target u k = form_at (shape_at u.world.setting.script k).parts 0

-- a declaration without a value, and one with a value
pub to_null : (k r : ℕ) (x : List ℕ) (env : Env) (u : Standing) (result : Outcome Move Halt) (v : Standing) → x ≡ name_of (shape_at u.world.setting.script k).form → arity (shape_at u.world.setting.script k) ≡ 0 → ComesTo k r (λ sh a. declare x Null) u result v → ComesTo k r (λ sh a. declaration a k (arity sh) (name_of sh.form) env) u result v
to_null k r x env u result v is none =
    to_as k r (λ sh a. declaration a k (arity sh) (name_of sh.form) env) (λ sh a. declare x Null) u result v
    (λ a rs. let sh = shape_at u.world.setting.script k in ap (λ n. declaration a k n (name_of sh.form) env (state u.world rs)) none ∙ ap (λ y. declare y Null (state u.world rs)) (sym is))

valued : (a : Around) (k n : ℕ) (x : List ℕ) (env : Env) → (n ≡ 0 → ⊥) → declaration a k n x env ≡ under a (frame kind.DeclareValue k 0 env []) (on_value (declare x)) First 0 env
valued a k zero x env some = absurd (some refl)
valued a k (suc n) x env some = refl

pub to_valued : (k r : ℕ) (env : Env) (u : Standing) (result : Outcome Move Halt) (v : Standing) → (arity (shape_at u.world.setting.script k) ≡ 0 → ⊥) → ComesTo k r (λ sh a. under a (frame kind.DeclareValue k 0 env []) (after (frame kind.DeclareValue k 0 env []) sh a) First 0 env) u result v → ComesTo k r (λ sh a. declaration a k (arity sh) (name_of sh.form) env) u result v
to_valued k r env u result v some =
    to_as k r (λ sh a. declaration a k (arity sh) (name_of sh.form) env) (λ sh a. under a (frame kind.DeclareValue k 0 env []) (after (frame kind.DeclareValue k 0 env []) sh a) First 0 env) u result v
    (λ a rs. let sh = shape_at u.world.setting.script k in ap (λ m. m (state u.world rs)) (valued a k (arity sh) (name_of sh.form) env some))

-- A name that is written.
pub to_written : (k r : ℕ) (x : List ℕ) (env : Env) (val : Value) (h' : List Cell) (bs' : List Binding) (u v : Standing) → Written x env val u.world.shared.cells u.world.shared.binding (Ok tt) h' bs' → Has u.world.shared.cells u.world.shared.binding u.world → v.world ≡ with_variables h' bs' u.world → v.stack ≡ u.stack → Beside u v → room_of v.world ≤ room_of u.world → 0 < r
    → ComesTo k r (λ sh a. write_name x env val (ended val)) u (Ok (Ends (Normal val))) v
to_written k r x env val h' bs' u v w has made stack beside room lt =
    comes_ends k r (λ sh a. write_name x env val (ended val)) u v (Normal val) stack beside (ap (λ (w : World). w.setting) made) room lt
    (λ a rs. w (ended val) (state u.world rs) has ∙ ap (λ w. Ended (Normal val) (state w rs)) (sym made))

pub to_not_written : (k r : ℕ) (x : List ℕ) (env : Env) (val : Value) (o : OpRefusal) (h' : List Cell) (bs' : List Binding) (u v : Standing) → Written x env val u.world.shared.cells u.world.shared.binding (Err o) h' bs' → Has u.world.shared.cells u.world.shared.binding u.world → v.world ≡ with_variables h' bs' u.world → v.stack ≡ u.stack → Beside u v → 0 < r
    → ComesTo k r (λ sh a. write_name x env val (ended val)) u (Err (halt_of o)) v
to_not_written k r x env val op.Memory h' bs' u v w has made stack beside lt = tt
to_not_written k r x env val (op.Thrown c) h' bs' u v w has made stack beside lt = absurd w
to_not_written k r x env val (op.Limit l) h' bs' u v w has made stack beside lt =
    let same : v.world ≡ u.world = made ∙ ap (λ h. with_variables h bs' u.world) w.1 ∙ ap (λ bs. with_variables u.world.shared.cells bs u.world) w.2 in
    comes_hits k r (λ sh a. write_name x env val (ended val)) u v l stack beside (ap (λ (w : World). w.setting) same) (subst (λ w. room_of w ≤ room_of u.world) (sym same) (omega arith)) lt
    (λ a rs. w.0 (ended val) (state u.world rs) has ∙ ap (λ w. Limited l (state w rs)) (sym same))

-- the target by its form
pub to_form : (k r : ℕ) (f : NodeForm) (place : List Value) (env : Env) (val : Value) (u : Standing) (result : Outcome Move Halt) (v : Standing) → target u k ≡ f → ComesTo k r (λ sh a. write_target f place env val) u result v → ComesTo k r (λ sh a. write_target (form_at sh.parts 0) place env val) u result v
to_form k r f place env val u result v is =
    to_as k r (λ sh a. write_target (form_at sh.parts 0) place env val) (λ sh a. write_target f place env val) u result v (λ a rs. ap (λ g. write_target g place env val (state u.world rs)) is)

-- A target that is read, behind its count.
read_says : (k : ℕ) (place : List Value) (env : Env) (go : Value → Says) (u : Standing) (a : Around) (s : State) →
    read_target (target u k) place env (λ y. go y (shape_at u.world.setting.script k) a) s ≡ guarded (suffix_limit (target u k)) (suffix_counted (target u k)) (operating (read_answer (target u k) place env) (λ y. go y (shape_at u.world.setting.script k) a)) s
read_says k place env go u a s = ap (λ m. m s) (read_is (target u k) place env (λ y. go y (shape_at u.world.setting.script k) a))

-- the target is the same behind its count
same_target : (k : ℕ) (u u1 : Standing) → Passed (suffix_limit (target u k)) (suffix_counted (target u k)) u u1 → target u1 k ≡ target u k
same_target k u u1 p = ap (λ (w : World). form_at (shape_at w.setting.script k).parts 0) p.made

counted_target : (k : ℕ) (u u1 : Standing) → Passed may_count counted u u1 → target u1 k ≡ target u k
counted_target k u u1 p = ap (λ (w : World). form_at (shape_at w.setting.script k).parts 0) p.made

pub to_read : (k r : ℕ) (place : List Value) (env : Env) (go : Value → Says) (x : Value) (u u1 u2 : Standing) (result : Outcome Move Halt) (v : Standing) → Passed (suffix_limit (target u k)) (suffix_counted (target u k)) u u1 → Done (read_answer (target u1 k) place env) u1 (Ok x) u2 → ComesTo k r (go x) u2 result v → ComesTo k r (λ sh a. read_target (form_at sh.parts 0) place env (λ y. go y sh a)) u result v
to_read k r place env go x u u1 u2 result v p d c =
    to_as k r (λ sh a. read_target (form_at sh.parts 0) place env (λ y. go y sh a)) (λ sh a. guarded (suffix_limit (target u k)) (suffix_counted (target u k)) (operating (read_answer (target u k) place env) (λ y. go y sh a))) u result v (λ a rs. read_says k place env go u a (state u.world rs))
    (to_passed k r (suffix_limit (target u k)) (suffix_counted (target u k)) (keeps_suffix (target u k)) (λ sh a. operating (read_answer (target u k) place env) (λ y. go y sh a)) u u1 result v p
    (to_given k r (read_answer (target u k) place env) go x u1 u2 result v (subst (λ f. Done (read_answer f place env) u1 (Ok x) u2) (same_target k u u1 p) d) c))

pub to_not_counted : (k r : ℕ) (place : List Value) (env : Env) (go : Value → Says) (h : Halt) (u v : Standing) → Passes (suffix_limit (target u k)) (suffix_counted (target u k)) u (Err h) v → 0 < r → ComesTo k r (λ sh a. read_target (form_at sh.parts 0) place env (λ y. go y sh a)) u (Err h) v
to_not_counted k r place env go h u v p lt =
    to_as k r (λ sh a. read_target (form_at sh.parts 0) place env (λ y. go y sh a)) (λ sh a. guarded (suffix_limit (target u k)) (suffix_counted (target u k)) (operating (read_answer (target u k) place env) (λ y. go y sh a))) u (Err h) v (λ a rs. read_says k place env go u a (state u.world rs))
    (to_refused k r (suffix_limit (target u k)) (suffix_counted (target u k)) (λ sh a. operating (read_answer (target u k) place env) (λ y. go y sh a)) h u v p lt)

pub to_not_read : (k r : ℕ) (place : List Value) (env : Env) (go : Value → Says) (o : OpRefusal) (u u1 v : Standing) → Passed (suffix_limit (target u k)) (suffix_counted (target u k)) u u1 → Done (read_answer (target u1 k) place env) u1 (Err o) v → 0 < r → ComesTo k r (λ sh a. read_target (form_at sh.parts 0) place env (λ y. go y sh a)) u (Err (halt_of o)) v
to_not_read k r place env go o u u1 v p d lt =
    to_as k r (λ sh a. read_target (form_at sh.parts 0) place env (λ y. go y sh a)) (λ sh a. guarded (suffix_limit (target u k)) (suffix_counted (target u k)) (operating (read_answer (target u k) place env) (λ y. go y sh a))) u (Err (halt_of o)) v (λ a rs. read_says k place env go u a (state u.world rs))
    (to_passed k r (suffix_limit (target u k)) (suffix_counted (target u k)) (keeps_suffix (target u k)) (λ sh a. operating (read_answer (target u k) place env) (λ y. go y sh a)) u u1 (Err (halt_of o)) v p
    (to_thrown k r (read_answer (target u k) place env) go o u1 v (subst (λ f. Done (read_answer f place env) u1 (Err o) v) (same_target k u u1 p) d) lt))

-- `++` and `--`, behind what the target reads
abbrev pub behind_read : Bool → List Value → Env → Value → Says
behind_read up place env y sh a = tick (operating (λ w. stepped up w y) (write_target (form_at sh.parts 0) place env))

pub to_stepped : (k r : ℕ) (up : Bool) (place : List Value) (env : Env) (old new : Value) (u u1 u2 : Standing) (result : Outcome Move Halt) (v : Standing) → Passed may_count counted u u1 → Done (λ w. stepped up w old) u1 (Ok new) u2 → ComesTo k (2 ^ 66) (λ sh a. write_target (form_at sh.parts 0) place env new) u2 result v → ComesTo k r (behind_read up place env old) u result v
to_stepped k r up place env old new u u1 u2 result v p d c =
    to_counted k r (2 ^ 66) may_count counted spends_count (λ sh a. operating (λ w. stepped up w old) (write_target (form_at sh.parts 0) place env)) u u1 result v p (omega arith)
    (to_given k (2 ^ 66) (λ w. stepped up w old) (λ y sh a. write_target (form_at sh.parts 0) place env y) new u1 u2 result v d c)

pub to_not_stepped : (k r : ℕ) (up : Bool) (place : List Value) (env : Env) (old : Value) (o : OpRefusal) (u u1 v : Standing) → Passed may_count counted u u1 → Done (λ w. stepped up w old) u1 (Err o) v → ComesTo k r (behind_read up place env old) u (Err (halt_of o)) v
to_not_stepped k r up place env old o u u1 v p d =
    to_counted k r (2 ^ 66) may_count counted spends_count (λ sh a. operating (λ w. stepped up w old) (write_target (form_at sh.parts 0) place env)) u u1 (Err (halt_of o)) v p (omega arith)
    (to_thrown k (2 ^ 66) (λ w. stepped up w old) (λ y sh a. write_target (form_at sh.parts 0) place env y) o u1 v d (omega arith))

-- What is done with a target, by the form of the node.
pub to_kind_of : (k r : ℕ) (place : List Value) (env : Env) (f : NodeForm) (go : Says) (u : Standing) (result : Outcome Move Halt) (v : Standing) → (shape_at u.world.setting.script k).form ≡ f → ((sh : Shape) (a : Around) → at_target a k sh env place f ≡ go sh a) → ComesTo k r go u result v → ComesTo k r (λ sh a. at_target a k sh env place sh.form) u result v
to_kind_of k r place env f go u result v is says =
    to_as k r (λ sh a. at_target a k sh env place sh.form) go u result v
    (λ a rs. let sh = shape_at u.world.setting.script k in ap (λ g. at_target a k sh env place g (state u.world rs)) is ∙ ap (λ m. m (state u.world rs)) (says sh a))

pub set_says : (a : Around) (k : ℕ) (sh : Shape) (env : Env) (place : List Value) (sign : AssignSign) → sign_operator sign ≡ None → at_target a k sh env place (form.Assign sign) ≡ assign_value a k sh env place
set_says a k sh env place sign none = ap (assign_at a k sh env place) none

pub join_says : (a : Around) (k : ℕ) (sh : Shape) (env : Env) (place : List Value) (sign : AssignSign) (o : Op) → sign_operator sign ≡ Some o → at_target a k sh env place (form.Assign sign) ≡ read_target (form_at sh.parts 0) place env (λ old. assign_value a k sh env (place ++ old ∷ []))
join_says a k sh env place sign o some = ap (assign_at a k sh env place) some

-- A value that is assigned, by its operator.
pub to_plain : (k r : ℕ) (kept : List Value) (env : Env) (val : Value) (u u1 : Standing) (result : Outcome Move Halt) (v : Standing) → operator_in (shape_at u.world.setting.script k).form ≡ None → Passed (suffix_limit (target u k)) (suffix_counted (target u k)) u u1 → ComesTo k r (λ sh a. write_target (form_at sh.parts 0) kept env val) u1 result v → ComesTo k r (λ sh a. assign_by (operator_in sh.form) (form_at sh.parts 0) kept env val) u result v
to_plain k r kept env val u u1 result v none p c =
    to_as k r (λ sh a. assign_by (operator_in sh.form) (form_at sh.parts 0) kept env val) (λ sh a. guarded (suffix_limit (target u k)) (suffix_counted (target u k)) (write_target (form_at sh.parts 0) kept env val)) u result v
    (λ a rs. ap (λ o. assign_by o (target u k) kept env val (state u.world rs)) none ∙ ap (λ m. m (state u.world rs)) (write_is (target u k) kept env val))
    (to_passed k r (suffix_limit (target u k)) (suffix_counted (target u k)) (keeps_suffix (target u k)) (λ sh a. write_target (form_at sh.parts 0) kept env val) u u1 result v p c)

pub to_plain_refused : (k r : ℕ) (kept : List Value) (env : Env) (val : Value) (h : Halt) (u v : Standing) → operator_in (shape_at u.world.setting.script k).form ≡ None → Passes (suffix_limit (target u k)) (suffix_counted (target u k)) u (Err h) v → 0 < r → ComesTo k r (λ sh a. assign_by (operator_in sh.form) (form_at sh.parts 0) kept env val) u (Err h) v
to_plain_refused k r kept env val h u v none p lt =
    to_as k r (λ sh a. assign_by (operator_in sh.form) (form_at sh.parts 0) kept env val) (λ sh a. guarded (suffix_limit (target u k)) (suffix_counted (target u k)) (write_target (form_at sh.parts 0) kept env val)) u (Err h) v
    (λ a rs. ap (λ o. assign_by o (target u k) kept env val (state u.world rs)) none ∙ ap (λ m. m (state u.world rs)) (write_is (target u k) kept env val))
    (to_refused k r (suffix_limit (target u k)) (suffix_counted (target u k)) (λ sh a. write_target (form_at sh.parts 0) kept env val) h u v p lt)

-- the value with what the target has read
abbrev pub joined : Op → NodeForm → List Value → Value → World → Answer
joined o f kept val w = apply (limits w) (cells w) o (value_at (place_size f) kept) val

join_is : (k : ℕ) (kept : List Value) (env : Env) (val : Value) (o : Op) (u : Standing) (a : Around) (s : State) → operator_in (shape_at u.world.setting.script k).form ≡ Some o → assign_by (operator_in (shape_at u.world.setting.script k).form) (target u k) kept env val s ≡ tick (operating (joined o (target u k) kept val) (write_target (target u k) kept env)) s
join_is k kept env val o u a s some = ap (λ x. assign_by x (target u k) kept env val s) some

pub to_joined : (k r : ℕ) (kept : List Value) (env : Env) (val new : Value) (o : Op) (u u1 u2 : Standing) (result : Outcome Move Halt) (v : Standing) → operator_in (shape_at u.world.setting.script k).form ≡ Some o → Passed may_count counted u u1 → Done (joined o (target u1 k) kept val) u1 (Ok new) u2 → ComesTo k (2 ^ 66) (λ sh a. write_target (form_at sh.parts 0) kept env new) u2 result v → ComesTo k r (λ sh a. assign_by (operator_in sh.form) (form_at sh.parts 0) kept env val) u result v
to_joined k r kept env val new o u u1 u2 result v some p d c =
    to_as k r (λ sh a. assign_by (operator_in sh.form) (form_at sh.parts 0) kept env val) (λ sh a. tick (operating (joined o (target u k) kept val) (write_target (form_at sh.parts 0) kept env))) u result v (λ a rs. join_is k kept env val o u a (state u.world rs) some)
    (to_counted k r (2 ^ 66) may_count counted spends_count (λ sh a. operating (joined o (target u k) kept val) (write_target (form_at sh.parts 0) kept env)) u u1 result v p (omega arith)
    (to_given k (2 ^ 66) (joined o (target u k) kept val) (λ y sh a. write_target (form_at sh.parts 0) kept env y) new u1 u2 result v (subst (λ f. Done (joined o f kept val) u1 (Ok new) u2) (counted_target k u u1 p) d) c))

pub to_not_joined : (k r : ℕ) (kept : List Value) (env : Env) (val : Value) (o : Op) (e : OpRefusal) (u u1 v : Standing) → operator_in (shape_at u.world.setting.script k).form ≡ Some o → Passed may_count counted u u1 → Done (joined o (target u1 k) kept val) u1 (Err e) v → ComesTo k r (λ sh a. assign_by (operator_in sh.form) (form_at sh.parts 0) kept env val) u (Err (halt_of e)) v
to_not_joined k r kept env val o e u u1 v some p d =
    to_as k r (λ sh a. assign_by (operator_in sh.form) (form_at sh.parts 0) kept env val) (λ sh a. tick (operating (joined o (target u k) kept val) (write_target (form_at sh.parts 0) kept env))) u (Err (halt_of e)) v (λ a rs. join_is k kept env val o u a (state u.world rs) some)
    (to_counted k r (2 ^ 66) may_count counted spends_count (λ sh a. operating (joined o (target u k) kept val) (write_target (form_at sh.parts 0) kept env)) u u1 (Err (halt_of e)) v p (omega arith)
    (to_thrown k (2 ^ 66) (joined o (target u k) kept val) (λ y sh a. write_target (form_at sh.parts 0) kept env y) e u1 v (subst (λ f. Done (joined o f kept val) u1 (Err e) v) (counted_target k u u1 p) d) (omega arith)))

pub to_join_uncounted : (k r : ℕ) (kept : List Value) (env : Env) (val : Value) (o : Op) (l : LimitKind) (u v : Standing) → operator_in (shape_at u.world.setting.script k).form ≡ Some o → Met may_count l u v → 0 < r → ComesTo k r (λ sh a. assign_by (operator_in sh.form) (form_at sh.parts 0) kept env val) u (Err (Limit l)) v
to_join_uncounted k r kept env val o l u v some m lt =
    to_as k r (λ sh a. assign_by (operator_in sh.form) (form_at sh.parts 0) kept env val) (λ sh a. tick (operating (joined o (target u k) kept val) (write_target (form_at sh.parts 0) kept env))) u (Err (Limit l)) v (λ a rs. join_is k kept env val o u a (state u.world rs) some)
    (comes_met k r may_count counted (λ sh a. operating (joined o (target u k) kept val) (write_target (form_at sh.parts 0) kept env)) l u v m lt)

-- What a target is of.
pub to_named : (k r : ℕ) (env : Env) (u : Standing) (result : Outcome Move Halt) (v : Standing) → is_name (target u k) ≡ true → ComesTo k r (λ sh a. at_target a k sh env [] sh.form) u result v → ComesTo k r (λ sh a. receiver a k sh env (form_at sh.parts 0)) u result v
to_named k r env u result v is =
    to_as k r (λ sh a. receiver a k sh env (form_at sh.parts 0)) (λ sh a. at_target a k sh env [] sh.form) u result v (λ a rs. ap (λ m. m (state u.world rs)) (says a (shape_at u.world.setting.script k) (target u k) is))
  where
    says : (a : Around) (sh : Shape) (f : NodeForm) → is_name f ≡ true → receiver a k sh env f ≡ at_target a k sh env [] sh.form
    says a sh (form.ToName x) h = refl
    says a sh f h = absurd (cc h)

pub to_receiver : (k r : ℕ) (env : Env) (u : Standing) (result : Outcome Move Halt) (v : Standing) → is_name (target u k) ≡ false → ComesTo k r (λ sh a. under a (frame kind.TargetReceiver k 0 env []) (after (frame kind.TargetReceiver k 0 env []) sh a) (Inside 0) 0 env) u result v → ComesTo k r (λ sh a. receiver a k sh env (form_at sh.parts 0)) u result v
to_receiver k r env u result v is =
    to_as k r (λ sh a. receiver a k sh env (form_at sh.parts 0)) (λ sh a. under a (frame kind.TargetReceiver k 0 env []) (after (frame kind.TargetReceiver k 0 env []) sh a) (Inside 0) 0 env) u result v (λ a rs. ap (λ m. m (state u.world rs)) (says a (shape_at u.world.setting.script k) (target u k) is))
  where
    says : (a : Around) (sh : Shape) (f : NodeForm) → is_name f ≡ false → receiver a k sh env f ≡ under a (frame kind.TargetReceiver k 0 env []) (after (frame kind.TargetReceiver k 0 env []) sh a) (Inside 0) 0 env
    says a sh (form.ToName x) h = absurd (cc h)
    says a sh f h = refl

-- behind it: of a property nothing more, else the index
pub of_property : (a : Around) (k : ℕ) (sh : Shape) (env : Env) (f : NodeForm) (e : Ending) → is_property f ≡ true → after_receiver a k sh env f e ≡ on_value (λ of. at_target a k sh env (of ∷ []) sh.form) e
of_property a k sh env (form.ToProperty p) e h = refl
of_property a k sh env f e h = absurd (cc h)

pub of_entry : (a : Around) (k : ℕ) (sh : Shape) (env : Env) (f : NodeForm) (e : Ending) → is_property f ≡ false → after_receiver a k sh env f e ≡ on_value (λ of. under a (frame kind.TargetIndex k 0 env (of ∷ [])) (after (frame kind.TargetIndex k 0 env (of ∷ [])) sh a) (Inside 1) 0 env) e
of_entry a k sh env (form.ToProperty p) e h = absurd (cc h)
of_entry a k sh env f e h = refl

-- A statement of this crate from its beginning.
pub begun_says : (a : Around) (k : ℕ) (sh : Shape) (env : Env) (f : NodeForm) → starts_here f ≡ true → is_declaration f ≡ false → start a k sh env f ≡ tick (receiver a k sh env (form_at sh.parts 0))
begun_says a k sh env (form.Declare x) here differs = absurd (cc differs)
begun_says a k sh env (form.Assign sign) here differs = refl
begun_says a k sh env form.Increment here differs = refl
begun_says a k sh env form.Decrement here differs = refl
begun_says a k sh env f here differs = absurd (cc here)

declared_says : (a : Around) (k : ℕ) (sh : Shape) (env : Env) (f : NodeForm) → is_declaration f ≡ true → start a k sh env f ≡ tick (declaration a k (arity sh) (name_of f) env)
declared_says a k sh env (form.Declare x) is = refl
declared_says a k sh env f is = absurd (cc is)

pub to_declared : (k : ℕ) (env : Env) (u u1 : Standing) (result : Outcome Move Halt) (v : Standing) → is_declaration (shape_at u1.world.setting.script k).form ≡ true → Passed may_count counted u u1 → ComesTo k (2 ^ 66) (λ sh a. declaration a k (arity sh) (name_of sh.form) env) u1 result v → ComesTo k (2 ^ 66) (λ sh a. enter First a k sh env) u result v
to_declared k env u u1 result v is p c =
    to_as k (2 ^ 66) (λ sh a. enter First a k sh env) (λ sh a. tick (declaration a k (arity sh) (name_of sh.form) env)) u result v
    (λ a rs. let sh = shape_at u.world.setting.script k in ap (λ m. m (state u.world rs)) (declared_says a k sh env sh.form (subst (λ root. is_declaration (shape_at root k).form ≡ true) (ap (λ (w : World). w.setting.script) p.made) is)))
    (to_counted k (2 ^ 66) (2 ^ 66) may_count counted spends_count (λ sh a. declaration a k (arity sh) (name_of sh.form) env) u u1 result v p (omega arith) c)

pub to_assigned : (k : ℕ) (env : Env) (u u1 : Standing) (result : Outcome Move Halt) (v : Standing) → starts_here (shape_at u1.world.setting.script k).form ≡ true → is_declaration (shape_at u1.world.setting.script k).form ≡ false → Passed may_count counted u u1 → ComesTo k (2 ^ 66) (λ sh a. receiver a k sh env (form_at sh.parts 0)) u1 result v → ComesTo k (2 ^ 66) (λ sh a. enter First a k sh env) u result v
to_assigned k env u u1 result v here differs p c =
    to_as k (2 ^ 66) (λ sh a. enter First a k sh env) (λ sh a. tick (receiver a k sh env (form_at sh.parts 0))) u result v
    (λ a rs. let sh = shape_at u.world.setting.script k in let same = ap (λ (w : World). w.setting.script) p.made in
    ap (λ m. m (state u.world rs)) (begun_says a k sh env sh.form (subst (λ root. starts_here (shape_at root k).form ≡ true) same here) (subst (λ root. is_declaration (shape_at root k).form ≡ false) same differs)))
    (to_counted k (2 ^ 66) (2 ^ 66) may_count counted spends_count (λ sh a. receiver a k sh env (form_at sh.parts 0)) u u1 result v p (omega arith) c)

-- where no node more may be counted
count_says : (a : Around) (k : ℕ) (sh : Shape) (env : Env) (f : NodeForm) → starts_here f ≡ true → (go : State → Result) × (start a k sh env f ≡ tick go)
count_says a k sh env (form.Declare x) here = (declaration a k (arity sh) x env, refl)
count_says a k sh env (form.Assign sign) here = (receiver a k sh env (form_at sh.parts 0), refl)
count_says a k sh env form.Increment here = (receiver a k sh env (form_at sh.parts 0), refl)
count_says a k sh env form.Decrement here = (receiver a k sh env (form_at sh.parts 0), refl)
count_says a k sh env f here = absurd (cc here)

pub to_uncounted : (k : ℕ) (env : Env) (l : LimitKind) (u v : Standing) → starts_here (shape_at u.world.setting.script k).form ≡ true → Met may_count l u v → Comes k (2 ^ 66) (λ sh a. enter First a k sh env) u (Hits l) v
to_uncounted k env l u v here m =
    comes_as k (2 ^ 66) (λ sh a. enter First a k sh env) (λ sh a. tick ((count_says a k (shape_at u.world.setting.script k) env (shape_at u.world.setting.script k).form here).0)) u (Hits l) v
    (λ a rs. ap (λ g. g (state u.world rs)) ((count_says a k (shape_at u.world.setting.script k) env (shape_at u.world.setting.script k).form here).1))
    (comes_met k (2 ^ 66) may_count counted (λ sh a. (count_says a k (shape_at u.world.setting.script k) env (shape_at u.world.setting.script k).form here).0) l u v m (omega arith))

-- The frame of what a target is of: behind no value, of a property, of an entry.
no_receiver_says : (a : Around) (k : ℕ) (sh : Shape) (env : Env) (g : NodeForm) (e x : Ending) (s : State) → value_of e ≡ Err x → after_receiver a k sh env g e s ≡ Ended x s
no_receiver_says a k sh env (form.ToProperty p) e x s h = value_err (λ of. at_target a k sh env (of ∷ []) sh.form) e x s h
no_receiver_says a k sh env g e x s h = value_err (λ of. under a (frame kind.TargetIndex k 0 env (of ∷ [])) (after (frame kind.TargetIndex k 0 env (of ∷ [])) sh a) (Inside 1) 0 env) e x s h

pub no_receiver : (r : ℕ) (f : Frame) (e x : Ending) (u : Standing) → f.kind ≡ kind.TargetReceiver → value_of e ≡ Err x → 0 < r → Comes f.node r (λ sh a. after f sh a e) u (Ends x) u
no_receiver r f e x u is h lt =
    to_kind r f kind.TargetReceiver e u (Ok (Ends x)) u is
    (comes_ended f.node r (λ sh a. after_receiver a f.node sh f.env (form_at sh.parts 0) e) u x lt (λ a rs. no_receiver_says a f.node (shape_at u.world.setting.script f.node) f.env (target u f.node) e x (state u.world rs) h))

pub property_frame : (r : ℕ) (f : Frame) (e : Ending) (x : Value) (u : Standing) (result : Outcome Move Halt) (v : Standing) → f.kind ≡ kind.TargetReceiver → is_property (target u f.node) ≡ true → value_of e ≡ Ok x → ComesTo f.node r (λ sh a. at_target a f.node sh f.env (x ∷ []) sh.form) u result v → ComesTo f.node r (λ sh a. after f sh a e) u result v
property_frame r f e x u result v is property h c =
    to_kind r f kind.TargetReceiver e u result v is
    (to_as f.node r (λ sh a. after_receiver a f.node sh f.env (form_at sh.parts 0) e) (λ sh a. on_value (λ y. at_target a f.node sh f.env (y ∷ []) sh.form) e) u result v
    (λ a rs. ap (λ m. m (state u.world rs)) (of_property a f.node (shape_at u.world.setting.script f.node) f.env (target u f.node) e property))
    (to_value f.node r (λ y sh a. at_target a f.node sh f.env (y ∷ []) sh.form) e x u result v h c))

abbrev index_of : Frame → Value → Says
index_of f y sh a = under a (frame kind.TargetIndex f.node 0 f.env (y ∷ [])) (after (frame kind.TargetIndex f.node 0 f.env (y ∷ [])) sh a) (Inside 1) 0 f.env

pub entry_frame : (r : ℕ) (f : Frame) (e : Ending) (x : Value) (u : Standing) (result : Outcome Move Halt) (v : Standing) → f.kind ≡ kind.TargetReceiver → is_property (target u f.node) ≡ false → value_of e ≡ Ok x → ComesTo f.node r (λ sh a. under a (frame kind.TargetIndex f.node 0 f.env (x ∷ [])) (after (frame kind.TargetIndex f.node 0 f.env (x ∷ [])) sh a) (Inside 1) 0 f.env) u result v → ComesTo f.node r (λ sh a. after f sh a e) u result v
entry_frame r f e x u result v is entry h c =
    to_kind r f kind.TargetReceiver e u result v is
    (to_as f.node r (λ sh a. after_receiver a f.node sh f.env (form_at sh.parts 0) e) (λ sh a. on_value (λ y. index_of f y sh a) e) u result v
    (λ a rs. ap (λ m. m (state u.world rs)) (of_entry a f.node (shape_at u.world.setting.script f.node) f.env (target u f.node) e entry))
    (to_value f.node r (index_of f) e x u result v h c))
