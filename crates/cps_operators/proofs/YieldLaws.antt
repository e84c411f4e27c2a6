-- How operations that give a value stand in moves.
use Rattle.std.proofs.Common.{◌≡◌, ◌∙◌, ◌<◌, ◌≤◌, ℕ, Bool, if◌then◌else◌, refl, ap, sym, subst, arith}
use Rattle.std.specs.Prelude.{not, Result as Outcome, Ok, Err}
use Rattle.model_values.specs.Cells.{Answer, Gives}
use Rattle.model_values.specs.Equality.{Is, Stops, equal}
use Rattle.model_values.specs.declared.limit.LimitKind.{LimitKind}
use Rattle.model_values.specs.declared.value.Value.{Value}
use Rattle.model_values.specs.declared.value.Value.TheVariants.{Bool as Truth}
use Rattle.model_run.specs.declared.ending.Ending.TheVariants.{Normal}
use Rattle.model_run.specs.Around.{cells, ended, limits}
use Rattle.model_run.specs.Expressions.{compared, comparing}
use Rattle.model_run.specs.State.{World, Limited, answered, operating, tick, may_count, counted, raised}
use Rattle.model_run.proofs.ExpressionLaws.{keeps_raised}
use Rattle.model_run.proofs.Room.{keeps_count}
use Rattle.value_view.specs.declared.refusal.OpRefusal.{OpRefusal}
use Rattle.value_view.specs.declared.refusal.OpRefusal.TheVariants as op
use Rattle.cps_frames.specs.Standing.{Beside, Standing, state, shape_at, room_of}
use Rattle.cps_frames.specs.Halts.{halt_of}
use Rattle.cps_frames.specs.Changes.{Done, Passed, changed_by}
use Rattle.cps_frames.specs.Moves.{ComesTo}
use Rattle.cps_frames.specs.declared.halt.Halt.{Halt}
use Rattle.cps_frames.specs.declared.halt.Halt.TheVariants.{Memory, Ends as HaltEnds, Limit as HaltLimit}
use Rattle.cps_frames.specs.declared.thread.Move.{Move}
use Rattle.cps_frames.specs.declared.thread.Move.TheVariants.{Ends}
use Rattle.cps_frames.proofs.MoveLaws.{Saying, beside_here, comes_ended, comes_ends, comes_hits, to_after, to_passed}
use Rattle.cps_operators.specs.Yields.{Operation, Yields, goes_by}

-- behind the value that it gives
pub to_yielded : (k r : ℕ) (m : Operation) (go : Value → Saying) (x : Value) (u u' : Standing) (result : Outcome Move Halt) (v : Standing) → Yields m u (Ok x) u' → ComesTo k r (go x) u' result v → ComesTo k r (λ sh a. m (λ y. go y sh a)) u result v
to_yielded k r m go x u u' result v p =
    to_after k r (λ sh a. m (λ y. go y sh a)) (go x) u u' result v (λ a rs. p.same (λ y. go y (shape_at u.world k) a) rs) p.stack p.beside p.setting p.less

-- where it gives none
pub to_stopped : (k r : ℕ) (m : Operation) (go : Value → Saying) (h : Halt) (u v : Standing) → Yields m u (Err h) v → 0 < r → ComesTo k r (λ sh a. m (λ y. go y sh a)) u (Err h) v
to_stopped k r m go Memory u v p pos = tt
to_stopped k r m go (HaltEnds e) u v p pos = comes_ends k r (λ sh a. m (λ y. go y sh a)) u v e p.stack p.beside p.setting p.less pos (λ a rs. p.same (λ y. go y (shape_at u.world k) a) rs)
to_stopped k r m go (HaltLimit l) u v p pos = comes_hits k r (λ sh a. m (λ y. go y sh a)) u v l p.stack p.beside p.setting p.less pos (λ a rs. p.same (λ y. go y (shape_at u.world k) a) rs)

-- an operation on the cells
abbrev pub halted : Outcome Value OpRefusal → Outcome Value Halt
halted (Ok x) = Ok x
halted (Err o) = Err (halt_of o)

pub yields_operating : (f : World → Answer) (u : Standing) (result : Outcome Value OpRefusal) (v : Standing) → Done f u result v → Yields (operating f) u (halted result) v
yields_operating f u (Ok x) v d = record {
  same = λ go rs. ap (λ b. answered b go (state u.world rs)) d.answers ∙ ap (λ w. go x (state w rs)) (sym d.world);
  stack = d.stack;
  beside = d.beside;
  setting = ap (λ w. w.setting) d.world;
  less = subst (λ w. room_of w ≤ room_of u.world) (sym d.world) (omega arith);
}
yields_operating f u (Err (op.Thrown c)) v d = record {
  same = λ go rs. ap (λ b. answered b go (state u.world rs)) d.answers ∙ ap (λ w. goes_by (Err (halt_of (op.Thrown c))) go (state w rs)) (sym d.world);
  stack = d.stack;
  beside = d.beside;
  setting = ap (λ w. w.setting) d.world;
  less = subst (λ w. room_of w ≤ room_of u.world) (sym d.world) (omega arith);
}
yields_operating f u (Err (op.Limit l)) v d = record {
  same = λ go rs. ap (λ b. answered b go (state u.world rs)) d.answers ∙ ap (λ w. Limited l (state w rs)) (sym d.world);
  stack = d.stack;
  beside = d.beside;
  setting = ap (λ w. w.setting) d.world;
  less = subst (λ w. room_of w ≤ room_of u.world) (sym d.world) (omega arith);
}
yields_operating f u (Err op.Memory) v d = tt

-- behind an operation that counts first
pub to_ticked : (k r : ℕ) (m : Operation) (go : Value → Saying) (x : Value) (u u' u'' : Standing) (result : Outcome Move Halt) (v : Standing) → Passed may_count counted u u' → Yields m u' (Ok x) u'' → ComesTo k r (go x) u'' result v → ComesTo k r (λ sh a. tick (m (λ y. go y sh a))) u result v
to_ticked k r m go x u u' u'' result v p y c =
    to_passed k r may_count counted keeps_count (λ sh a. m (λ z. go z sh a)) u u' result v p (to_yielded k r m go x u' u'' result v y c)

pub to_tick_stopped : (k r : ℕ) (m : Operation) (go : Value → Saying) (h : Halt) (u u' v : Standing) → Passed may_count counted u u' → Yields m u' (Err h) v → 0 < r → ComesTo k r (λ sh a. tick (m (λ y. go y sh a))) u (Err h) v
to_tick_stopped k r m go h u u' v p y pos =
    to_passed k r may_count counted keeps_count (λ sh a. m (λ z. go z sh a)) u u' (Err h) v p (to_stopped k r m go h u' v y pos)

-- a node that counts and ends with the value of an operation
pub counted_ends : (k r : ℕ) (m : Operation) (x : Value) (u u' v : Standing) → Passed may_count counted u u' → Yields m u' (Ok x) v → 0 < r → ComesTo k r (λ sh a. tick (m ended)) u (Ok (Ends (Normal x))) v
counted_ends k r m x u u' v p y pos = to_ticked k r m (λ z sh a. ended z) x u u' v (Ok (Ends (Normal x))) v p y (comes_ended k r (λ sh a. ended x) v (Normal x) pos (λ a rs. refl))

pub counted_stops : (k r : ℕ) (m : Operation) (h : Halt) (u u' v : Standing) → Passed may_count counted u u' → Yields m u' (Err h) v → 0 < r → ComesTo k r (λ sh a. tick (m ended)) u (Err h) v
counted_stops k r m h u u' v p y pos = to_tick_stopped k r m (λ z sh a. ended z) h u u' v p y pos

-- Two values are compared.
raised_room : (n : ℕ) (w : World) → room_of (changed_by (raised n) w) ≤ room_of w
raised_room n w = (keeps_raised n w).room

pub compare_stops : (same : Bool) (x y : Value) (k : LimitKind) (n : ℕ) (u v : Standing) → equal (limits u.world) (cells u.world) x y u.world.shared.count ≡ Stops k n → v.world ≡ changed_by (raised n) u.world → v.stack ≡ u.stack → Beside u v → Yields (comparing same x y) u (Err (HaltLimit k)) v
compare_stops same x y k n u v is made stack beside = record {
  same = λ go rs. ap (λ e. compared same go e (state u.world rs)) is ∙ ap (λ w. Limited k (state w rs)) (sym made);
  stack = stack;
  beside = beside;
  setting = ap (λ w. w.setting) made;
  less = subst (λ w. room_of w ≤ room_of u.world) (sym made) (raised_room n u.world);
}

pub compare_gives : (same : Bool) (x y : Value) (b r : Bool) (n : ℕ) (u v : Standing) → equal (limits u.world) (cells u.world) x y u.world.shared.count ≡ Is b n → r ≡ (if same then b else not b) → v.world ≡ changed_by (raised n) u.world → v.stack ≡ u.stack → Beside u v → Yields (comparing same x y) u (Ok (Truth r)) v
compare_gives same x y b r n u v is so made stack beside = record {
  same = λ go rs. ap (λ e. compared same go e (state u.world rs)) is ∙ ap (λ t. go (Truth t) (state (changed_by (raised n) u.world) rs)) (sym so) ∙ ap (λ w. go (Truth r) (state w rs)) (sym made);
  stack = stack;
  beside = beside;
  setting = ap (λ w. w.setting) made;
  less = subst (λ w. room_of w ≤ room_of u.world) (sym made) (raised_room n u.world);
}

-- an operation that gives a value and changes no cell
pub yields_gives : (f : World → Answer) (u : Standing) (x : Value) → f u.world ≡ Gives (cells u.world) x → Yields (operating f) u (Ok x) u
yields_gives f u x is = record {
  same = λ go rs. ap (λ b. answered b go (state u.world rs)) is;
  stack = refl;
  beside = beside_here u;
  setting = refl;
  less = omega arith;
}
