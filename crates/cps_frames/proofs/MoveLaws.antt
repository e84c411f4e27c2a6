-- How what a function of the machine does is put together from what its callees do. None of these laws names a form or a step.
use Rattle.std.proofs.Common.{◌≡◌, ◌∙◌, ℕ, suc, ◌+◌, ◌≤◌, ◌<◌, ◌^◌, List, [], ◌∷◌, ◌++◌, Option, Some, None, refl, ap, subst, sym, arith, inl, inr, Bool, true, false}
use Rattle.std.specs.Prelude.{Result as Outcome, Ok, Err, IfSome}
use Rattle.std.proofs.lemmas.List.{append-nil}
use Rattle.model_values.specs.Cells.{Answer, Gives, Throws}
use Rattle.model_values.specs.declared.cell.Cell.{Cell}
use Rattle.model_values.specs.declared.limit.LimitKind.{LimitKind}
use Rattle.model_values.specs.declared.value.Value.{Value}
use Rattle.model_run.specs.declared.ending.Asked.{Asked}
use Rattle.model_run.specs.declared.ending.Ending.{Ending}
use Rattle.model_run.specs.declared.ending.Ending.TheVariants.{Thrown as Has_thrown}
use Rattle.model_run.specs.declared.ending.Entry.{Entry}
use Rattle.model_run.specs.declared.ending.Entry.TheVariants.{Body, Turn}
use Rattle.model_run.specs.declared.frame.Frame.{Frame}
use Rattle.model_run.specs.declared.frame.FrameKind.{FrameKind}
use Rattle.model_run.specs.Around.{Around, Shape, frame, under as part_under}
use Rattle.model_run.specs.Forms.{after, after_kind}
use Rattle.model_run.specs.Nesting.{shape_at as shape_in}
use Rattle.model_run.specs.State.{World, Reply, State, Env, Result, Ended, Limited, through, changed, unless_limit, guarded, answered, operating, awaiting, on_value, seeing, choose, put_cells}
use Rattle.model_run.proofs.Relation.{KeepsAll, Spends}
use Rattle.value_view.specs.declared.refusal.OpRefusal.{OpRefusal}
use Rattle.value_view.specs.declared.refusal.OpRefusal.TheVariants as op
use Rattle.cps_frames.specs.Standing.{Standing, Beside, standing, state, shape_at, room_of, setting_of, common_of, own_of, world_of}
use Rattle.cps_frames.specs.Order.{rank, ranks}
use Rattle.cps_frames.specs.Halts.{move_of, halt_of}
use Rattle.cps_frames.specs.Moves.{How, Part, Again, Call, IsPart, IsOfPart, IsNear, Placed, does, over, forked, forked_by, Comes, ComesTo}
use Rattle.cps_frames.specs.Ways.{value_of}
use Rattle.cps_frames.proofs.WayLaws.{value_ok, value_err}
use Rattle.cell_heap.specs.Region.{Region}
use Rattle.cell_heap.proofs.FollowsLemmas.{Follows-refl, Follows-same, Follows-trans}
use Rattle.value_view.specs.Answers.{Answers}
use Rattle.cps_frames.specs.Changes.{changed_by, Passed, Met, Passes, Leaves, Done}
use Rattle.cps_frames.specs.declared.halt.Halt.{Halt}
use Rattle.cps_frames.specs.declared.halt.Halt.TheVariants.{Memory, Ends as HaltEnds, Limit as HaltLimit}
use Rattle.cps_frames.specs.declared.shared.Shared.{Shared}
use Rattle.cps_frames.specs.declared.thread.ThreadState.{ThreadState}
use Rattle.cps_frames.specs.declared.thread.Move.{Move}
use Rattle.cps_frames.specs.declared.thread.Move.TheVariants.{Ends, Hits, Enter, Asks}

-- what a node is said to do
abbrev pub Saying : Type 0
Saying = Shape → Around → State → Result

-- what one thread is said to do is what another is said to do
abbrev pub SaysAs : ℕ → Saying → Standing → Saying → Standing → Type 0
SaysAs k m u m' u' = (a : Around) (rs : List Reply) → m (shape_at u.world k) a (state u.world rs) ≡ m' (shape_at u.world k) a (state u'.world rs)

-- each move that a result is
pub each_move : {P Q : Move → Type 0} → ((move : Move) → P move → Q move) → (o : Option Move) → IfSome o P → IfSome o Q
each_move h None p = tt
each_move h (Some move) p = h move p

-- beside the world and the frames
pub beside_here : (u : Standing) → Beside u u
beside_here u = record { parent = refl; heap = Follows-refl u.heap }

pub beside_same : (u v : Standing) → v.parent ≡ u.parent → v.heap ≡ u.heap → Beside u v
beside_same u v parent heap = record { parent = parent; heap = Follows-same u.heap v.heap heap }

pub beside_on : (u v w : Standing) → Beside u v → Beside v w → Beside u w
beside_on u v w a b = record { parent = b.parent ∙ a.parent; heap = Follows-trans u.heap v.heap w.heap a.heap b.heap }

-- a thread whose frames alone have changed
pub beside_frames : (u : Shared) (t t' : ThreadState) → t'.parent ≡ t.parent → Beside (standing u t) (standing u t')
beside_frames u t t' e = beside_same (standing u t) (standing u t') e refl

-- what comes behind a first part
pub comes_after : (k r : ℕ) (m m' : Saying) (u u' : Standing) (move : Move) (v : Standing) → SaysAs k m u m' u' → u'.stack ≡ u.stack → Beside u u' → u'.world.setting ≡ u.world.setting → room_of u'.world ≤ room_of u.world → Comes k r m' u' move v → Comes k r m u move v
comes_after k r m m' u u' move v h stack beside setting less c = record {
  frames = c.frames;
  pushed = c.pushed ∙ ap (λ s. s ++ c.frames) stack;
  new = c.new;
  how = c.how;
  placed = subst (λ g. Placed g.script k c.how c.frames move) setting c.placed;
  setting = c.setting ∙ setting;
  beside = beside_on u u' v beside c.beside;
  same = λ a rs. h a rs ∙ subst (λ g. m' (shape_in g.script k) a (state u'.world rs) ≡ over (shape_in g.script k) a c.frames (does a c.how move (state v.world rs))) setting (c.same a rs);
  less = (let l : room_of v.world + forked move ≤ room_of u'.world = c.less in omega (arith, less, l));
  falls = elim c.falls [ inl q ↦ (let q0 : suc (room_of v.world) ≤ room_of u'.world = q.0 in inl (omega (arith, less, q0), q.1)) | inr q ↦ inr q ];
}

pub to_after : (k r : ℕ) (m m' : Saying) (u u' : Standing) (result : Outcome Move Halt) (v : Standing) → SaysAs k m u m' u' → u'.stack ≡ u.stack → Beside u u' → u'.world.setting ≡ u.world.setting → room_of u'.world ≤ room_of u.world → ComesTo k r m' u' result v → ComesTo k r m u result v
to_after k r m m' u u' result v h stack beside setting less = each_move (λ move. comes_after k r m m' u u' move v h stack beside setting less) (move_of result)

-- the same, said otherwise
pub comes_as : (k r : ℕ) (m m' : Saying) (u : Standing) (move : Move) (v : Standing) → SaysAs k m u m' u → Comes k r m' u move v → Comes k r m u move v
comes_as k r m m' u move v h = comes_after k r m m' u u move v h refl (beside_here u) refl (omega arith)

pub to_as : (k r : ℕ) (m m' : Saying) (u : Standing) (result : Outcome Move Halt) (v : Standing) → SaysAs k m u m' u → ComesTo k r m' u result v → ComesTo k r m u result v
to_as k r m m' u result v h = each_move (λ move. comes_as k r m m' u move v h) (move_of result)

-- under a higher bound
near_higher : (n r r' : ℕ) → r ≤ r' → (how : How) (move : Move) → IsNear n r how move → IsNear n r' how move
near_higher n r r' le (Part i) move near = tt
near_higher n r r' le Again (Enter e p env) near = let h : n + 2 ^ 71 ≤ r = near in omega (arith, h, le)
near_higher n r r' le Again (Ends e) near = tt
near_higher n r r' le Again (Hits l) near = tt
near_higher n r r' le Again (Asks asked) near = tt
near_higher n r r' le Call (Enter e p env) near = absurd near
near_higher n r r' le Call (Ends e) near = tt
near_higher n r r' le Call (Hits l) near = tt
near_higher n r r' le Call (Asks asked) near = tt

pub comes_higher : (k r r' : ℕ) (m : Saying) (u : Standing) (move : Move) (v : Standing) → r ≤ r' → Comes k r m u move v → Comes k r' m u move v
comes_higher k r r' m u move v le c = record {
  frames = c.frames;
  pushed = c.pushed;
  new = c.new;
  how = c.how;
  placed = c.placed;
  setting = c.setting;
  beside = c.beside;
  same = c.same;
  less = c.less;
  falls = elim c.falls [ inl q ↦ inl q | inr q ↦ inr (near_higher (ranks c.frames) r r' le c.how move q.0, (let q1 : ranks c.frames < r = q.1 in omega (arith, q1, le))) ];
}

pub to_higher : (k r r' : ℕ) (m : Saying) (u : Standing) (result : Outcome Move Halt) (v : Standing) → r ≤ r' → ComesTo k r m u result v → ComesTo k r' m u result v
to_higher k r r' m u result v le = each_move (λ move. comes_higher k r r' m u move v le) (move_of result)

-- what comes behind something that was counted: then any bound will do
pub comes_spent : (k r r' : ℕ) (m m' : Saying) (u u' : Standing) (move : Move) (v : Standing) → SaysAs k m u m' u' → u'.stack ≡ u.stack → Beside u u' → u'.world.setting ≡ u.world.setting → suc (room_of u'.world) ≤ room_of u.world → r' ≤ 2 ^ 66 → Comes k r' m' u' move v → Comes k r m u move v
comes_spent k r r' m m' u u' move v h stack beside setting less small c = record {
  frames = c.frames;
  pushed = c.pushed ∙ ap (λ s. s ++ c.frames) stack;
  new = c.new;
  how = c.how;
  placed = subst (λ g. Placed g.script k c.how c.frames move) setting c.placed;
  setting = c.setting ∙ setting;
  beside = beside_on u u' v beside c.beside;
  same = λ a rs. h a rs ∙ subst (λ g. m' (shape_in g.script k) a (state u'.world rs) ≡ over (shape_in g.script k) a c.frames (does a c.how move (state v.world rs))) setting (c.same a rs);
  less = (let l : room_of v.world + forked move ≤ room_of u'.world = c.less in omega (arith, less, l));
  falls = (let l : room_of v.world + forked move ≤ room_of u'.world = c.less in inl (omega (arith, less, l), elim c.falls [ inl q ↦ q.1 | inr q ↦ (let q1 : ranks c.frames < r' = q.1 in omega (arith, q1, small)) ]));
}

pub to_spent : (k r r' : ℕ) (m m' : Saying) (u u' : Standing) (result : Outcome Move Halt) (v : Standing) → SaysAs k m u m' u' → u'.stack ≡ u.stack → Beside u u' → u'.world.setting ≡ u.world.setting → suc (room_of u'.world) ≤ room_of u.world → r' ≤ 2 ^ 66 → ComesTo k r' m' u' result v → ComesTo k r m u result v
to_spent k r r' m m' u u' result v h stack beside setting less small = each_move (λ move. comes_spent k r r' m m' u u' move v h stack beside setting less small) (move_of result)

-- what ends here
pub comes_ends : (k r : ℕ) (m : Saying) (u v : Standing) (e : Ending) → v.stack ≡ u.stack → Beside u v → v.world.setting ≡ u.world.setting → room_of v.world ≤ room_of u.world → 0 < r → ((a : Around) (rs : List Reply) → m (shape_at u.world k) a (state u.world rs) ≡ Ended e (state v.world rs)) → Comes k r m u (Ends e) v
comes_ends k r m u v e stack beside setting less pos h = record { frames = []; pushed = stack ∙ sym (append-nil u.stack); new = tt; how = Call; placed = refl; setting = setting; beside = beside; same = h; less = omega (arith, less); falls = inr (tt, pos) }

pub comes_hits : (k r : ℕ) (m : Saying) (u v : Standing) (l : LimitKind) → v.stack ≡ u.stack → Beside u v → v.world.setting ≡ u.world.setting → room_of v.world ≤ room_of u.world → 0 < r → ((a : Around) (rs : List Reply) → m (shape_at u.world k) a (state u.world rs) ≡ Limited l (state v.world rs)) → Comes k r m u (Hits l) v
comes_hits k r m u v l stack beside setting less pos h = record { frames = []; pushed = stack ∙ sym (append-nil u.stack); new = tt; how = Call; placed = refl; setting = setting; beside = beside; same = h; less = omega (arith, less); falls = inr (tt, pos) }

-- what ends where it stands, and changes nothing
pub comes_ended : (k r : ℕ) (m : Saying) (u : Standing) (e : Ending) → 0 < r → ((a : Around) (rs : List Reply) → m (shape_at u.world k) a (state u.world rs) ≡ Ended e (state u.world rs)) → Comes k r m u (Ends e) u
comes_ended k r m u e pos h = comes_ends k r m u u e refl (beside_here u) refl (omega arith) pos h

-- A change that may meet a limit.
pub passed_setting : (limit : World → Option LimitKind) (g : World → World) (u v : Standing) → Passed limit g u v → v.world.setting ≡ u.world.setting
passed_setting limit g u v p = ap (λ w. w.setting) p.made

pub passed_beside : (limit : World → Option LimitKind) (g : World → World) (u v : Standing) → Passed limit g u v → Beside u v
passed_beside limit g u v p = beside_same u v p.parent p.heap

pub met_beside : (limit : World → Option LimitKind) (k : LimitKind) (u v : Standing) → Met limit k u v → Beside u v
met_beside limit k u v p = beside_same u v p.parent p.heap

pub passed : (limit : World → Option LimitKind) (g : World → World) (u v : Standing) → Passed limit g u v → (go : State → Result) (rs : List Reply) → guarded limit g go (state u.world rs) ≡ go (state v.world rs)
passed limit g u v p go rs = ap (λ l. unless_limit l (changed g go) (state u.world rs)) p.free ∙ ap (λ w. go (state w rs)) (sym p.made)

pub met : (limit : World → Option LimitKind) (g : World → World) (l : LimitKind) (u v : Standing) → Met limit l u v → (go : State → Result) (rs : List Reply) → guarded limit g go (state u.world rs) ≡ Limited l (state v.world rs)
met limit g l u v p go rs = ap (λ x. unless_limit x (changed g go) (state u.world rs)) p.met ∙ ap (λ w. Limited l (state w rs)) (sym p.world)

room_kept : (limit : World → Option LimitKind) (g : World → World) (u v : Standing) → KeepsAll g → Passed limit g u v → room_of v.world ≤ room_of u.world
room_kept limit g u v keeps p = subst (λ w. room_of w ≤ room_of u.world) (sym p.made) (keeps u.world).room

room_spent : (limit : World → Option LimitKind) (g : World → World) (u v : Standing) → Spends limit g → Passed limit g u v → suc (room_of v.world) ≤ room_of u.world
room_spent limit g u v spends p = subst (λ w. suc (room_of w) ≤ room_of u.world) (sym p.made) ((spends u.world).less p.free)

room_same : (u v : Standing) → v.world ≡ u.world → room_of v.world ≤ room_of u.world
room_same u v e = subst (λ w. room_of w ≤ room_of u.world) (sym e) (omega arith)

-- behind a change that counts nothing, and behind one that counts
pub to_passed : (k r : ℕ) (limit : World → Option LimitKind) (g : World → World) → KeepsAll g → (go : Saying) (u u' : Standing) (result : Outcome Move Halt) (v : Standing) → Passed limit g u u' → ComesTo k r go u' result v → ComesTo k r (λ sh a. guarded limit g (go sh a)) u result v
to_passed k r limit g keeps go u u' result v p =
    to_after k r _ go u u' result v (λ a rs. passed limit g u u' p (go (shape_at u.world k) a) rs) p.stack (passed_beside limit g u u' p) (passed_setting limit g u u' p) (room_kept limit g u u' keeps p)

pub to_counted : (k r r' : ℕ) (limit : World → Option LimitKind) (g : World → World) → Spends limit g → (go : Saying) (u u' : Standing) (result : Outcome Move Halt) (v : Standing) → Passed limit g u u' → r' ≤ 2 ^ 66 → ComesTo k r' go u' result v → ComesTo k r (λ sh a. guarded limit g (go sh a)) u result v
to_counted k r r' limit g spends go u u' result v p small =
    to_spent k r r' _ go u u' result v (λ a rs. passed limit g u u' p (go (shape_at u.world k) a) rs) p.stack (passed_beside limit g u u' p) (passed_setting limit g u u' p) (room_spent limit g u u' spends p) small

-- where the limit was met, and where the change was refused
pub comes_met : (k r : ℕ) (limit : World → Option LimitKind) (g : World → World) (go : Saying) (l : LimitKind) (u v : Standing) → Met limit l u v → 0 < r → Comes k r (λ sh a. guarded limit g (go sh a)) u (Hits l) v
comes_met k r limit g go l u v p pos = comes_hits k r _ u v l p.stack (met_beside limit l u v p) (ap (λ w. w.setting) p.world) (room_same u v p.world) pos (λ a rs. met limit g l u v p (go (shape_at u.world k) a) rs)

pub to_refused : (k r : ℕ) (limit : World → Option LimitKind) (g : World → World) (go : Saying) (h : Halt) (u v : Standing) → Passes limit g u (Err h) v → 0 < r → ComesTo k r (λ sh a. guarded limit g (go sh a)) u (Err h) v
to_refused k r limit g go Memory u v p pos = tt
to_refused k r limit g go (HaltEnds e) u v p pos = absurd p
to_refused k r limit g go (HaltLimit l) u v p pos = comes_met k r limit g go l u v p pos

-- a change that meets no limit
pub to_changed : (k r : ℕ) (g : World → World) → KeepsAll g → (go : Saying) (u u' : Standing) (result : Outcome Move Halt) (v : Standing) → u'.world ≡ changed_by g u.world → u'.stack ≡ u.stack → Beside u u' → ComesTo k r go u' result v → ComesTo k r (λ sh a. changed g (go sh a)) u result v
to_changed k r g keeps go u u' result v made stack beside =
    to_after k r _ go u u' result v (λ a rs. ap (λ w. go (shape_at u.world k) a (state w rs)) (sym made)) stack beside (ap (λ w. w.setting) made) (subst (λ w. room_of w ≤ room_of u.world) (sym made) (keeps u.world).room)

-- An operation on values.
left_setting : (a b : Answer) (h : List Cell) (u v : Standing) → Leaves a b h u v → v.world.setting ≡ u.world.setting
left_setting a b h u v l = ap (λ w. w.setting) l.world

left_room : (a b : Answer) (h : List Cell) (u v : Standing) → Leaves a b h u v → room_of v.world ≤ room_of u.world
left_room a b h u v l = subst (λ w. room_of w ≤ room_of u.world) (sym l.world) (omega arith)

-- behind the value that it gives
pub to_given : (k r : ℕ) (f : World → Answer) (go : Value → Saying) (x : Value) (u u' : Standing) (result : Outcome Move Halt) (v : Standing) → Done f u (Ok x) u' → ComesTo k r (go x) u' result v → ComesTo k r (λ sh a. operating f (λ y. go y sh a)) u result v
to_given k r f go x u u' result v d =
    to_after k r _ (go x) u u' result v
    (λ a rs. ap (λ b. answered b (λ y. go y (shape_at u.world k) a) (state u.world rs)) d.answers ∙ ap (λ w. go x (shape_at u.world k) a (state w rs)) (sym d.world))
    d.stack d.beside (left_setting _ _ _ u u' d) (left_room _ _ _ u u' d)

-- where it gives none
pub to_thrown : (k r : ℕ) (f : World → Answer) (go : Value → Saying) (o : OpRefusal) (u v : Standing) → Done f u (Err o) v → 0 < r → ComesTo k r (λ sh a. operating f (λ y. go y sh a)) u (Err (halt_of o)) v
to_thrown k r f go op.Memory u v d pos = tt
to_thrown k r f go (op.Thrown c) u v d pos =
    comes_ends k r _ u v (Has_thrown c) d.stack d.beside (left_setting _ _ _ u v d) (left_room _ _ _ u v d) pos
    (λ a rs. ap (λ b. answered b (λ y. go y (shape_at u.world k) a) (state u.world rs)) d.answers ∙ ap (λ w. Ended (Has_thrown c) (state w rs)) (sym d.world))
to_thrown k r f go (op.Limit l) u v d pos =
    comes_hits k r _ u v l d.stack d.beside (left_setting _ _ _ u v d) (left_room _ _ _ u v d) pos
    (λ a rs. ap (λ b. answered b (λ y. go y (shape_at u.world k) a) (state u.world rs)) d.answers ∙ ap (λ w. Limited l (state w rs)) (sym d.world))

-- the world of a thread whose frames alone have changed
pub same_world : (u : Shared) (t t' : ThreadState) → own_of t' ≡ own_of t → world_of u t' ≡ world_of u t
same_world u t t' e = ap (λ o. record { setting = setting_of u; shared = common_of u; own = o }) e

-- a part under a frame of the node
pub comes_under : (r i p : ℕ) (f : Frame) (e : Entry) (env : Env) (u v : Standing) → v.world ≡ u.world → v.stack ≡ u.stack ++ f ∷ [] → Beside u v → IsPart u.world.setting.script f.node i p → IsOfPart e → rank f < r → Comes f.node r (λ sh a. part_under a f (after f sh a) e i env) u (Enter e p env) v
comes_under r i p f e env u v world stack beside part entry low = record {
  frames = f ∷ [];
  pushed = stack;
  new = (refl, tt);
  how = Part i;
  placed = (part, entry);
  setting = ap (λ w. w.setting) world;
  beside = beside;
  same = λ a rs. ap (λ w. part_under a f (after f (shape_at u.world f.node) a) e i env (state w rs)) (sym world);
  less = (let l : room_of v.world ≤ room_of u.world = room_same u v world in omega (arith, l));
  falls = inr (tt, (let l : rank f < r = low in omega (arith, l)));
}

-- the same where the frame has a copy of the variables
pub inside_to : (kind : FrameKind) (node left i : ℕ) (env copy inner : Env) (vs : List Value) (e : Entry) (u : Standing) (result : Outcome Move Halt) (v : Standing) → copy ≡ env → vs ≡ [] → ((r : ℕ) → rank (frame kind node left copy vs) < r → ComesTo node r (λ sh a. part_under a (frame kind node left copy vs) (after (frame kind node left copy vs) sh a) e i inner) u result v) → (r : ℕ) → rank (frame kind node left env []) < r → ComesTo node r (λ sh a. part_under a (frame kind node left env []) (after (frame kind node left env []) sh a) e i inner) u result v
inside_to kind node left i env copy inner vs e u result v same none h =
    let P : Env → List Value → Type 0 = λ x ys. (r : ℕ) → rank (frame kind node left x ys) < r → ComesTo node r (λ sh a. part_under a (frame kind node left x ys) (after (frame kind node left x ys) sh a) e i inner) u result v in
    subst (P env) none (subst (λ x. P x vs) same h)

-- Further turns, calls and bodies, behind something that is counted.
pub comes_again : (k r i : ℕ) (kept : List Value) (env : Env) (limit : World → Option LimitKind) (g : World → World) → Spends limit g → (u v : Standing) → Passed limit g u v → Comes k r (λ sh a. guarded limit g (a.again i kept env)) u (Enter (Turn i kept) k env) v
comes_again k r i kept env limit g spends u v p =
    let low : suc (room_of v.world) ≤ room_of u.world = room_spent limit g u v spends p in
    record { frames = []; pushed = p.stack ∙ sym (append-nil u.stack); new = tt; how = Again; placed = (refl, tt); setting = passed_setting limit g u v p; beside = passed_beside limit g u v p; same = λ a rs. passed limit g u v p (a.again i kept env) rs; less = omega (arith, low); falls = inl (low, omega arith) }

pub comes_call : (k r c : ℕ) (args : List Value) (env : Env) (limit : World → Option LimitKind) (g : World → World) → Spends limit g → (u v : Standing) → Passed limit g u v → Comes k r (λ sh a. guarded limit g (a.call c args env)) u (Enter (Body args) c env) v
comes_call k r c args env limit g spends u v p =
    let low : suc (room_of v.world) ≤ room_of u.world = room_spent limit g u v spends p in
    record { frames = []; pushed = p.stack ∙ sym (append-nil u.stack); new = tt; how = Call; placed = tt; setting = passed_setting limit g u v p; beside = passed_beside limit g u v p; same = λ a rs. passed limit g u v p (a.call c args env) rs; less = omega (arith, low); falls = inl (low, omega arith) }

-- The next turn of a walk, behind a turn; it is counted only as it begins.
pub comes_next : (k r i : ℕ) (kept : List Value) (env : Env) (u : Standing) → 2 ^ 71 ≤ r → Comes k r (λ sh a. a.again i kept env) u (Enter (Turn i kept) k env) u
comes_next k r i kept env u high = record { frames = []; pushed = sym (append-nil u.stack); new = tt; how = Again; placed = (refl, tt); setting = refl; beside = beside_here u; same = λ a rs. refl; less = omega arith; falls = inr ((let h : 2 ^ 71 ≤ r = high in omega (arith, h)), (let h : 2 ^ 71 ≤ r = high in omega (arith, h))) }

-- A body inside a frame of the node, behind whatever was counted.
pub comes_inside : (r c : ℕ) (f : Frame) (args : List Value) (env : Env) (m : Saying) (u v : Standing) → suc (room_of v.world) ≤ room_of u.world → v.stack ≡ u.stack ++ f ∷ [] → Beside u v → v.world.setting ≡ u.world.setting → rank f < 2 ^ 72 → ((a : Around) (rs : List Reply) → m (shape_at u.world f.node) a (state u.world rs) ≡ through f (after f (shape_at u.world f.node) a) (a.call c args env (state v.world rs))) → Comes f.node r m u (Enter (Body args) c env) v
comes_inside r c f args env m u v less stack beside setting low h = record {
  frames = f ∷ [];
  pushed = stack;
  new = (refl, tt);
  how = Call;
  placed = tt;
  setting = setting;
  beside = beside;
  same = h;
  less = omega (arith, less);
  falls = inl (less, (let l : rank f < 2 ^ 72 = low in omega (arith, l)));
}

-- the same inside a frame of the node, which is put on the stack behind the change
pub comes_body : (r c : ℕ) (f : Frame) (args : List Value) (env : Env) (limit : World → Option LimitKind) (g : World → World) → Spends limit g → (u u' v : Standing) → Passed limit g u u' → v.world ≡ u'.world → v.stack ≡ u'.stack ++ f ∷ [] → Beside u' v → rank f < 2 ^ 66 → Comes f.node r (λ sh a s. through f (after f sh a) (guarded limit g (a.call c args env) s)) u (Enter (Body args) c env) v
comes_body r c f args env limit g spends u u' v p world stack beside low =
    comes_inside r c f args env _ u v
    (subst (λ w. suc (room_of w) ≤ room_of u.world) (sym world) (room_spent limit g u u' spends p))
    (stack ∙ ap (λ s. s ++ f ∷ []) p.stack)
    (beside_on u u' v (passed_beside limit g u u' p) beside)
    (ap (λ w. w.setting) world ∙ passed_setting limit g u u' p)
    (let l : rank f < 2 ^ 66 = low in omega (arith, l))
    (λ a rs. ap (through f (after f (shape_at u.world f.node) a)) (passed limit g u u' p (a.call c args env) rs ∙ ap (λ w. a.call c args env (state w rs)) (sym world)))

pub to_body_refused : (r c : ℕ) (f : Frame) (args : List Value) (env : Env) (limit : World → Option LimitKind) (g : World → World) (h : Halt) (u v : Standing) → Passes limit g u (Err h) v → 0 < r → ComesTo f.node r (λ sh a s. through f (after f sh a) (guarded limit g (a.call c args env) s)) u (Err h) v
unfolding through
to_body_refused r c f args env limit g Memory u v p pos = tt
to_body_refused r c f args env limit g (HaltEnds e) u v p pos = absurd p
to_body_refused r c f args env limit g (HaltLimit l) u v p pos =
    comes_hits f.node r _ u v l p.stack (met_beside limit l u v p) (ap (λ w. w.setting) p.world) (room_same u v p.world) pos (λ a rs. ap (through f (after f (shape_at u.world f.node) a)) (met limit g l u v p (a.call c args env) rs))

-- A wait inside a frame of the node, behind whatever was counted for the branches that begin.
pub comes_waits : (k r : ℕ) (f : Frame) (asked : Asked) (m : Saying) (u v : Standing) → v.stack ≡ u.stack ++ f ∷ [] → Beside u v → v.world.setting ≡ u.world.setting → room_of v.world + forked_by asked ≤ room_of u.world → f.node ≡ k → rank f < r → ((a : Around) (rs : List Reply) → m (shape_at u.world k) a (state u.world rs) ≡ through f (after f (shape_at u.world k) a) (awaiting asked (state v.world rs))) → Comes k r m u (Asks asked) v
comes_waits k r f asked m u v stack beside setting less at low h = record {
  frames = f ∷ [];
  pushed = stack;
  new = (at, tt);
  how = Call;
  placed = tt;
  setting = setting;
  beside = beside;
  same = h;
  less = less;
  falls = inr (tt, (let l : rank f < r = low in omega (arith, l)));
}

-- one way or the other, by what the world is
pub to_then : (k r : ℕ) (b : World → Bool) (x y : Saying) (u : Standing) (result : Outcome Move Halt) (v : Standing) → b u.world ≡ true → ComesTo k r x u result v → ComesTo k r (λ sh a. seeing (λ w. choose (b w) (x sh a) (y sh a))) u result v
to_then k r b x y u result v h = to_as k r _ x u result v (λ a rs. ap (λ t. choose t (x (shape_at u.world k) a) (y (shape_at u.world k) a) (state u.world rs)) h)

pub to_else : (k r : ℕ) (b : World → Bool) (x y : Saying) (u : Standing) (result : Outcome Move Halt) (v : Standing) → b u.world ≡ false → ComesTo k r y u result v → ComesTo k r (λ sh a. seeing (λ w. choose (b w) (x sh a) (y sh a))) u result v
to_else k r b x y u result v h = to_as k r _ y u result v (λ a rs. ap (λ t. choose t (x (shape_at u.world k) a) (y (shape_at u.world k) a) (state u.world rs)) h)

-- a frame of a known kind
pub to_kind : (r : ℕ) (f : Frame) (d : FrameKind) (e : Ending) (u : Standing) (result : Outcome Move Halt) (v : Standing) → f.kind ≡ d → ComesTo f.node r (λ sh a. after_kind a f.node sh f.left f.env f.values d e) u result v → ComesTo f.node r (λ sh a. after f sh a e) u result v
to_kind r f d e u result v is = to_as f.node r (λ sh a. after f sh a e) (λ sh a. after_kind a f.node sh f.left f.env f.values d e) u result v (λ a rs. ap (λ x. after_kind a f.node (shape_at u.world f.node) f.left f.env f.values x e (state u.world rs)) is)

-- behind a value, or ended with what was no value
pub to_value : (k r : ℕ) (go : Value → Saying) (e : Ending) (x : Value) (u : Standing) (result : Outcome Move Halt) (v : Standing) → value_of e ≡ Ok x → ComesTo k r (go x) u result v → ComesTo k r (λ sh a. on_value (λ y. go y sh a) e) u result v
to_value k r go e x u result v h = to_as k r _ (go x) u result v (λ a rs. value_ok (λ y. go y (shape_at u.world k) a) e x (state u.world rs) h)

pub comes_no_value : (k r : ℕ) (go : Value → Saying) (e x : Ending) (u : Standing) → value_of e ≡ Err x → 0 < r → Comes k r (λ sh a. on_value (λ y. go y sh a) e) u (Ends x) u
comes_no_value k r go e x u h pos = comes_ended k r _ u x pos (λ a rs. value_err (λ y. go y (shape_at u.world k) a) e x (state u.world rs) h)

-- what an operation on the heap answers, as the definitions have it
pub done_answers : (f : World → Answer) (old new : Region) (u : Standing) (result : Outcome Value OpRefusal) (v : Standing) → u.world.shared.cells ≡ old.cells → v.world ≡ put_cells new.cells u.world → v.stack ≡ u.stack → Beside u v → Answers (f u.world) old new result → Done f u result v
done_answers f old new u (Ok x) v was now stack beside h =
    let at : v.world.shared.cells ≡ new.cells = ap (λ w. w.shared.cells) now in
    record { answers = h ∙ ap (λ cs. Gives cs x) (sym at); world = now ∙ ap (λ cs. put_cells cs u.world) (sym at); stack = stack; beside = beside }
done_answers f old new u (Err (op.Thrown c)) v was now stack beside h =
    let at : v.world.shared.cells ≡ new.cells = ap (λ w. w.shared.cells) now in
    record { answers = h ∙ ap (λ cs. Throws cs c) (sym at); world = now ∙ ap (λ cs. put_cells cs u.world) (sym at); stack = stack; beside = beside }
done_answers f old new u (Err (op.Limit k)) v was now stack beside h = record { answers = h.0; world = now ∙ ap (λ cs. put_cells cs u.world) (h.1 ∙ sym was); stack = stack; beside = beside }
done_answers f old new u (Err op.Memory) v was now stack beside h = tt
