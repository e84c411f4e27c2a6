-- Nodes of a known form: their parts, their counts, and what stood inside their frames.
use Rattle.std.proofs.Common.{◌≡◌, ◌∙◌, ◌<◌, ◌≤◌, ◌+◌, ◌*◌, ◌^◌, ◌&&◌, Bool, true, false, length, arith, ℕ, zero, suc, refl, sym, ap, subst}
use Rattle.std.specs.Prelude.{Result as Outcome, Ok, slice_get}
use Rattle.model_syntax.specs.declared.node.NodeForm.{NodeForm}
use Rattle.model_values.specs.Fitting.{HasThrowable, There}
use Rattle.model_values.specs.declared.value.Value.{Value}
use Rattle.model_run.specs.declared.ending.Ending.{Ending}
use Rattle.model_run.specs.declared.ending.Ending.TheVariants.{Normal, Thrown, Returned, Broke, Continued, Declared, Answered}
use Rattle.model_run.specs.declared.ending.Entry.TheVariants.{First}
use Rattle.model_run.specs.declared.frame.Frame.{Frame}
use Rattle.model_run.specs.declared.frame.FrameKind.{FrameKind}
use Rattle.model_run.specs.declared.frame.FrameKind.TheVariants as kind
use Rattle.model_run.specs.Around.{Around, Shape, arity, form_at}
use Rattle.model_run.specs.FrameTable.{Row, frame_row}
use Rattle.model_run.specs.Forms.{after, after_kind, enter, start}
use Rattle.model_run.specs.Meaning.{shape_of}
use Rattle.model_run.specs.Nesting.{Spot, Begun, Any_body, Body_of, Any_branch, For_executor, For_task, For_person, For_branches, row_at, shape_at, spot_in}
use Rattle.model_run.specs.State.{Common, State, Result, counted, may_count, on_value, tick, Env}
use Rattle.model_run.specs.Terms.{Term, Terms, Numbered, no_terms, and_then, form_of, forms_of, nth_part, part_of, parts_of, term_at}
use Rattle.model_run.proofs.Room.{spends_count}
use Rattle.cps_code.specs.Rows.{numbers_of, part_count}
use Rattle.cps_frames.specs.Changes.{Passed}
use Rattle.cps_frames.specs.Moves.{ComesTo}
use Rattle.cps_frames.specs.Order.{extra, rank, tier}
use Rattle.cps_frames.specs.Parts.{least_parts}
use Rattle.cps_frames.specs.Places.{EndsAt, MayGoOn}
use Rattle.cps_frames.specs.Standing.{Standing, state}
use Rattle.cps_frames.specs.Ways.{thrown_of, value_of}
use Rattle.cps_frames.specs.declared.halt.Halt.{Halt}
use Rattle.cps_frames.specs.declared.thread.Move.{Move}
use Rattle.cps_frames.proofs.MoveLaws.{to_as, to_counted, to_kind, to_value}
use Rattle.cps_frames.proofs.PartLaws.{parts_there}
use Rattle.cps_variables.specs.Nodes.{HasForm}

nth_form : (root : Term) (ps : Terms) (i : ℕ) → form_of (nth_part root ps i) ≡ form_at (forms_of ps) i
nth_form root no_terms i = refl
nth_form root (and_then t ts) zero = refl
nth_form root (and_then t ts) (suc i) = nth_form root ts i

-- the node of a part has the form that its node tells
form_in : (root t : Term) (i : ℕ) → form_of (part_of root t i) ≡ form_at (shape_of t).parts i
form_in root (Numbered k f ps) i = nth_form root ps i

pub form_of_part : (root : Term) (k i : ℕ) → form_of (part_of root (term_at root k) i) ≡ form_at (shape_at root k).parts i
form_of_part root k i = form_in root (term_at root k) i

-- a node has the parts that its form asks for
pub has_parts : (root : Term) (k : ℕ) (f : NodeForm) → HasForm root k f → least_parts f ≤ arity (shape_at root k)
has_parts root k f h = subst (λ g. least_parts g ≤ arity (shape_at root k)) h.form (parts_there root h.script k)

-- it is of its form still where something was counted
pub form_counted : (u v : Standing) (k : ℕ) (f : NodeForm) → Passed may_count counted u v → HasForm u.world.setting.script k f → HasForm v.world.setting.script k f
form_counted u v k f p h = subst (λ root. HasForm root k f) (sym (ap (λ w. w.setting.script) p.made)) h

-- what a node of a known form does from its beginning, behind its count
pub to_started : (k : ℕ) (env : Env) (f : NodeForm) (go : Shape → Around → State → Result) (r : ℕ) (u u' : Standing) (result : Outcome Move Halt) (v : Standing) → (shape_at u.world.setting.script k).form ≡ f → ((sh : Shape) (a : Around) → start a k sh env f ≡ tick (go sh a)) → Passed may_count counted u u' → r ≤ 2 ^ 66 → ComesTo k r go u' result v → ComesTo k (2 ^ 66) (λ sh a. enter First a k sh env) u result v
to_started k env f go r u u' result v is says passed small c =
    to_as k (2 ^ 66) (λ sh a. enter First a k sh env) (λ sh a. tick (go sh a)) u result v
    (λ a rs. ap (λ g. start a k (shape_at u.world.setting.script k) env g (record { world = u.world; replies = rs })) is ∙ ap (λ m. m (record { world = u.world; replies = rs })) (says (shape_at u.world.setting.script k) a))
    (to_counted k (2 ^ 66) r may_count counted spends_count go u u' result v passed small c)

-- the rank of a frame of a known kind
pub rank_is : (f : Frame) (d : FrameKind) → f.kind ≡ d → rank f ≡ tier d * 2 ^ 34 + (f.left + f.left) + extra d
rank_is f d is = ap (λ k. tier k * 2 ^ 34 + (f.left + f.left) + extra k) is

-- What has ended inside a frame is there.
is_normal : (e : Ending) (v : Value) → value_of e ≡ Ok v → e ≡ Normal v
is_normal (Normal x) v h = let same : x ≡ v = cc h in ap Normal same
is_normal (Thrown c) v h = absurd (cc h)
is_normal (Returned x) v h = absurd (cc h)
is_normal Broke v h = absurd (cc h)
is_normal Continued v h = absurd (cc h)
is_normal (Declared b) v h = absurd (cc h)
is_normal (Answered x) v h = absurd (cc h)

is_thrown : (e : Ending) (c : ℕ) → thrown_of e ≡ Ok c → e ≡ Thrown c
is_thrown (Normal x) c h = absurd (cc h)
is_thrown (Thrown d) c h = let same : d ≡ c = cc h in ap Thrown same
is_thrown (Returned x) c h = absurd (cc h)
is_thrown Broke c h = absurd (cc h)
is_thrown Continued c h = absurd (cc h)
is_thrown (Declared b) c h = absurd (cc h)
is_thrown (Answered x) c h = absurd (cc h)

normal_there : (root : Term) (u : Common) (at : Spot) (v : Value) → EndsAt root u at (Normal v) → There u.cells v
normal_there root u (Begun k) v h = h.0
normal_there root u Any_body v h = h.0
normal_there root u (Body_of k) v h = h.0
normal_there root u Any_branch v h = h.0
normal_there root u For_executor v h = absurd h
normal_there root u For_task v h = absurd h
normal_there root u For_person v h = absurd h
normal_there root u For_branches v h = absurd h

throwable_there : (root : Term) (u : Common) (at : Spot) (c : ℕ) → EndsAt root u at (Thrown c) → HasThrowable (slice_get u.cells c)
throwable_there root u (Begun k) c h = h
throwable_there root u Any_body c h = h
throwable_there root u (Body_of k) c h = h
throwable_there root u Any_branch c h = h
throwable_there root u For_executor c h = absurd h
throwable_there root u For_task c h = absurd h
throwable_there root u For_person c h = absurd h
throwable_there root u For_branches c h = absurd h

pub value_there : (u : Standing) (f : Frame) (e : Ending) (v : Value) → MayGoOn u f e → value_of e ≡ Ok v → There u.world.shared.cells v
value_there u f e v may h = normal_there _ u.world.shared (spot_in u.world.setting.script f) v (subst (EndsAt u.world.setting.script u.world.shared (spot_in u.world.setting.script f)) (is_normal e v h) may.ending)

pub thrown_there : (u : Standing) (f : Frame) (e : Ending) (c : ℕ) → MayGoOn u f e → thrown_of e ≡ Ok c → HasThrowable (slice_get u.world.shared.cells c)
thrown_there u f e c may h = throwable_there _ u.world.shared (spot_in u.world.setting.script f) c (subst (EndsAt u.world.setting.script u.world.shared (spot_in u.world.setting.script f)) (is_thrown e c h) may.ending)

-- how many parts there are
counted_all : (ps : Terms) → length (numbers_of ps) ≡ length (forms_of ps)
counted_all no_terms = refl
counted_all (and_then t ts) = ap suc (counted_all ts)

-- how many parts a node has is as many as it has forms
pub count_is : (root : Term) (k : ℕ) → part_count root k ≡ arity (shape_at root k)
count_is root k = counted_all (parts_of (term_at root k))

-- a part that the form asks for is there
pub part_within : (root : Term) (k : ℕ) (f : NodeForm) (i : ℕ) → HasForm root k f → i < least_parts f → i < arity (shape_at root k)
part_within root k f i h lt = let le : least_parts f ≤ arity (shape_at root k) = has_parts root k f h in omega (arith, lt, le)

-- a frame goes on by a value
pub value_frame : (r : ℕ) (f : Frame) (d : FrameKind) (go : Value → Shape → Around → State → Result) (e : Ending) (x : Value) (u : Standing) (result : Outcome Move Halt) (v : Standing) → f.kind ≡ d → ((sh : Shape) (a : Around) → after_kind a f.node sh f.left f.env f.values d e ≡ on_value (λ y. go y sh a) e) → value_of e ≡ Ok x → ComesTo f.node r (go x) u result v → ComesTo f.node r (λ sh a. after f sh a e) u result v
value_frame r f d go e x u result v is says h c =
    to_kind r f d e u result v is
    (to_as f.node r (λ sh a. after_kind a f.node sh f.left f.env f.values d e) (λ sh a. on_value (λ y. go y sh a) e) u result v (λ a rs. ap (λ m. m (state u.world rs)) (says (shape_at u.world.setting.script f.node) a)) (to_value f.node r go e x u result v h c))

-- every frame has a rank
extra_some : (d : FrameKind) → 0 < extra d
extra_some kind.GatheredKey = omega arith
extra_some d = omega arith

pub rank_some : (f : Frame) → 0 < rank f
rank_some f = let lt : 0 < extra f.kind = extra_some f.kind in omega (arith, lt)

-- what the row of a frame asks of its node
pub and_left : (a b : Bool) → (a && b) ≡ true → a ≡ true
and_left true b h = refl
and_left false b h = absurd (cc h)

-- the row of a frame of a known kind
pub row_is : (u : Standing) (f : Frame) (d : FrameKind) → f.kind ≡ d → row_at u.world.setting.script f ≡ frame_row d (shape_at u.world.setting.script f.node) f.left f.env
row_is u f d is = ap (λ k. frame_row k (shape_at u.world.setting.script f.node) f.left f.env) is

pub stands : (u : Standing) (f : Frame) (e : Ending) (d : FrameKind) → MayGoOn u f e → f.kind ≡ d → (frame_row d (shape_at u.world.setting.script f.node) f.left f.env).stands ≡ true
stands u f e d may is = ap (λ (r : Row). r.stands) (sym (row_is u f d is)) ∙ may.frame.fits.meets.stands
