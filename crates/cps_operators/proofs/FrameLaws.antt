-- What is known of a frame that goes on with a value.
use Rattle.std.proofs.Common.{◌≡◌, ◌<◌, ℕ, zero, suc, true, List, [], ◌∷◌, length, sym, ap, subst, arith}
use Rattle.std.specs.List.{AllByRecursion as AllAre}
use Rattle.cell_heap.specs.Soundness.{ValueBelow}
use Rattle.model_values.specs.Fitting.{There}
use Rattle.model_values.specs.declared.cell.Cell.{Cell}
use Rattle.model_values.specs.declared.value.Value.{Value}
use Rattle.model_values.specs.declared.value.Value.TheVariants.{Null, Bool as Truth, Int as Whole, Cell as InCell}
use Rattle.model_run.specs.declared.ending.Ending.{Ending}
use Rattle.model_run.specs.declared.ending.Ending.TheVariants.{Normal}
use Rattle.model_run.specs.declared.frame.Frame.{Frame}
use Rattle.model_run.specs.declared.frame.FrameKind.{FrameKind}
use Rattle.model_run.specs.Around.{value_at}
use Rattle.model_run.specs.Fitting.{known}
use Rattle.model_run.specs.FrameTable.{Any, No_more, any_values, frame_row}
use Rattle.model_run.specs.Nesting.{Spot, Begun, Any_body, Body_of, Any_branch, For_executor, For_task, For_person, For_branches, ValuesFit, shape_at, spot_in}
use Rattle.model_run.specs.State.{Common, counted, may_count}
use Rattle.model_run.specs.Terms.{Term}
use Rattle.cps_frames.specs.Changes.{Passed}
use Rattle.cps_frames.specs.Places.{EndsAt, MayGoOn}
use Rattle.cps_frames.specs.Standing.{Standing}

pub below_there : (h : List Cell) (v : Value) → There h v → ValueBelow (length h) v
below_there h Null t = tt
below_there h (Truth b) t = tt
below_there h (Whole z) t = tt
below_there h (InCell c) t = t

ends_there : (root : Term) (u : Common) (at : Spot) (v : Value) → EndsAt root u at (Normal v) → There u.cells v
ends_there root u (Begun k) v h = h.0
ends_there root u Any_body v h = h.0
ends_there root u (Body_of k) v h = h.0
ends_there root u Any_branch v h = h.0
ends_there root u For_executor v h = absurd h
ends_there root u For_task v h = absurd h
ends_there root u For_person v h = absurd h
ends_there root u For_branches v h = absurd h

-- the value with which a frame goes on is there
pub value_there : (u : Standing) (f : Frame) (v : Value) → MayGoOn u f (Normal v) → There u.world.shared.cells v
value_there u f v may = ends_there u.world.setting.script u.world.shared (spot_in u.world.setting.script f) v may.ending

pub value_below : (u : Standing) (f : Frame) (v : Value) → MayGoOn u f (Normal v) → ValueBelow (length u.world.shared.cells) v
value_below u f v may = below_there u.world.shared.cells v (value_there u f v may)

-- the frame meets the row of its kind
pub row_stands : (u : Standing) (f : Frame) (e : Ending) (d : FrameKind) → MayGoOn u f e → f.kind ≡ d → (frame_row d (shape_at u.world.setting.script f.node) f.left f.env).stands ≡ true
row_stands u f e d may is = subst (λ x. (frame_row x (shape_at u.world.setting.script f.node) f.left f.env).stands ≡ true) is (((may.frame).fits).meets).stands

pub row_left : (u : Standing) (f : Frame) (e : Ending) (d : FrameKind) → MayGoOn u f e → f.kind ≡ d → f.left < (frame_row d (shape_at u.world.setting.script f.node) f.left f.env).limit
row_left u f e d may is = subst (λ x. f.left < (frame_row x (shape_at u.world.setting.script f.node) f.left f.env).limit) is (((may.frame).fits).meets).left

pub row_values : (u : Standing) (f : Frame) (e : Ending) (d : FrameKind) → MayGoOn u f e → f.kind ≡ d
    → ValuesFit (known u.world.shared) (frame_row d (shape_at u.world.setting.script f.node) f.left f.env).further (frame_row d (shape_at u.world.setting.script f.node) f.left f.env).values f.values
row_values u f e d may is = subst (λ x. ValuesFit (known u.world.shared) (frame_row x (shape_at u.world.setting.script f.node) f.left f.env).further (frame_row x (shape_at u.world.setting.script f.node) f.left f.env).values f.values) is (((may.frame).fits).meets).values

-- the values that it keeps are there
pub any_there : (u : Common) (n : ℕ) (vs : List Value) → ValuesFit (known u) No_more (any_values n) vs → AllAre (There u.cells) vs
any_there u zero [] h = tt
any_there u zero (v ∷ vs) h = absurd h
any_there u (suc n) [] h = absurd h
any_there u (suc n) (v ∷ vs) h = (h.0, any_there u n vs h.1)

-- the first of the values that it keeps
pub first_there : (u : Common) (vs : List Value) → ValuesFit (known u) No_more (Any ∷ []) vs → There u.cells (value_at 0 vs)
first_there u [] h = absurd h
first_there u (v ∷ vs) h = h.0

pub first_within : (u : Common) (vs : List Value) → ValuesFit (known u) No_more (Any ∷ []) vs → 0 < length vs
first_within u [] h = absurd h
first_within u (v ∷ vs) h = omega arith

-- what is kept, and the script, behind something that was counted
pub below_passed : (u w : Standing) (v : Value) → Passed may_count counted u w → ValueBelow (length u.world.shared.cells) v → ValueBelow (length w.world.shared.cells) v
below_passed u w v p h = subst (λ x. ValueBelow (length x.shared.cells) v) (sym p.made) h

pub script_passed : (u w : Standing) → Passed may_count counted u w → w.world.setting.script ≡ u.world.setting.script
script_passed u w p = ap (λ x. x.setting.script) p.made
