-- Values that are there, many at once.
use Rattle.std.proofs.Common.{◌≡◌, ℕ, zero, suc, List, [], ◌∷◌, ◌++◌, length, take, drop, sym, subst}
use Rattle.std.specs.Prelude.{zip}
use Rattle.std.specs.List.{AllByRecursion as AllAre}
use Rattle.indexmap.specs.IndexMap.{insert_all}
use Rattle.cell_heap.specs.Soundness.{ValueBelow}
use Rattle.model_values.specs.Fitting.{There}
use Rattle.model_values.specs.Keys.{same_key}
use Rattle.model_values.specs.declared.cell.Cell.{Cell}
use Rattle.model_values.specs.declared.key.Key.{Key}
use Rattle.model_values.specs.declared.value.Value.{Value}
use Rattle.model_values.proofs.CellGrowth.{all_append}
use Rattle.model_values.proofs.OperatorGrowth.{all_inserts}
use Rattle.model_run.specs.declared.ending.Ending.TheVariants.{Normal}
use Rattle.model_run.specs.declared.frame.Frame.{Frame}
use Rattle.model_run.specs.declared.frame.FrameKind.TheVariants as kind
use Rattle.cps_frames.specs.Places.{MayGoOn}
use Rattle.cps_frames.specs.Standing.{Standing}
use Rattle.cps_operators.proofs.FrameLaws.{any_there, below_there, row_values, value_there}

pub all_below : (h : List Cell) (vs : List Value) → AllAre (There h) vs → AllAre (ValueBelow (length h)) vs
all_below h [] a = tt
all_below h (v ∷ vs) a = (below_there h v a.0, all_below h vs a.1)

pub more_there : (h : List Cell) (vs : List Value) (v : Value) → AllAre (There h) vs → There h v → AllAre (There h) (vs ++ v ∷ [])
more_there h vs v a t = all_append (There h) vs (v ∷ []) a (t, tt)

pub all_take : (P : Value → Type 0) (n : ℕ) (vs : List Value) → AllAre P vs → AllAre P (take n vs)
all_take P zero vs h = tt
all_take P (suc n) [] h = tt
all_take P (suc n) (v ∷ vs) h = (h.0, all_take P n vs h.1)

pub all_drop : (P : Value → Type 0) (n : ℕ) (vs : List Value) → AllAre P vs → AllAre P (drop n vs)
all_drop P zero vs h = h
all_drop P (suc n) [] h = tt
all_drop P (suc n) (v ∷ vs) h = all_drop P n vs h.1

all_zip : (P : Value → Type 0) (ks : List Key) (vs : List Value) → AllAre P vs → AllAre (λ e. P e.1) (zip ks vs)
all_zip P [] vs h = tt
all_zip P (k ∷ ks) [] h = tt
all_zip P (k ∷ ks) (v ∷ vs) h = (h.0, all_zip P ks vs h.1)

-- a map of some names and values
pub named_there : (P : Value → Type 0) (ks : List Key) (vs : List Value) → AllAre P vs → AllAre (λ e. P e.1) (insert_all same_key [] (zip ks vs))
named_there P ks vs h = all_inserts P [] (zip ks vs) tt (all_zip P ks vs h)

-- what a frame has gathered, with a value more
pub kept_there : (u : Standing) (f : Frame) (v : Value) (ks : List Value) → MayGoOn u f (Normal v) → f.kind ≡ kind.Gathered → ks ≡ f.values ++ v ∷ [] → AllAre (There u.world.shared.cells) ks
kept_there u f v ks may is e = subst (AllAre (There u.world.shared.cells)) (sym e) (more_there u.world.shared.cells f.values v (any_there u.world.shared _ f.values (row_values u f (Normal v) kind.Gathered may is)) (value_there u f v may))
