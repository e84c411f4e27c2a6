-- A node that counts and ends with what an operation on the heap gives.
use Rattle.std.proofs.Common.{◌≡◌, ◌∙◌, ◌<◌, ℕ, List, length, refl, ap, sym, subst, arith}
use Rattle.std.specs.Prelude.{All, IfOk, Result as Outcome, Ok, Err}
use Rattle.cell_heap.specs.Follows.{Follows}
use Rattle.cell_heap.specs.Region.{Region}
use Rattle.cell_heap.specs.Soundness.{ValueBelow}
use Rattle.model_values.specs.Cells.{Answer}
use Rattle.model_values.specs.Limits.{Limits}
use Rattle.model_values.specs.TextOf.{Writing, written}
use Rattle.model_values.specs.declared.cell.Cell.{Cell}
use Rattle.model_values.specs.declared.value.Value.{Value}
use Rattle.model_run.specs.declared.ending.Ending.TheVariants.{Normal}
use Rattle.model_run.specs.Around.{ended}
use Rattle.model_run.specs.State.{World, answered, counted, may_count, operating, tick}
use Rattle.value_view.specs.Answers.{Answers, IsWritten}
use Rattle.value_ops.specs.declared.effect.Effect.{Effect}
use Rattle.value_view.specs.declared.refusal.OpRefusal.{OpRefusal}
use Rattle.value_view.specs.declared.refusal.OpRefusal.TheVariants as op
use Rattle.cps_frames.specs.Changes.{Passed}
use Rattle.cps_frames.specs.Halts.{halt_of}
use Rattle.cps_frames.specs.Moves.{ComesTo}
use Rattle.cps_frames.specs.Standing.{Standing, standing, state, world_of}
use Rattle.cps_frames.specs.declared.shared.Shared.{Shared}
use Rattle.cps_frames.specs.declared.thread.Move.TheVariants.{Ends}
use Rattle.cps_frames.specs.declared.thread.ThreadState.{ThreadState}
use Rattle.cps_frames.proofs.MoveLaws.{beside_here, done_answers}
use Rattle.cps_operators.specs.Yields.{Yields}
use Rattle.cps_operators.proofs.YieldLaws.{counted_ends, counted_stops, halted, yields_operating}

pub heap_yields : (f : World → Answer) (s : Shared) (t : ThreadState) (h : Region) (result : Outcome Value OpRefusal) → Follows s.heap h → Answers (f (world_of s t)) s.heap h result → Yields (operating f) (standing s t) (halted result) (standing (record s { heap = h }) t)
heap_yields f s t h result follows a = yields_operating f (standing s t) result (standing (record s { heap = h }) t) (done_answers f s.heap h (standing s t) result (standing (record s { heap = h }) t) refl refl refl (record { parent = refl; heap = follows }) a)

pub heap_ends : (k r : ℕ) (f : World → Answer) (u : Standing) (s : Shared) (t : ThreadState) (h : Region) (x : Value) → Passed may_count counted u (standing s t) → Follows s.heap h → Answers (f (world_of s t)) s.heap h (Ok x) → 0 < r → ComesTo k r (λ sh a. tick (operating f ended)) u (Ok (Ends (Normal x))) (standing (record s { heap = h }) t)
heap_ends k r f u s t h x p follows a pos = counted_ends k r (operating f) x u (standing s t) (standing (record s { heap = h }) t) p (heap_yields f s t h (Ok x) follows a) pos

pub heap_stops : (k r : ℕ) (f : World → Answer) (u : Standing) (s : Shared) (t : ThreadState) (h : Region) (o : OpRefusal) → Passed may_count counted u (standing s t) → Follows s.heap h → Answers (f (world_of s t)) s.heap h (Err o) → 0 < r → ComesTo k r (λ sh a. tick (operating f ended)) u (Err (halt_of o)) (standing (record s { heap = h }) t)
heap_stops k r f u s t h o p follows a pos = counted_stops k r (operating f) (halt_of o) u (standing s t) (standing (record s { heap = h }) t) p (heap_yields f s t h (Err o) follows a) pos

-- behind a count the cells are as they were
pub all_passed : (u w : Standing) (vs : List Value) → Passed may_count counted u w → All (ValueBelow (length u.world.shared.cells)) vs → All (ValueBelow (length w.world.shared.cells)) vs
all_passed u w vs p h = subst (λ x. All (ValueBelow (length x.shared.cells)) vs) (sym p.made) h

-- a text that could not be written
pub text_stops : (f : World → Answer) (l : Limits) (h : List Cell) (w : Writing) (u : Standing) (o : OpRefusal) → f u.world ≡ written l h w → IsWritten w (Err o) → Yields (operating f) u (Err (halt_of o)) u
text_stops f l h w u op.Memory is e = tt
text_stops f l h w u (op.Thrown c) is e = absurd e
text_stops f l h w u (op.Limit k) is e = record {
  same = λ go rs. ap (λ b. answered b go (state u.world rs)) (is ∙ ap (written l h) e);
  stack = refl;
  beside = beside_here u;
  setting = refl;
  less = omega arith;
}

-- what holds of each effect
pub each_effect : {E : Type 0} (P Q : Effect → Type 0) → ((x : Effect) → P x → Q x) → (r : Outcome Effect E) → IfOk r P → IfOk r Q
each_effect P Q f (Ok x) h = f x h
each_effect P Q f (Err e) h = h
