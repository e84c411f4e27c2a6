-- In every world each waiting thread's frames meet the table and stand one inside the other, up to its wait.
use Rattle.std.proofs.Common.{◌≡◌, ◌∙◌, ap, sym, subst, refl, List, [], ◌∷◌}
use Rattle.model_syntax.specs.Nodes.{Node}
use Rattle.model_run.specs.RunTypes.{Event}
use Rattle.model_run.specs.Terms.{Term, term}
use Rattle.model_run.specs.State.{Setting, Reply, Frame, Asked}
use Rattle.model_run.specs.Threads.{Thread, stands_from}
use Rattle.std.specs.List.{AllByRecursion as AllAre}
use Rattle.model_run.specs.Nesting.{Spot, spot_in, FrameFits, anything, Nested, Chained, WaitsFor, innermost}
use Rattle.model_run.specs.Waiting.{Waiting, IsReady}
use Rattle.model_run.specs.World.{world_in}
use Rattle.model_run.proofs.PathLaws.{PathFrom, outer_spot, stands_paths}
use Rattle.model_run.proofs.WaitingLaws.{world_waits}

pub frames_fit : (root : Term) (at : Spot) (fs : List Frame) (asked : Asked) → Nested root at fs asked → AllAre (FrameFits anything root) fs
frames_fit root at [] asked h = tt
frames_fit root at (f ∷ fs) asked h = (h.1, frames_fit root (spot_in root f) fs asked h.2)

pub frames_chained : (root : Term) (at : Spot) (fs : List Frame) (asked : Asked) → Nested root at fs asked → Chained root at fs
frames_chained root at [] asked h = tt
frames_chained root at (f ∷ fs) asked h = (h.0, frames_chained root (spot_in root f) fs asked h.2)

pub waits_there : (root : Term) (at : Spot) (fs : List Frame) (asked : Asked) → Nested root at fs asked → WaitsFor (innermost root at fs) asked
waits_there root at [] asked h = h
waits_there root at (f ∷ fs) asked h = waits_there root (spot_in root f) fs asked h.2

module _ (setting : Setting) (p : Node) (e : setting.script ≡ term 0 p) where
  nested_from : (t : Thread) (hs : List Reply) → t.history ≡ hs → (w : Waiting setting t) → Nested setting.script (outer_spot t.runs) w.path w.asked
  nested_from t [] h w = absurd (w.begun h)
  nested_from t (first ∷ rs) h w = subst (PathFrom setting.script (outer_spot t.runs)) (sym (ap (stands_from setting t.runs t.own) h) ∙ w.stands_so) (stands_paths setting p e t.runs t.own first rs)

  pub waiting_nested : (t : Thread) (w : Waiting setting t) → Nested setting.script (outer_spot t.runs) w.path w.asked
  waiting_nested t w = nested_from t t.history refl w

  -- a thread that waits, with its path as the table has it
  pub record Placed (t : Thread) : Type 0 where
    pub waiting : Waiting setting t
    pub nested : Nested setting.script (outer_spot t.runs) waiting.path waiting.asked

  all_placed : (ts : List Thread) → AllAre (Waiting setting) ts → AllAre Placed ts
  all_placed [] h = tt
  all_placed (t ∷ ts) h = (record { waiting = h.0; nested = waiting_nested t h.0 }, all_placed ts h.1)

  pub world_placed : (events : List Event) → AllAre (λ t. IsReady t.wait → ⊥) (world_in setting events).threads → AllAre Placed (world_in setting events).threads
  world_placed events never = all_placed _ (world_waits setting events never)
