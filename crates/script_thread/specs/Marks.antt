-- What the threads of a build leave as it was, as the marks of its cells and of its threads tell (this product's own).
use Rattle.std.specs.Prelude.{◌≡◌, ◌≤◌, ℕ, Bool, false, List, length, replicate, take}
use Rattle.std.specs.List.{AllByRecursion as AllAre}
use Rattle.cell_heap.specs.Follows.{Follows}
use Rattle.model_run.specs.Among.{AreAmong}
use Rattle.model_run.specs.FlowNodes.{IsFront}
use Rattle.model_run.specs.Requests.{RequestsGoOn}
use Rattle.model_run.specs.declared.frame.Frame.{Frame}
use Rattle.green_threads.specs.declared.runner.Seated.{Seated}
use Rattle.settle_laws.specs.Stances.{Stance}
use Rattle.cps_frames.specs.declared.shared.Shared.{Shared}
use Rattle.cps_frames.specs.Standing.{common_of}

-- What threads share has come from u to v: cells, flow nodes, bytes of the log and binding variables are added alone, a cell that is
-- unmarked in v was unmarked in u and is the same, and a request that is open in v was open in u or has a new number.
pub record GoesOnFrom (u v : Shared) : Type 0 where
  pub cells : Follows u.heap v.heap
  pub nodes : IsFront u.graph v.graph
  pub log : IsFront u.log v.log
  pub binding : AreAmong u.binding.items v.binding.items
  pub requests : RequestsGoOn (common_of u) (common_of v)

-- the same of what threads share, with no cell marked
abbrev pub marked : Shared → Shared
marked u = record u { heap = record u.heap { changed = replicate (length u.heap.cells) false } }

-- Frames have come from xs to ys, of which the first n counted as untouched before and the first m do now: no more do, and these are the same.
pub record StaysBelow (n : ℕ) (xs : List Frame) (m : ℕ) (ys : List Frame) : Type 0 where
  pub fewer : m ≤ n
  pub same : take m ys ≡ take m xs

-- From a thread of before to the one of now: the frames are the same that count as untouched now, and where it took no turn since it was
-- marked all that the definitions see of it is.
pub record SameFront {T : Type 0} (low : T → ℕ) (touched : T → Bool) (stance : T → Stance) (t t' : T) : Type 0 where
  pub front : take (low t') (stance t').frames ≡ take (low t') (stance t).frames
  pub same : touched t' ≡ false → stance t' ≡ stance t

-- the same of each thread of now that stood before
abbrev pub ThreadsStay : {T : Type 0} → (T → ℕ) → (T → Bool) → (T → Stance) → List (Seated T) → List (Seated T) → Type 0
ThreadsStay {T} low touched stance xs ys =
    AllAre (λ (y : Seated T). AllAre (λ (x : Seated T). x.number ≡ y.number → SameFront low touched stance x.thread y.thread) xs) ys
