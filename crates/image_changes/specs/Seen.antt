-- What stands in a build now, and what of it stood so before (this product's own).
use Rattle.std.specs.Prelude.{◌≡◌, ◌≤◌, ◌++◌, ℕ, List, true, false, length, map, slice_get, slice_index_or}
use Rattle.std.specs.List.{AllByRecursion as AllAre}
use Rattle.cell_heap.specs.Region.{Region}
use Rattle.model_values.specs.declared.cell.Cell.{Cell}
use Rattle.image_form.specs.declared.image.Image.{Image}
use Rattle.image_form.specs.declared.image.ImageFrame.{ImageFrame}
use Rattle.image_form.specs.declared.image.ImageThread.{ImageThread}
use Rattle.model_run.specs.FlowNodes.{IsFront}
use Rattle.image_changes.specs.declared.now.Now.{Now}
use Rattle.image_changes.specs.declared.now.NowThread.{NowThread}
use Rattle.image_changes.specs.declared.now.NowThread.TheVariants.{Touched, Untouched}

-- the thread with the frames in front too
abbrev pub behind_frames : List ImageFrame → ImageThread → ImageThread
behind_frames front t = record t { frames = front ++ t.frames }

-- the thread with all its frames
abbrev pub thread_seen : NowThread → ImageThread
thread_seen (Untouched stood parent wait) = record stood.now { parent = parent; wait = wait.now }
thread_seen (Touched front thread) = behind_frames front.now thread

-- the image that holds these parts
abbrev pub image_seen : Now → Image
image_seen n = record {
  next_request = n.next_request;
  next_thread = n.next_thread;
  result = n.result;
  ended = n.ended;
  bindings = n.bindings.now;
  cells = n.cells.now.cells;
  nodes = n.nodes.now;
  log = n.log.now;
  requests = n.requests.now;
  held = n.held.now;
  threads = map thread_seen n.threads.now;
}

-- Each unmarked cell stood so before, and no cell has gone.
pub record KeepsUnmarked (before : List Cell) (now : Region) : Type 0 where
  pub grows : length before ≤ length now.cells
  pub same : (id : ℕ) → slice_index_or now.changed id true ≡ false → slice_get now.cells id ≡ slice_get before id

-- These frames are the first ones of the thread that stood, and a delta can count them.
pub record HasFront (stood : ImageThread) (frames : List ImageFrame) : Type 0 where
  pub few : length frames ≤ 4294967295
  pub front : IsFront frames stood.frames

-- A thread now that took no turn is the one that stood, but for its parent and what it waits for; any other has the
-- frames in front that it had.
abbrev pub KeepsThread : ImageThread → NowThread → Type 0
KeepsThread x (Untouched stood parent wait) = x ≡ stood.now
KeepsThread x (Touched front thread) = HasFront x front.now

-- of each thread now that stood
abbrev pub KeepsThreads : List ImageThread → List NowThread → Type 0
KeepsThreads before now = AllAre (λ (y : NowThread). AllAre (λ (x : ImageThread). x.number ≡ (thread_seen y).number → KeepsThread x y) before) now
