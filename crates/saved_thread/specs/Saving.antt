-- What an image has of a thread, and the thread that an image tells of (this product's own).
use Rattle.std.specs.Prelude.{◌≡◌, ◌<◌, ℕ, List, drop, length, map, None}
use Rattle.std.specs.List.{AllByRecursion as AllAre}
use Rattle.model_run.specs.declared.frame.Frame.{Frame}
use Rattle.model_run.specs.declared.wait.Wait.{Wait}
use Rattle.model_run.specs.Fitting.{Seat}
use Rattle.model_run.specs.Nesting.{row_at}
use Rattle.model_run.specs.Opened.{calls_of}
use Rattle.model_run.specs.Terms.{Term, nodes_of}
use Rattle.green_threads.specs.declared.runner.Seated.{Seated}
use Rattle.settle_laws.specs.Stances.{Stance}
use Rattle.image_form.specs.declared.image.ImageFrame.{ImageFrame}
use Rattle.image_form.specs.declared.image.ImageThread.{ImageThread}
use Rattle.frame_rows.specs.Kinds.{kind_number}
use Rattle.image_frames.specs.Standings.{frame_in}
use Rattle.thread_fits.specs.Seats.{HasBegun}

-- a frame as an image has it: its kind by number, and the parts that are done in place of those that still come
abbrev pub frame_told : Term → Frame → ImageFrame
frame_told root f = record { kind = kind_number f.kind; node = f.node; at = (row_at root f).done; env = f.env; values = f.values }

-- a thread as an image has it
abbrev pub thread_told : Term → Seat → ImageThread
thread_told root t = record { number = t.number; parent = t.parent; head = t.head; wait = t.wait; context = t.context; frames = map (frame_told root) t.stack }

-- the same with the frames from this one on alone
abbrev pub told_from : ℕ → ImageThread → ImageThread
told_from first t = record t { frames = drop first t.frames }

-- and the thread that an image tells of; each has begun
abbrev pub seat_in : Term → ImageThread → Seat
seat_in root t = record {
  number = t.number;
  parent = t.parent;
  head = t.head;
  wait = t.wait;
  context = t.context;
  stack = map (frame_in root) t.frames;
  start = None;
}

-- each frame stands at a node of the script
abbrev pub AtNodes : Term → List Frame → Type 0
AtNodes root fs = AllAre (λ f. f.node < length (nodes_of root)) fs

-- A thread that may stand in an image: where it waits it has begun, and its frames stand at nodes of the script.
pub record Storable (root : Term) (wait : Wait) (x : Stance) : Type 0 where
  pub begun : HasBegun wait x.runs
  pub nodes : AtNodes root x.frames

-- A thread that has begun, in its seat: under its own number and parent, and with the calls open that its frames show.
pub record Begun {T : Type 0} (stance : T → Stance) (x : Seated T) : Type 0 where
  pub runs : (stance x.thread).runs ≡ None
  pub number : (stance x.thread).own.number ≡ x.number
  pub parent : (stance x.thread).parent ≡ x.parent
  pub calls : (stance x.thread).own.calls ≡ calls_of (stance x.thread).frames
