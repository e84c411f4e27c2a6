-- The build that an image tells of, and when it stands: what the check of an image decides (this product's own).
use Rattle.std.specs.Prelude.{map, None}
use Rattle.std.specs.List.{AllByRecursion as AllAre}
use Rattle.model_run.specs.State.{Common, Setting}
use Rattle.model_run.specs.Fitting.{Seat, FitsAtRest}
use Rattle.model_run.specs.Terms.{Term}
use Rattle.image_form.specs.declared.image.Image.{Image}
use Rattle.image_form.specs.declared.image.ImageThread.{ImageThread}
use Rattle.image_frames.specs.Standings.{IsTold, frame_in}

-- what all threads share; nothing has been counted yet
abbrev pub shared_in : Image → Common
shared_in i = record {
  cells = i.cells;
  binding = i.bindings;
  nodes = i.nodes;
  log = i.log;
  result = i.result;
  requests = i.requests;
  held = i.held;
  next_request = i.next_request;
  count = 0;
}

-- a thread; each has begun
abbrev pub seat_in : Term → ImageThread → Seat
seat_in root t = record {
  number = t.number;
  parent = t.parent;
  head = t.head;
  wait = t.wait;
  context = t.context;
  stack = map (frame_in root) t.frames;
  start = None;
}

-- The image is that of a sound build between two events: its frames are told by their kinds and places, and the build fits.
pub record Stands (setting : Setting) (i : Image) : Type 0 where
  pub told : AllAre (λ t. AllAre (IsTold setting.script) t.frames) i.threads
  pub fits : FitsAtRest setting i.ended (shared_in i) i.next_thread (map (seat_in setting.script) i.threads)
