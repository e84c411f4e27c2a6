-- What the definitions see of a thread and its build.
use Rattle.std.specs.Prelude.{◌≡◌, ℕ, List, Option}
use Rattle.cell_heap.specs.Follows.{Follows}
use Rattle.cell_heap.specs.Region.{Region}
use Rattle.model_run.specs.declared.frame.Frame.{Frame}
use Rattle.model_run.specs.Around.{Shape}
use Rattle.model_run.specs.Nesting.{shape_at as shape_in}
use Rattle.model_run.specs.State.{Setting, Common, Own, World, Reply, State, room}
use Rattle.model_run.specs.World.{run_limits}
use Rattle.cps_code.specs.Script.{script_of}
use Rattle.cps_frames.specs.declared.shared.Shared.{Shared}
use Rattle.cps_frames.specs.declared.thread.ThreadState.{ThreadState}

abbrev pub setting_of : Shared → Setting
setting_of u = record { script = script_of u.code; site = u.site; limits = run_limits }

abbrev pub common_of : Shared → Common
common_of u = record {
  cells = u.heap.cells;
  binding = u.binding.items;
  nodes = u.graph;
  log = u.log;
  result = u.result;
  requests = u.requests;
  held = u.held;
  next_request = u.next_request;
  count = u.count;
}

abbrev pub own_of : ThreadState → Own
own_of t = record { number = t.number; head = t.head; context = t.context; calls = t.calls }

abbrev pub world_of : Shared → ThreadState → World
world_of u t = record { setting = setting_of u; shared = common_of u; own = own_of t }

-- A world, with the frames of its thread, outermost first; and what no definition sees: the thread that waits for this one, and the
-- heap of the cells with its marks.
pub record Standing : Type 0 where
  pub world : World
  pub stack : List Frame
  pub parent : Option ℕ
  pub heap : Region

-- What no definition sees a move leaves so: the thread that waits for this one stays, and of the cells each that is written or new is
-- marked.
pub record Beside (u v : Standing) : Type 0 where
  pub parent : v.parent ≡ u.parent
  pub heap : Follows u.heap v.heap

abbrev pub standing : Shared → ThreadState → Standing
standing u t = record { world = world_of u t; stack = t.stack.items; parent = t.parent; heap = u.heap }

-- a world with the answers that are still to come
abbrev pub state : World → List Reply → State
state w rs = record { world = w; replies = rs }

-- node k of its script, with the forms of its parts
abbrev pub shape_at : World → ℕ → Shape
shape_at w k = shape_in w.setting.script k

-- what may still be counted: nodes to be evaluated, and flow nodes to be made
abbrev pub room_of : World → ℕ
room_of w = room w.setting w.shared
