-- The image of a build (this product's own).
use Rattle.std.specs.Prelude.{◌≡◌, ℕ, Bool, true, false, not, ◌&&◌, List, [], ◌∷◌, map}
use Rattle.std.specs.List.{AllByRecursion as AllAre}
use Rattle.model_run.specs.Fitting.{NotReady, Rise, Seat, SharedFits, seats_of}
use Rattle.model_run.specs.State.{Common, Setting}
use Rattle.model_run.specs.Terms.{Term}
use Rattle.model_run.specs.World as W
use Rattle.settle_laws.specs.Stances.{Stance}
use Rattle.cps_code.specs.Script.{script_of}
use Rattle.saved_thread.specs.Lower.cps_frames.Standing.{common_of}
use Rattle.image_form.specs.declared.image.Image.{Image}
use Rattle.image_check.specs.Standings.{Stands, shared_in}
use Rattle.saved_thread.specs.Lower.thread_fits.Seats.{as_seat}
use Rattle.saved_thread.specs.Saving.{thread_told}
use Rattle.build_core.specs.Builds.{Parts, StandsFor, setting_in}
use Rattle.build_core.specs.Phases.{has_ended}
use Rattle.build_core.specs.declared.phase.Phase.{Phase}
use Rattle.build_core.specs.declared.phase.Phase.TheVariants.{Running, Ended}

-- of a shared state and threads as they stand
abbrev pub image_told : Term → Common → ℕ → Bool → List Seat → Image
image_told root u next ended seats = record {
  next_request = u.next_request;
  next_thread = next;
  result = u.result;
  ended = ended;
  bindings = u.binding;
  cells = u.cells;
  nodes = u.nodes;
  log = u.log;
  requests = u.requests;
  held = u.held;
  threads = map (thread_told root) seats;
}

-- of a build of the definitions: the frames of a thread are the path of its wait
abbrev pub world_image : Setting → W.Build → Image
world_image setting w = image_told setting.script w.shared w.next_thread w.ended (seats_of setting w.threads)

-- of a build's own parts
abbrev pub image_in : {T : Type 0} → (T → Stance) → Parts T → Image
image_in stance b = image_told (script_of b.shared.code) (common_of b.shared) b.group.next (has_ended b.phase) (map (as_seat stance) b.group.seats)

-- an image has one of two phases
abbrev pub phase_of : Bool → Phase
phase_of true = Ended
phase_of false = Running

abbrev pub is_none : {A : Type 0} → List A → Bool
is_none [] = true
is_none (x ∷ xs) = false

-- its build has ended, and yet has threads, open requests or held executors, as no build has
abbrev pub has_remains : Image → Bool
has_remains i = i.ended && not (is_none i.threads && (is_none i.requests && is_none i.held))

-- An image from which a build goes on: it passes the check of images, and where its build has ended it has nothing left.
pub record IsWhole (setting : Setting) (i : Image) : Type 0 where
  pub stands : Stands setting i
  pub clear : has_remains i ≡ false

-- What the image of each build keeps, whatever builds of the definitions it stands for: what threads share is sound, the numbers of threads
-- rise, and none is about to go on.
pub record IsOrdered (setting : Setting) (i : Image) : Type 0 where
  pub shared : SharedFits setting i.ended (shared_in i)
  pub numbers : Rise 0 i.next_thread (map (λ t. t.number) i.threads)
  pub rests : AllAre (λ t. NotReady t.wait) i.threads

-- The build has an image: it is ordered and whole, and it is that of each build of the definitions that the build stands for.
pub record HasImage {T : Type 0} (stance : T → Stance) (b : Parts T) : Type 0 where
  pub world : (w : W.Build) → StandsFor stance b w → image_in stance b ≡ world_image (setting_in b) w
  pub ordered : IsOrdered (setting_in b) (image_in stance b)
  pub whole : IsWhole (setting_in b) (image_in stance b)
