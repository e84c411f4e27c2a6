-- A build within an event: its threads and what they share, the build of the definitions that it stands for, and what it keeps.
use Rattle.std.specs.Prelude.{◌≡◌, ◌≤◌, ℕ, ◌+◌, Bool, true, false, List, [], ◌∷◌, length, Option}
use Rattle.model_run.specs.Fitting.{SharedFits}
use Rattle.model_run.specs.State.{Common}
use Rattle.model_run.specs.Taking.{Standing}
use Rattle.model_run.specs.World as W
use Rattle.green_threads.specs.declared.runner.Seated.{Seated}
use Rattle.green_threads.specs.Threads.{Threads}
use Rattle.green_threads.specs.Grouping.{Grouped, ready_count}
use Rattle.cps_frames.specs.declared.shared.Shared.{Shared}
use Rattle.cps_frames.specs.Standing.{setting_of, common_of}
use Rattle.settle_laws.specs.Stances.{Stance}
use Rattle.settle_laws.specs.Standing.{Stand}
use Rattle.build_core.specs.declared.phase.Phase.{Phase}
use Rattle.build_core.specs.declared.phase.Phase.TheVariants.{Unbegun, Running, Ended, Stopped}

abbrev pub has_begun : Phase → Bool
has_begun Unbegun = false
has_begun p = true

abbrev pub has_ended : Phase → Bool
has_ended Ended = true
has_ended p = false

-- what the definitions see of what threads share: a build that has not begun has no flow node
abbrev pub shown : Phase → Common → Common
shown Unbegun u = record u { nodes = [] }
shown p u = u

-- It stands for this build of the definitions. There is no history in a build: it stands for every one that has its shared state, and
-- threads that stand where its threads do.
pub record StandsIn {T : Type 0} (stance : T → Stance) (p : Phase) (g : Threads T) (u : Shared) (w : W.Build) : Type 0 where
  pub started : w.started ≡ has_begun p
  pub ended : w.ended ≡ has_ended p
  pub stand : Stand stance (setting_of u) g (shown p (common_of u)) w

-- with this count of evaluated nodes
abbrev pub recounted : ℕ → W.Build → W.Build
recounted n w = record w { shared = record w.shared { count = n } }

-- what the answer to an event hangs on
abbrev pub standing_in : Phase → Shared → Standing
standing_in p u = record { started = has_begun p; ended = has_ended p; site = u.site; requests = u.requests; held = u.held }

-- What threads keep that go on: they fit, few have begun for the flow nodes that there are, and at most n are ready.
pub record GoOn {T : Type 0} (number : T → ℕ) (parent : T → Option ℕ) (branch : T → Bool) (fits : List (Seated T) → Shared → Type 0) (n : ℕ) (g : Threads T) (u : Shared) : Type 0 where
  pub grouped : Grouped number parent branch 0 g.seats g.next
  pub fit : fits g.seats u
  pub few_threads : g.next ≤ 100000000 + length u.graph
  pub few : ready_count g.seats ≤ n

-- nothing has happened yet, but that the graph has its first node
pub record IsEmpty {T : Type 0} (g : Threads T) (u : Shared) : Type 0 where
  pub threads : g ≡ record { seats = []; next = 0 }
  pub shared : common_of u ≡ record W.no_state { nodes = W.start_node ∷ [] }
  pub heap : u.heap ≡ record { cells = []; changed = []; spare = 0 }

-- What a build keeps that has ended: no thread is left, no request is open and no executor is held; and it is sound, as one that has ended is.
pub record IsDone {T : Type 0} (g : Threads T) (u : Shared) : Type 0 where
  pub threads : g.seats ≡ []
  pub requests : u.requests ≡ []
  pub held : u.held ≡ []
  pub sound : SharedFits (setting_of u) true (common_of u)
  pub few_threads : g.next ≤ 100000000 + length u.graph

-- What a build keeps between two events.
abbrev pub SoundIn : {T : Type 0} → (T → ℕ) → (T → Option ℕ) → (T → Bool) → (List (Seated T) → Shared → Type 0) → Phase → Threads T → Shared → Type 0
SoundIn number parent branch fits Unbegun g u = IsEmpty g u
SoundIn number parent branch fits Running g u = GoOn number parent branch fits 0 g u
SoundIn number parent branch fits Ended g u = IsDone g u
SoundIn number parent branch fits Stopped g u = Unit {0}
