-- How the shared state changes while a thread runs (this product's own): it only gets later, until an answer brings the shared state
-- as other threads have left it. The log only grows.
use Rattle.std.specs.Prelude.{◌≡◌, ◌⊎◌, List, [], ◌∷◌}
use Rattle.model_run.specs.RunTypes.{Site}
use Rattle.model_run.specs.State.{Common, Reply, State, Result, Ended, Waits, Limited, Unfinished}
use Rattle.model_run.specs.FlowNodes.{IsFront}
use Rattle.model_run.specs.Among.{AreAmong}
use Rattle.model_run.specs.Fitting.{Later}
use Rattle.model_run.specs.Requests.{AsksMore, KeepsSome, RequestsFit, RequestsGoOn}

-- from a state to the one that an evaluation makes of it: it is later, the log is only added to, binding variables stay, new requests
-- stand behind those that were open, and some of the held executors are still held
pub record Follows (u v : Common) : Type 0 where
  pub later : Later u v
  pub log : IsFront u.log v.log
  pub binding : AreAmong u.binding v.binding
  pub asks : AsksMore u v
  pub held : KeepsSome u.held v.held

-- from a state to the one that an event makes of it: it is later, the log is only added to, binding variables stay, each request that
-- is open was open before or has a new number, and open requests and held executors fit as before
pub record Continues (site : Site) (u v : Common) : Type 0 where
  pub later : Later u v
  pub log : IsFront u.log v.log
  pub binding : AreAmong u.binding v.binding
  pub requests : RequestsGoOn u v
  pub fit : RequestsFit site u → RequestsFit site v

-- the state with which the last of these answers came, or u where there is none
abbrev pub last_shared : Common → List Reply → Common
last_shared u [] = u
last_shared u (r ∷ rs) = last_shared r.shared rs

-- of these answers those behind some place are still to come, and the shared state follows the one that came last, or u
abbrev pub Since : Common → List Reply → State → Type 0
Since u [] s = (s.replies ≡ []) × Follows u s.world.shared
Since u (r ∷ rs) s = ((s.replies ≡ r ∷ rs) × Follows u s.world.shared) ⊎ Since r.shared rs s

-- an evaluation stops later than it began, or than its last answer came; at a wait it has had all answers
abbrev pub StopsSince : Common → List Reply → Result → Type 0
StopsSince u rs (Ended e s) = Since u rs s
StopsSince u rs (Waits asked path s) = (s.replies ≡ []) × Follows (last_shared u rs) s.world.shared
StopsSince u rs (Limited k s) = Since u rs s
StopsSince u rs Unfinished = Unit {0}
