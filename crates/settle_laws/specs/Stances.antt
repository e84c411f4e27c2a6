-- What the definitions see of a green thread that runs a script, and what its turns are then (this product's own).
use Rattle.std.specs.Prelude.{◌≡◌, ◌≤◌, ℕ, false, List, [], ◌∷◌, length, Option, Some, None}
use Rattle.std.specs.List.{AllByRecursion as AllAre}
use Rattle.green_threads.specs.WaitTypes.{Answer}
use Rattle.green_threads.specs.declared.runner.Stop.{Stop}
use Rattle.green_threads.specs.declared.runner.Stop.TheVariants as stop
use Rattle.green_threads.specs.declared.runner.NewBranch.{NewBranch}
use Rattle.model_run.specs.declared.ending.Ending.{Ending}
use Rattle.model_run.specs.declared.ending.Branch.{Branch}
use Rattle.model_run.specs.declared.ending.Asked.{Asked}
use Rattle.model_run.specs.declared.ending.Asked.TheVariants.{ForRequest as For_request, ForBranches as For_branches}
use Rattle.model_run.specs.declared.frame.Frame.{Frame}
use Rattle.model_run.specs.declared.flow.FlowNode.{FlowNode}
use Rattle.model_run.specs.Fitting.{IsFlowNode, SharedFits}
use Rattle.model_run.specs.State.{Setting, Common, Own, Reply, State, Result, Ended, Waits, Limited}
use Rattle.model_run.specs.Threads.{Runs, Script, Closure, Thread, stands}
use Rattle.model_run.specs.World.{given_answer, outcome_of, first_own}

-- A green thread between two turns: what is its own, its parent, and what it has to do. One that has not begun has what it runs; one
-- that waits has the frames around its wait, outermost first.
pub record Stance : Type 0 where
  pub own : Own
  pub parent : Option ℕ
  pub runs : Option Runs
  pub frames : List Frame

-- the same thread with this number and parent
abbrev pub seated_as : ℕ → Option ℕ → Stance → Stance
seated_as n p x = record { own = record { number = n; head = x.own.head; context = x.own.context; calls = x.own.calls }; parent = p; runs = x.runs; frames = x.frames }

-- the thread of a script that has not begun
abbrev pub script_stance : Stance
script_stance = record { own = first_own; parent = None; runs = Some Script; frames = [] }

-- It stands where a thread of the definitions does: one that was given no answer has not begun; any other has begun and waits, and its
-- frames are the path of the wait.
abbrev pub StandsAt : Setting → Stance → Thread → List Reply → Type 0
StandsAt setting x h [] = (x.runs ≡ Some h.runs) × (x.own ≡ h.own)
StandsAt setting x h (r ∷ rs) = (x.runs ≡ None) × (asked : Asked) × (s : State) × (stands setting h ≡ Waits asked x.frames s) × (s.world.own ≡ x.own)

pub record StandsFor (setting : Setting) (x : Stance) (h : Thread) : Type 0 where
  pub number : x.own.number ≡ h.own.number
  pub parent : x.parent ≡ h.parent
  pub head : x.own.head ≡ h.head
  pub at : StandsAt setting x h h.history

-- A branch that is to begin is one of the definitions: its closure behind its flow node, in the context of the thread that forks.
pub record NewFor (own : Own) (name : List ℕ) (x : Stance) (d : Branch) : Type 0 where
  pub name_is : name ≡ d.name
  pub runs : x.runs ≡ Some (Closure d.closure d.env d.head)
  pub head : x.own.head ≡ d.head
  pub context : x.own.context ≡ own.context
  pub calls : x.own.calls ≡ 0

abbrev pub AllNew : {T : Type 0} → (T → Stance) → Own → List (NewBranch T) → List Branch → Type 0
AllNew stance own [] [] = Unit {0}
AllNew stance own [] (d ∷ ds) = ⊥
AllNew stance own (b ∷ bs) [] = ⊥
AllNew stance own (b ∷ bs) (d ∷ ds) = NewFor own b.name (stance b.thread) d × AllNew stance own bs ds

-- a state of the definitions has this shared state, and this thread's own
pub record Left (s : State) (x : Stance) (u : Common) : Type 0 where
  pub shared : s.world.shared ≡ u
  pub own : s.world.own ≡ x.own

-- A thread stops as this result does.
abbrev pub StopsAs : {T : Type 0} → (T → Stance) → Result → Stop T → Stance → Common → Type 0
StopsAs stance r (stop.Waits q) x u = (s : State) × (r ≡ Waits (For_request q) x.frames s) × Left s x u
StopsAs stance r (stop.Forks bs) x u = (ds : List Branch) × (s : State) × (r ≡ Waits (For_branches ds) x.frames s) × Left s x u × AllNew stance x.own bs ds
StopsAs stance r (stop.Ended o) x u = (e : Ending) × (s : State) × (r ≡ Ended e s) × (outcome_of e ≡ o) × Left s x u
StopsAs stance r (stop.Limit k) x u = (s : State) × (r ≡ Limited k s) × Left s x u

-- the branches that a thread begins stand behind flow nodes
abbrev pub BranchesBehind : {T : Type 0} → (T → Stance) → List FlowNode → Stop T → Type 0
BranchesBehind {T} stance nodes (stop.Forks bs) = AllAre (λ (b : NewBranch T). IsFlowNode nodes (stance b.thread).own.head) bs
BranchesBehind stance nodes s = Unit {0}

-- A turn is one of the definitions: for every thread that it stands for, it stops as that thread does with one answer more, over the same
-- shared state. It has begun then, and keeps its number and parent, and the setting. However it stops, the shared state is sound then, no
-- flow node has gone, and it stands behind one, as the branches do that it begins.
pub record Turns {T S : Type 0} (stance : T → Stance) (common : S → Common) (setting : S → Setting) (t : T) (u : S) (x : Answer) (stopped : Stop T) (t' : T) (u' : S) : Type 0 where
  pub begun : (stance t').runs ≡ None
  pub number : (stance t').own.number ≡ (stance t).own.number
  pub parent : (stance t').parent ≡ (stance t).parent
  pub same_setting : setting u' ≡ setting u
  pub nodes_stay : length (common u).nodes ≤ length (common u').nodes
  pub sound : SharedFits (setting u') false (common u')
  pub head : IsFlowNode (common u').nodes (stance t').own.head
  pub branches : BranchesBehind stance (common u').nodes stopped
  pub stops : (h : Thread) → StandsFor (setting u) (stance t) h → StopsAs stance (stands (setting u) (given_answer (common u) x h)) stopped (stance t') (common u')
