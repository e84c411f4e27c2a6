-- What the threads and the shared state of the world of every list of events are (this product's own).
use Rattle.std.specs.Prelude.{◌≡◌, ℕ, false, List, Option, Some, None, map}
use Rattle.std.specs.List.{AllByRecursion as AllAre}
use Rattle.model_run.specs.declared.ending.Asked.TheVariants.{ForBranches as For_branches}
use Rattle.model_run.specs.declared.wait.Wait.{Wait}
use Rattle.model_run.specs.declared.wait.Wait.TheVariants.{Ready, Request as RequestWait, Branches as BranchesWait}
use Rattle.model_run.specs.State.{Setting, Common, Result, Waits}
use Rattle.model_run.specs.Nesting.{FrameFits, Chained, CallsClosures, innermost}
use Rattle.model_run.specs.Scoping.{names_for}
use Rattle.model_run.specs.Threads.{Runs, Script, Closure, Thread, stands}
use Rattle.model_run.specs.World.{Build}
use Rattle.model_run.specs.Fitting.{Rise, EnvFits, IsFlowNode, known, SharedFits, Seat, seat_of, seats_of, outermost, ParentFits, WaitFits, StartFits, IsWaitedFor}

-- One thread, with all that a sound build asks of it (`SeatFits`) but contexts and held executors.
pub record SeatStands (setting : Setting) (u : Common) (seats : List Seat) (t : Seat) : Type 0 where
  pub head : IsFlowNode u.nodes t.head
  pub parent : ParentFits seats t.number t.parent
  pub frames : AllAre (λ f. FrameFits (known u) setting.script f) t.stack
  pub envs : AllAre (λ f. EnvFits u.cells (names_for setting.script f) f.env) t.stack
  pub nested : Chained setting.script (outermost t.parent) t.stack
  pub closures : CallsClosures setting.script (outermost t.parent) t.stack
  pub waits : WaitFits u seats t (innermost setting.script (outermost t.parent) t.stack) t.wait
  pub start : StartFits setting.script u.cells t.parent t.stack t.start

-- The threads of a build together.
pub record ThreadsStand (setting : Setting) (b : Build) : Type 0 where
  pub numbers : Rise 0 b.next_thread (map (λ t. t.number) (seats_of setting b.threads))
  pub main : b.ended ≡ false → seat_of (seats_of setting b.threads) 0 ≡ None → ⊥
  pub threads : AllAre (SeatStands setting b.shared (seats_of setting b.threads)) (seats_of setting b.threads)
  pub waited_for : AllAre (IsWaitedFor (seats_of setting b.threads)) b.shared.requests

-- The shared state of every world that has begun is that of a sound build, whether it has ended or not.
abbrev pub SharedStands : Setting → Build → Type 0
SharedStands setting b = SharedFits setting b.ended b.shared

-- where a thread waits for branches, its evaluation has asked for branches
abbrev pub AsksBranches : Result → Type 0
AsksBranches (Waits (For_branches bs) path s) = Unit {0}
AsksBranches r = ⊥

abbrev pub WaitAsks : Wait → Result → Type 0
WaitAsks (BranchesWait js) r = AsksBranches r
WaitAsks (Ready x) r = Unit {0}
WaitAsks (RequestWait n) r = Unit {0}

-- a branch has a parent, and the script has none
abbrev pub HasParent : Runs → Option ℕ → Type 0
HasParent Script None = Unit {0}
HasParent (Closure k env head) (Some p) = Unit {0}
HasParent runs parent = ⊥

-- and what a thread waits for is what its evaluation has asked for
pub record WaitsSo (setting : Setting) (t : Thread) : Type 0 where
  pub parent : HasParent t.runs t.parent
  pub asks : WaitAsks t.wait (stands setting t)
