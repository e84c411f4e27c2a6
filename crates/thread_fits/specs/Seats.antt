-- Which threads may stand beside one another over a shared state: each as the machine left it, and what it waits for is there. Threads are
-- known by what the definitions see of them alone.
use Rattle.std.specs.Prelude.{◌≡◌, ℕ, ◌-◌, nat_eq, true, false, List, [], length, map, Option, None, Some, is_some}
use Rattle.std.specs.List.{AllByRecursion as AllAre, find}
use Rattle.model_run.specs.declared.callee.Callee.{Callee}
use Rattle.model_run.specs.declared.context.Context.{Context}
use Rattle.model_run.specs.declared.ending.Asked.TheVariants.{ForBranches, ForRequest}
use Rattle.model_run.specs.declared.ending.Ending.TheVariants.{Answered}
use Rattle.model_run.specs.declared.ending.Entry.TheVariants.{Branched, First}
use Rattle.model_run.specs.declared.frame.Frame.{Frame}
use Rattle.model_run.specs.declared.wait.Answer.{Answer}
use Rattle.model_run.specs.declared.wait.Answer.TheVariants.{Begin, Granted}
use Rattle.model_run.specs.declared.wait.Wait.{Wait}
use Rattle.model_run.specs.declared.wait.Wait.TheVariants.{Ready, Request as RequestWait, Branches as BranchesWait}
use Rattle.model_run.specs.Fitting.{Distinct, ForRequest as IsForRequest, IsOpen, IsWaitedFor, JoinFits, ParentFits, Seat, SharedFits, Some_of, concat_map, context_above, outermost, own_held_of, seat_of, started_by}
use Rattle.model_run.specs.Nesting.{CallsClosures, Spot, innermost}
use Rattle.model_run.specs.State.{Common}
use Rattle.model_run.specs.Threads.{Closure, Runs, Script}
use Rattle.model_run.specs.World.{run_limits}
use Rattle.run_laws.specs.Worlds.{EndIf}
use Rattle.green_threads.specs.declared.runner.Seated.{Seated}
use Rattle.settle_laws.specs.Stances.{Stance}
use Rattle.cps_code.specs.Script.{IsScript, script_of}
use Rattle.cps_frames.specs.Places.{IsHeld, Poised}
use Rattle.cps_frames.specs.Standing.{Standing, common_of, setting_of}
use Rattle.cps_frames.specs.declared.shared.Shared.{Shared}
use Rattle.cps_frames.specs.declared.thread.Move.{Move}
use Rattle.cps_frames.specs.declared.thread.Move.TheVariants.{Asks, Ends, Enter}

-- how many flow nodes may still be made: each branch that begins or ends makes one
abbrev pub nodes_left : Shared → ℕ
nodes_left u = run_limits.flow_nodes - length u.graph

-- a thread over what it shares with the others
abbrev pub standing_as : Shared → Stance → Standing
standing_as u x = record { world = record { setting = setting_of u; shared = common_of u; own = x.own }; stack = x.frames; parent = x.parent; heap = u.heap }

-- What a thread does first with an answer: one that has begun goes on with it.
abbrev pub first_of : Option Runs → Answer → Move
first_of None x = Ends (Answered x)
first_of (Some Script) x = Enter First 0 []
first_of (Some (Closure k env head)) x = Enter (Branched head) k env

-- what a thread is about to do, or waits for; whichever branches it waits for, a move for none stands for the wait
abbrev pub waiting_move : Wait → Stance → Move
waiting_move (Ready x) t = first_of t.runs x
waiting_move (RequestWait r) t = Asks (ForRequest r)
waiting_move (BranchesWait js) t = Asks (ForBranches [])

-- a thread that waits has begun; one that has not is ready to begin, and with no other answer
abbrev pub HasBegun : Wait → Option Runs → Type 0
HasBegun (Ready x) None = Unit {0}
HasBegun (Ready x) (Some r) = x ≡ Begin
HasBegun w runs = runs ≡ None

-- one that has not begun has no frame, and a parent exactly where it is a branch
abbrev pub StartStands : Option Runs → Option ℕ → List Frame → Type 0
StartStands None parent fs = Unit {0}
StartStands (Some Script) parent fs = (parent ≡ None) × (fs ≡ [])
StartStands (Some (Closure k env head)) parent fs = (is_some parent ≡ true) × (fs ≡ [])

-- its open request is of the kind that this spot waits for; and of its branches those that have ended name what is there
abbrev pub WaitStands : Common → Spot → ℕ → Wait → Type 0
WaitStands u at n (Ready x) = Unit {0}
WaitStands u at n (RequestWait r) = IsForRequest at (find (λ q. nat_eq q.number r) u.requests) n
WaitStands u at n (BranchesWait js) = AllAre (λ j. EndIf u j.ended) js

-- An executor is given between two events, to the one thread that then is ready.
abbrev pub IsReady : Wait → Type 0
IsReady (Ready x) = Unit {0}
IsReady w = ⊥

abbrev pub IsGranted : Wait → Type 0
IsGranted (Ready (Granted x)) = Unit {0}
IsGranted w = ⊥

abbrev pub IsAlone : {T : Type 0} → List (Seated T) → Seated T → Type 0
IsAlone {T} xs x = IsGranted x.wait → AllAre (λ (y : Seated T). IsReady y.wait → y.number ≡ x.number) xs

-- of a thread that has not begun the test of an image sees the closure of a branch
abbrev pub closure_of : Option Runs → Option Callee
closure_of None = None
closure_of (Some runs) = started_by runs

-- a thread waits for branches of its own, of which one has not ended
abbrev pub JoinsFit : Common → List Seat → ℕ → Wait → Type 0
JoinsFit u seats n (Ready x) = Unit {0}
JoinsFit u seats n (RequestWait r) = Unit {0}
JoinsFit u seats n (BranchesWait js) = AllAre (JoinFits u seats n) js × Some_of IsOpen js × Distinct (map (λ j. j.thread) js)

module _ {T : Type 0} (stance : T → Stance) where
  -- One thread in its seat, from the spot on where its frames begin, under this context; what its steps and walks have called are closures.
  pub record SeatStands (u : Shared) (above : Context) (x : Seated T) : Type 0 where
    pub poised : Poised (setting_of u) above (outermost x.parent) (standing_as u (stance x.thread)) (waiting_move x.wait (stance x.thread))
    pub closures : CallsClosures (script_of u.code) (outermost x.parent) (stance x.thread).frames
    pub begun : HasBegun x.wait (stance x.thread).runs
    pub start : StartStands (stance x.thread).runs x.parent (stance x.thread).frames
    pub number : (stance x.thread).own.number ≡ x.number
    pub parent : (stance x.thread).parent ≡ x.parent
    pub wait : WaitStands (common_of u) (innermost (script_of u.code) (outermost x.parent) (stance x.thread).frames) x.number x.wait

  -- as the test of an image sees it (`Fitting`)
  abbrev pub as_seat : Seated T → Seat
  as_seat x = record {
    number = x.number;
    parent = x.parent;
    head = (stance x.thread).own.head;
    wait = x.wait;
    context = (stance x.thread).own.context;
    stack = (stance x.thread).frames;
    start = closure_of (stance x.thread).runs;
  }

  -- Thread 0 has no parent, and each other is one of the branches that its parent waits for; who waits for branches is the parent of each
  -- that has not ended, and there is such a one.
  pub record Family (u : Common) (xs : List (Seated T)) : Type 0 where
    pub main : seat_of (map as_seat xs) 0 ≡ None → ⊥
    pub parents : AllAre (λ x. ParentFits (map as_seat xs) x.number x.parent) xs
    pub joins : AllAre (λ x. JoinsFit u (map as_seat xs) x.number x.wait) xs

  -- the executors of the requests in its context are held
  abbrev pub HoldsOwn : Shared → Seated T → Type 0
  HoldsOwn u x = AllAre (IsHeld u.held) (stance x.thread).own.context.held

  -- A sound shared state, and threads of different numbers: each stands soundly under the context of its parent and holds the executors
  -- of its open bodies, no two bodies have one request, and the thread of each open request waits for it. It is all that the test of an
  -- image asks of threads (`Fitting`), but for the order of their numbers.
  pub record Fits (xs : List (Seated T)) (u : Shared) : Type 0 where
    pub script : IsScript (script_of u.code)
    pub shared : SharedFits (setting_of u) false (common_of u)
    pub numbers : Distinct (map (λ x. x.number) xs)
    pub family : Family (common_of u) xs
    pub seats : AllAre (λ x. SeatStands u (context_above (map as_seat xs) x.parent) x) xs
    pub holds : AllAre (HoldsOwn u) xs
    -- the requests of all open `node` bodies, that of the body whose executor is about to be given included
    pub differ : Distinct (concat_map (own_held_of (common_of u) (map as_seat xs)) (map as_seat xs))
    pub alone : AllAre (IsAlone xs) xs
    pub waited_for : AllAre (IsWaitedFor (map as_seat xs)) u.requests
