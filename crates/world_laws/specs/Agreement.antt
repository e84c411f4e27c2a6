-- The threads of a build agree with each other and with its open requests (this product's own): a branch has a parent that waits for
-- it, and a thread that waits for a request has it open.
use Rattle.std.specs.Prelude.{◌≡◌, ◌<◌, ℕ, ◌+◌, nat_eq, true, false, List, [], ◌∷◌, ◌++◌, length, map, find, Option, Some, None}
use Rattle.std.specs.List.{AllByRecursion as AllAre}
use Rattle.model_run.specs.declared.wait.Answer.{Answer}
use Rattle.model_run.specs.declared.wait.Wait.{Wait}
use Rattle.model_run.specs.declared.wait.Wait.TheVariants.{Ready, Request as RequestWait, Branches as BranchesWait}
use Rattle.model_run.specs.declared.wait.Join.{Join}
use Rattle.model_run.specs.declared.frame.FrameKind.{FrameKind}
use Rattle.model_run.specs.declared.frame.FrameKind.TheVariants as kind
use Rattle.model_run.specs.declared.frame.Frame.{Frame}
use Rattle.model_run.specs.declared.request.Request.{Request}
use Rattle.model_run.specs.declared.request.Request.TheVariants.{Node as NodeRequest, Task as TaskRequest, Input as InputRequest}
use Rattle.model_run.specs.declared.request.OpenRequest.{OpenRequest}
use Rattle.model_run.specs.State.{Setting, Common, Result, Ended, Waits, Limited, Unfinished}
use Rattle.model_run.specs.declared.ending.Asked.TheVariants.{ForRequest as For_request, ForBranches as For_branches}
use Rattle.model_run.specs.declared.site.Site.{Site}
use Rattle.model_run.specs.Fitting.{Rise, Rises, HeldFits, Distinct, Some_of, IsOpen, Waited, Seat, outermost, seat_of, seats_of, ForRequest, ParentIs, ParentFits, IsWaitedFor}
use Rattle.model_run.specs.Requests.{numbers_of}
use Rattle.model_run.specs.Nesting.{innermost}
use Rattle.model_run.specs.Terms.{Term}
use Rattle.model_run.specs.Threads.{Thread, stands}
use Rattle.model_run.specs.Waiting.{Stood}
use Rattle.model_run.specs.World.{Build, given_answer}

-- A thread as the others see it.
pub record Place : Type 0 where
  pub number : ℕ
  pub parent : Option ℕ
  pub wait : Wait

abbrev pub place_of : Thread → Place
place_of t = record { number = t.own.number; parent = t.parent; wait = t.wait }

abbrev pub places : List Thread → List Place
places ts = map place_of ts

abbrev pub place_numbers : List Place → List ℕ
place_numbers ps = map (λ p. p.number) ps

-- the thread of number n is there, and P holds of it
abbrev pub HasPlace : (Place → Type 0) → ℕ → List Place → Type 0
HasPlace P n ps = Some_of (λ p. (p.number ≡ n) × P p) ps

-- Thread 0 alone has no parent; the parent of another has a lower number, and waits for it as one of its branches that have not ended.
abbrev pub ParentAgrees : List Place → ℕ → Option ℕ → Type 0
ParentAgrees ps n None = n ≡ 0
ParentAgrees ps n (Some m) = (m < n) × HasPlace (λ p. Waited n p.wait) m ps

-- a branch of thread n that has not ended is a thread with this parent
abbrev pub BranchAgrees : List Place → ℕ → Join → Type 0
BranchAgrees ps n j = j.ended ≡ None → HasPlace (λ p. p.parent ≡ Some n) j.thread ps

-- What thread n waits for is there: its open request; or its branches, which differ and of which one at least has not ended.
abbrev pub WaitAgrees : List OpenRequest → List Place → ℕ → Wait → Type 0
WaitAgrees rs ps n (Ready x) = Unit {0}
WaitAgrees rs ps n (RequestWait r) = Some_of (λ q. (q.number ≡ r) × (q.thread ≡ n)) rs
WaitAgrees rs ps n (BranchesWait js) = AllAre (BranchAgrees ps n) js × Some_of IsOpen js × Distinct (map (λ j. j.thread) js)

-- the thread of an open request waits for it
abbrev pub IsAwaited : List Place → OpenRequest → Type 0
IsAwaited ps q = HasPlace (λ p. p.wait ≡ RequestWait q.number) q.thread ps

-- Threads and open requests that agree, with numbers that rise below the next ones.
pub record PlacesAgree (rs : List OpenRequest) (next_request next_thread : ℕ) (ps : List Place) : Type 0 where
  pub numbers : Rise 0 next_thread (place_numbers ps)
  pub requests : Rise 0 next_request (numbers_of rs)
  pub parents : AllAre (λ p. ParentAgrees ps p.number p.parent) ps
  pub waits : AllAre (λ p. WaitAgrees rs ps p.number p.wait) ps
  pub awaited : AllAre (IsAwaited ps) rs

abbrev pub IsThere : ℕ → List Place → Type 0
IsThere n ps = HasPlace (λ p. Unit {0}) n ps

-- the innermost frame waits for a request of this kind
abbrev pub FrameAsks : FrameKind → Request → Type 0
FrameAsks kind.NodeWait (NodeRequest label) = Unit {0}
FrameAsks kind.ShWait (TaskRequest executor workspace folder env script status keep taken out) = Unit {0}
FrameAsks kind.InputWait (InputRequest id) = Unit {0}
FrameAsks k r = ⊥

abbrev pub LastAsks : List Frame → Request → Type 0
LastAsks [] r = ⊥
LastAsks (f ∷ []) r = FrameAsks f.kind r
LastAsks (f ∷ g ∷ fs) r = LastAsks (g ∷ fs) r

-- a request that a thread waits for is of the kind of its innermost frame
abbrev pub KindAgrees : List OpenRequest → Wait → Result → Type 0
KindAgrees rs (RequestWait r) (Waits asked path s) = AllAre (λ q. q.number ≡ r → LastAsks path q.request) rs
KindAgrees rs w r = Unit {0}

abbrev pub ThreadKind : Setting → List OpenRequest → Thread → Type 0
ThreadKind setting rs t = KindAgrees rs t.wait (stands setting t)

-- The threads of a build; one that has begun and not ended has its main thread.
pub record ThreadsAgree (setting : Setting) (b : Build) : Type 0 where
  pub agree : PlacesAgree b.shared.requests b.shared.next_request b.next_thread (places b.threads)
  pub kinds : AllAre (ThreadKind setting b.shared.requests) b.threads
  pub main : b.started ≡ true → b.ended ≡ false → IsThere 0 (places b.threads)

-- What a turn of a thread, from shared state u on, does to the open requests: where it stops at a request it has opened this one, with
-- the next number, as its own and of the kind that its innermost frame waits for, and none else; where it stops otherwise it has opened none. It never waits for no branch.
pub record OpensNone (u v : Common) : Type 0 where
  pub next : v.next_request ≡ u.next_request
  pub requests : v.requests ≡ u.requests

pub record OpensOne (u : Common) (thread n : ℕ) (asks : Request → Type 0) (v : Common) : Type 0 where
  pub request : Request
  pub kind : asks request
  pub number : n ≡ u.next_request
  pub next : v.next_request ≡ u.next_request + 1
  pub requests : v.requests ≡ u.requests ++ (record { number = n; thread = thread; request = request }) ∷ []

abbrev pub Opens : Common → ℕ → Result → Type 0
Opens u thread (Ended e s) = OpensNone u s.world.shared
Opens u thread (Waits (For_request n) path s) = OpensOne u thread n (LastAsks path) s.world.shared
Opens u thread (Waits (For_branches bs) path s) = OpensNone u s.world.shared × (bs ≡ [] → ⊥)
Opens u thread (Limited k s) = Unit {0}
Opens u thread Unfinished = Unit {0}

abbrev pub TurnsOpen : Setting → Type 0
TurnsOpen setting = (t : Thread) → Stood setting t → (u : Common) (x : Answer) → Opens u t.own.number (stands setting (given_answer u x t))

-- The same of the threads as a sound build has them (`Fits`): a request that a thread waits for is open, its own, and of the kind that
-- its innermost frame waits for.
abbrev pub WaitsAgree : Term → Common → List Seat → ℕ → Option ℕ → List Frame → Wait → Type 0
WaitsAgree root u seats n parent stack (Ready x) = Unit {0}
WaitsAgree root u seats n parent stack (RequestWait r) = ForRequest (innermost root (outermost parent) stack) (find (λ q. nat_eq q.number r) u.requests) n
WaitsAgree root u seats n parent stack (BranchesWait js) = AllAre (λ j. j.ended ≡ None → ParentIs n (seat_of seats j.thread)) js × Some_of IsOpen js × Distinct (map (λ j. j.thread) js)

pub record SeatAgrees (root : Term) (u : Common) (seats : List Seat) (t : Seat) : Type 0 where
  pub parent : ParentFits seats t.number t.parent
  pub waits : WaitsAgree root u seats t.number t.parent t.stack t.wait

pub record SeatsAgree (setting : Setting) (b : Build) : Type 0 where
  pub numbers : Rise 0 b.next_thread (map (λ t. t.number) (seats_of setting b.threads))
  pub main : b.started ≡ true → b.ended ≡ false → seat_of (seats_of setting b.threads) 0 ≡ None → ⊥
  pub threads : AllAre (SeatAgrees setting.script b.shared (seats_of setting b.threads)) (seats_of setting b.threads)
  pub waited_for : AllAre (IsWaitedFor (seats_of setting b.threads)) b.shared.requests

-- What a sound build asks of flow nodes, requests and held executors by themselves, as far as it is proved (`SharedFits`).
pub record SharedAgrees (site : Site) (u : Common) : Type 0 where
  pub some_node : 0 < length u.nodes
  pub requests : Rise 0 u.next_request (numbers_of u.requests)
  pub rising : Rises (map (λ x. x.executor) u.held)
  pub held : AllAre (HeldFits site u) u.held
  pub differ : Distinct (map (λ x. x.request) u.held)
