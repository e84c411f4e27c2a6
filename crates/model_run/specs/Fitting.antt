-- A sound build: what is tested of a build that is read from disk, and what each build keeps. In it everything that is named is
-- there, each thread's frames meet the table of frames, and each wait has what it waits for (this product's own).
use Rattle.std.specs.Prelude.{◌≡◌, ◌<◌, ◌≤◌, ◌⊎◌, ℕ, suc, ◌+◌, nat_eq, Bool, true, false, List, [], ◌∷◌, ◌++◌, length, map, filter, drop, find, Option, Some, None, slice_get, pos}
use Rattle.std.specs.Cmp.Lexicographic.{slice_cmp}
use Rattle.std.specs.Ordering.{nat_cmp, is_lt}
use Rattle.std.specs.List.{AllByRecursion as AllAre}
use Rattle.model_values.specs.Cells.{heap_bytes, cell_size}
use Rattle.model_values.specs.Fitting.{There, HasVariable, HasText, HasClosure, HasThrowable, CellsFit}
use Rattle.model_values.specs.Later.{CellsLater}
use Rattle.model_run.specs.ValueTypes.{Null, Truth, Whole, InCell, Cell, Binding}
use Rattle.model_run.specs.RunTypes.{FlowNode, NodeKind, EndBodyNode, EndBlockNode, Event, Answer, Begin, GrantedAnswer, Done, DecidedAnswer, Joined, Wait, Ready, RequestWait, BranchesWait, Join, JoinEnd, Outcome, ValueOutcome, ThrownOutcome, Request, NodeRequest, TaskRequest, InputRequest, OpenRequest, Held, Site, Context, FrameKind}
use Rattle.model_run.specs.declared.frame.FrameKind.TheVariants as kind
use Rattle.model_run.specs.FlowNodes.{IsFront}
use Rattle.model_run.specs.Grants.{executor_of}
use Rattle.model_run.specs.Labels.{label_fault}
use Rattle.model_run.specs.StepTable.{has_blank}
use Rattle.model_run.specs.Steps.{held_for, held_by}
use Rattle.model_run.specs.Threads.{Runs, Script, Closure, Thread, stands}
use Rattle.model_run.specs.Callables.{Callee}
use Rattle.model_run.specs.World.{Build, world_in}
use Rattle.model_run.specs.Terms.{Term, nodes_of}
use Rattle.model_run.specs.State.{Setting, Common, Env, Frame, Result, Waits}
use Rattle.model_run.specs.FrameTable.{Any, Up_to, A_count, Flag, Flow_node, A_closure, A_throwable, Text_or_null, is_closure_form}
use Rattle.model_run.specs.Nesting.{Sorts, Spot, Begun, Any_branch, For_executor, For_task, For_person, For_branches, FrameFits, Chained, CallsClosures, innermost, shape_at}
use Rattle.model_run.specs.Scoping.{Names, names_at, names_of, names_for}

-- variables by their cells, with these names
pub record EnvFits (h : List Cell) (xs : Names) (env : Env) : Type 0 where
  pub names : names_of env ≡ xs
  pub variables : AllAre (λ b. HasVariable (slice_get h b.cell)) env

-- a closure is one of the script's, and sees the variables that its node sees
abbrev pub closure_rule : Term → ℕ → Env → Type 0
closure_rule root k env = (k < length (nodes_of root)) × (is_closure_form (shape_at root k).form ≡ true) × (names_of env ≡ names_at root k)

-- the number of a flow node of the build: they are numbered from 2
abbrev pub IsFlowNode : List FlowNode → ℕ → Type 0
IsFlowNode nodes n = (2 ≤ n) × (n < length nodes + 2)

-- What a value of each sort is, in a shared state.
abbrev pub known : Common → Sorts
known u Any v = There u.cells v
known u (Up_to n) (Whole (pos m)) = m ≤ n
known u A_count (Whole (pos m)) = Unit {0}
known u Flag (Truth b) = Unit {0}
known u Flow_node (Whole (pos n)) = IsFlowNode u.nodes n
known u A_closure (InCell c) = HasClosure (slice_get u.cells c)
known u A_throwable (InCell c) = HasThrowable (slice_get u.cells c)
known u Text_or_null Null = Unit {0}
known u Text_or_null (InCell c) = HasText (slice_get u.cells c)
known u s v = ⊥

-- a flow node before this one
abbrev pub IsBefore : ℕ → ℕ → Type 0
IsBefore id n = (2 ≤ n) × (n < id)

-- the end of a body and that of a block name some node before them; the others name none, which is 0
abbrev pub StartsAt : NodeKind → ℕ → ℕ → Type 0
StartsAt EndBodyNode id start = IsBefore id start
StartsAt EndBlockNode id start = IsBefore id start
StartsAt k id start = start ≡ 0

-- flow nodes are numbered one after the other, and name nodes before them
abbrev pub NodesFit : ℕ → List FlowNode → Type 0
NodesFit id [] = Unit {0}
NodesFit id (n ∷ ns) = (n.id ≡ id) × StartsAt n.kind id n.start × AllAre (IsBefore id) n.parents × NodesFit (suc id) ns

-- binding variables stand by rising names
abbrev pub NamesRise : List Binding → Type 0
NamesRise [] = Unit {0}
NamesRise (b ∷ []) = Unit {0}
NamesRise (b ∷ c ∷ bs) = (is_lt (slice_cmp nat_cmp b.name c.name) ≡ true) × NamesRise (c ∷ bs)

-- numbers that rise, from n on and below m
abbrev pub Rise : ℕ → ℕ → List ℕ → Type 0
Rise n m [] = Unit {0}
Rise n m (k ∷ ks) = (n ≤ k) × (k < m) × Rise (suc k) m ks

-- each number is above the one before it
abbrev pub Rises : List ℕ → Type 0
Rises [] = Unit {0}
Rises (n ∷ []) = Unit {0}
Rises (n ∷ m ∷ ns) = (n < m) × Rises (m ∷ ns)

-- A label has no fault, an id has no blank and is not empty, and a task's executor is one of the site's; what was logged of a
-- task is not counted far beyond the log.
abbrev pub RequestFits : Site → ℕ → Request → Type 0
RequestFits site logged (NodeRequest label) = label_fault label ≡ None
RequestFits site logged (TaskRequest executor workspace folder env script status keep taken out) =
    (executor_of site executor ≡ None → ⊥) × (taken ≤ 4611686018427387904 + logged)
RequestFits site logged (InputRequest id) = (id ≡ [] → ⊥) × (has_blank id ≡ false)

-- all differ
abbrev pub Distinct : List ℕ → Type 0
Distinct [] = Unit {0}
Distinct (n ∷ ns) = AllAre (λ m. n ≡ m → ⊥) ns × Distinct ns

-- the executor is one of the site's, and its request was made and is no longer open
pub record HeldFits (site : Site) (u : Common) (x : Held) : Type 0 where
  pub executor : executor_of site x.executor ≡ None → ⊥
  pub made : x.request < u.next_request
  pub closed : find (λ r. nat_eq r.number x.request) u.requests ≡ None

-- a build that has ended has its end node besides
abbrev pub most_nodes : Bool → ℕ
most_nodes true = 100000001
most_nodes false = 100000000

-- The shared state of a build that has ended or not: cells, variables, flow nodes, requests and executors. What is counted stays
-- far below what its numbers have room for.
pub record SharedFits (setting : Setting) (ended : Bool) (u : Common) : Type 0 where
  pub cells : CellsFit (closure_rule setting.script) u.cells
  -- each holds fewer than 2147483648 bytes of text or entries
  pub short : AllAre (λ c. cell_size c < 2147483648) u.cells
  pub few_cells : length u.cells < 4294967296
  pub few_bytes : heap_bytes u.cells ≤ 4611686018427387904
  pub binding : AllAre (λ b. HasVariable (slice_get u.cells b.cell)) u.binding
  pub names : NamesRise u.binding
  pub some_node : 0 < length u.nodes
  pub few_nodes : length u.nodes ≤ most_nodes ended
  pub nodes : NodesFit 2 u.nodes
  pub requests : Rise 0 u.next_request (map (λ r. r.number) u.requests)
  pub few_requests : u.next_request ≤ 100000000 + length u.nodes
  pub asks : AllAre (λ r. RequestFits setting.site (length u.log) r.request) u.requests
  pub rising : Rises (map (λ x. x.executor) u.held)
  pub held : AllAre (HeldFits setting.site u) u.held
  pub differ : Distinct (map (λ x. x.request) u.held)

-- A thread as it stands.
pub record Seat : Type 0 where
  pub number : ℕ
  pub parent : Option ℕ
  pub head : ℕ
  pub wait : Wait
  pub context : Context
  pub stack : List Frame
  -- the closure of a branch that has not begun
  pub start : Option Callee

-- the context outside all steps
abbrev pub bare : Context
bare = record { held = []; folders = []; env = [] }

-- the thread of this number
abbrev pub seat_of : List Seat → ℕ → Option Seat
seat_of seats n = find (λ t. nat_eq t.number n) seats

-- the context of the parent of a thread, and that outside all steps where it has none
abbrev pub context_in : Option Seat → Context
context_in (Some t) = t.context
context_in None = bare

abbrev pub context_above : List Seat → Option ℕ → Context
context_above seats (Some p) = context_in (seat_of seats p)
context_above seats None = bare

-- where its frames begin
abbrev pub outermost : Option ℕ → Spot
outermost None = Begun 0
outermost (Some p) = Any_branch

-- the bodies that hold an executor, and those that have a folder of their own
abbrev pub holds_executor : FrameKind → Bool
holds_executor kind.NodeBody = true
holds_executor k = false

abbrev pub holds_folder : FrameKind → Bool
holds_folder kind.NodeBody = true
holds_folder kind.DirBody = true
holds_folder k = false

-- a request of the kind that a wait at this spot is for
abbrev pub Asks : Spot → Request → Type 0
Asks For_executor (NodeRequest label) = Unit {0}
Asks For_task (TaskRequest executor workspace folder env script status keep taken out) = Unit {0}
Asks For_person (InputRequest id) = Unit {0}
Asks at r = ⊥

-- the request is open, of that kind, and this thread's
abbrev pub ForRequest : Spot → Option OpenRequest → ℕ → Type 0
ForRequest at None n = ⊥
ForRequest at (Some r) n = (r.thread ≡ n) × Asks at r.request

-- what a branch ended with is there
abbrev pub OutcomeFits : Common → Outcome → Type 0
OutcomeFits u (ValueOutcome v) = There u.cells v
OutcomeFits u (ThrownOutcome c) = HasThrowable (slice_get u.cells c)

-- a branch's end, with its last flow node
abbrev pub EndFits : Common → JoinEnd → Type 0
EndFits u e = IsFlowNode u.nodes e.node × OutcomeFits u e.outcome

-- a thread with this parent
abbrev pub ParentIs : ℕ → Option Seat → Type 0
ParentIs n (Some t) = t.parent ≡ Some n
ParentIs n None = ⊥

-- a branch has ended, or is a thread with this parent
abbrev pub BranchFits : Common → ℕ → Option JoinEnd → Option Seat → Type 0
BranchFits u n (Some e) t = EndFits u e
BranchFits u n None t = ParentIs n t

abbrev pub JoinFits : Common → List Seat → ℕ → Join → Type 0
JoinFits u seats n j = BranchFits u n j.ended (seat_of seats j.thread)

abbrev pub IsOpen : Join → Type 0
IsOpen j = j.ended ≡ None

-- one of these
abbrev pub Some_of : {A : Type 0} → (A → Type 0) → List A → Type 0
Some_of P [] = ⊥
Some_of P (x ∷ xs) = P x ⊎ Some_of P xs

-- the answer with which a thread goes on is of the kind that it waited for, and names what is there
abbrev pub AnswerFits : Common → Spot → List Frame → Answer → Type 0
AnswerFits u at [] Begin = Unit {0}
AnswerFits u For_executor fs (GrantedAnswer x) = held_by x u.held ≡ None → ⊥
AnswerFits u For_task fs (Done code out) = Unit {0}
AnswerFits u For_person fs (DecidedAnswer proceed name) = Unit {0}
AnswerFits u For_branches fs (Joined ends) = AllAre (λ b. EndFits u b.end) ends
AnswerFits u at fs x = ⊥

-- What a thread waits for: an answer that it is about to get, its open request, or its branches, of which one has not ended.
abbrev pub WaitFits : Common → List Seat → Seat → Spot → Wait → Type 0
WaitFits u seats t at (Ready x) = AnswerFits u at t.stack x
WaitFits u seats t at (RequestWait r) = ForRequest at (find (λ q. nat_eq q.number r) u.requests) t.number
WaitFits u seats t For_branches (BranchesWait js) = AllAre (JoinFits u seats t.number) js × Some_of IsOpen js × Distinct (map (λ j. j.thread) js)
WaitFits u seats t at (BranchesWait js) = ⊥

-- a branch that this wait is for
abbrev pub Waited : ℕ → Wait → Type 0
Waited n (BranchesWait js) = Some_of (λ j. (j.thread ≡ n) × (j.ended ≡ None)) js
Waited n w = ⊥

-- a thread that waits for this branch
abbrev pub Above : ℕ → Option Seat → Type 0
Above n None = ⊥
Above n (Some t) = Waited n t.wait

-- thread 0 has no parent, and each other is one of the branches that its parent waits for
abbrev pub ParentFits : List Seat → ℕ → Option ℕ → Type 0
ParentFits seats n None = n ≡ 0
ParentFits seats n (Some p) = (p < n) × Above n (seat_of seats p)

-- a closure of the script, with its variables
abbrev pub BranchBegins : Term → List Cell → Option Callee → Type 0
BranchBegins root h None = ⊥
BranchBegins root h (Some c) = (c.node < length (nodes_of root)) × (is_closure_form (shape_at root c.node).form ≡ true) × EnvFits h (names_at root c.node) c.env

-- a branch that has not begun, which has a parent and no frame, has its closure, and no other thread has one
abbrev pub StartFits : Term → List Cell → Option ℕ → List Frame → Option Callee → Type 0
StartFits root h (Some parent) [] c = BranchBegins root h c
StartFits root h parent fs c = c ≡ None

-- One thread: its frames meet the table and stand one inside the other, each with its variables; and what it waits for.
pub record SeatFits (setting : Setting) (u : Common) (seats : List Seat) (t : Seat) : Type 0 where
  pub head : IsFlowNode u.nodes t.head
  pub parent : ParentFits seats t.number t.parent
  pub frames : AllAre (FrameFits (known u) setting.script) t.stack
  pub envs : AllAre (λ f. EnvFits u.cells (names_for setting.script f) f.env) t.stack
  pub nested : Chained setting.script (outermost t.parent) t.stack
  pub closures : CallsClosures setting.script (outermost t.parent) t.stack
  pub waits : WaitFits u seats t (innermost setting.script (outermost t.parent) t.stack) t.wait
  pub start : StartFits setting.script u.cells t.parent t.stack t.start
  -- the held requests and the folders are those of its parent, and then those of its own open bodies
  pub own_held : (own : List ℕ) × (t.context.held ≡ (context_above seats t.parent).held ++ own) × (length own ≡ length (filter (λ f. holds_executor f.kind) t.stack))
  pub holds : AllAre (λ r. held_for r u.held ≡ None → ⊥) t.context.held
  pub folders : length t.context.folders ≡ length (context_above seats t.parent).folders + length (filter (λ f. holds_folder f.kind) t.stack)

-- each open request has the thread that waits for it
abbrev pub WaitsFor : ℕ → Option Seat → Type 0
WaitsFor r None = ⊥
WaitsFor r (Some t) = t.wait ≡ RequestWait r

abbrev pub IsWaitedFor : List Seat → OpenRequest → Type 0
IsWaitedFor seats r = WaitsFor r.number (seat_of seats r.thread)

-- the lists that g makes, one behind the other
abbrev pub concat_map : {A B : Type 0} → (A → List B) → List A → List B
concat_map g [] = []
concat_map g (x ∷ xs) = g x ++ concat_map g xs

-- the request of the executor that a thread is about to be given
abbrev pub request_in : Option Held → List ℕ
request_in (Some x) = x.request ∷ []
request_in None = []

abbrev pub granted_request : List Held → Wait → List ℕ
granted_request held (Ready (GrantedAnswer x)) = request_in (held_by x held)
granted_request held w = []

-- the requests of the `node` bodies that a thread has opened itself, and of the one that it is about to open
abbrev pub own_held_of : Common → List Seat → Seat → List ℕ
own_held_of u seats t = drop (length (context_above seats t.parent).held) t.context.held ++ granted_request u.held t.wait

-- A sound build that has ended or not: its shared state and its threads. One that has not ended has its main thread.
pub record Fits (setting : Setting) (ended : Bool) (u : Common) (next_thread : ℕ) (seats : List Seat) : Type 0 where
  pub shared : SharedFits setting ended u
  pub numbers : Rise 0 next_thread (map (λ t. t.number) seats)
  pub few_threads : next_thread ≤ 100000000 + length u.nodes
  pub main : ended ≡ false → seat_of seats 0 ≡ None → ⊥
  pub threads : AllAre (SeatFits setting u seats) seats
  -- the requests of all open `node` bodies differ, those that are about to be opened included
  pub differ : Distinct (concat_map (own_held_of u seats) seats)
  pub waited_for : AllAre (IsWaitedFor seats) u.requests

-- it is not about to go on
abbrev pub NotReady : Wait → Type 0
NotReady (Ready x) = ⊥
NotReady w = Unit {0}

-- as a build stands between two events, and in its image
pub record FitsAtRest (setting : Setting) (ended : Bool) (u : Common) (next_thread : ℕ) (seats : List Seat) : Type 0 where
  pub fits : Fits setting ended u next_thread seats
  pub rests : AllAre (λ t. NotReady t.wait) seats

-- A later shared state: cells only grow, each stays of its kind, and closures, texts and throwables stay as they are; and flow
-- nodes are only added. It is all that a thread's frames and values rely on while others go on; its open request and its held
-- executors must stay besides.
pub record Later (u v : Common) : Type 0 where
  pub cells : CellsLater u.cells v.cells
  pub nodes : IsFront u.nodes v.nodes

-- A thread of a world, as it stands.
abbrev pub started_by : Runs → Option Callee
started_by Script = None
started_by (Closure k env head) = Some (record { node = k; env = env })

abbrev pub seat_at : Thread → Result → Seat
seat_at t (Waits asked path s) = record { number = t.own.number; parent = t.parent; head = t.head; wait = t.wait; context = s.world.own.context; stack = path; start = None }
seat_at t r = record { number = t.own.number; parent = t.parent; head = t.head; wait = t.wait; context = t.own.context; stack = []; start = started_by t.runs }

-- the threads of a world, as they stand
abbrev pub seats_of : Setting → List Thread → List Seat
seats_of setting ts = map (λ t. seat_at t (stands setting t)) ts

-- a build as it stands between two events is sound
abbrev pub WorldFits : Setting → Build → Type 0
WorldFits setting b = FitsAtRest setting b.ended b.shared b.next_thread (seats_of setting b.threads)

-- what is to be shown: every world that has begun is sound, whether it has ended or not
abbrev pub WorldsFit : Setting → Type 0
WorldsFit setting = (events : List Event) → (world_in setting events).started ≡ true → WorldFits setting (world_in setting events)
