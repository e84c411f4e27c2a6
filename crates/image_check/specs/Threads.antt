-- The tests of the green threads.
use Rattle.std.specs.Prelude.{ℕ, suc, ◌+◌, nat_eq, nat_lt, Bool, true, false, not, ◌&&◌, ◌||◌, List, [], ◌∷◌, ◌++◌, length, map, filter, drop, take, Option, Some, None, slice_get, is_some, option_map}
use Rattle.std.specs.List.{list_all, list_any}
use Rattle.std.specs.Cmp.Lexicographic.{pointwise}
use Rattle.model_values.specs.declared.cell.Cell.{Cell}
use Rattle.model_values.specs.declared.cell.Cell.TheVariants as cell
use Rattle.model_values.specs.declared.value.Outcome.{Outcome}
use Rattle.model_values.specs.declared.value.Outcome.TheVariants.{Value as ValueOutcome, Thrown as ThrownOutcome}
use Rattle.model_run.specs.declared.context.Context.{Context}
use Rattle.model_run.specs.declared.frame.FrameKind.{FrameKind}
use Rattle.model_run.specs.declared.held.Held.{Held}
use Rattle.model_run.specs.declared.request.OpenRequest.{OpenRequest}
use Rattle.model_run.specs.declared.wait.Join.{Join}
use Rattle.model_run.specs.declared.wait.JoinEnd.{JoinEnd}
use Rattle.model_run.specs.declared.wait.Wait.{Wait}
use Rattle.model_run.specs.declared.wait.Wait.TheVariants.{Ready, Request as RequestWait, Branches}
use Rattle.model_run.specs.Fitting.{bare, holds_executor, holds_folder, outermost}
use Rattle.model_run.specs.Nesting.{Spot, For_branches}
use Rattle.model_run.specs.Terms.{Term}
use Rattle.image_form.specs.declared.image.Image.{Image}
use Rattle.image_form.specs.declared.image.ImageFrame.{ImageFrame}
use Rattle.image_form.specs.declared.image.ImageThread.{ImageThread}
use Rattle.frame_rows.specs.Leading.{may_ask}
use Rattle.image_frames.specs.Frames.{frame_fault, may_stand_at, spot_inside}
use Rattle.image_frames.specs.Standings.{kind_of}
use Rattle.image_check.specs.declared.finding.Finding.{Finding}
use Rattle.image_check.specs.declared.finding.CheckKind.{CheckKind}
use Rattle.image_check.specs.declared.finding.CheckKind.TheVariants as check
use Rattle.image_frames.specs.declared.fault.FrameFault.{FrameFault}
use Rattle.image_frames.specs.declared.fault.FrameFault.TheVariants as fault
use Rattle.image_check.specs.Cells.{is_there}
use Rattle.image_check.specs.Findings.{in_frame, in_thread}
use Rattle.image_check.specs.Requests.{all_differ, numbered, thread_of}
use Rattle.image_check.specs.Scans.{need, ◌then◌, is_higher, none_or}

-- the branches that a thread waits for
abbrev pub joins_of : Wait → List Join
joins_of (Branches js) = js
joins_of w = []

abbrev pub is_ready : Wait → Bool
is_ready (Ready x) = true
is_ready w = false

-- it is not about to go on, and its outermost frame may stand there
abbrev pub first_stands : Term → Spot → List ImageFrame → Bool
first_stands root at [] = false
first_stands root at (f ∷ fs) = may_stand_at root f at

abbrev pub begins : Term → ImageThread → Bool
begins root t = not (is_ready t.wait) && first_stands root (outermost t.parent) t.frames

-- its last flow node is there, and those of the branches that have ended
abbrev pub is_flow_node : ℕ → ℕ → Bool
is_flow_node nodes n = nat_lt 1 n && nat_lt n (nodes + 2)

abbrev pub has_end_node : ℕ → Join → Bool
has_end_node nodes j = none_or (λ (e : JoinEnd). is_flow_node nodes e.node) j.ended

abbrev pub has_nodes : Image → ImageThread → Bool
has_nodes i t = is_flow_node (length i.nodes) t.head && list_all (has_end_node (length i.nodes)) (joins_of t.wait)

-- and what these ended with
abbrev pub is_throwable : Option Cell → Bool
is_throwable (Some (cell.Thrown c m)) = true
is_throwable o = false

abbrev pub has_outcome : List Cell → Outcome → Bool
has_outcome h (ValueOutcome v) = is_there h v
has_outcome h (ThrownOutcome c) = is_throwable (slice_get h c)

abbrev pub has_end : List Cell → Join → Bool
has_end h j = none_or (λ (e : JoinEnd). has_outcome h e.outcome) j.ended

abbrev pub has_outcomes : Image → ImageThread → Bool
has_outcomes i t = list_all (has_end i.cells) (joins_of t.wait)

-- its request is open, and its own
abbrev pub is_own : ℕ → Option OpenRequest → Bool
is_own n None = false
is_own n (Some q) = nat_eq q.thread n

abbrev pub asked : Image → ℕ → Option OpenRequest
asked i r = numbered (λ (q : OpenRequest). q.number) r i.requests

abbrev pub has_request : Image → ℕ → Wait → Bool
has_request i n (RequestWait r) = is_own n (asked i r)
has_request i n w = true

-- Its context is that of its parent, and then that of its own open bodies; what it holds is held.
abbrev pub context_in : Option ImageThread → Context
context_in None = bare
context_in (Some t) = t.context

abbrev pub context_above : Image → Option ℕ → Context
context_above i None = bare
context_above i (Some p) = context_in (thread_of i p)

abbrev pub bodies : (FrameKind → Bool) → List ImageFrame → ℕ
bodies test fs = length (filter (λ f. test (kind_of f.kind)) fs)

abbrev pub is_held : Image → ℕ → Bool
is_held i r = is_some (numbered (λ (x : Held). x.request) r i.held)

abbrev pub goes_on : List ℕ → ℕ → ImageThread → Bool
goes_on held folders t =
    pointwise nat_eq (take (length held) t.context.held) held
    && (nat_eq (length t.context.held) (length held + bodies holds_executor t.frames)
    && nat_eq (length t.context.folders) (folders + bodies holds_folder t.frames))

abbrev pub has_context : Image → ImageThread → Bool
has_context i t = goes_on (context_above i t.parent).held (length (context_above i t.parent).folders) t && list_all (is_held i) t.context.held

-- Its number rises, its parent waits for it, and it waits for branches of its own, of which none stands twice and one has not
-- ended.
abbrev pub is_open : Join → Bool
is_open j = not (is_some j.ended)

abbrev pub is_open_branch : ℕ → Join → Bool
is_open_branch n j = nat_eq j.thread n && is_open j

abbrev pub awaits : ℕ → Option ImageThread → Bool
awaits n None = false
awaits n (Some t) = list_any (is_open_branch n) (joins_of t.wait)

abbrev pub has_parent : Image → ℕ → Option ℕ → Bool
has_parent i n None = nat_eq n 0
has_parent i n (Some p) = nat_lt p n && awaits n (thread_of i p)

abbrev pub is_number : ℕ → Option ℕ → Bool
is_number n None = false
is_number n (Some p) = nat_eq p n

abbrev pub is_child : ℕ → Option ImageThread → Bool
is_child n None = false
is_child n (Some t) = is_number n t.parent

abbrev pub has_branch : Image → ℕ → Join → Bool
has_branch i n j = is_some j.ended || is_child n (thread_of i j.thread)

abbrev pub has_branches : Image → ℕ → Wait → Bool
has_branches i n (Branches js) = list_all (has_branch i n) js && (list_any is_open js && all_differ (map (λ j. j.thread) js))
has_branches i n w = true

abbrev pub has_place : Image → Option ImageThread → ImageThread → Bool
has_place i before t = is_higher (option_map (λ u. u.number) before) t.number && (has_parent i t.number t.parent && has_branches i t.number t.wait)

-- What may stand directly inside a frame at a spot: the next frame, or the wait.
abbrev pub may_be_asked : Spot → Option OpenRequest → Bool
may_be_asked at None = true
may_be_asked at (Some q) = may_ask at q.request

abbrev pub is_for_branches : Spot → Bool
is_for_branches For_branches = true
is_for_branches at = false

abbrev pub may_wait : Image → Wait → Spot → Bool
may_wait i (RequestWait r) at = may_be_asked at (asked i r)
may_wait i (Branches js) at = is_for_branches at
may_wait i (Ready x) at = true

abbrev pub next_fits : Term → Image → Wait → List ImageFrame → Spot → Bool
next_fits root i w [] at = may_wait i w at
next_fits root i w (f ∷ fs) at = may_stand_at root f at

-- a fault of a frame in a thread
abbrev pub check_of : FrameFault → CheckKind
check_of fault.Kind = check.Kind
check_of fault.Node = check.Node
check_of fault.Place = check.At
check_of fault.Values = check.Values
check_of fault.Cell = check.MissingCell
check_of fault.Name = check.Name

abbrev pub told_in : ℕ → ℕ → Option FrameFault → Option Finding
told_in thread place None = None
told_in thread place (Some k) = Some (in_frame thread place (check_of k))

-- the first fault of a frame with these behind it
abbrev pub fault_at : Term → Image → ImageThread → ℕ → ImageFrame → List ImageFrame → Option Finding
fault_at root i t place f fs =
    told_in t.number place (frame_fault root i.cells (length i.nodes) (none_or (next_fits root i t.wait fs) (spot_inside root f)) f)

-- the first fault of the frames, the outermost first
abbrev pub frames_fault : Term → Image → ImageThread → ℕ → List ImageFrame → Option Finding
frames_fault root i t place [] = None
frames_fault root i t place (f ∷ fs) =
    fault_at root i t place f fs then frames_fault root i t (suc place) fs

-- the first fault of a thread: outside its frames, and then in them
abbrev pub thread_tests : Term → Image → Option ImageThread → ImageThread → Option Finding
thread_tests root i before t =
    need (begins root t) (in_thread t.number check.Kind)
    then (need (has_nodes i t) (in_thread t.number check.Node)
    then (need (has_outcomes i t) (in_thread t.number check.MissingCell)
    then (need (has_request i t.number t.wait) (in_thread t.number check.Request)
    then (need (has_context i t) (in_thread t.number check.Executor)
    then (need (has_place i before t) (in_thread t.number check.Parent)
    then frames_fault root i t 0 t.frames)))))

abbrev pub thread_fault : Term → Image → ℕ → Option ImageThread → ImageThread → Option Finding
thread_fault root i place before t = thread_tests root i before t

-- the requests of the `node` bodies that a thread has opened itself
abbrev pub own_held : Image → ImageThread → List ℕ
own_held i t = drop (length (context_above i t.parent).held) t.context.held

abbrev pub all_own : Image → List ImageThread → List ℕ
all_own i [] = []
all_own i (t ∷ ts) = own_held i t ++ all_own i ts

-- a build that has not ended has its main thread
abbrev pub has_main : Image → Bool
has_main i = i.ended || is_some (thread_of i 0)
