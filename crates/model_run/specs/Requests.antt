-- What becomes of the requests of a build and of its held executors (this product's own): requests are numbered in the order in which
-- they are made, no number is given twice, and what is asked stays as it is while the request is open.
use Rattle.std.specs.Prelude.{◌≡◌, ◌≤◌, ◌⊎◌, ℕ, Bool, List, ◌++◌, map, filter}
use Rattle.std.specs.List.{AllByRecursion as AllAre}
use Rattle.model_run.specs.RunTypes.{Request, NodeRequest, TaskRequest, InputRequest, OpenRequest, Held, Site, Event, GrantedEvent, ExitedEvent, LostEvent, DecidedEvent}
use Rattle.model_run.specs.State.{Common}
use Rattle.model_run.specs.FlowNodes.{IsFront}
use Rattle.model_run.specs.Fitting.{Rise, Rises, Distinct, Some_of, HeldFits}

abbrev pub numbers_of : List OpenRequest → List ℕ
numbers_of rs = map (λ r. r.number) rs

-- An evaluation puts new requests behind those that are open, with numbers from the next one on.
pub record AsksMore (u v : Common) : Type 0 where
  pub next : u.next_request ≤ v.next_request
  pub new : List OpenRequest
  pub requests : v.requests ≡ u.requests ++ new
  pub numbers : Rise u.next_request v.next_request (numbers_of new)

-- Of the held executors it keeps some.
abbrev pub KeepsSome : List Held → List Held → Type 0
KeepsSome old new = (keep : Held → Bool) × (new ≡ filter keep old)

-- Open requests have rising numbers from 1 on, below the next one. Held executors rise too, each is one of the site's, and each has a request
-- of its own, which is no longer open.
pub record RequestsFit (site : Site) (u : Common) : Type 0 where
  pub some : 1 ≤ u.next_request
  pub requests : Rise 1 u.next_request (numbers_of u.requests)
  pub rising : Rises (map (λ x. x.executor) u.held)
  pub held : AllAre (HeldFits site u) u.held
  pub differ : Distinct (map (λ x. x.request) u.held)

-- the same request, but for what was taken of a task's output, and what came to the output that is kept
abbrev pub SameRequest : Request → Request → Type 0
SameRequest (NodeRequest label) (NodeRequest l) = label ≡ l
SameRequest (TaskRequest executor workspace folder env script status keep_out taken out) (TaskRequest x w f e s st k t o) =
    (executor ≡ x) × (workspace ≡ w) × (folder ≡ f) × (env ≡ e) × (script ≡ s) × (status ≡ st) × (keep_out ≡ k) × IsFront out o
SameRequest (InputRequest id) (InputRequest i) = id ≡ i
SameRequest r q = ⊥

pub record IsSame (old new : OpenRequest) : Type 0 where
  pub number : old.number ≡ new.number
  pub thread : old.thread ≡ new.thread
  pub request : SameRequest old.request new.request

-- From open requests to those of later: one that is open then with the number of one from before is the same, but for what was taken of its
-- output, and what came to the output that is kept.
abbrev pub RequestsStay : List OpenRequest → List OpenRequest → Type 0
RequestsStay before now = AllAre (λ (r : OpenRequest). AllAre (λ (q : OpenRequest). q.number ≡ r.number → IsSame q r) before) now

-- a request that is open now was open before, or its number is new
abbrev pub WasOpen : Common → OpenRequest → Type 0
WasOpen before r = Some_of (λ q. IsSame q r) before.requests ⊎ (before.next_request ≤ r.number)

-- from a state to one that comes later
pub record RequestsGoOn (before now : Common) : Type 0 where
  pub next : before.next_request ≤ now.next_request
  pub were : AllAre (WasOpen before) now.requests

-- request n is open
abbrev pub IsOpenRequest : ℕ → Common → Type 0
IsOpenRequest n u = Some_of (λ r. r.number ≡ n) u.requests

abbrev pub RunsOn : ℕ → Request → Type 0
RunsOn executor (TaskRequest x workspace folder env script status keep_out taken out) = x ≡ executor
RunsOn executor r = ⊥

-- it is a task of this executor
abbrev pub IsTaskOf : ℕ → ℕ → Common → Type 0
IsTaskOf executor n u = Some_of (λ r. (r.number ≡ n) × RunsOn executor r.request) u.requests

-- the events that close request n where they are accepted
abbrev pub Closes : ℕ → Event → Type 0
Closes n (GrantedEvent request executor) = request ≡ n
Closes n (ExitedEvent task code) = task ≡ n
Closes n (LostEvent task why) = task ≡ n
Closes n (DecidedEvent request proceed name) = request ≡ n
Closes n e = ⊥
