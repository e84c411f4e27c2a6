-- What a build keeps between two events (this product's own).
use Rattle.std.specs.Prelude.{◌≡◌, ℕ, ◌+◌, ◌-◌, ◌≤◌, ◌⊎◌, Bool, true, List, [], ◌∷◌, ◌++◌, length, map, filter, drop, Option, Some, None}
use Rattle.std.specs.List.{AllByRecursion as AllAre}
use Rattle.model_run.specs.declared.wait.Wait.{Wait}
use Rattle.model_run.specs.declared.wait.Wait.TheVariants.{Ready, Request as RequestWait, Branches as BranchesWait}
use Rattle.model_run.specs.declared.context.Context.{Context}
use Rattle.model_run.specs.declared.held.Held.{Held}
use Rattle.model_run.specs.State.{Setting, Common, Result, Ended, Waits, Limited, Unfinished}
use Rattle.model_run.specs.Steps.{held_for}
use Rattle.model_run.specs.Threads.{Thread, stands}
use Rattle.model_run.specs.Fitting.{NotReady, Distinct, Some_of, concat_map, granted_request, own_held_of, holds_executor, holds_folder, Seat, seat_at, seats_of, context_above}
use Rattle.model_run.specs.World.{Build}
use Rattle.world_laws.specs.Agreement.{Place, places}

-- how many flow nodes may still be made
abbrev pub nodes_left : Setting → Common → ℕ
nodes_left g u = g.limits.flow_nodes - length u.nodes

-- A thread that is ready has one turn to come, and so has one that waits for its branches: when the last of them has ended.
abbrev pub turns_to_come : Wait → ℕ
turns_to_come (Ready x) = 1
turns_to_come (RequestWait r) = 0
turns_to_come (BranchesWait js) = 1

abbrev pub branches_to_end : Wait → ℕ
branches_to_end (Ready x) = 0
branches_to_end (RequestWait r) = 0
branches_to_end (BranchesWait js) = 1

abbrev pub sum_of : (Wait → ℕ) → List Place → ℕ
sum_of f [] = 0
sum_of f (p ∷ ps) = f p.wait + sum_of f ps

-- Each wait for branches has made a flow node of its own; and so has each thread.
pub record Bounded (g : Setting) (b : Build) : Type 0 where
  pub waits : sum_of branches_to_end (places b.threads) + nodes_left g b.shared ≤ g.limits.flow_nodes
  pub threads : b.next_thread ≤ length b.shared.nodes

-- no thread is about to go on
abbrev pub Rests : Build → Type 0
Rests b = AllAre (λ t. NotReady t.wait) b.threads

-- A thread with its contexts: around it as it began, and now.
pub record Room : Type 0 where
  pub number : ℕ
  pub parent : Option ℕ
  pub wait : Wait
  pub around : Context
  pub now : Context

abbrev pub room_of : Setting → Thread → Room
room_of g t = record { number = t.own.number; parent = t.parent; wait = t.wait; around = t.own.context; now = (seat_at t (stands g t)).context }

abbrev pub rooms : Setting → List Thread → List Room
rooms g ts = map (room_of g) ts

-- the requests of its own open `node` bodies, which stand behind those around it; and with them that of the one that it is about to open
abbrev pub mine : Room → List ℕ
mine q = drop (length q.around.held) q.now.held

abbrev pub stands_for : List Held → Room → List ℕ
stands_for held q = mine q ++ granted_request held q.wait

-- the executor of a request is held
abbrev pub IsHeld : List Held → ℕ → Type 0
IsHeld held r = held_for r held ≡ None → ⊥

-- around a branch is what is open in its parent now, and around the main thread there is nothing
abbrev pub AroundIs : List Room → Context → Option ℕ → Type 0
AroundIs rs c None = (c.held ≡ []) × (c.folders ≡ [])
AroundIs rs c (Some m) = Some_of (λ p. (p.number ≡ m) × (p.now ≡ c)) rs

-- Threads and the executors that they hold.
pub record Holding (xs : List Held) (rs : List Room) : Type 0 where
  pub around : AllAre (λ q. AroundIs rs q.around q.parent) rs
  pub held : AllAre (λ q. AllAre (IsHeld xs) q.now.held) rs
  pub differ : Distinct (concat_map (stands_for xs) rs)

-- What a sound build asks of contexts and held executors of one thread (`SeatFits`).
pub record SeatHolds (u : Common) (seats : List Seat) (t : Seat) : Type 0 where
  pub own_held : (own : List ℕ) × (t.context.held ≡ (context_above seats t.parent).held ++ own) × (length own ≡ length (filter (λ f. holds_executor f.kind) t.stack))
  pub holds : AllAre (IsHeld u.held) t.context.held
  pub folders : length t.context.folders ≡ length (context_above seats t.parent).folders + length (filter (λ f. holds_folder f.kind) t.stack)

-- and of all threads (`Fits`, `FitsAtRest`)
pub record SeatsHold (g : Setting) (b : Build) : Type 0 where
  pub rests : AllAre (λ t. NotReady t.wait) (seats_of g b.threads)
  pub few_threads : b.next_thread ≤ 100000000 + length b.shared.nodes
  pub threads : AllAre (SeatHolds b.shared (seats_of g b.threads)) (seats_of g b.threads)
  pub differ : Distinct (concat_map (own_held_of b.shared (seats_of g b.threads)) (seats_of g b.threads))

-- Of these held executors at most those of these requests are given back, and none else is held.
abbrev pub ReleasesOf : List ℕ → List Held → List Held → Type 0
ReleasesOf own old new = (keep : Held → Bool) × (new ≡ filter keep old) × AllAre (λ x. Some_of (λ r. r ≡ x.request) own ⊎ (keep x ≡ true)) old

-- a turn that began with these held executors has given back at most those of these requests, unless it has ended the build at a limit
abbrev pub GivesBack : List ℕ → List Held → Result → Type 0
GivesBack own old (Ended e s) = ReleasesOf own old s.world.shared.held
GivesBack own old (Waits asked path s) = ReleasesOf own old s.world.shared.held
GivesBack own old (Limited k s) = Unit {0}
GivesBack own old Unfinished = Unit {0}
