-- The green threads of a group, which of them goes on next, and what becomes of all of them where it has stopped. Each
-- definition goes by the numbers of threads, as the world of a build does (`model_run`, `World`).
use Rattle.std.specs.Prelude.{◌≤◌, ℕ, suc, ◌+◌, nat_eq, Bool, true, false, not, if◌then◌else◌, List, [], ◌∷◌, ◌++◌, length, map, filter, Option, Some, None}
use Rattle.green_threads.specs.WaitTypes.{Answer, Begin, Wait, Ready, RequestWait, BranchesWait, Join, Outcome}
use Rattle.model_run.specs.World.{join_wait}
use Rattle.green_threads.specs.declared.runner.Stop.{Stop}
use Rattle.green_threads.specs.declared.runner.Stop.TheVariants as stop
use Rattle.green_threads.specs.declared.runner.NewBranch.{NewBranch}
use Rattle.green_threads.specs.declared.runner.Seated.{Seated}

-- What contracts see of a group: its threads by rising numbers, and the number that the next new thread gets.
pub record Threads (T : Type 0) : Type 0 where
  pub seats : List (Seated T)
  pub next : ℕ

-- A thread that is ready, with the answer with which it goes on.
pub record Turn (T : Type 0) : Type 0 where
  pub seat : Seated T
  pub answer : Answer

-- The thread that goes on next: the lowest-numbered ready one (this product's own order).
abbrev pub turn_if : {T : Type 0} → Seated T → Wait → Option (Turn T) → Option (Turn T)
turn_if x (Ready a) rest = Some (record { seat = x; answer = a })
turn_if x (RequestWait r) rest = rest
turn_if x (BranchesWait js) rest = rest

abbrev pub first_ready : {T : Type 0} → List (Seated T) → Option (Turn T)
first_ready [] = None
first_ready (x ∷ xs) = turn_if x x.wait (first_ready xs)

-- whether a thread waits for the answer to a request
abbrev pub is_request : Wait → Bool
is_request (Ready a) = false
is_request (RequestWait r) = true
is_request (BranchesWait js) = false

abbrev pub waits_for_request : {T : Type 0} → ℕ → List (Seated T) → Bool
waits_for_request n [] = false
waits_for_request n (x ∷ xs) = if nat_eq x.number n then is_request x.wait else waits_for_request n xs

-- A change of the thread of this number.
abbrev pub seat_if : {T : Type 0} → (Seated T → Seated T) → ℕ → Seated T → Seated T
seat_if g n x = if nat_eq x.number n then g x else x

abbrev pub with_seat : {T : Type 0} → (Seated T → Seated T) → ℕ → List (Seated T) → List (Seated T)
with_seat g n xs = map (seat_if g n) xs

-- all threads but the one of this number
abbrev pub without_seat : {T : Type 0} → ℕ → List (Seated T) → List (Seated T)
without_seat n xs = filter (λ x. not (nat_eq x.number n)) xs

-- the same thread, which waits for this
abbrev pub waits_as : {T : Type 0} → Wait → Seated T → Seated T
waits_as w x = record { number = x.number; parent = x.parent; wait = w; thread = x.thread }

-- the same thread in its seat, marked; and all threads of a group
abbrev pub marked_in : {T : Type 0} → (T → T) → Seated T → Seated T
marked_in marked x = record { number = x.number; parent = x.parent; wait = x.wait; thread = marked x.thread }

abbrev pub marked_group : {T : Type 0} → (T → T) → Threads T → Threads T
marked_group marked g = record { seats = map (marked_in marked) g.seats; next = g.next }

-- the thread after its turn, which waits for this
abbrev pub turned_seat : {T : Type 0} → Wait → T → Seated T → Seated T
turned_seat w t x = record { number = x.number; parent = x.parent; wait = w; thread = t }

-- What a parent waits for where its branch of this number has ended with this last flow node and this outcome. Where it was
-- the last of them, the parent is ready with the ends of all, in the order of the branches (Jenkins: `parallel` goes on
-- when every branch has ended).
abbrev pub joined_seat : {T : Type 0} → ℕ → ℕ → Outcome → Seated T → Seated T
joined_seat n node o x = waits_as (join_wait n node o x.wait) x

-- A thread that forks waits for its branches, which get the numbers from n on in their order.
abbrev pub new_joins : {T : Type 0} → ℕ → List (NewBranch T) → List Join
new_joins n [] = []
new_joins n (b ∷ bs) = record { name = b.name; thread = n; ended = None } ∷ new_joins (suc n) bs

-- The branches themselves, ready to begin. `seated` gives a thread its number and its parent.
abbrev pub new_seats : {T : Type 0} → (T → ℕ → Option ℕ → T) → ℕ → ℕ → List (NewBranch T) → List (Seated T)
new_seats seated parent n [] = []
new_seats seated parent n (b ∷ bs) =
    record { number = n; parent = Some parent; wait = Ready Begin; thread = seated b.thread n (Some parent) } ∷ new_seats seated parent (suc n) bs

-- A branch that has ended is no longer there, and its parent has its end.
abbrev pub ended_branch : {T : Type 0} → ℕ → ℕ → Outcome → Option ℕ → List (Seated T) → List (Seated T)
ended_branch n node o None xs = without_seat n xs
ended_branch n node o (Some parent) xs = with_seat (joined_seat n node o) parent (without_seat n xs)

-- The threads where this one has had its turn, stopped so and is now t. `head` is the last flow node of a thread.
abbrev pub turned : {T : Type 0} → (T → ℕ → Option ℕ → T) → (T → ℕ) → Threads T → Seated T → Stop T → T → Threads T
turned seated head g x (stop.Waits r) t = record { seats = with_seat (turned_seat (RequestWait r) t) x.number g.seats; next = g.next }
turned seated head g x (stop.Forks bs) t = record {
  seats = with_seat (turned_seat (BranchesWait (new_joins g.next bs)) t) x.number g.seats ++ new_seats seated x.number g.next bs;
  next = g.next + length bs;
}
turned seated head g x (stop.Ended o) t = record { seats = ended_branch x.number (head t) o x.parent g.seats; next = g.next }
turned seated head g x (stop.Limit k) t = g

-- Whether the other threads go on after this stop of a thread with this parent: they do not where a limit was met, nor
-- where the thread without a parent has ended.
abbrev pub HasParent : Option ℕ → Type 0
HasParent None = ⊥
HasParent (Some p) = Unit {0}

abbrev pub GoesOn : {T : Type 0} → Option ℕ → Stop T → Type 0
GoesOn p (stop.Waits r) = Unit {0}
GoesOn p (stop.Forks bs) = Unit {0}
GoesOn p (stop.Ended o) = HasParent p
GoesOn p (stop.Limit k) = ⊥

-- this product's own: at most so many threads live at once
abbrev pub WithinLimit : {T : Type 0} → ℕ → List (Seated T) → Stop T → Type 0
WithinLimit limit xs (stop.Waits r) = Unit {0}
WithinLimit limit xs (stop.Forks bs) = length xs + length bs ≤ limit
WithinLimit limit xs (stop.Ended o) = Unit {0}
WithinLimit limit xs (stop.Limit k) = Unit {0}
