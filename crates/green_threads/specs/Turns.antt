-- One turn of the thread that goes on next, as the parts of the code tell it to one another.
use Rattle.std.specs.Prelude.{◌≡◌, ◌≤◌, ◌<◌, ℕ, suc, ◌+◌, Bool, List, Option, Some, None}
use Rattle.green_threads.specs.WaitTypes.{Answer, Ready, RequestWait}
use Rattle.green_threads.specs.declared.runner.Stop.{Stop}
use Rattle.green_threads.specs.declared.runner.Seated.{Seated}
use Rattle.green_threads.specs.declared.settled.Settled.{Settled}
use Rattle.green_threads.specs.declared.settled.Settled.TheVariants.{AllWait}
use Rattle.green_threads.specs.Threads.{Threads, Turn, first_ready, turned_seat, turned, GoesOn, WithinLimit}
use Rattle.green_threads.specs.Resuming.{Lowers, Begins, Keeps}
use Rattle.green_threads.specs.Grouping.{Grouped, ready_count}
use Rattle.green_threads.specs.Order.{Settles}

-- What a kind of threads means: the ghost functions of `Runner`.
pub record Rules (T S : Type 0) : Type 1 where
  pub number : T → ℕ
  pub parent : T → Option ℕ
  pub branch : T → Bool
  pub head : T → ℕ
  pub seated : T → ℕ → Option ℕ → T
  pub room : S → ℕ
  pub fits : List (Seated T) → S → Type 0
  pub turns : T → S → Answer → Stop T → T → S → Type 0

abbrev pub rules : {T S : Type 0} → (T → ℕ) → (T → Option ℕ) → (T → Bool) → (T → ℕ) → (T → ℕ → Option ℕ → T) → (S → ℕ) → (List (Seated T) → S → Type 0) → (T → S → Answer → Stop T → T → S → Type 0) → Rules T S
rules number parent branch head seated room fits turns =
    record { number = number; parent = parent; branch = branch; head = head; seated = seated; room = room; fits = fits; turns = turns }

abbrev pub InGroup : {T S : Type 0} → Rules T S → Threads T → Type 0
InGroup r g = Grouped r.number r.parent r.branch 0 g.seats g.next

-- A thread in its seat has been resumed with the answer that it was ready with, and its wait is taken away.
pub record Resumed {T S : Type 0} (r : Rules T S) (x : Seated T) (s : S) (stopped : Stop T) (x' : Seated T) (s' : S) : Type 0 where
  pub answer : Answer
  pub was : x.wait ≡ Ready answer
  pub seat : x' ≡ turned_seat (RequestWait 0) x'.thread x
  pub turns_so : r.turns x.thread s answer stopped x'.thread s'
  pub lowers : Lowers stopped (r.branch x.thread) (r.room s) (r.room s')
  pub begins : Begins r.branch stopped
  pub keeps : Keeps r.seated r.head r.fits x.thread s answer stopped x'.thread s'
  pub number_same : r.number x'.thread ≡ r.number x.thread
  pub parent_same : r.parent x'.thread ≡ r.parent x.thread
  pub branch_same : r.branch x'.thread ≡ r.branch x.thread

-- One turn after which the threads go on.
pub record OneTurn {T S : Type 0} (limit : ℕ) (r : Rules T S) (g : Threads T) (s : S) (g' : Threads T) (s' : S) : Type 0 where
  pub turn : Turn T
  pub stopped : Stop T
  pub thread : T
  pub first : first_ready g.seats ≡ Some turn
  pub turns_so : r.turns turn.seat.thread s turn.answer stopped thread s'
  pub goes_on : GoesOn turn.seat.parent stopped
  pub within_limit : WithinLimit limit g.seats stopped
  pub threads : g' ≡ turned r.seated r.head g turn.seat stopped thread
  pub grouped : InGroup r g'
  pub fitting : r.fits g'.seats s'
  pub bounded : g'.next + r.room s' ≤ g.next + r.room s
  pub smaller : r.room s' + ready_count g'.seats < r.room s + ready_count g.seats

-- All is over after one turn.
pub record LastTurn {T S : Type 0} (limit : ℕ) (r : Rules T S) (g : Threads T) (s : S) (out : Settled) (g' : Threads T) (s' : S) : Type 0 where
  pub settles : (n : ℕ) → Settles limit r.seated r.head r.turns (suc n) g s out g' s'
  pub over : out ≡ AllWait → ⊥
  pub grouped : InGroup r g'
  pub bounded : g'.next + r.room s' ≤ g.next + r.room s
  pub ready : 1 ≤ ready_count g.seats

abbrev pub Advances : {T S : Type 0} → ℕ → Rules T S → Threads T → S → Option Settled → Threads T → S → Type 0
Advances limit r g s None g' s' = OneTurn limit r g s g' s'
Advances limit r g s (Some out) g' s' = LastTurn limit r g s out g' s'
