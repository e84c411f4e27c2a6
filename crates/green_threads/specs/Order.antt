-- The order in which the threads of a group go on.
use Rattle.std.specs.Prelude.{◌≡◌, ◌<◌, ℕ, suc, ◌+◌, List, length, Option, Some, None}
use Rattle.green_threads.specs.WaitTypes.{LimitKind, GreenThreads, Answer, Wait, Outcome}
use Rattle.green_threads.specs.declared.runner.Stop.{Stop}
use Rattle.green_threads.specs.declared.runner.Stop.TheVariants as stop
use Rattle.green_threads.specs.declared.runner.NewBranch.{NewBranch}
use Rattle.green_threads.specs.declared.settled.Settled.{Settled}
use Rattle.green_threads.specs.declared.settled.Settled.TheVariants.{AllWait, Ended, Limit}
use Rattle.green_threads.specs.Threads.{Threads, Turn, first_ready, with_seat, turned_seat, turned, GoesOn, WithinLimit}
use Rattle.green_threads.specs.Grouping.{ready_count}

-- The threads where all is over after the turn of this one, which is t then: the others are as they were, and what it waits
-- for is open.
abbrev pub over : {T : Type 0} → Threads T → Turn T → Wait → T → Threads T
over g u w t = record { seats = with_seat (turned_seat w t) u.seat.number g.seats; next = g.next }

-- Turn by turn the lowest-numbered ready thread goes on with its answer over the shared state as it is then, until none is
-- ready, the thread without a parent has ended, a limit was met, or more threads would live than may live at once. That
-- takes at most n turns. `turns` says what a turn of one thread comes to.
pub data Settles {T S : Type 0} (limit : ℕ) (seated : T → ℕ → Option ℕ → T) (head : T → ℕ) (turns : T → S → Answer → Stop T → T → S → Type 0) : ℕ → Threads T → S → Settled → Threads T → S → Type 0 where
  all_wait : (n : ℕ) (g : Threads T) (s : S) → first_ready g.seats ≡ None → Settles limit seated head turns n g s AllWait g s
  next_turn : (n : ℕ) (g g' : Threads T) (s s' s'' : S) (u : Turn T) (stopped : Stop T) (t : T) (out : Settled) → first_ready g.seats ≡ Some u → turns u.seat.thread s u.answer stopped t s' → GoesOn u.seat.parent stopped → WithinLimit limit g.seats stopped → Settles limit seated head turns n (turned seated head g u.seat stopped t) s' out g' s'' → Settles limit seated head turns (suc n) g s out g' s''
  ends : (n : ℕ) (g : Threads T) (s s' : S) (u : Turn T) (o : Outcome) (t : T) (w : Wait) → first_ready g.seats ≡ Some u → turns u.seat.thread s u.answer (stop.Ended o) t s' → u.seat.parent ≡ None → Settles limit seated head turns (suc n) g s (Ended o) (over g u w t) s'
  limit_met : (n : ℕ) (g : Threads T) (s s' : S) (u : Turn T) (k : LimitKind) (t : T) (w : Wait) → first_ready g.seats ≡ Some u → turns u.seat.thread s u.answer (stop.Limit k) t s' → Settles limit seated head turns (suc n) g s (Limit k) (over g u w t) s'
  too_many : (n : ℕ) (g : Threads T) (s s' : S) (u : Turn T) (bs : List (NewBranch T)) (t : T) (w : Wait) → first_ready g.seats ≡ Some u → turns u.seat.thread s u.answer (stop.Forks bs) t s' → limit < length g.seats + length bs → Settles limit seated head turns (suc n) g s (Limit GreenThreads) (over g u w t) s'

-- At most so many turns are made until all have come to rest: one for each ready thread, and one for each branch that
-- still begins or whose end lets its parent go on.
abbrev pub turns_left : {T S : Type 0} → (S → ℕ) → Threads T → S → ℕ
turns_left room g s = room s + ready_count g.seats
