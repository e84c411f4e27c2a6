-- The queue's own lists: who holds an executor, the first waiting request that a free one fits, and the first such executor.
use Rattle.std.specs.Prelude.{ℕ, nat_eq, Bool, true, false, not, ◌&&◌, if◌then◌else◌, List, [], ◌∷◌, map, find, Option, Some, None}
use Rattle.std.specs.List.{list_any}
use Rattle.std.specs.Option.{option_map}
use Rattle.label_expr.specs.declared.condition.LabelExpr.{LabelExpr}
use Rattle.label_expr.specs.Conditions.{fits}
use Rattle.model_run.specs.declared.held.Held.{Held}
use Rattle.agent_queue.specs.declared.seat.Seat.{Seat}
use Rattle.agent_queue.specs.declared.seat.Asked.{Asked}

-- no request holds it
abbrev pub is_free : Option ℕ → Bool
is_free None = true
is_free (Some request) = false

-- this request holds it
abbrev pub is_holder : Option ℕ → ℕ → Bool
is_holder None request = false
is_holder (Some holder) request = nat_eq holder request

-- the executor of this number
abbrev pub is_number : ℕ → Seat → Bool
is_number number seat = nat_eq seat.number number

-- not this request
abbrev pub is_other : ℕ → Asked → Bool
is_other request asked = not (nat_eq asked.request request)

-- the executor of this number, now held by this request
abbrev pub held_by : ℕ → ℕ → Seat → Seat
held_by number request seat = if is_number number seat then record seat { holder = Some request } else seat

-- an executor that this request held is free
abbrev pub freed_by : ℕ → Seat → Seat
freed_by request seat = if is_holder seat.holder request then record seat { holder = None } else seat

-- each held executor is held by its request
abbrev pub hold_each : List Held → List Seat → List Seat
hold_each [] seats = seats
hold_each (h ∷ held) seats = hold_each held (map (held_by h.executor h.request) seats)

-- the first held executor that is none of these
abbrev pub first_missing : List Held → List Seat → Option ℕ
first_missing held seats = option_map (λ h. h.executor) (find (λ h. not (list_any (is_number h.executor) seats)) held)

-- it is free and the label fits it
abbrev pub takes : LabelExpr → Seat → Bool
takes expr seat = is_free seat.holder && fits seat.labels expr

-- the first free executor that a label fits
abbrev pub free_seat : LabelExpr → List Seat → Option ℕ
free_seat expr seats = option_map (λ seat. seat.number) (find (takes expr) seats)

-- a request with its executor, where there is one, before another grant
abbrev pub or_next : ℕ → Option ℕ → Option (ℕ × ℕ) → Option (ℕ × ℕ)
or_next request None other = other
or_next request (Some number) other = Some (request, number)

-- the first waiting request that a free executor fits, with the first such executor
abbrev pub next : List Seat → List Asked → Option (ℕ × ℕ)
next seats [] = None
next seats (a ∷ waiting) = or_next a.request (free_seat a.expr seats) (next seats waiting)
