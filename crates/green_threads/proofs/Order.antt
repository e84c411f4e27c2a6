-- What settles from here settles from the start.
use Rattle.std.proofs.Common.{[], ◌∷◌, ◌≡◌, ℕ, zero, suc, ◌+◌, ◌≤◌, List, Option, Some, None, refl, subst, ap, arith}
use Rattle.green_threads.specs.WaitTypes.{Wait, Ready, RequestWait, BranchesWait, Answer, GreenThreads}
use Rattle.green_threads.specs.declared.runner.Stop.{Stop}
use Rattle.green_threads.specs.declared.runner.Seated.{Seated}
use Rattle.green_threads.specs.declared.settled.Settled.{Settled}
use Rattle.green_threads.specs.declared.settled.Settled.TheVariants.{AllWait, Ended, Limit}
use Rattle.green_threads.specs.Threads.{Threads, turn_if, with_seat, turned_seat, turned, first_ready}
use Rattle.green_threads.specs.Grouping.{one_ready, ready_count}
use Rattle.green_threads.specs.Order.{Settles, turns_left, all_wait, next_turn, ends, limit_met, too_many}
use Rattle.green_threads.specs.Places.{ready_place}
use Rattle.green_threads.specs.Turns.{Rules, OneTurn, LastTurn, Advances}
use Rattle.green_threads.proofs.Seats.{none_ready}

module _ {T S : Type 0} (limit : ℕ) (seated : T → ℕ → Option ℕ → T) (head : T → ℕ) (turns : T → S → Answer → Stop T → T → S → Type 0) where
  one_less : (n m : ℕ) → suc n ≤ m → (k : ℕ) × (suc k ≡ m) × (n ≤ k)
  one_less n zero le = let f : ⊥ = omega (arith, le) in absurd f
  one_less n (suc m) le = (m, refl, omega (arith, le))

  -- a larger bound changes nothing
  pub more_turns : (n : ℕ) (g : Threads T) (s : S) (out : Settled) (g' : Threads T) (s' : S) → Settles limit seated head turns n g s out g' s' → (m : ℕ) → n ≤ m → Settles limit seated head turns m g s out g' s'
  more_turns _ _ _ _ _ _ (all_wait n g s none) m le = all_wait m g s none
  more_turns _ _ _ _ _ _ (next_turn n g g' s s' s'' u stopped t out first tu more adm rest) m le =
      let k = one_less n m le in
      subst (λ j. Settles limit seated head turns j g s out g' s'') k.1 (next_turn k.0 g g' s s' s'' u stopped t out first tu more adm (more_turns n (turned seated head g u.seat stopped t) s' out g' s'' rest k.0 k.2))
  more_turns _ _ _ _ _ _ (ends n g s s' u o t w first tu par) m le = let k = one_less n m le in subst (λ j. Settles limit seated head turns j g s (Ended o) (record { seats = with_seat (turned_seat w t) u.seat.number g.seats; next = g.next }) s') k.1 (ends k.0 g s s' u o t w first tu par)
  more_turns _ _ _ _ _ _ (limit_met n g s s' u k t w first tu) m le = let j = one_less n m le in subst (λ i. Settles limit seated head turns i g s (Limit k) (record { seats = with_seat (turned_seat w t) u.seat.number g.seats; next = g.next }) s') j.1 (limit_met j.0 g s s' u k t w first tu)
  more_turns _ _ _ _ _ _ (too_many n g s s' u bs t w first tu many) m le = let j = one_less n m le in subst (λ i. Settles limit seated head turns i g s (Limit GreenThreads) (record { seats = with_seat (turned_seat w t) u.seat.number g.seats; next = g.next }) s') j.1 (too_many j.0 g s s' u bs t w first tu many)

module _ {T S : Type 0} (r : Rules T S) where
  abbrev measure : Threads T → S → ℕ
  measure g s = turns_left r.room g s

  pub record Onward (g : Threads T) (s : S) (g' : Threads T) (s' : S) : Type 0 where
    pub by : (out : Settled) (h : Threads T) (u : S) → Settles 256 r.seated r.head r.turns (measure g' s') g' s' out h u → Settles 256 r.seated r.head r.turns (measure g s) g s out h u

  pub onward_here : (g : Threads T) (s : S) → Onward g s g s
  onward_here g s = record { by = λ out h u x. x }

  pub onward_turn : (g g' g'' : Threads T) (s s' s'' : S) → Onward g s g' s' → OneTurn 256 r g' s' g'' s'' → Onward g s g'' s''
  onward_turn g g' g'' s s' s'' on h = record {
    by = λ out k u x. on.by out k u (
        more_turns 256 r.seated r.head r.turns (suc (measure g'' s'')) g' s' out k u
        (next_turn (measure g'' s'') g' k s' s'' u h.turn h.stopped h.thread out h.first h.turns_so h.goes_on h.within_limit (subst (λ (m : Threads T). Settles 256 r.seated r.head r.turns (measure g'' s'') m s'' out k u) h.threads x))
        (measure g' s') (omega (arith, h.smaller)));
  }

  pub turn_of : (g g' : Threads T) (s s' : S) (o : Option Settled) → o ≡ None → Advances 256 r g s o g' s' → OneTurn 256 r g s g' s'
  turn_of g g' s s' None e h = h
  turn_of g g' s s' (Some out) e h = absurd (cc e)

  pub last_of : (g g' : Threads T) (s s' : S) (o : Option Settled) (out : Settled) → o ≡ Some out → Advances 256 r g s o g' s' → LastTurn 256 r g s out g' s'
  last_of g g' s s' o out e h = subst (λ k. Advances 256 r g s k g' s') e h

  pub onward_last : (g g' g'' : Threads T) (s s' s'' : S) (out : Settled) → Onward g s g' s' → LastTurn 256 r g' s' out g'' s'' → Settles 256 r.seated r.head r.turns (measure g s) g s out g'' s''
  onward_last g g' g'' s s' s'' out on h = on.by out g'' s'' (more_turns 256 r.seated r.head r.turns (suc zero) g' s' out g'' s'' (h.settles zero) (measure g' s') (omega (arith, h.ready)))

  pub onward_none : (g g' : Threads T) (s s' : S) → Onward g s g' s' → ready_place g'.seats ≡ None → Settles 256 r.seated r.head r.turns (measure g s) g s AllWait g' s'
  onward_none g g' s s' on e = on.by AllWait g' s' (all_wait (measure g' s') g' s' (none_ready g'.seats e))

-- where all wait, none is ready
count_none : {T : Type 0} (xs : List (Seated T)) → first_ready xs ≡ None → ready_count xs ≡ 0
count_none [] e = refl
count_none (x ∷ xs) e = go (λ k. count_none xs k) x.wait refl e
  where
    go : (first_ready xs ≡ None → ready_count xs ≡ 0) → (w : Wait) → x.wait ≡ w → turn_if x w (first_ready xs) ≡ None → one_ready x.wait + ready_count xs ≡ 0
    go below (Ready a) k q = absurd (cc q)
    go below (RequestWait r) k q = omega (arith, ap one_ready k, below q)
    go below (BranchesWait js) k q = omega (arith, ap one_ready k, below q)

module _ {T S : Type 0} (limit : ℕ) (seated : T → ℕ → Option ℕ → T) (head : T → ℕ) (turns : T → S → Answer → Stop T → T → S → Type 0) where
  pub rested : (n : ℕ) (g : Threads T) (s : S) (out : Settled) (g' : Threads T) (s' : S) → Settles limit seated head turns n g s out g' s' → out ≡ AllWait → ready_count g'.seats ≡ 0
  rested _ _ _ _ _ _ (all_wait n g s none) e = count_none g.seats none
  rested _ _ _ _ _ _ (next_turn n g g' s s' s'' u stopped t out first tu more adm rest) e = rested n (turned seated head g u.seat stopped t) s' out g' s'' rest e
  rested _ _ _ _ _ _ (ends n g s s' u o t w first tu par) e = absurd (cc e)
  rested _ _ _ _ _ _ (limit_met n g s s' u k t w first tu) e = absurd (cc e)
  rested _ _ _ _ _ _ (too_many n g s s' u bs t w first tu many) e = absurd (cc e)
