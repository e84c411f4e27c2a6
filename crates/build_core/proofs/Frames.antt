-- Behind an event the frames that count as untouched are those that stood before it, and a thread that took no turn is the one that stood
-- before it.
use Rattle.std.proofs.Common.{◌≡◌, ◌∙◌, ◌⊎◌, ◌≤◌, ◌<◌, ◌+◌, ℕ, suc, Bool, true, false, List, [], ◌∷◌, length, Option, Some, None, refl, sym, ap, subst, inl, inr, arith}
use Rattle.std.specs.Prelude.{nat_eq, nat_lt, map, filter, if◌then◌else◌}
use Rattle.std.specs.List.{AllByRecursion as AllAre}
use Rattle.std.proofs.lemmas.Bool.{eqb-true, ltb-true, ltb-false}
use Rattle.model_values.proofs.CellGrowth.{all_append}
use Rattle.model_values.proofs.LaterLaws.{all_weaker}
use Rattle.model_values.specs.declared.limit.LimitKind.{LimitKind}
use Rattle.model_values.specs.declared.limit.LimitKind.TheVariants.{LogSize, TextLength}
use Rattle.model_run.specs.Fitting.{Some_of}
use Rattle.model_run.specs.State.{Common}
use Rattle.model_run.specs.Taking.{request_of}
use Rattle.model_run.specs.World as W
use Rattle.model_run.proofs.RequestLaws.{some_all, some_weaker}
use Rattle.green_threads.specs.WaitTypes.{Outcome, Wait, RequestWait, BranchesWait}
use Rattle.green_threads.specs.declared.runner.NewBranch.{NewBranch}
use Rattle.green_threads.specs.declared.runner.Seated.{Seated}
use Rattle.green_threads.specs.declared.runner.Stop.{Stop}
use Rattle.green_threads.specs.declared.runner.Stop.TheVariants as stop
use Rattle.green_threads.specs.declared.settled.Settled.{Settled}
use Rattle.green_threads.specs.declared.settled.Settled.TheVariants.{AllWait, Ended as ScriptEnded, Limit as LimitMet}
use Rattle.green_threads.specs.Grouping.{Grouped}
use Rattle.green_threads.specs.Order.{Settles, all_wait, next_turn, ends, limit_met, too_many, over}
use Rattle.green_threads.specs.Threads.{Threads, Turn, first_ready, turn_if, seat_if, with_seat, without_seat, waits_as, turned_seat, joined_seat, new_joins, new_seats, ended_branch, turned}
use Rattle.green_threads.proofs.Seats.{all_below}
use Rattle.cps_frames.specs.declared.shared.Shared.{Shared}
use Rattle.settle_laws.specs.Stances.{Stance}
use Rattle.script_thread.specs.Events.{EndsNot, answer_by, seats_after, seats_answered, shared_after}
use Rattle.script_thread.specs.Marks.{SameFront, StaysBelow, ThreadsStay}
use Rattle.script_thread.specs.Names.{Answer, Event, StartEvent, GrantedEvent, OutputEvent, ExitedEvent, LostEvent, DecidedEvent, LogStream, OutStream, Ready}
use Rattle.script_thread.proofs.Stays.{stays_itself, stays_further}
use Rattle.build_core.specs.declared.phase.Phase.{Phase}
use Rattle.build_core.specs.declared.phase.Phase.TheVariants.{Unbegun, Running, Ended, Stopped}
use Rattle.build_core.specs.Endings.{IsOver}
use Rattle.build_core.specs.Phases.{SoundIn}
use Rattle.build_core.specs.Taking.{EndsAs, GoesOnBy, Passes, StepsOn}

all_mapped : {A B : Type 0} (P : B → Type 0) (f : A → B) (xs : List A) → AllAre (λ x. P (f x)) xs → AllAre P (map f xs)
all_mapped P f [] h = tt
all_mapped P f (x ∷ xs) h = (h.0, all_mapped P f xs h.1)

all_left : {A : Type 0} (P : A → Type 0) (keep : A → Bool) (xs : List A) → AllAre P xs → AllAre P (filter keep xs)
all_left P keep [] h = tt
all_left P keep (x ∷ xs) h = one (keep x) (all_left P keep xs h.1)
  where
    one : (b : Bool) → AllAre P (filter keep xs) → AllAre P (if b then x ∷ filter keep xs else filter keep xs)
    one true more = (h.0, more)
    one false more = more

-- one of a list
abbrev One : {A : Type 0} → List A → A → Type 0
One xs x = Some_of (λ z. z ≡ x) xs

all_in : {A : Type 0} (xs : List A) → AllAre (One xs) xs
all_in [] = tt
all_in (x ∷ xs) = (inl refl, all_weaker (One xs) (One (x ∷ xs)) (λ y h. inr h) xs (all_in xs))

module _ {T : Type 0} (low : T → ℕ) (touched : T → Bool) (stance : T → Stance) where
  -- the frames of the one thread come from those of the other; where it is not touched it was not, and is the same
  pub record Stays (t t' : T) : Type 0 where
    pub frames : StaysBelow (low t) (stance t).frames (low t') (stance t').frames
    pub same : touched t' ≡ false → (touched t ≡ false) × (stance t' ≡ stance t)

  stays_so : (t : T) → Stays t t
  stays_so t = record { frames = stays_itself (low t) (stance t).frames; same = λ e. (e, refl) }

  stays_on : (t t' t'' : T) → Stays t t' → Stays t' t'' → Stays t t''
  stays_on t t' t'' h k = record {
    frames = stays_further (low t) (stance t).frames (low t') (stance t').frames (low t'') (stance t'').frames h.frames k.frames;
    same = λ e. ((h.same (k.same e).0).0, (k.same e).1 ∙ (h.same (k.same e).0).1);
  }

  -- a turn touches its thread
  stays_turned : (t t' : T) → StaysBelow (low t) (stance t).frames (low t') (stance t').frames → touched t' ≡ true → Stays t t'
  stays_turned t t' h is = record { frames = h; same = λ e. (let never : true ≡ false = sym is ∙ e in absurd (cc never)) }

  same_front : (t t' : T) → Stays t t' → SameFront low touched stance t t'
  same_front t t' h = record { front = h.frames.same; same = λ e. (h.same e).1 }

  -- the thread of this number has stood, or is a new one
  abbrev StoodAs : ℕ → T → Seated T → Type 0
  StoodAs n t x = (x.number ≡ n) × Stays x.thread t

  abbrev HasStood : Threads T → ℕ → T → Type 0
  HasStood g n t = (g.next ≤ n) ⊎ Some_of (StoodAs n t) g.seats

  abbrev Stood : Threads T → Seated T → Type 0
  Stood g y = HasStood g y.number y.thread

  -- Each thread now is one of those before, or is new.
  pub record Chain (g g' : Threads T) : Type 0 where
    pub next : g.next ≤ g'.next
    pub stood : AllAre (Stood g) g'.seats

  stood_by : (g : Threads T) (x : Seated T) (n : ℕ) (t : T) → One g.seats x → x.number ≡ n → Stays x.thread t → HasStood g n t
  stood_by g x n t there number stays =
      inr (some_weaker (λ z. z ≡ x) (StoodAs n t) (λ z is. (ap (λ (y : Seated T). y.number) is ∙ number, subst (λ (y : Seated T). Stays y.thread t) (sym is) stays)) g.seats there)

  all_stand : (g : Threads T) → AllAre (Stood g) g.seats
  all_stand g = all_weaker (One g.seats) (Stood g) (λ x there. stood_by g x x.number x.thread there refl (stays_so x.thread)) g.seats (all_in g.seats)

  chain_itself : (g : Threads T) → Chain g g
  chain_itself g = record { next = omega arith; stood = all_stand g }

  chain_on : (g h k : Threads T) → Chain g h → Chain h k → Chain g k
  chain_on g h k c d = record { next = omega (arith, c.next, d.next); stood = all_weaker (Stood h) (Stood g) (λ y. from y) k.seats d.stood }
    where
      further : (y x : Seated T) → Stood g x → StoodAs y.number y.thread x → Stood g y
      further y x (inl new) so = inl (omega (arith, new, so.0))
      further y x (inr some) so =
          inr (some_weaker (StoodAs x.number x.thread) (StoodAs y.number y.thread)
          (λ z was. (was.0 ∙ so.0, stays_on z.thread x.thread y.thread was.1 so.1)) g.seats some)

      from : (y : Seated T) → Stood h y → Stood g y
      from y (inl new) = inl (omega (arith, new, c.next))
      from y (inr some) = some_all (Stood g) (StoodAs y.number y.thread) (Stood g y) (λ x. further y x) h.seats c.stood some

  -- the thread that goes on next is one of all
  first_in : (xs : List (Seated T)) (v : Turn T) → first_ready xs ≡ Some v → One xs v.seat
  first_in [] v is = absurd (cc is)
  first_in (x ∷ xs) v is = go x.wait (λ k. first_in xs v k) is
    where
      go : (w : Wait) → (first_ready xs ≡ Some v → One xs v.seat) → turn_if x w (first_ready xs) ≡ Some v → One (x ∷ xs) v.seat
      go (Ready a) rest e = let same : (record { seat = x; answer = a }) ≡ v = cc e in inl (ap (λ (u : Turn T). u.seat) same)
      go (RequestWait r) rest e = inr (rest e)
      go (BranchesWait js) rest e = inr (rest e)

  -- what changes no number and no thread
  with_same : (g : Threads T) (f : Seated T → Seated T) → ((x : Seated T) → Stood g x → Stood g (f x)) → (n : ℕ) (xs : List (Seated T)) → AllAre (Stood g) xs → AllAre (Stood g) (with_seat f n xs)
  with_same g f keeps n xs all = all_mapped (Stood g) (seat_if f n) xs (all_weaker (Stood g) (λ x. Stood g (seat_if f n x)) (λ x h. one x (nat_eq x.number n) h) xs all)
    where
      one : (x : Seated T) (b : Bool) → Stood g x → Stood g (if b then f x else x)
      one x true h = keeps x h
      one x false h = h

  -- one turn
  module _ (g : Threads T) (v : Turn T) (t : T) (first : first_ready g.seats ≡ Some v) (turn : Stays v.seat.thread t) where
    stood_turned : (w : Wait) → AllAre (Stood g) (with_seat (turned_seat w t) v.seat.number g.seats)
    stood_turned w =
        all_mapped (Stood g) (seat_if (turned_seat w t) v.seat.number) g.seats
        (all_weaker (Stood g) (λ x. Stood g (seat_if (turned_seat w t) v.seat.number x)) (λ x h. one x (nat_eq x.number v.seat.number) refl h) g.seats (all_stand g))
      where
        one : (x : Seated T) (b : Bool) → nat_eq x.number v.seat.number ≡ b → Stood g x → Stood g (if b then turned_seat w t x else x)
        one x true is h = stood_by g v.seat x.number t (first_in g.seats v first) (sym (eqb-true x.number v.seat.number is)) turn
        one x false is h = h

    stood_new : (seated : T → ℕ → Option ℕ → T) (p n : ℕ) (bs : List (NewBranch T)) → g.next ≤ n → AllAre (Stood g) (new_seats seated p n bs)
    stood_new seated p n [] le = tt
    stood_new seated p n (b ∷ bs) le = (inl le, stood_new seated p (suc n) bs (omega (arith, le)))

    stood_ended : (node : ℕ) (o : Outcome) (up : Option ℕ) → AllAre (Stood g) (ended_branch v.seat.number node o up g.seats)
    stood_ended node o None = all_left (Stood g) _ g.seats (all_stand g)
    stood_ended node o (Some p) = with_same g (joined_seat v.seat.number node o) (λ x h. h) p (without_seat v.seat.number g.seats) (all_left (Stood g) _ g.seats (all_stand g))

    chain_turned : (seated : T → ℕ → Option ℕ → T) (head : T → ℕ) (k : Stop T) → Chain g (turned seated head g v.seat k t)
    chain_turned seated head (stop.Waits r) = record { next = omega arith; stood = stood_turned (RequestWait r) }
    chain_turned seated head (stop.Forks bs) = record {
      next = omega arith;
      stood = all_append (Stood g) (with_seat (turned_seat (BranchesWait (new_joins g.next bs)) t) v.seat.number g.seats) (new_seats seated v.seat.number g.next bs) (stood_turned (BranchesWait (new_joins g.next bs))) (stood_new seated v.seat.number g.next bs (omega arith));
    }
    chain_turned seated head (stop.Ended o) = record { next = omega arith; stood = stood_ended (head t) o v.seat.parent }
    chain_turned seated head (stop.Limit l) = chain_itself g

    chain_over : (w : Wait) → Chain g (over g v w t)
    chain_over w = record { next = omega arith; stood = stood_turned w }

  -- all turns of an event
  module _ (seated : T → ℕ → Option ℕ → T) (head : T → ℕ) (turns : T → Shared → Answer → Stop T → T → Shared → Type 0)
      (turn : (t : T) (u : Shared) (x : Answer) (k : Stop T) (t' : T) (u' : Shared) → turns t u x k t' u' → Stays t t') where
    chain_settled : (n : ℕ) (g : Threads T) (u : Shared) (out : Settled) (g' : Threads T) (u' : Shared) → Settles W.run_limits.threads seated head turns n g u out g' u' → Chain g g'
    chain_settled _ _ _ _ _ _ (all_wait n g u none) = chain_itself g
    chain_settled _ _ _ _ _ _ (next_turn n g g' u u' u'' v k t out first tu more adm rest) =
        chain_on g (turned seated head g v.seat k t) g' (chain_turned g v t first (turn v.seat.thread u v.answer k t u' tu) seated head k) (chain_settled n (turned seated head g v.seat k t) u' out g' u'' rest)
    chain_settled _ _ _ _ _ _ (ends n g u u' v o t w first tu par) = chain_over g v t first (turn v.seat.thread u v.answer _ t u' tu) w
    chain_settled _ _ _ _ _ _ (limit_met n g u u' v k t w first tu) = chain_over g v t first (turn v.seat.thread u v.answer _ t u' tu) w
    chain_settled _ _ _ _ _ _ (too_many n g u u' v bs t w first tu many) = chain_over g v t first (turn v.seat.thread u v.answer _ t u' tu) w

  none_before : (xs ys : List (Seated T)) → xs ≡ [] → ThreadsStay low touched stance xs ys
  none_before xs ys e = subst (λ zs. ThreadsStay low touched stance zs ys) (sym e) (nothing ys)
    where
      nothing : (ys : List (Seated T)) → ThreadsStay low touched stance [] ys
      nothing [] = tt
      nothing (y ∷ ys) = (tt, nothing ys)

  -- Behind threads of rising numbers each thread now with a number from before is the one that had it.
  module _ (number : T → ℕ) (parent : T → Option ℕ) (branch : T → Bool) where
    from_low : (low' : ℕ) (xs : List (Seated T)) (next : ℕ) → Grouped number parent branch low' xs next → AllAre (λ (x : Seated T). low' ≤ x.number) xs
    from_low low' [] next h = tt
    from_low low' (x ∷ xs) next h =
        (h.0, all_weaker (λ (y : Seated T). suc x.number ≤ y.number) (λ (y : Seated T). low' ≤ y.number) (λ y le. omega (arith, le, h.0)) xs (from_low (suc x.number) xs next h.2))

    the_one : (n : ℕ) (t : T) (low' : ℕ) (xs : List (Seated T)) (next : ℕ) → Grouped number parent branch low' xs next → Some_of (StoodAs n t) xs → AllAre (λ (x : Seated T). x.number ≡ n → SameFront low touched stance x.thread t) xs
    the_one n t low' [] next h some = tt
    the_one n t low' (x ∷ xs) next h (inl so) =
        (λ e. same_front x.thread t so.1, all_weaker (λ (y : Seated T). suc x.number ≤ y.number) (λ (y : Seated T). y.number ≡ n → SameFront low touched stance y.thread t) (λ y above e. let no : ⊥ = omega (arith, above, e, so.0) in absurd no) xs (from_low (suc x.number) xs next h.2))
    the_one n t low' (x ∷ xs) next h (inr some) = (
      λ e. some_all (λ (y : Seated T). suc x.number ≤ y.number) (StoodAs n t) (SameFront low touched stance x.thread t) (λ y above so. let no : ⊥ = omega (arith, above, e, so.0) in absurd no) xs (from_low (suc x.number) xs next h.2) some,
      the_one n t (suc x.number) xs next h.2 some,
    )

    stay_chained : (g g' : Threads T) → Grouped number parent branch 0 g.seats g.next → Chain g g' → ThreadsStay low touched stance g.seats g'.seats
    stay_chained g g' h c = all_weaker (Stood g) (λ (y : Seated T). AllAre (λ (x : Seated T). x.number ≡ y.number → SameFront low touched stance x.thread y.thread) g.seats) (λ y. one y) g'.seats c.stood
      where
        one : (y : Seated T) → Stood g y → AllAre (λ (x : Seated T). x.number ≡ y.number → SameFront low touched stance x.thread y.thread) g.seats
        one y (inl new) = all_weaker (λ (x : Seated T). x.number < g.next) (λ (x : Seated T). x.number ≡ y.number → SameFront low touched stance x.thread y.thread) (λ x below e. let no : ⊥ = omega (arith, below, e, new) in absurd no) g.seats (all_below number parent branch 0 g.seats g.next h)
        one y (inr some) = the_one y.number y.thread 0 g.seats g.next h some

    module _ (seated : T → ℕ → Option ℕ → T) (head : T → ℕ) (turns : T → Shared → Answer → Stop T → T → Shared → Type 0) (room : Shared → ℕ) (fits : List (Seated T) → Shared → Type 0)
        (stays : (t : T) (u : Shared) (x : Answer) (k : Stop T) (t' : T) (u' : Shared) → turns t u x k t' u' → StaysBelow (low t) (stance t).frames (low t') (stance t').frames)
        (touches : (t : T) (u : Shared) (x : Answer) (k : Stop T) (t' : T) (u' : Shared) → turns t u x k t' u' → touched t' ≡ true) where
      turn : (t : T) (u : Shared) (x : Answer) (k : Stop T) (t' : T) (u' : Shared) → turns t u x k t' u' → Stays t t'
      turn t u x k t' u' so = stays_turned t t' (stays t u x k t' u' so) (touches t u x k t' u' so)

      none_left : (g h : Threads T) → h.seats ≡ [] → ThreadsStay low touched stance g.seats h.seats
      none_left g h e = subst (λ ys. ThreadsStay low touched stance g.seats ys) (sym e) tt

      stay_over : {p : Phase} (g h : Threads T) (u : Shared) (c : Common) (g' : Threads T) (u' : Shared) → IsOver p h u c g' u' → ThreadsStay low touched stance g.seats g'.seats
      stay_over g h u c g' u' o = none_left g g' (ap (λ (k : Threads T). k.seats) o.threads)

      answered : (event : Event) (u : Shared) (g : Threads T) → Chain g (record { seats = seats_after event u.requests g.seats; next = g.next })
      answered event u g = record { next = omega arith; stood = go (answer_by event u.requests) }
        where
          go : (o : Option (ℕ × Answer)) → AllAre (Stood g) (seats_answered u.requests o g.seats)
          go None = all_stand g
          go (Some (n, x)) = with_same g (waits_as (Ready x)) (λ x h. h) (W.thread_of n u.requests) g.seats (all_stand g)

      stay_gone : (p : Phase) (event : Event) (g : Threads T) (u v : Shared) (g' : Threads T) (u' : Shared) → Grouped number parent branch 0 g.seats g.next →
          GoesOnBy stance seated head turns room (record { seats = seats_after event u.requests g.seats; next = g.next }) v p g' u' → ThreadsStay low touched stance g.seats g'.seats
      stay_gone p event g u v g' u' h goes = go goes.out goes.ends
        where
          chain : Chain g goes.threads
          chain = chain_on g _ goes.threads (answered event u g) (chain_settled seated head turns turn _ _ _ goes.out goes.threads goes.shared goes.settles)

          go : (out : Settled) → EndsAs stance out goes.threads goes.shared p g' u' → ThreadsStay low touched stance g.seats g'.seats
          go AllWait so = subst (λ (k : Threads T). ThreadsStay low touched stance g.seats k.seats) (sym so.1) (stay_chained g goes.threads h chain)
          go (ScriptEnded o) so = stay_over g goes.threads goes.shared _ g' u' so
          go (LimitMet l) so = stay_over g goes.threads goes.shared _ g' u' so

      decide : (u : Shared) (event : Event) → EndsNot u event ⊎ ((k : LimitKind) × Passes u event k)
      decide u (OutputEvent task LogStream from bytes) = go (nat_lt W.run_limits.log (length u.log + length bytes)) refl
        where
          go : (b : Bool) → nat_lt W.run_limits.log (length u.log + length bytes) ≡ b → EndsNot u (OutputEvent task LogStream from bytes) ⊎ ((k : LimitKind) × Passes u (OutputEvent task LogStream from bytes) k)
          go true e = inr (LogSize, (refl, ltb-true W.run_limits.log (length u.log + length bytes) e))
          go false e = inl (ltb-false W.run_limits.log (length u.log + length bytes) e)
      decide u (OutputEvent task OutStream from bytes) = go (nat_lt W.run_limits.values.text (length (W.kept_output (request_of u.requests task)) + length bytes)) refl
        where
          go : (b : Bool) → nat_lt W.run_limits.values.text (length (W.kept_output (request_of u.requests task)) + length bytes) ≡ b → EndsNot u (OutputEvent task OutStream from bytes) ⊎ ((k : LimitKind) × Passes u (OutputEvent task OutStream from bytes) k)
          go true e = inr (TextLength, (refl, ltb-true W.run_limits.values.text (length (W.kept_output (request_of u.requests task)) + length bytes) e))
          go false e = inl (ltb-false W.run_limits.values.text (length (W.kept_output (request_of u.requests task)) + length bytes) e)
      decide u (StartEvent script agents) = inl tt
      decide u (GrantedEvent request executor) = inl tt
      decide u (ExitedEvent task code) = inl tt
      decide u (LostEvent task why) = inl tt
      decide u (DecidedEvent request proceed name) = inl tt

      stay_stepped : (p : Phase) (event : Event) (g : Threads T) (u : Shared) (g' : Threads T) (u' : Shared) → Grouped number parent branch 0 g.seats g.next → StepsOn stance seated head turns room event g u p g' u' → ThreadsStay low touched stance g.seats g'.seats
      stay_stepped p event g u g' u' h steps = go (decide u event)
        where
          go : EndsNot u event ⊎ ((k : LimitKind) × Passes u event k) → ThreadsStay low touched stance g.seats g'.seats
          go (inl ends_not) = stay_gone p event g u (shared_after event u) g' u' h (steps.goes_on ends_not)
          go (inr passed) = stay_over g g u _ g' u' (steps.limited passed.0 passed.1)

      -- an event that a build has accepted
      pub stay_accepted : (p p' : Phase) (event : Event) (g : Threads T) (u : Shared) (g' : Threads T) (u' : Shared) → SoundIn number parent branch fits p g u → (p ≡ Stopped → ⊥) → (p ≡ Running → StepsOn stance seated head turns room event g u p' g' u') → ThreadsStay low touched stance g.seats g'.seats
      stay_accepted Unbegun p' event g u g' u' h on steps = none_before g.seats g'.seats (ap (λ (k : Threads T). k.seats) h.threads)
      stay_accepted Running p' event g u g' u' h on steps = stay_stepped p' event g u g' u' h.grouped (steps refl)
      stay_accepted Ended p' event g u g' u' h on steps = none_before g.seats g'.seats h.threads
      stay_accepted Stopped p' event g u g' u' h on steps = absurd (on refl)

    -- and one that it has not
    pub stay_refused : (fits : List (Seated T) → Shared → Type 0) (p : Phase) (g : Threads T) (u : Shared) → SoundIn number parent branch fits p g u → (p ≡ Stopped → ⊥) → ThreadsStay low touched stance g.seats g.seats
    stay_refused fits Unbegun g u h on = none_before g.seats g.seats (ap (λ (k : Threads T). k.seats) h.threads)
    stay_refused fits Running g u h on = stay_chained g g h.grouped (chain_itself g)
    stay_refused fits Ended g u h on = none_before g.seats g.seats h.threads
    stay_refused fits Stopped g u h on = absurd (on refl)
