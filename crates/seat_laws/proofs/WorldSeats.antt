-- In every world, between two events, no thread is ready, and each holds the executors of its own open bodies.
use Rattle.std.proofs.Common.{arith, ◌≡◌, ◌≤◌, ◌∙◌, ap, sym, subst, refl, inl, inr, ℕ, suc, Bool, true, false, List, [], ◌∷◌, ◌++◌, length, Option, Some, None}
use Rattle.std.specs.Prelude.{nat_eq, drop, if◌then◌else◌}
use Rattle.std.proofs.lemmas.Bool.{eqb-true, eqb-false}
use Rattle.std.specs.List.{AllByRecursion as AllAre}
use Rattle.model_syntax.specs.declared.tree.Tree.{Tree}
use Rattle.model_syntax.specs.TreeNodes.{tree_node}
use Rattle.model_run.specs.declared.context.Context.{Context}
use Rattle.model_run.specs.declared.event.Event.{Event}
use Rattle.model_run.specs.Below.{Small}
use Rattle.model_run.specs.Fitting.{Rise, Distinct, Some_of, NotReady, concat_map, granted_request, own_held_of, Seat, seat_at, seats_of, seat_of, context_in, context_above}
use Rattle.model_run.specs.State.{Setting, Common, Result, Ended, Waits, Limited, Unfinished}
use Rattle.model_run.specs.Terms.{term}
use Rattle.model_run.specs.Threads.{Thread, stands}
use Rattle.model_run.specs.Waiting.{Stood}
use Rattle.model_run.specs.World.{Build, world_in}
use Rattle.run_laws.specs.Bounds.{Narrow}
use Rattle.run_laws.specs.Worlds.{SoundThread}
use Rattle.world_laws.specs.Agreement.{places, place_numbers}
use Rattle.seat_laws.specs.Seats.{Room, room_of, rooms, stands_for, IsHeld, AroundIs, SeatHolds, SeatsHold}
use Rattle.seat_laws.proofs.Contexts.{OwnSeat, own_seat, threads_from, world_holding}

-- a seat is its thread's
seat_number : (t : Thread) (r : Result) → (seat_at t r).number ≡ t.own.number
seat_number t (Ended e s) = refl
seat_number t (Waits asked path s) = refl
seat_number t (Limited k s) = refl
seat_number t Unfinished = refl

seat_parent : (t : Thread) (r : Result) → (seat_at t r).parent ≡ t.parent
seat_parent t (Ended e s) = refl
seat_parent t (Waits asked path s) = refl
seat_parent t (Limited k s) = refl
seat_parent t Unfinished = refl

seat_wait : (t : Thread) (r : Result) → (seat_at t r).wait ≡ t.wait
seat_wait t (Ended e s) = refl
seat_wait t (Waits asked path s) = refl
seat_wait t (Limited k s) = refl
seat_wait t Unfinished = refl

module _ (g : Setting) where
  -- what is known of the rooms is known of the threads
  of_rooms : (Q : Room → Type 0) (ts : List Thread) → AllAre Q (rooms g ts) → AllAre (λ t. Q (room_of g t)) ts
  of_rooms Q [] h = tt
  of_rooms Q (t ∷ ts) h = (h.0, of_rooms Q ts h.1)

  none_later : (m : ℕ) (c : Context) (n : ℕ) (ts : List Thread) → AllAre (λ t. suc n ≤ t.own.number) ts → Some_of (λ p. (p.number ≡ m) × (p.now ≡ c)) (rooms g ts) → n ≡ m → ⊥
  none_later m c n [] above is at = is
  none_later m c n (t ∷ ts) above (inl here) at = omega (arith, above.0, here.0, at)
  none_later m c n (t ∷ ts) above (inr later) at = none_later m c n ts above.1 later at

  -- the context of the thread of a number
  found_context : (m : ℕ) (c : Context) (k l : ℕ) (ts : List Thread) → Rise k l (place_numbers (places ts)) → Some_of (λ p. (p.number ≡ m) × (p.now ≡ c)) (rooms g ts) → context_in (seat_of (seats_of g ts) m) ≡ c
  found_context m c k l [] rise is = absurd is
  found_context m c k l (t ∷ ts) rise is = one (nat_eq (seat_at t (stands g t)).number m) refl is (found_context m c (suc t.own.number) l ts rise.2)
    where
      one : (b : Bool) → nat_eq (seat_at t (stands g t)).number m ≡ b → Some_of (λ p. (p.number ≡ m) × (p.now ≡ c)) (rooms g (t ∷ ts)) → (Some_of (λ p. (p.number ≡ m) × (p.now ≡ c)) (rooms g ts) → context_in (seat_of (seats_of g ts) m) ≡ c)
          → context_in (if b then Some (seat_at t (stands g t)) else seat_of (seats_of g ts) m) ≡ c
      one true e (inl here) more = here.1
      one true e (inr later) more = absurd (none_later m c t.own.number ts (threads_from g (suc t.own.number) l ts rise.2) later (sym (seat_number t (stands g t)) ∙ eqb-true _ _ e))
      one false e (inl here) more = absurd (eqb-false _ _ e (seat_number t (stands g t) ∙ here.0))
      one false e (inr later) more = more later

  module _ (b : Build) (rise : Rise 0 b.next_thread (place_numbers (places b.threads))) where
    abbrev seats : List Seat
    seats = seats_of g b.threads

    -- the context above a thread is the one in which it began
    above_held : (c : Context) (o : Option ℕ) → AroundIs (rooms g b.threads) c o → ((context_above seats o).held ≡ c.held) × ((context_above seats o).folders ≡ c.folders)
    above_held c None is = (sym is.0, sym is.1)
    above_held c (Some m) is =
        let e : context_in (seat_of (seats_of g b.threads) m) ≡ c = found_context m c 0 b.next_thread b.threads rise is in
        (ap (λ (x : Context). x.held) e, ap (λ (x : Context). x.folders) e)

    seat_holds : (t : Thread) → OwnSeat g t (stands g t) → AroundIs (rooms g b.threads) t.own.context t.parent → AllAre (IsHeld b.shared.held) (seat_at t (stands g t)).context.held → SeatHolds b.shared seats (seat_at t (stands g t))
    seat_holds t own is held =
        let up : context_above seats (seat_at t (stands g t)).parent ≡ context_above seats t.parent = ap (context_above seats) (seat_parent t (stands g t)) in
        let above : ((context_above seats t.parent).held ≡ t.own.context.held) × ((context_above seats t.parent).folders ≡ t.own.context.folders) = above_held t.own.context t.parent is in
        record {
          own_held = (drop (length t.own.context.held) (seat_at t (stands g t)).context.held, own.split ∙ ap (λ ns. ns ++ drop (length t.own.context.held) (seat_at t (stands g t)).context.held) (sym (ap (λ (c : Context). c.held) up ∙ above.0)), own.many);
          holds = held;
          folders = omega (arith, own.folders, ap (λ (c : Context). length c.folders) up, ap length above.1);
        }

    record Fact (t : Thread) : Type 0 where
      own : OwnSeat g t (stands g t)
      around : AroundIs (rooms g b.threads) t.own.context t.parent
      held : AllAre (IsHeld b.shared.held) (seat_at t (stands g t)).context.held

    all_hold : (ts : List Thread) → AllAre Fact ts → AllAre (SeatHolds b.shared seats) (seats_of g ts)
    all_hold [] h = tt
    all_hold (t ∷ ts) h = (seat_holds t (h.0).own (h.0).around (h.0).held, all_hold ts h.1)

    own_same : (t : Thread) → Fact t → own_held_of b.shared seats (seat_at t (stands g t)) ≡ stands_for b.shared.held (room_of g t)
    own_same t f =
        ap (λ (c : Context). drop (length c.held) (seat_at t (stands g t)).context.held ++ granted_request b.shared.held (seat_at t (stands g t)).wait) (ap (context_above seats) (seat_parent t (stands g t)))
        ∙ ap (λ ns. drop (length ns) (seat_at t (stands g t)).context.held ++ granted_request b.shared.held (seat_at t (stands g t)).wait) (above_held t.own.context t.parent f.around).0
        ∙ ap (λ w. drop (length t.own.context.held) (seat_at t (stands g t)).context.held ++ granted_request b.shared.held w) (seat_wait t (stands g t))

    concat_same : (ts : List Thread) → AllAre Fact ts → concat_map (own_held_of b.shared seats) (seats_of g ts) ≡ concat_map (stands_for b.shared.held) (rooms g ts)
    concat_same [] h = refl
    concat_same (t ∷ ts) h = ap (λ ns. ns ++ concat_map (own_held_of b.shared seats) (seats_of g ts)) (own_same t h.0) ∙ ap (λ ns. stands_for b.shared.held (room_of g t) ++ ns) (concat_same ts h.1)

  all_rest : (ts : List Thread) → AllAre (λ t. NotReady t.wait) ts → AllAre (λ t. NotReady t.wait) (seats_of g ts)
  all_rest [] h = tt
  all_rest (t ∷ ts) h = (subst NotReady (sym (seat_wait t (stands g t))) h.0, all_rest ts h.1)

module _ (g : Setting) (tree : Tree) (is : g.script ≡ term 0 (tree_node tree)) (small : Small g) (narrow : Narrow g.limits) where
  facts : (u : Common) (b : Build) (rise : Rise 0 b.next_thread (place_numbers (places b.threads))) (ts : List Thread) → AllAre (SoundThread g u) ts → AllAre (Stood g) ts → AllAre (λ t. AroundIs (rooms g b.threads) t.own.context t.parent) ts → AllAre (λ t. AllAre (IsHeld b.shared.held) (seat_at t (stands g t)).context.held) ts → AllAre (Fact g b rise) ts
  facts u b rise [] h st a k = tt
  facts u b rise (t ∷ ts) h st a k = (record { own = own_seat g t u h.0 st.0; around = a.0; held = k.0 }, facts u b rise ts h.1 st.1 a.1 k.1)

  -- In every world, after every list of events: no thread is ready; the requests in a thread's context are those of its parent and then one
  -- for each of its own open `node` bodies, and it has a folder for each of its open `node` and `dir` bodies; the executors of all these
  -- requests are held, and no two bodies have one request.
  pub world_seats_hold : (events : List Event) → SeatsHold g (world_in g events)
  world_seats_hold events =
      let w = world_holding g tree is small narrow events in
      let rise : Rise 0 (world_in g events).next_thread (place_numbers (places (world_in g events).threads)) = (((w.0).known).agree).agree.numbers in
      let all : AllAre (Fact g (world_in g events) rise) (world_in g events).threads =
      facts (world_in g events).shared (world_in g events) rise (world_in g events).threads ((w.0).known).sound ((w.0).known).stood (of_rooms g (λ q. AroundIs (rooms g (world_in g events).threads) q.around q.parent) (world_in g events).threads (w.1).around)
      (of_rooms g (λ q. AllAre (IsHeld (world_in g events).shared.held) q.now.held) (world_in g events).threads (w.1).held) in
      record {
        rests = all_rest g (world_in g events).threads (w.0).rests;
        few_threads = omega (arith, ((w.0).bounds).threads);
        threads = all_hold g (world_in g events) rise (world_in g events).threads all;
        differ = subst Distinct (sym (concat_same g (world_in g events) rise (world_in g events).threads all)) (w.1).differ;
      }
