-- Every world that has begun is sound.
use Rattle.std.proofs.Common.{◌≡◌, true, List, [], ◌∷◌}
use Rattle.std.specs.List.{AllByRecursion as AllAre}
use Rattle.model_syntax.specs.declared.tree.Tree.{Tree}
use Rattle.model_syntax.specs.TreeNodes.{tree_node}
use Rattle.model_run.specs.declared.event.Event.{Event}
use Rattle.model_run.specs.State.{Setting, Common}
use Rattle.model_run.specs.Below.{Small}
use Rattle.model_run.specs.Terms.{term}
use Rattle.model_run.specs.World.{world_in}
use Rattle.model_run.specs.Fitting.{Seat, SeatFits, seats_of, WorldFits, WorldsFit}
use Rattle.run_laws.specs.Bounds.{Narrow}
use Rattle.seat_laws.specs.Seats.{SeatHolds, SeatsHold}
use Rattle.seat_laws.proofs.WorldSeats.{world_seats_hold}
use Rattle.fit_laws.specs.Stands.{SeatStands, ThreadsStand}
use Rattle.fit_laws.proofs.SharedStates.{world_stands}
use Rattle.fit_laws.proofs.Seats.{threads_stand}

module _ (g : Setting) (u : Common) (seats : List Seat) where
  seats_fit : (ts : List Seat) → AllAre (SeatStands g u seats) ts → AllAre (SeatHolds u seats) ts → AllAre (SeatFits g u seats) ts
  seats_fit [] h holds = tt
  seats_fit (t ∷ ts) h holds = (
    record {
      head = (h.0).head;
      parent = (h.0).parent;
      frames = (h.0).frames;
      envs = (h.0).envs;
      nested = (h.0).nested;
      closures = (h.0).closures;
      waits = (h.0).waits;
      start = (h.0).start;
      own_held = (holds.0).own_held;
      holds = (holds.0).holds;
      folders = (holds.0).folders;
    },
    seats_fit ts h.1 holds.1,
  )

module _ (g : Setting) (tree : Tree) (is : g.script ≡ term 0 (tree_node tree)) (small : Small g) (narrow : Narrow g.limits) where
  -- Every world that has begun is sound.
  pub world_fits : (events : List Event) → (world_in g events).started ≡ true → WorldFits g (world_in g events)
  world_fits events started =
      let threads : ThreadsStand g (world_in g events) = threads_stand g tree is small narrow events started in
      let hold : SeatsHold g (world_in g events) = world_seats_hold g tree is small narrow events in
      record {
        fits = record {
          shared = world_stands g tree is small narrow events started;
          numbers = threads.numbers;
          few_threads = hold.few_threads;
          main = threads.main;
          threads = seats_fit g (world_in g events).shared (seats_of g (world_in g events).threads) (seats_of g (world_in g events).threads) threads.threads hold.threads;
          differ = hold.differ;
          waited_for = threads.waited_for;
        };
        rests = hold.rests;
      }

  -- So this is so of all worlds, as `WorldsFit` says.
  pub worlds_fit : WorldsFit g
  worlds_fit = world_fits
