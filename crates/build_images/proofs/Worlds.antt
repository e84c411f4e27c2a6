-- In the world of every list of events of a script each thread waits properly, inside frames that are found.
use Rattle.std.proofs.Common.{◌≡◌, true, List, [], ◌∷◌}
use Rattle.std.specs.List.{AllByRecursion as AllAre, AllByRecursion-prop}
use Rattle.std.proofs.Math.Nat.{ℕ_set}
use Rattle.std.proofs.Math.Logic.{∥∥₁_elim}
use Rattle.model_values.proofs.LaterLaws.{all_weaker}
use Rattle.model_run.specs.declared.event.Event.{Event}
use Rattle.model_run.specs.declared.frame.Frame.{Frame}
use Rattle.model_run.specs.declared.wait.Wait.{Wait}
use Rattle.model_run.specs.declared.wait.Wait.TheVariants.{Ready, Request as RequestWait, Branches as BranchesWait}
use Rattle.model_run.specs.Below.{Small}
use Rattle.model_run.specs.Fitting.{NotReady, Seat, SeatFits, WorldFits, seats_of}
use Rattle.model_run.specs.State.{Common, Setting}
use Rattle.model_run.specs.Terms.{Term}
use Rattle.model_run.specs.Threads.{Thread}
use Rattle.model_run.specs.Waiting.{IsReady, Waiting}
use Rattle.model_run.specs.World.{world_in}
use Rattle.model_run.proofs.WaitingLaws.{world_waits}
use Rattle.run_laws.specs.Bounds.{Narrow}
use Rattle.seat_laws.proofs.Resting.{world_rests}
use Rattle.fit_laws.proofs.Joined.{world_fits}
use Rattle.cps_code.specs.Script.{IsScript}
use Rattle.build_images.proofs.Seats.{Clear, Found, frames_found, waiting_start}

-- a thread that rests is not ready
never_ready : (w : Wait) → NotReady w → IsReady w → ⊥
never_ready (Ready x) rests ready = rests
never_ready (RequestWait n) rests ready = ready
never_ready (BranchesWait js) rests ready = ready

bottom_prop : (a b : ⊥) → a ≡ b
bottom_prop a b = absurd a

never_prop : (w : Wait) → IsProp (IsReady w → ⊥)
never_prop w f g = λ i ready. bottom_prop (f ready) (g ready) i

found_prop : (root : Term) (f : Frame) → IsProp (Found root f)
found_prop root f a b = ℕ_set _ _ a b

all_found : (g : Setting) (u : Common) (seats ts : List Seat) → AllAre (SeatFits g u seats) ts → AllAre (λ t. AllAre (Found g.script) t.stack) ts
all_found g u seats ts h = all_weaker (SeatFits g u seats) (λ t. AllAre (Found g.script) t.stack) (frames_found g u seats) ts h

module _ (g : Setting) (script : IsScript g.script) (small : Small g) (narrow : Narrow g.limits) (events : List Event) where
  none_ready : AllAre (λ (t : Thread). IsReady t.wait → ⊥) (world_in g events).threads
  none_ready =
      ∥∥₁_elim script (AllByRecursion-prop (λ (t : Thread). IsReady t.wait → ⊥) (λ t. never_prop t.wait) (world_in g events).threads)
      (λ s. all_weaker (λ (t : Thread). NotReady t.wait) (λ (t : Thread). IsReady t.wait → ⊥) (λ t rests. never_ready t.wait rests) (world_in g events).threads (world_rests g s.0 s.1 small narrow events))

  pub waiting : AllAre (Waiting g) (world_in g events).threads
  waiting = world_waits g events none_ready

  frames : (world_in g events).started ≡ true → AllAre (λ (t : Seat). AllAre (Found g.script) t.stack) (seats_of g (world_in g events).threads)
  frames started =
      ∥∥₁_elim script (AllByRecursion-prop (λ (t : Seat). AllAre (Found g.script) t.stack) (λ t. AllByRecursion-prop (Found g.script) (found_prop g.script) t.stack) (seats_of g (world_in g events).threads))
      (λ s. let fits : WorldFits g (world_in g events) = world_fits g s.0 s.1 small narrow events started in all_found g (world_in g events).shared _ _ fits.fits.threads)

  clear_from : (hs : List Thread) → AllAre (λ (t : Seat). AllAre (Found g.script) t.stack) (seats_of g hs) → AllAre (Waiting g) hs → AllAre (Clear g.script) (seats_of g hs)
  clear_from [] f k = tt
  clear_from (h ∷ hs) f k = (record { frames = f.0; start = waiting_start g h k.0 }, clear_from hs f.1 k.1)

  pub clear : (world_in g events).started ≡ true → AllAre (Clear g.script) (seats_of g (world_in g events).threads)
  clear started = clear_from (world_in g events).threads (frames started) waiting
