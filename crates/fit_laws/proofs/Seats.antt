-- In every world each thread stands as in a sound build, as far as `SeatStands` says.
use Rattle.std.proofs.Common.{◌≡◌, sym, subst, refl, ℕ, true, List, [], ◌∷◌, Option, Some, None}
use Rattle.std.specs.List.{AllByRecursion as AllAre}
use Rattle.model_syntax.specs.declared.tree.Tree.{Tree}
use Rattle.model_syntax.specs.TreeNodes.{tree_node}
use Rattle.model_values.proofs.LaterLaws.{all_weaker}
use Rattle.model_run.specs.declared.event.Event.{Event}
use Rattle.model_run.specs.declared.frame.Frame.{Frame}
use Rattle.model_run.specs.declared.ending.Asked.{Asked}
use Rattle.model_run.specs.declared.ending.Asked.TheVariants.{ForRequest as For_request, ForBranches as For_branches}
use Rattle.model_run.specs.declared.wait.Join.{Join}
use Rattle.model_run.specs.declared.wait.JoinEnd.{JoinEnd}
use Rattle.model_run.specs.declared.wait.Wait.{Wait}
use Rattle.model_run.specs.declared.wait.Wait.TheVariants.{Ready, Request as RequestWait, Branches as BranchesWait}
use Rattle.model_run.specs.State.{Setting, Common, State, Waits}
use Rattle.model_run.specs.Below.{Small}
use Rattle.model_run.specs.Terms.{Term, term}
use Rattle.model_run.specs.Threads.{Runs, Script, Closure, Thread, stands}
use Rattle.model_run.specs.World.{world_in}
use Rattle.model_run.specs.Nesting.{Spot, For_executor, For_task, For_person, For_branches as For_branches_spot, FrameFits, Nested, CallsClosures, WaitsFor, innermost}
use Rattle.model_run.specs.Scoping.{names_for}
use Rattle.model_run.specs.Waiting.{Waiting, IsReady}
use Rattle.model_run.specs.Fitting.{EnvFits, known, NotReady, Seat, seat_at, seats_of, seat_of, outermost, ParentIs, JoinFits, BranchFits, WaitFits, StartFits}
use Rattle.model_run.proofs.PathLaws.{outer_spot}
use Rattle.model_run.proofs.WaitingLaws.{world_waits}
use Rattle.model_run.proofs.WorldLaws.{frames_chained, waits_there, waiting_nested}
use Rattle.run_laws.specs.Bounds.{Narrow}
use Rattle.run_laws.specs.Soundness.{Sits}
use Rattle.run_laws.specs.Worlds.{EndIf, WaitThere, SoundThread}
use Rattle.run_laws.proofs.SortLaws.{meets_table}
use Rattle.run_laws.proofs.SoundWorlds.{world_sound, frames_now}
use Rattle.world_laws.specs.Agreement.{WaitsAgree, SeatAgrees, SeatsAgree}
use Rattle.world_laws.proofs.WorldThreads.{world_seats}
use Rattle.call_laws.specs.Entering.{PathCalls}
use Rattle.call_laws.proofs.CallWorlds.{world_calls}
use Rattle.seat_laws.proofs.Resting.{world_rests}
use Rattle.fit_laws.specs.Stands.{SeatStands, ThreadsStand, AsksBranches, WaitAsks, HasParent, WaitsSo}
use Rattle.fit_laws.proofs.Waits.{world_so}

-- the frames of a thread, with their variables
module _ (u : Common) where
  frames_known : (root : Term) (fs : List Frame) → AllAre (Sits root u) fs → AllAre (FrameFits (known u) root) fs
  frames_known root fs h = all_weaker _ _ (meets_table root u) fs h

  frames_see : (root : Term) (fs : List Frame) → AllAre (Sits root u) fs → AllAre (λ f. EnvFits u.cells (names_for root f) f.env) fs
  frames_see root fs h = all_weaker _ _ (λ f sits. sits.names) fs h

-- branches: those that have ended with what is there, and the others as threads
branches_fit : (u : Common) (seats : List Seat) (n : ℕ) (js : List Join) → AllAre (λ j. EndIf u j.ended) js → AllAre (λ j. j.ended ≡ None → ParentIs n (seat_of seats j.thread)) js → AllAre (JoinFits u seats n) js
branches_fit u seats n [] ends left = tt
branches_fit u seats n (j ∷ js) ends left = (one j.ended refl ends.0, branches_fit u seats n js ends.1 left.1)
  where
    one : (o : Option JoinEnd) → j.ended ≡ o → EndIf u o → BranchFits u n o (seat_of seats j.thread)
    one (Some e) is h = h
    one None is h = left.0 is

-- the spot at which branches are waited for
branches_spot : (at : Spot) (asked : Asked) → WaitsFor at asked → (path : List Frame) (s : State) → AsksBranches (Waits asked path s) → at ≡ For_branches_spot
branches_spot For_branches_spot (For_branches bs) h path s is = refl
branches_spot For_executor (For_request r) h path s is = absurd is
branches_spot For_task (For_request r) h path s is = absurd is
branches_spot For_person (For_request r) h path s is = absurd is
branches_spot at asked h path s is = absurd h

-- where the frames of a thread begin
outer_is : (runs : Runs) (parent : Option ℕ) → HasParent runs parent → outer_spot runs ≡ outermost parent
outer_is Script None h = refl
outer_is Script (Some p) h = absurd h
outer_is (Closure k env head) (Some p) h = refl
outer_is (Closure k env head) None h = absurd h

-- a thread that rests is not ready
not_ready : (w : Wait) → NotReady w → IsReady w → ⊥
not_ready (Ready x) rests ready = rests
not_ready (RequestWait n) rests ready = ready
not_ready (BranchesWait js) rests ready = ready

-- a branch that has begun has a frame
begun_start : (root : Term) (h : List _) (parent : Option ℕ) (path : List Frame) (asked : Asked) → Nested root (outermost parent) path asked → StartFits root h parent path None
begun_start root h None path asked nested = refl
begun_start root h (Some p) [] asked nested = absurd nested
begun_start root h (Some p) (f ∷ fs) asked nested = refl

module _ (g : Setting) (u : Common) (seats : List Seat) where
  waits_fit : (t : Thread) (asked : Asked) (path : List Frame) (s : State) → Nested g.script (outermost t.parent) path asked → (w : Wait) → t.wait ≡ w → (IsReady w → ⊥) → WaitThere u w → WaitAsks w (Waits asked path s) → WaitsAgree g.script u seats t.own.number t.parent path w
      → WaitFits u seats (seat_at t (Waits asked path s)) (innermost g.script (outermost t.parent) path) w
  waits_fit t asked path s nested (Ready x) is never there asks agree = absurd (never tt)
  waits_fit t asked path s nested (RequestWait r) is never there asks agree = agree
  waits_fit t asked path s nested (BranchesWait js) is never there asks agree =
      subst (λ at. WaitFits u seats (seat_at t (Waits asked path s)) at (BranchesWait js)) (sym (branches_spot (innermost g.script (outermost t.parent) path) asked (waits_there g.script (outermost t.parent) path asked nested) path s asks))
      (branches_fit u seats t.own.number js there agree.0, agree.1, agree.2)

module _ (g : Setting) (tree : Tree) (is : g.script ≡ term 0 (tree_node tree)) (small : Small g) (narrow : Narrow g.limits) where
  module _ (u : Common) (seats : List Seat) where
    seat_stands : (t : Thread) → SoundThread g u t → Waiting g t → (IsReady t.wait → ⊥) → WaitsSo g t → PathCalls g.script (outer_spot t.runs) (stands g t) → SeatAgrees g.script u seats (seat_at t (stands g t)) → SeatStands g u seats (seat_at t (stands g t))
    seat_stands t sound w never so calls agrees =
        let nested : Nested g.script (outermost t.parent) w.path w.asked = subst (λ at. Nested g.script at w.path w.asked) (outer_is t.runs t.parent so.parent) (waiting_nested g (tree_node tree) is t w) in
        let sits : AllAre (Sits g.script u) w.path = frames_now g tree is small narrow u t sound w.asked w.path w.state w.stands_so in
        let agree : SeatAgrees g.script u seats (seat_at t (Waits w.asked w.path w.state)) = subst (λ r. SeatAgrees g.script u seats (seat_at t r)) w.stands_so agrees in
        subst (λ r. SeatStands g u seats (seat_at t r)) (sym w.stands_so) (record {
          head = sound.last;
          parent = agree.parent;
          frames = frames_known u g.script w.path sits;
          envs = frames_see u g.script w.path sits;
          nested = frames_chained g.script (outermost t.parent) w.path w.asked nested;
          closures = subst (λ at. CallsClosures g.script at w.path) (outer_is t.runs t.parent so.parent) (subst (PathCalls g.script (outer_spot t.runs)) w.stands_so calls);
          waits = waits_fit g u seats t w.asked w.path w.state nested t.wait refl never sound.wait (subst (WaitAsks t.wait) w.stands_so so.asks) agree.waits;
          start = begun_start g.script u.cells t.parent w.path w.asked nested;
        })

    all_stand : (ts : List Thread) → AllAre (SoundThread g u) ts → AllAre (Waiting g) ts → AllAre (λ t. IsReady t.wait → ⊥) ts → AllAre (WaitsSo g) ts → AllAre (λ t. PathCalls g.script (outer_spot t.runs) (stands g t)) ts → AllAre (SeatAgrees g.script u seats) (seats_of g ts) → AllAre (SeatStands g u seats) (seats_of g ts)
    all_stand [] s w n so c a = tt
    all_stand (t ∷ ts) s w n so c a = (seat_stands t s.0 w.0 n.0 so.0 c.0 a.0, all_stand ts s.1 w.1 n.1 so.1 c.1 a.1)

  -- The threads of every world that has begun.
  pub threads_stand : (events : List Event) → (world_in g events).started ≡ true → ThreadsStand g (world_in g events)
  threads_stand events started =
      let agrees : SeatsAgree g (world_in g events) = world_seats g (tree_node tree) is small events in
      let never : AllAre (λ t. IsReady t.wait → ⊥) (world_in g events).threads = all_weaker _ _ (λ t rests. not_ready t.wait rests) (world_in g events).threads (world_rests g tree is small narrow events) in
      record {
        numbers = agrees.numbers;
        main = agrees.main started;
        threads = all_stand (world_in g events).shared (seats_of g (world_in g events).threads) (world_in g events).threads (world_sound g tree is small narrow events) (world_waits g events never) never (world_so g events) (world_calls g tree is small narrow events) agrees.threads;
        waited_for = agrees.waited_for;
      }
