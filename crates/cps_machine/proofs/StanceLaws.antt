-- A turn is one of the definitions, for every thread of theirs that this one stands for.
use Rattle.std.proofs.Common.{◌≡◌, ◌∙◌, ℕ, false, List, [], ◌∷◌, ◌++◌, map, Option, Some, None, refl, ap, subst, sym}
use Rattle.std.specs.List.{AllByRecursion as AllAre}
use Rattle.model_text.specs.declared.pair.Pair.{Pair}
use Rattle.model_run.specs.declared.context.Context.{Context}
use Rattle.model_run.specs.declared.ending.Asked.TheVariants.{ForBranches, ForRequest}
use Rattle.model_run.specs.declared.ending.Branch.{Branch}
use Rattle.model_run.specs.declared.wait.Answer.{Answer}
use Rattle.model_run.specs.Fitting.{IsFlowNode, SharedFits, outermost}
use Rattle.model_run.specs.Nesting.{Spot}
use Rattle.model_run.specs.State.{Common, Limited, Own, Reply, Waits}
use Rattle.model_run.specs.Threads.{Closure, Runs, Script, Thread, stands_from}
use Rattle.model_run.specs.Terms.{Term}
use Rattle.model_run.specs.World.{no_context}
use Rattle.model_run.proofs.Front.{front_length}
use Rattle.run_laws.specs.Soundness.{BranchFits, SoundWorld}
use Rattle.cps_code.specs.Script.{script_of}
use Rattle.green_threads.specs.declared.runner.NewBranch.{NewBranch}
use Rattle.green_threads.specs.declared.runner.Stop.{Stop}
use Rattle.green_threads.specs.declared.runner.Stop.TheVariants as stop
use Rattle.green_threads.specs.Resuming.{MayResume}
use Rattle.settle_laws.specs.Stances.{AllNew, BranchesBehind, Left, NewFor, StandsAt, StopsAs, Turns, script_stance, seated_as}
use Rattle.cps_frames.specs.Standing.{Standing, common_of, setting_of, standing, state}
use Rattle.cps_frames.specs.declared.shared.Shared.{Shared}
use Rattle.cps_machine.specs.Resuming.{reply, stopping}
use Rattle.thread_fits.specs.Seats.{Fits, SeatStands, StartStands}
use Rattle.thread_fits.proofs.RoomLaws.{above}
use Rattle.thread_fits.proofs.SharedLaws.{turn_shared}
use Rattle.cps_machine.specs.Stops.{StandsStill}
use Rattle.cps_machine.specs.Threads.{Beginning, IsStop, IsTurn, beginning, branch_by, is_branch, runs_of, seen, stance_of, to_begin}
use Rattle.cps_machine.specs.declared.machine.Stopped.{Stopped}
use Rattle.cps_machine.specs.declared.machine.Stopped.TheVariants as stopped
use Rattle.cps_machine.specs.declared.thread.MachineThread.{MachineThread}
use Rattle.cps_machine.specs.declared.thread.Start.{Start}
use Rattle.cps_machine.specs.declared.thread.Start.TheVariants as start
use Rattle.cps_machine.proofs.ResumeLaws.{first_poised, head_same, rest_same, turn_of_branch, turn_of_script, turn_resumes}
use Rattle.thread_fits.proofs.SeatRows.{all_at}

-- what a thread runs
runs_none : (s : Option Start) (head : ℕ) → runs_of s head ≡ None → s ≡ None
runs_none None head e = refl
runs_none (Some start.Script) head e = absurd (cc e)
runs_none (Some (start.Branch c)) head e = absurd (cc e)

same_runs : (a b : Runs) → Some a ≡ Some b → a ≡ b
same_runs a b e = cc e

-- A branch that is to begin is one of the definitions.
new_for : (own : Own) (b : NewBranch MachineThread) (d : Branch) → seen b ≡ to_begin own.context d → NewFor own b.name (stance_of b.thread) d
new_for own b d e = record {
  name_is = ap (λ (y : Beginning). y.name) e;
  runs = ap (λ s. runs_of s b.thread.state.head) (ap (λ (y : Beginning). y.start) e) ∙ ap (λ h. Some (Closure d.closure d.env h)) (ap (λ (y : Beginning). y.head) e);
  head = ap (λ (y : Beginning). y.head) e;
  context = ap (λ (y : Beginning). y.context) e;
  calls = ap (λ (y : Beginning). y.calls) e;
}

all_new_for : (own : Own) (ts : List (NewBranch MachineThread)) (ds : List Branch) → map seen ts ≡ map (to_begin own.context) ds → AllNew stance_of own ts ds
all_new_for own [] [] e = tt
all_new_for own [] (d ∷ ds) e = absurd (cc e)
all_new_for own (b ∷ ts) [] e = absurd (cc e)
all_new_for own (b ∷ ts) (d ∷ ds) e = (new_for own b d (head_same _ _ _ _ e), all_new_for own ts ds (rest_same _ _ _ _ e))

-- As the machine stops, so stops the thread.
left_so : (t' : MachineThread) (u' : Shared) → Left (state (standing u' t'.state).world []) (stance_of t') (common_of u')
left_so t' u' = record { shared = refl; own = refl }

stops_so : (s : Stopped) (stops : Stop MachineThread) (t' : MachineThread) (u' : Shared) → IsStop s stops t'.state.context → StopsAs stance_of (stopping s (standing u' t'.state)) stops (stance_of t') (common_of u')
stops_so (stopped.Ended e) (stop.Ended o) t' u' h = (e, state (standing u' t'.state).world [], refl, sym h, left_so t' u')
stops_so (stopped.Limit k) (stop.Limit l) t' u' h = (state (standing u' t'.state).world [], ap (λ j. Limited j (state (standing u' t'.state).world [])) (sym h), left_so t' u')
stops_so (stopped.Waits (ForRequest r)) (stop.Waits q) t' u' h = (state (standing u' t'.state).world [], ap (λ j. Waits (ForRequest j) t'.state.stack.items (state (standing u' t'.state).world [])) (sym h), left_so t' u')
stops_so (stopped.Waits (ForBranches ds)) (stop.Forks ts) t' u' h = (ds, state (standing u' t'.state).world [], refl, left_so t' u', all_new_for (stance_of t').own ts ds h)
stops_so s stops t' u' h = absurd h

-- however it stops, the world is sound
sound_by : (above : Context) (at : Spot) (s : Stopped) (v : Standing) → StandsStill above at s v → SoundWorld v.world.setting v.world
sound_by above at (stopped.Ended e) v h = h.sound
sound_by above at (stopped.Limit k) v h = h
sound_by above at (stopped.Waits asked) v h = h.sound

-- the branches that begin stand behind flow nodes
heads_behind : (root : Term) (u : Common) (context : Context) (ts : List (NewBranch MachineThread)) (ds : List Branch) → map seen ts ≡ map (to_begin context) ds → AllAre (BranchFits root u) ds → AllAre (λ (b : NewBranch MachineThread). IsFlowNode u.nodes b.thread.state.head) ts
heads_behind root u context [] ds e fits = tt
heads_behind root u context (b ∷ ts) [] e fits = absurd (cc e)
heads_behind root u context (b ∷ ts) (d ∷ ds) e fits = (subst (IsFlowNode u.nodes) (sym (ap (λ (y : Beginning). y.head) (head_same _ _ _ _ e))) (fits.0).head, heads_behind root u context ts ds (rest_same _ _ _ _ e) fits.1)

behind_by : (above : Context) (at : Spot) (s : Stopped) (stops : Stop MachineThread) (t' : MachineThread) (u' : Shared) → IsStop s stops t'.state.context → StandsStill above at s (standing u' t'.state) → BranchesBehind stance_of u'.graph stops
behind_by above at (stopped.Waits (ForBranches ds)) (stop.Forks ts) t' u' h still = heads_behind (script_of u'.code) (common_of u') t'.state.context ts ds h (still.move).1
behind_by above at s (stop.Waits q) t' u' h still = tt
behind_by above at s (stop.Ended o) t' u' h still = tt
behind_by above at s (stop.Limit k) t' u' h still = tt
behind_by above at s stops t' u' h still = absurd h

-- The thread of a script, before it has a seat.
abbrev outside : List ℕ → List (List ℕ) → List Pair → Context
outside held folders env = record { held = held; folders = folders; env = env }

nothing_open : (a : List ℕ) (b : List (List ℕ)) (d : List Pair) → a ≡ [] → b ≡ [] → d ≡ [] → outside a b d ≡ no_context
nothing_open a b d ea eb ed = ap (λ x. outside x b d) ea ∙ ap (λ x. outside [] x d) eb ∙ ap (λ x. outside [] [] x) ed

script_begins : (t : MachineThread) (context : Context) → context ≡ no_context → seen (record { name = []; thread = t }) ≡ beginning [] start.Script 2 context → seen (record { name = []; thread = t }) ≡ beginning [] start.Script 2 no_context
script_begins t context is e = e ∙ ap (beginning [] start.Script 2) is

pub script_stands : (t : MachineThread) (a : List ℕ) (b : List (List ℕ)) (d : List Pair) → a ≡ [] → b ≡ [] → d ≡ [] → seen (record { name = []; thread = t }) ≡ beginning [] start.Script 2 (record { held = a; folders = b; env = d }) → seated_as 0 None (stance_of t) ≡ script_stance
script_stands t a b d ea eb ed e =
    ap (λ (y : Beginning). record { own = record { number = 0; head = y.head; context = y.context; calls = y.calls }; parent = None; runs = runs_of y.start y.head; frames = y.frames }) (script_begins t (outside a b d) (nothing_open a b d ea eb ed) e)

pub script_alone : (t : MachineThread) (context : Context) → seen (record { name = []; thread = t }) ≡ beginning [] start.Script 2 context → is_branch t ≡ false
script_alone t context e = ap (λ s. branch_by s t.state.parent) (ap (λ (y : Beginning). y.start) e)

module _ (t t' : MachineThread) (u u' : Shared) (a : Answer) (stops : Stop MachineThread) (may : MayResume (Fits stance_of) t u a) (turn : IsTurn t u a stops t' u') where
  -- one that has not begun has no frames
  seat_start : StartStands (stance_of t).runs (may.1).parent t.state.stack.items
  seat_start = subst (λ (y : MachineThread). StartStands (stance_of y).runs (may.1).parent y.state.stack.items) may.5 (all_at (λ y. SeatStands stance_of u (above stance_of may.0 y.parent) y) may.0 may.2 may.1 (may.3).seats may.4).start

  none_stand : (s : Start) → t.start ≡ Some s → t.state.stack.items ≡ []
  none_stand start.Script is = (subst (λ o. StartStands (runs_of o t.state.head) (may.1).parent t.state.stack.items) is seat_start).1
  none_stand (start.Branch c) is = (subst (λ o. StartStands (runs_of o t.state.head) (may.1).parent t.state.stack.items) is seat_start).1

  -- where the thread of the definitions has begun, and where it has not
  begins_so : (s : Option Start) → t.start ≡ s → (runs : Runs) (own : Own) → runs_of s t.state.head ≡ Some runs → (standing u t.state).world.own ≡ own
      → stands_from (setting_of u) runs own (reply (standing u t.state) a ∷ []) ≡ stopping turn.stopped_so (standing u' t'.state)
  begins_so None is runs own e same = absurd (cc e)
  begins_so (Some start.Script) is runs own e same =
      subst (λ r. stands_from (setting_of u) r own (reply (standing u t.state) a ∷ []) ≡ stopping turn.stopped_so (standing u' t'.state)) (same_runs _ _ e)
      (subst (λ o. stands_from (setting_of u) Script o (reply (standing u t.state) a ∷ []) ≡ stopping turn.stopped_so (standing u' t'.state)) same
      (turn_of_script t t' u u' a stops may is (none_stand start.Script is) turn a))
  begins_so (Some (start.Branch c)) is runs own e same =
      subst (λ r. stands_from (setting_of u) r own (reply (standing u t.state) a ∷ []) ≡ stopping turn.stopped_so (standing u' t'.state)) (same_runs _ _ e)
      (subst (λ o. stands_from (setting_of u) (Closure c.node c.env t.state.head) o (reply (standing u t.state) a ∷ []) ≡ stopping turn.stopped_so (standing u' t'.state)) same
      (turn_of_branch t t' u u' a stops c is (none_stand (start.Branch c) is) turn a))

  goes_so : (h : Thread) (rs : List Reply) → h.history ≡ rs → StandsAt (setting_of u) (stance_of t) h rs → stands_from (setting_of u) h.runs h.own (rs ++ reply (standing u t.state) a ∷ []) ≡ stopping turn.stopped_so (standing u' t'.state)
  goes_so h [] is at = begins_so t.start refl h.runs h.own at.0 at.1
  goes_so h (r ∷ rs) is at =
      turn_resumes t t' u u' a stops may (runs_none t.start t.state.head at.0) turn h.runs h.own r rs at.1 at.2 at.4
      (subst (λ qs. stands_from (setting_of u) h.runs h.own qs ≡ Waits at.1 t.state.stack.items at.2) is at.3)

  still : (above : Context) × StandsStill above (outermost (may.1).parent) turn.stopped_so (standing u' t'.state)
  still =
      let b = first_poised may.0 u may.1 may.2 t a may.3 may.4 may.5 may.6 in
      (above stance_of may.0 (may.1).parent, (turn.runs).stands (above stance_of may.0 (may.1).parent) (outermost (may.1).parent) b)

  sound' : SoundWorld (setting_of u') (standing u' t'.state).world
  sound' = sound_by still.0 (outermost (may.1).parent) turn.stopped_so (standing u' t'.state) still.1

  turn_stands : Turns stance_of common_of setting_of t u a stops t' u'
  turn_stands = record {
    begun = ap (λ s. runs_of s t'.state.head) turn.begun;
    number = ((turn.runs).leaves).number;
    parent = (((turn.runs).onward).beside).parent;
    same_setting = ((turn.runs).onward).setting;
    nodes_stay = front_length u.graph u'.graph ((((turn.runs).leaves).follows).later).nodes;
    sound = turn_shared (setting_of u') (common_of u) (standing u' t'.state).world ((turn.runs).leaves).follows sound' (subst (λ g. SharedFits g false (common_of u)) (sym ((turn.runs).onward).setting) (may.3).shared);
    head = sound'.head;
    branches = behind_by still.0 (outermost (may.1).parent) turn.stopped_so stops t' u' turn.stop still.1;
    stops = λ h stand. subst (λ r. StopsAs stance_of r stops (stance_of t') (common_of u')) (sym (goes_so h h.history refl stand.at)) (stops_so turn.stopped_so stops t' u' turn.stop);
  }

pub turn_is : (t t' : MachineThread) (u u' : Shared) (a : Answer) (stops : Stop MachineThread) → MayResume (Fits stance_of) t u a → IsTurn t u a stops t' u' → Turns stance_of common_of setting_of t u a stops t' u'
turn_is t t' u u' a stops may turn = turn_stands t t' u u' a stops may turn
