-- What an event leaves unmarked is as it was.
use Rattle.std.proofs.Common.{◌≡◌, ◌∙◌, ◌≤◌, ℕ, Bool, false, List, [], ◌∷◌, ◌++◌, length, map, filter, replicate, Option, ap, refl, subst, sym, arith}
use Rattle.std.specs.List.{AllByRecursion as AllAre}
use Rattle.cell_heap.specs.Region.{Region}
use Rattle.cell_heap.proofs.FollowsLemmas.{Follows-same, Follows-trans}
use Rattle.model_run.specs.declared.flow.FlowNode.{FlowNode}
use Rattle.model_run.specs.declared.result.BuildResult.{BuildResult}
use Rattle.model_run.specs.FlowNodes.{IsFront}
use Rattle.model_run.specs.LogText.{line}
use Rattle.model_run.specs.Requests.{RequestsGoOn, WasOpen}
use Rattle.model_run.specs.Results.{ended_log}
use Rattle.model_run.specs.State.{Common}
use Rattle.model_run.specs.World as W
use Rattle.model_run.proofs.AmongLaws.{among_on, among_same}
use Rattle.model_run.proofs.Asking.{asks_nothing}
use Rattle.model_run.proofs.Front.{front_ended, front_itself, front_line, front_same, front_on}
use Rattle.model_run.proofs.RequestLaws.{asks_go_on, close_goes_on, goes_on_itself, goes_on_then, other_than}
use Rattle.green_threads.specs.declared.runner.Seated.{Seated}
use Rattle.green_threads.specs.declared.runner.Stop.{Stop}
use Rattle.green_threads.specs.declared.settled.Settled.{Settled}
use Rattle.green_threads.specs.Order.{Settles, all_wait, next_turn, ends, limit_met, too_many}
use Rattle.green_threads.specs.Resuming.{IsSameSeat}
use Rattle.green_threads.specs.Threads.{marked_group, marked_in}
use Rattle.green_threads.specs.Threads as G
use Rattle.green_threads.proofs.Marked.{grouped_marked, ready_marked}
use Rattle.cps_frames.specs.declared.shared.Shared.{Shared}
use Rattle.cps_frames.specs.Standing.{common_of}
use Rattle.script_thread.specs.Marks.{GoesOnFrom, marked}
use Rattle.script_thread.specs.Names.{Answer}
use Rattle.build_core.specs.declared.phase.Phase.{Phase}
use Rattle.build_core.specs.declared.phase.Phase.TheVariants.{Unbegun, Running, Ended, Stopped}
use Rattle.build_core.specs.Phases.{SoundIn}

-- What holds from each state to itself, further with each step, and of each turn holds of all turns.
module _ {T S : Type 0} (limit : ℕ) (seated : T → ℕ → Option ℕ → T) (head : T → ℕ) (turns : T → S → Answer → Stop T → T → S → Type 0) (R : S → S → Type 0)
    (itself : (s : S) → R s s) (further : (a b c : S) → R a b → R b c → R a c) (turn : (t : T) (u : S) (x : Answer) (k : Stop T) (t' : T) (u' : S) → turns t u x k t' u' → R u u') where
  pub settles_by : (n : ℕ) (g : G.Threads T) (u : S) (out : Settled) (g' : G.Threads T) (u' : S) → Settles limit seated head turns n g u out g' u' → R u u'
  settles_by _ _ _ _ _ _ (all_wait n g u none) = itself u
  settles_by _ _ _ _ _ _ (next_turn n g g' u u' u'' v k t out first tu more adm rest) =
      further u u' u'' (turn v.seat.thread u v.answer k t u' tu) (settles_by n (G.turned seated head g v.seat k t) u' out g' u'' rest)
  settles_by _ _ _ _ _ _ (ends n g u u' v o t w first tu par) = turn v.seat.thread u v.answer _ t u' tu
  settles_by _ _ _ _ _ _ (limit_met n g u u' v k t w first tu) = turn v.seat.thread u v.answer _ t u' tu
  settles_by _ _ _ _ _ _ (too_many n g u u' v bs t w first tu many) = turn v.seat.thread u v.answer _ t u' tu

front_with : {A : Type 0} (old : List A) {new now : List A} → now ≡ new → IsFront old new → IsFront old now
front_with old is front = (front.0, is ∙ front.1)

-- open requests, where those of a later time are the same, or all but one of them, or are none
pub same_requests : (u v : Common) → v.next_request ≡ u.next_request → v.requests ≡ u.requests → RequestsGoOn u v
same_requests u v next requests = asks_go_on u v (asks_nothing u v next requests)

pub closed_request : (n : ℕ) (u v : Common) → v.next_request ≡ u.next_request → v.requests ≡ filter (other_than n) u.requests → RequestsGoOn u v
closed_request n u v next requests = record { next = omega (arith, next); were = subst (AllAre (WasOpen u)) (sym requests) (close_goes_on n u).were }

no_requests : (u v : Common) → v.next_request ≡ u.next_request → v.requests ≡ [] → RequestsGoOn u v
no_requests u v next none = record { next = omega (arith, next); were = subst (AllAre (WasOpen u)) (sym none) tt }

-- where cells, flow nodes and the binding are the same
pub rests : (u v : Shared) → v.heap ≡ u.heap → v.graph ≡ u.graph → v.binding.items ≡ u.binding.items → IsFront u.log v.log → RequestsGoOn (common_of u) (common_of v) → GoesOnFrom u v
rests u v cells nodes binding log requests = record {
  cells = Follows-same u.heap v.heap cells;
  nodes = front_same u.graph v.graph nodes;
  log = log;
  binding = among_same u.binding.items v.binding.items binding;
  requests = requests;
}

itself : (u : Shared) → GoesOnFrom u u
itself u = rests u u refl refl refl (front_itself u.log) (goes_on_itself (common_of u))

pub stays : (u v : Shared) → v ≡ u → GoesOnFrom u v
stays u v e = subst (GoesOnFrom u) (sym e) (itself u)

pub goes_further : (u v w : Shared) → GoesOnFrom u v → GoesOnFrom v w → GoesOnFrom u w
goes_further u v w h k = record {
  cells = Follows-trans u.heap v.heap w.heap h.cells k.cells;
  nodes = front_on u.graph v.graph w.graph h.nodes k.nodes;
  log = front_on u.log v.log w.log h.log k.log;
  binding = among_on u.binding.items v.binding.items w.binding.items h.binding k.binding;
  requests = goes_on_then (common_of u) (common_of v) (common_of w) h.requests k.requests;
}

-- from where cells, flow nodes, the binding and the log are the same
pub but_for : (u v w : Shared) → v.heap ≡ u.heap → v.graph ≡ u.graph → v.binding.items ≡ u.binding.items → v.log ≡ u.log → RequestsGoOn (common_of u) (common_of v) → GoesOnFrom v w → GoesOnFrom u w
but_for u v w cells nodes binding log requests h = goes_further u v w (rests u v cells nodes binding (front_same u.log v.log log) requests) h

-- all turns of an event
pub settled_from : {T : Type 0} (seated : T → ℕ → Option ℕ → T) (head : T → ℕ) (turns : T → Shared → Answer → Stop T → T → Shared → Type 0) →
    ((t : T) (u : Shared) (x : Answer) (k : Stop T) (t' : T) (u' : Shared) → turns t u x k t' u' → GoesOnFrom u u') →
    (n : ℕ) (g : G.Threads T) (u : Shared) (out : Settled) (g' : G.Threads T) (u' : Shared) → Settles W.run_limits.threads seated head turns n g u out g' u' → GoesOnFrom u u'
settled_from seated head turns turn n g u out g' u' order =
    settles_by W.run_limits.threads seated head turns GoesOnFrom itself goes_further turn n g u out g' u' order

-- an end node and the last lines are put behind, and no request is open
pub end_from : (u v : Shared) (node : FlowNode) (causes : List (List ℕ)) (result : BuildResult) → v.heap ≡ u.heap → v.graph ≡ u.graph ++ node ∷ [] → v.binding.items ≡ u.binding.items → v.log ≡ ended_log causes result u.log →
    v.next_request ≡ u.next_request → v.requests ≡ [] → GoesOnFrom u v
end_from u v node causes result cells nodes binding log next none = record {
  cells = Follows-same u.heap v.heap cells;
  nodes = (node ∷ [], nodes);
  log = front_with u.log log (front_ended causes result u.log);
  binding = among_same u.binding.items v.binding.items binding;
  requests = no_requests (common_of u) (common_of v) next none;
}

-- a line is put behind, and all goes on from there
pub line_from : (u v w : Shared) (text : List ℕ) → v.heap ≡ u.heap → v.graph ≡ u.graph → v.binding.items ≡ u.binding.items → v.log ≡ line text u.log → RequestsGoOn (common_of u) (common_of v) → GoesOnFrom v w → GoesOnFrom u w
line_from u v w text cells nodes binding log requests h = goes_further u v w (rests u v cells nodes binding (front_with u.log log (front_line text u.log)) requests) h

-- a build keeps what it keeps, whatever is marked
pub marked_sound : {T : Type 0} (number : T → ℕ) (parent : T → Option ℕ) (branch : T → Bool) (fits : List (Seated T) → Shared → Type 0) (marks : T → T) → ((t : T) → IsSameSeat number parent branch t (marks t)) →
    ((xs : List (Seated T)) (u : Shared) → fits xs u → fits (map (marked_in marks) xs) (marked u)) → (p : Phase) (g : G.Threads T) (u : Shared) → SoundIn number parent branch fits p g u → SoundIn number parent branch fits p (marked_group marks g) (marked u)
marked_sound number parent branch fits marks same marked_fits Unbegun g u h = record { threads = ap (marked_group marks) h.threads; shared = h.shared; heap = ap (λ (r : Region). record r { changed = replicate (length r.cells) false }) h.heap }
marked_sound number parent branch fits marks same marked_fits Running g u h = record {
  grouped = grouped_marked marks number parent branch same 0 g.seats g.next h.grouped;
  fit = marked_fits g.seats u h.fit;
  few_threads = h.few_threads;
  few = subst (λ n. n ≤ 0) (sym (ready_marked marks g.seats)) h.few;
}
marked_sound number parent branch fits marks same marked_fits Ended g u h = record { threads = ap (map (marked_in marks)) h.threads; requests = h.requests; held = h.held; sound = h.sound; few_threads = h.few_threads }
marked_sound number parent branch fits marks same marked_fits Stopped g u h = tt
