-- Threads in their seats stand as before over a later shared state.
use Rattle.std.proofs.Common.{◌≡◌, ℕ, suc, ◌≤◌, Bool, true, false, List, [], ◌∷◌, ◌++◌, map, Option, Some, None, arith, refl, subst, sym}
use Rattle.std.specs.Prelude.{find, if◌then◌else◌, nat_eq, option_map}
use Rattle.std.specs.List.{AllByRecursion as AllAre}
use Rattle.std.proofs.lemmas.Bool.{eqb-true, eq-eqb}
use Rattle.model_syntax.specs.declared.node.NodeForm.{NodeForm}
use Rattle.model_values.specs.declared.value.Outcome.{Outcome}
use Rattle.model_run.specs.declared.context.Context.{Context}
use Rattle.model_run.specs.declared.ending.Asked.TheVariants.{ForBranches}
use Rattle.model_run.specs.declared.ending.Ending.{Ending}
use Rattle.model_run.specs.declared.ending.Ending.TheVariants.{Normal, Thrown, Returned, Broke, Continued, Declared, Answered}
use Rattle.model_run.specs.declared.request.OpenRequest.{OpenRequest}
use Rattle.model_run.specs.declared.wait.Answer.{Answer}
use Rattle.model_run.specs.declared.wait.Answer.TheVariants.{Begin, Granted, Done, Decided, Joined}
use Rattle.model_run.specs.declared.wait.BranchEnd.{BranchEnd}
use Rattle.model_run.specs.declared.wait.Join.{Join}
use Rattle.model_run.specs.declared.wait.JoinEnd.{JoinEnd}
use Rattle.model_run.specs.declared.wait.Wait.{Wait}
use Rattle.model_run.specs.declared.wait.Wait.TheVariants.{Ready, Request as RequestWait, Branches as BranchesWait}
use Rattle.model_run.specs.Fitting.{Asks, EndFits as BranchEnded, context_above, ForRequest as IsForRequest, IsFlowNode, Later, OutcomeFits, Rise, outermost}
use Rattle.model_run.specs.Nesting.{Any_body, Any_branch, Begun, Body_of, CallsClosures, For_branches, For_executor, For_person, For_task, Spot, innermost}
use Rattle.model_run.specs.Requests.{numbers_of}
use Rattle.model_run.specs.Scoping.{names_at}
use Rattle.model_run.specs.Since.{Follows}
use Rattle.model_run.specs.State.{Common, Setting, World}
use Rattle.model_run.specs.Terms.{Term}
use Rattle.model_run.specs.Threads.{Closure, Runs, Script}
use Rattle.model_run.specs.World.{all_ended, and_end, branch_end, ends_before, join_end, join_wait, joined_wait, outcome_of}
use Rattle.model_run.proofs.LaterLaws.{env_later}
use Rattle.run_laws.specs.Soundness.{EndFits, SoundWorld}
use Rattle.run_laws.specs.Worlds.{EndIf, SharedSound}
use Rattle.run_laws.proofs.Flow.{node_then}
use Rattle.run_laws.proofs.SoundBranches.{outcome_then}
use Rattle.green_threads.specs.declared.runner.Seated.{Seated}
use Rattle.green_threads.specs.Threads.{waits_as}
use Rattle.settle_laws.specs.Stances.{Stance}
use Rattle.settle_laws.specs.Standing.{HeadsStand}
use Rattle.cps_code.specs.Script.{script_of}
use Rattle.cps_frames.specs.Places.{AnswersAt, EndsAt, MoveFits, Poised}
use Rattle.cps_frames.specs.Standing.{Standing, common_of, setting_of}
use Rattle.cps_frames.specs.declared.shared.Shared.{Shared}
use Rattle.cps_frames.specs.declared.thread.Move.{Move}
use Rattle.cps_frames.specs.declared.thread.Move.TheVariants as move
use Rattle.cps_frames.proofs.Poise.{all_later}
use Rattle.thread_fits.specs.Seats.{Fits, HasBegun, IsGranted, SeatStands, WaitStands, as_seat, first_of, standing_as, waiting_move}

-- what branches ended with is there still
pub end_then : (u v : Common) → Later u v → (e : JoinEnd) → BranchEnded u e → BranchEnded v e
end_then u v l e h = (node_then u v l e.node h.0, outcome_then u v l e.outcome h.1)

end_if_then : (u v : Common) → Later u v → (o : Option JoinEnd) → EndIf u o → EndIf v o
end_if_then u v l None h = tt
end_if_then u v l (Some e) h = end_then u v l e h

ends_then : (u v : Common) → Later u v → (ends : List BranchEnd) → AllAre (λ b. BranchEnded u b.end) ends → AllAre (λ b. BranchEnded v b.end) ends
ends_then u v l [] h = tt
ends_then u v l (b ∷ bs) h = (end_then u v l b.end h.0, ends_then u v l bs h.1)

pub joins_then : (u v : Common) → Later u v → (js : List Join) → AllAre (λ j. EndIf u j.ended) js → AllAre (λ j. EndIf v j.ended) js
joins_then u v l [] h = tt
joins_then u v l (j ∷ js) h = (end_if_then u v l j.ended h.0, joins_then u v l js h.1)

-- an answer that grants no executor
answers_then : (u v : Common) → Later u v → (at : Spot) (x : Answer) → (IsGranted (Ready x) → ⊥) → AnswersAt u at (Answered x) → AnswersAt v at (Answered x)
answers_then u v l at Begin never h = absurd h
answers_then u v l at (Granted x) never h = absurd (never tt)
answers_then u v l For_task (Done code out) never h = tt
answers_then u v l at (Done code out) never h = absurd h
answers_then u v l For_person (Decided proceed name) never h = tt
answers_then u v l at (Decided proceed name) never h = absurd h
answers_then u v l For_branches (Joined ends) never h = ends_then u v l ends h
answers_then u v l at (Joined ends) never h = absurd h

answered_then : (root : Term) (u v : Common) → Later u v → (at : Spot) (x : Answer) → (IsGranted (Ready x) → ⊥) → EndsAt root u at (Answered x) → EndsAt root v at (Answered x)
answered_then root u v l (Begun k) x never h = absurd h
answered_then root u v l For_executor x never h = answers_then u v l For_executor x never h
answered_then root u v l For_task x never h = answers_then u v l For_task x never h
answered_then root u v l For_person x never h = answers_then u v l For_person x never h
answered_then root u v l For_branches x never h = answers_then u v l For_branches x never h
answered_then root u v l at x never h = absurd h

first_then : (root : Term) (u v : Common) → Later u v → (at : Spot) (s : Option Runs) (x : Answer) → (IsGranted (Ready x) → ⊥) → MoveFits root u at (first_of s x) → MoveFits root v at (first_of s x)
first_then root u v l at None x never h = answered_then root u v l at x never h
first_then root u v l at (Some Script) x never h = (h.0, h.1, λ plain. env_later u v l (names_at root 0) [] (h.2 plain))
first_then root u v l at (Some (Closure k env head)) x never h = (h.0, h.1, ((h.2).0, env_later u v l (names_at root k) env (h.2).1, node_then u v l head (h.2).2))

move_then : (root : Term) (u v : Common) → Later u v → (at : Spot) (w : Wait) (t : Stance) → (IsGranted w → ⊥) → MoveFits root u at (waiting_move w t) → MoveFits root v at (waiting_move w t)
move_then root u v l at (Ready x) t never h = first_then root u v l at t.runs x never h
move_then root u v l at (RequestWait r) t never h = h
move_then root u v l at (BranchesWait js) t never h = h

-- an open request stays open
found_still : (at : Spot) (n r : ℕ) (xs ys : List OpenRequest) → IsForRequest at (find (λ q. nat_eq q.number r) xs) n → IsForRequest at (find (λ q. nat_eq q.number r) (xs ++ ys)) n
found_still at n r [] ys h = absurd h
found_still at n r (x ∷ xs) ys h = one (nat_eq x.number r) h (found_still at n r xs ys)
  where
    one : (b : Bool) → IsForRequest at (if b then Some x else find (λ q. nat_eq q.number r) xs) n → (IsForRequest at (find (λ q. nat_eq q.number r) xs) n → IsForRequest at (find (λ q. nat_eq q.number r) (xs ++ ys)) n) → IsForRequest at (if b then Some x else find (λ q. nat_eq q.number r) (xs ++ ys)) n
    one true h more = h
    one false h more = more h

-- and the latest one is found by its number
not_below : (low m : ℕ) (xs : List OpenRequest) (q : OpenRequest) → Rise low m (numbers_of (xs ++ q ∷ [])) → low ≤ q.number
not_below low m [] q h = h.0
not_below low m (x ∷ xs) q h = let le : suc x.number ≤ q.number = not_below (suc x.number) m xs q h.2 in let l : low ≤ x.number = h.0 in omega (arith, le, l)

pub latest_found : (at : Spot) (n low m : ℕ) (xs : List OpenRequest) (q : OpenRequest) → Rise low m (numbers_of (xs ++ q ∷ [])) → q.thread ≡ n → Asks at q.request → IsForRequest at (find (λ x. nat_eq x.number q.number) (xs ++ q ∷ [])) n
latest_found at n low m [] q h is asks = subst (λ b. IsForRequest at (if b then Some q else None) n) (sym (eq-eqb q.number q.number refl)) (is, asks)
latest_found at n low m (x ∷ xs) q h is asks = one (nat_eq x.number q.number) refl (latest_found at n (suc x.number) m xs q h.2 is asks)
  where
    one : (b : Bool) → nat_eq x.number q.number ≡ b → IsForRequest at (find (λ y. nat_eq y.number q.number) (xs ++ q ∷ [])) n → IsForRequest at (if b then Some x else find (λ y. nat_eq y.number q.number) (xs ++ q ∷ [])) n
    one true e more = let same : x.number ≡ q.number = eqb-true _ _ e in let above : suc x.number ≤ q.number = not_below (suc x.number) m xs q h.2 in absurd (omega (arith, same, above))
    one false e more = more

pub wait_then : (u v : Common) → Follows u v → (at : Spot) (n : ℕ) (w : Wait) → WaitStands u at n w → WaitStands v at n w
wait_then u v f at n (Ready x) h = tt
wait_then u v f at n (RequestWait r) h = subst (λ rs. IsForRequest at (find (λ q. nat_eq q.number r) rs) n) (sym (f.asks).requests) (found_still at n r u.requests (f.asks).new h)
wait_then u v f at n (BranchesWait js) h = joins_then u v f.later js h

-- a sound shared state, as a thread sees it
pub sound_world : (g : Setting) (w : World) → w.setting ≡ g → SharedSound g false w.shared → IsFlowNode w.shared.nodes w.own.head → SoundWorld g w
sound_world g w is s head = record { setting = is; narrow = s.narrow; cells = s.cells; binding = s.binding; head = head; bounds = s.bounds }

module _ {T : Type 0} (stance : T → Stance) (u u' : Shared) (same : setting_of u' ≡ setting_of u) (later : Later (common_of u) (common_of u')) (sound : SharedSound (setting_of u') false (common_of u')) where
  -- a thread that had no turn, with a move that may be made there
  pub poised_on : (t : Stance) (above : Context) (at : Spot) (m m' : Move) → MoveFits (script_of u.code) (common_of u') (innermost (script_of u.code) at t.frames) m' → Poised (setting_of u) above at (standing_as u t) m → Poised (setting_of u') above at (standing_as u' t) m'
  poised_on t above at m m' fits p =
      let shared : SharedSound (setting_of u) false (common_of u') = subst (λ g. SharedSound g false (common_of u')) same sound in
      let here : Poised (setting_of u) above at (standing_as u' t) m' = record {
        sound = sound_world (setting_of u) (standing_as u' t).world same shared (node_then (common_of u) (common_of u') later t.own.head (p.sound).head);
        executors = shared.held;
        opened = record { own = (p.opened).own; held = (p.opened).held; many = (p.opened).many; folders = (p.opened).folders };
        frames = all_later (script_of u.code) (common_of u) (common_of u') later t.frames p.frames;
        chain = p.chain;
        move = fits;
      } in
      subst (λ g. Poised g above at (standing_as u' t) m') (sym same) here

  -- and is about to be given no executor
  pub stands_on : (above : Context) (x : Seated T) → (IsGranted x.wait → ⊥) → WaitStands (common_of u') (innermost (script_of u.code) (outermost x.parent) (stance x.thread).frames) x.number x.wait → SeatStands stance u above x → SeatStands stance u' above x
  stands_on above x never wait h = record {
    poised = poised_on (stance x.thread) above (outermost x.parent) (waiting_move x.wait (stance x.thread)) (waiting_move x.wait (stance x.thread))
        (move_then (script_of u.code) (common_of u) (common_of u') later (innermost (script_of u.code) (outermost x.parent) (stance x.thread).frames) x.wait (stance x.thread) never (h.poised).move) h.poised;
    closures = subst (λ (g : Setting). CallsClosures g.script (outermost x.parent) (stance x.thread).frames) (sym same) h.closures;
    begun = h.begun;
    start = h.start;
    number = h.number;
    parent = h.parent;
    wait = subst (λ (g : Setting). WaitStands (common_of u') (innermost g.script (outermost x.parent) (stance x.thread).frames) x.number x.wait) (sym same) wait;
  }

-- the ends of branches, where one more has ended
ended_one : (u : Common) (n : ℕ) (e : JoinEnd) → BranchEnded u e → (js : List Join) → AllAre (λ j. EndIf u j.ended) js → AllAre (λ j. EndIf u j.ended) (map (join_end n e) js)
ended_one u n e fits [] h = tt
ended_one u n e fits (j ∷ js) h = (one (nat_eq j.thread n), ended_one u n e fits js h.1)
  where
    one : (b : Bool) → EndIf u (if b then record j { ended = Some e } else j).ended
    one true = fits
    one false = h.0

abbrev EndsIf : Common → Option (List BranchEnd) → Type 0
EndsIf u None = Unit {0}
EndsIf u (Some ends) = AllAre (λ b. BranchEnded u b.end) ends

ends_more : (u : Common) (name : List ℕ) (o : Option JoinEnd) (rest : Option (List BranchEnd)) → EndIf u o → EndsIf u rest → EndsIf u (and_end (option_map (branch_end name) o) rest)
ends_more u name None rest a b = tt
ends_more u name (Some e) None a b = tt
ends_more u name (Some e) (Some es) a b = (a, b)

ends_of : (u : Common) (js : List Join) → AllAre (λ j. EndIf u j.ended) js → EndsIf u (all_ended js)
ends_of u [] h = tt
ends_of u (j ∷ js) h = ends_more u j.name j.ended (all_ended js) h.0 (ends_of u js h.1)

pub outcome_there : (f : NodeForm) (u : Common) (e : Ending) → EndFits f u e → OutcomeFits u (outcome_of e)
outcome_there f u (Normal v) h = h.0
outcome_there f u (Thrown c) h = h
outcome_there f u (Returned v) h = h
outcome_there f u Broke h = tt
outcome_there f u Continued h = tt
outcome_there f u (Declared b) h = tt
outcome_there f u (Answered x) h = tt

-- a thread that waits for branches stands where it takes their ends
joins_at : (root : Term) (u : Common) (at : Spot) (s : Option Runs) (ends : List BranchEnd) → s ≡ None → AllAre (λ b. BranchEnded u b.end) ends → MoveFits root u at (move.Asks (ForBranches [])) → MoveFits root u at (first_of s (Joined ends))
joins_at root u For_branches s ends none there h = subst (λ x. MoveFits root u For_branches (first_of x (Joined ends))) (sym none) there
joins_at root u For_executor s ends none there h = absurd h.0
joins_at root u For_task s ends none there h = absurd h.0
joins_at root u For_person s ends none there h = absurd h.0
joins_at root u (Begun k) s ends none there h = absurd h.0
joins_at root u Any_body s ends none there h = absurd h.0
joins_at root u (Body_of k) s ends none there h = absurd h.0
joins_at root u Any_branch s ends none there h = absurd h.0

pub with_move : (g : Setting) (above : Context) (at : Spot) (u : Standing) (m m' : Move) → MoveFits g.script u.world.shared (innermost g.script at u.stack) m' → Poised g above at u m → Poised g above at u m'
with_move g above at u m m' fits p = record { sound = p.sound; executors = p.executors; opened = p.opened; frames = p.frames; chain = p.chain; move = fits }

module _ {T : Type 0} (stance : T → Stance) (u : Shared) (above : Context) where
  -- the same thread, which waits for its branches or is ready with their ends
  joined_as : (x : Seated T) (js : List Join) (o : Option (List BranchEnd)) → AllAre (λ j. EndIf (common_of u) j.ended) js → EndsIf (common_of u) o → SeatStands stance u above (waits_as (BranchesWait js) x) → SeatStands stance u above (waits_as (joined_wait js o) x)
  joined_as x js None all there h = h
  joined_as x js (Some ends) all there h = record {
    poised = with_move (setting_of u) above (outermost x.parent) (standing_as u (stance x.thread)) (move.Asks (ForBranches [])) (first_of (stance x.thread).runs (Joined ends))
        (joins_at (script_of u.code) (common_of u) (innermost (script_of u.code) (outermost x.parent) (stance x.thread).frames) (stance x.thread).runs ends h.begun there (h.poised).move) h.poised;
    closures = h.closures;
    begun = subst (HasBegun (Ready (Joined ends))) (sym h.begun) tt;
    start = h.start;
    number = h.number;
    parent = h.parent;
    wait = tt;
  }

  other_joins : (x : Seated T) (js ks : List Join) → AllAre (λ j. EndIf (common_of u) j.ended) ks → SeatStands stance u above (waits_as (BranchesWait js) x) → SeatStands stance u above (waits_as (BranchesWait ks) x)
  other_joins x js ks all h = record { poised = h.poised; closures = h.closures; begun = h.begun; start = h.start; number = h.number; parent = h.parent; wait = all }

  -- a branch of this thread has ended
  pub joined_stands : (n head : ℕ) (o : Outcome) → IsFlowNode u.graph head → OutcomeFits (common_of u) o → (x : Seated T) (w : Wait) → SeatStands stance u above (waits_as w x) → SeatStands stance u above (waits_as (join_wait n head o w) x)
  joined_stands n head o node fits x (Ready a) h = h
  joined_stands n head o node fits x (RequestWait r) h = h
  joined_stands n head o node fits x (BranchesWait js) h =
      let all : AllAre (λ j. EndIf (common_of u) j.ended) (map (join_end n (record { node = head; outcome = o; place = ends_before js })) js) = ended_one (common_of u) n (record { node = head; outcome = o; place = ends_before js }) (node, fits) js h.wait in
      joined_as x (map (join_end n (record { node = head; outcome = o; place = ends_before js })) js) (all_ended (map (join_end n (record { node = head; outcome = o; place = ends_before js })) js)) all
      (ends_of (common_of u) (map (join_end n (record { node = head; outcome = o; place = ends_before js })) js) all) (other_joins x js (map (join_end n (record { node = head; outcome = o; place = ends_before js })) js) all h)

-- and it grants nothing
pub joined_grants : (n head : ℕ) (o : Outcome) (w : Wait) → (IsGranted w → ⊥) → IsGranted (join_wait n head o w) → ⊥
joined_grants n head o (Ready a) never g = never g
joined_grants n head o (RequestWait r) never g = g
joined_grants n head o (BranchesWait js) never g = one (all_ended (map (join_end n (record { node = head; outcome = o; place = ends_before js })) js)) g
  where
    one : (x : Option (List BranchEnd)) → IsGranted (joined_wait (map (join_end n (record { node = head; outcome = o; place = ends_before js })) js) x) → ⊥
    one None g = g
    one (Some ends) g = g

-- the last flow node of each thread that fits is there
heads_by : {T : Type 0} (stance : T → Stance) (u : Shared) (up : Option ℕ → Context) (xs : List (Seated T)) → AllAre (λ x. SeatStands stance u (up x.parent) x) xs → HeadsStand stance u.graph xs
heads_by stance u up [] h = tt
heads_by stance u up (x ∷ xs) h = ((((h.0).poised).sound).head, heads_by stance u up xs h.1)

pub heads_stand : {T : Type 0} (stance : T → Stance) (xs : List (Seated T)) (u : Shared) → Fits stance xs u → HeadsStand stance u.graph xs
heads_stand stance xs u fits = heads_by stance u (context_above (map (as_seat stance) xs)) xs fits.seats
