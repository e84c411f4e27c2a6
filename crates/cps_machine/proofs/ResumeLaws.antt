-- A turn keeps the fit of all threads, and makes a flow node for each branch that begins or ends.
use Rattle.std.proofs.Common.{◌≡◌, ◌∙◌, ℕ, suc, ◌+◌, ◌<◌, ◌≤◌, true, false, List, [], ◌∷◌, ◌++◌, map, length, Option, Some, None, arith, refl, ap, subst, sym}
use Rattle.std.specs.Prelude.{find, is_some, nat_eq, slice_get}
use Rattle.std.specs.List.{AllByRecursion as AllAre}
use Rattle.std.proofs.Math.Bool.{Bool-set}
use Rattle.std.proofs.Math.Logic.{∥∥₁_elim}
use Rattle.model_syntax.specs.declared.node.NodeForm.TheVariants as form
use Rattle.model_values.specs.declared.value.Outcome.{Outcome}
use Rattle.model_run.specs.declared.context.Context.{Context}
use Rattle.model_run.specs.declared.ending.Asked.TheVariants.{ForBranches, ForRequest}
use Rattle.model_run.specs.declared.ending.Branch.{Branch}
use Rattle.model_run.specs.declared.ending.Ending.{Ending}
use Rattle.model_run.specs.declared.ending.Entry.TheVariants.{Branched}
use Rattle.model_run.specs.declared.frame.Frame.{Frame}
use Rattle.model_run.specs.declared.request.OpenRequest.{OpenRequest}
use Rattle.model_run.specs.declared.wait.Answer.{Answer}
use Rattle.model_run.specs.declared.wait.Answer.TheVariants.{Begin}
use Rattle.model_run.specs.declared.wait.Wait.{Wait}
use Rattle.model_run.specs.declared.wait.Wait.TheVariants.{Ready, Request as RequestWait, Branches as BranchesWait}
use Rattle.model_run.specs.Below.{Below}
use Rattle.model_run.specs.FrameTable.{is_declaration}
use Rattle.model_run.specs.Fitting.{Above, Distinct, ForRequest as IsForRequest, IsFlowNode, IsWaitedFor, OutcomeFits, outermost, ParentFits, ParentIs, Rise, SharedFits, WaitsFor}
use Rattle.model_run.specs.Requests.{numbers_of}
use Rattle.model_run.specs.Meaning.{unwind}
use Rattle.model_run.specs.Nesting.{Any_body, Any_branch, Begun, Body_of, CallsClosures, For_branches, For_executor, For_person, For_task, Spot, innermost, shape_at}
use Rattle.model_run.specs.State.{Common, Setting}
use Rattle.model_run.specs.Terms.{Term, form_of}
use Rattle.model_run.specs.declared.callee.Callee.{Callee}
use Rattle.model_run.specs.Threads.{Closure, Runs, Script}
use Rattle.model_run.specs.World.{join_wait, outcome_of}
use Rattle.model_values.proofs.CellGrowth.{all_append}
use Rattle.model_values.proofs.LaterLaws.{all_weaker}
use Rattle.run_laws.specs.Evaluation.{turn_open}
use Rattle.run_laws.specs.Soundness.{BranchFits, Open, Pausing}
use Rattle.run_laws.specs.Worlds.{EndIf, SharedSound}
use Rattle.seat_laws.specs.Seats.{Holding}
use Rattle.green_threads.specs.declared.runner.NewBranch.{NewBranch}
use Rattle.green_threads.specs.declared.runner.Seated.{Seated}
use Rattle.green_threads.specs.declared.runner.Stop.{Stop}
use Rattle.green_threads.specs.declared.runner.Stop.TheVariants as stop
use Rattle.green_threads.specs.Resuming.{AllBelow, Begins, Keeps, Lowers, MayResume}
use Rattle.green_threads.specs.Threads.{GoesOn, Threads, joined_seat, new_joins, new_seats, turned, turned_seat, with_seat, without_seat}
use Rattle.cps_code.specs.Script.{IsScript, script_of}
use Rattle.cps_frames.specs.Places.{EndsAt, Holding as HoldsAll, MoveFits, Poised}
use Rattle.cps_frames.specs.Runs.{move_result}
use Rattle.cps_frames.specs.Standing.{Standing, common_of, own_of, setting_of, standing, state}
use Rattle.cps_frames.specs.Ways.{is_block_ending}
use Rattle.cps_frames.specs.declared.shared.Shared.{Shared}
use Rattle.cps_frames.specs.declared.thread.Move.{Move}
use Rattle.cps_frames.specs.declared.thread.Move.TheVariants as move
use Rattle.cps_frames.specs.declared.thread.ThreadState.{ThreadState}
use Rattle.cps_frames.proofs.Beginnings.{branch_poised, thread_with}
use Rattle.cps_frames.proofs.EndLaws.{plain_ends}
use Rattle.cps_machine.specs.Resuming.{BeginsAs, ResumesAs, stopping}
use Rattle.thread_fits.specs.Seats.{Family, Fits, HasBegun, IsAlone, IsGranted, IsReady, SeatStands, StartStands, WaitStands, as_seat, first_of, nodes_left, waiting_move}
use Rattle.cps_machine.specs.Stops.{Begins as May_begin, MayRun, Stops}
use Rattle.script_thread.specs.Marks.{StaysBelow}
use Rattle.cps_machine.specs.Threads.{Beginning, EndsAsBlock, IsStop, IsTurn, branch_by, first_move, is_branch, runs_of, seated, seen, stance_of, to_begin}
use Rattle.cps_machine.specs.Turns.{IsAsked}
use Rattle.cps_machine.specs.declared.machine.Stopped.{Stopped}
use Rattle.cps_machine.specs.declared.machine.Stopped.TheVariants as stopped
use Rattle.cps_machine.specs.declared.thread.MachineThread.{MachineThread}
use Rattle.cps_machine.specs.declared.thread.Start.{Start}
use Rattle.cps_machine.specs.declared.thread.Start.TheVariants as start
use Rattle.thread_fits.proofs.Facts.{facts_of, script_at}
use Rattle.cps_machine.proofs.ThreadLaws.{begins_branch, begins_script, resumes_as, stops_by}
use Rattle.thread_fits.proofs.SeatLaws.{joined_grants, joined_stands, latest_found, outcome_there, stands_on, wait_then, with_move}
use Rattle.thread_fits.proofs.FamilyLaws.{changed_family, ended_family, forked_family}
use Rattle.thread_fits.proofs.GoingLaws.{LeavesOpen, turn_fuel}
use Rattle.thread_fits.proofs.RoomLaws.{above, rooms, rooms_differ, rooms_hold}
use Rattle.thread_fits.proofs.SeatRows.{IsAwaited, all_at, all_both, all_more, below_with, differ_more, differ_with, differ_without, found, found_at, found_more, found_now, found_with, found_without, numbers, ready_above, ready_awaits, same_parent, with_all, without_all}
use Rattle.thread_fits.proofs.SharedLaws.{turn_shared}
use Rattle.thread_fits.proofs.ChainLaws.{first_holds}
use Rattle.thread_fits.proofs.FolderLaws.{above_has_folders}
use Rattle.thread_fits.proofs.TurnLaws.{above_new, ends_holding, ends_under, forks_holding, forks_under, own, turn_left, waits_holding, waits_under}

abbrev pub Seat : Type 0
Seat = Seated MachineThread

abbrev pub last_node : MachineThread → ℕ
last_node t = t.state.head

-- A thread stands under the context that this gives its parent, and is about to be given no executor.
abbrev Quiet : (Option ℕ → Context) → Shared → Seat → Type 0
Quiet up u y = SeatStands stance_of u (up y.parent) y × (IsGranted y.wait → ⊥)

all_stand : (up : Option ℕ → Context) (u : Shared) (xs : List Seat) → AllAre (Quiet up u) xs → AllAre (λ y. SeatStands stance_of u (up y.parent) y) xs
all_stand up u [] h = tt
all_stand up u (x ∷ xs) h = ((h.0).0, all_stand up u xs h.1)

all_alone : (up : Option ℕ → Context) (u : Shared) (all xs : List Seat) → AllAre (Quiet up u) xs → AllAre (IsAlone all) xs
all_alone up u all [] h = tt
all_alone up u all (x ∷ xs) h = ((λ given. absurd ((h.0).1 given)), all_alone up u all xs h.1)

-- the same under contexts that are the same
all_under : (up up' : Option ℕ → Context) (u : Shared) (xs : List Seat) → AllAre (λ y. up y.parent ≡ up' y.parent) xs → AllAre (Quiet up u) xs → AllAre (Quiet up' u) xs
all_under up up' u [] same h = tt
all_under up up' u (x ∷ xs) same h = ((subst (λ c. SeatStands stance_of u c x) same.0 (h.0).0, (h.0).1), all_under up up' u xs same.1 h.1)

-- a thread has one parent
one_parent : (m p : ℕ) (o : Option ℕ) → o ≡ Some m → o ≡ Some p → m ≡ p
one_parent m p o a b = let same : Some m ≡ Some p = sym a ∙ b in cc same

-- a thread that waits for a request does so still where a branch has ended
joined_request : (n head : ℕ) (o : Outcome) (r : ℕ) (w : Wait) → w ≡ RequestWait r → join_wait n head o w ≡ RequestWait r
joined_request n head o r w e = subst (λ x. join_wait n head o x ≡ RequestWait r) (sym e) refl

-- what a poised thread sees of the shared state
shared_of : (u : Shared) (t : ThreadState) (above : Context) (at : Spot) (m : Move) → Poised (setting_of u) above at (standing u t) m → SharedSound (setting_of u) false (common_of u)
shared_of u t above at m p = record { narrow = (p.sound).narrow; cells = (p.sound).cells; binding = (p.sound).binding; held = p.executors; bounds = (p.sound).bounds }

-- a wait for branches, whichever they are
any_branches : (root : Term) (u : Common) (at : Spot) (bs : List Branch) → MoveFits root u at (move.Asks (ForBranches bs)) → MoveFits root u at (move.Asks (ForBranches []))
any_branches root u For_branches bs h = (tt, tt)
any_branches root u For_executor bs h = absurd h.0
any_branches root u For_task bs h = absurd h.0
any_branches root u For_person bs h = absurd h.0
any_branches root u (Begun k) bs h = absurd h.0
any_branches root u Any_body bs h = absurd h.0
any_branches root u (Body_of k) bs h = absurd h.0
any_branches root u Any_branch bs h = absurd h.0

none_ended : (u : Common) (n : ℕ) (ts : List (NewBranch MachineThread)) → AllAre (λ j. EndIf u j.ended) (new_joins n ts)
none_ended u n [] = tt
none_ended u n (t ∷ ts) = (tt, none_ended u (suc n) ts)

ended_there : (root : Term) (u : Common) (p : Option ℕ) (fs : List Frame) (e : Ending) → fs ≡ [] → EndsAt root u (innermost root (outermost p) fs) e → OutcomeFits u (outcome_of e)
ended_there root u p fs e none h = by_parent p (subst (λ xs. EndsAt root u (innermost root (outermost p) xs) e) none h)
  where
    by_parent : (p : Option ℕ) → EndsAt root u (outermost p) e → OutcomeFits u (outcome_of e)
    by_parent (Some n) h = outcome_there form.Block u e h
    by_parent None h = outcome_there (shape_at root 0).form u e h

-- what branches are to run
runs_branch : (context : Context) (b : NewBranch MachineThread) (d : Branch) → seen b ≡ to_begin context d → (stance_of b.thread).runs ≡ Some (Closure d.closure d.env b.thread.state.head)
runs_branch context b d e = ap (λ s. runs_of s b.thread.state.head) (ap (λ (y : Beginning). y.start) e)

-- a branch that is to begin
new_stands : (u : Shared) → IsScript (script_of u.code) → SharedSound (setting_of u) false (common_of u) → (context : Context) (b : NewBranch MachineThread) (d : Branch) (n p : ℕ) → seen b ≡ to_begin context d → BranchFits (script_of u.code) (common_of u) d
    → SeatStands stance_of u context (record { number = n; parent = Some p; wait = Ready Begin; thread = seated b.thread n (Some p) })
new_stands u script shared context b d n p e fits =
    let head : IsFlowNode u.graph b.thread.state.head = subst (IsFlowNode u.graph) (sym (ap (λ (y : Beginning). y.head) e)) fits.head in
    let none : b.thread.state.stack.items ≡ [] = ap (λ (y : Beginning). y.frames) e in
    let begun : Poised (setting_of u) b.thread.state.context Any_branch (thread_with (setting_of u) (facts_of (script_of u.code) script) (common_of u) (own_of (seated b.thread n (Some p)).state) [] (Some p) u.heap) (move.Enter (Branched b.thread.state.head) d.closure d.env) =
    branch_poised (setting_of u) (facts_of (script_of u.code) script) (common_of u) (own_of (seated b.thread n (Some p)).state) (Some p) u.heap shared head d.closure d.env b.thread.state.head
    ((fits.closure).0, ((fits.closure).1, record { names = (fits.closure).2; variables = fits.variables }, head)) in
    let framed : Poised (setting_of u) b.thread.state.context Any_branch (standing u (seated b.thread n (Some p)).state) (move.Enter (Branched b.thread.state.head) d.closure d.env) =
    subst (λ fs. Poised (setting_of u) b.thread.state.context Any_branch (thread_with (setting_of u) (facts_of (script_of u.code) script) (common_of u) (own_of (seated b.thread n (Some p)).state) fs (Some p) u.heap) (move.Enter (Branched b.thread.state.head) d.closure d.env)) (sym none) begun in
    record {
      poised = subst (λ c. Poised (setting_of u) c Any_branch (standing u (seated b.thread n (Some p)).state) (first_of (stance_of b.thread).runs Begin)) (ap (λ (y : Beginning). y.context) e)
          (subst (λ r. Poised (setting_of u) b.thread.state.context Any_branch (standing u (seated b.thread n (Some p)).state) (first_of r Begin)) (sym (runs_branch context b d e)) framed);
      closures = subst (CallsClosures (script_of u.code) Any_branch) (sym none) tt;
      begun = subst (HasBegun (Ready Begin)) (sym (runs_branch context b d e)) refl;
      start = subst (λ r. StartStands r (Some p) b.thread.state.stack.items) (sym (runs_branch context b d e)) (refl, none);
      number = refl;
      parent = refl;
      wait = tt;
    }

pub head_same : (x y : Beginning) (xs ys : List Beginning) → x ∷ xs ≡ y ∷ ys → x ≡ y
head_same x y xs ys e = cc e

pub rest_same : (x y : Beginning) (xs ys : List Beginning) → x ∷ xs ≡ y ∷ ys → xs ≡ ys
rest_same x y xs ys e = cc e

all_new : (up : Option ℕ → Context) (u : Shared) → IsScript (script_of u.code) → SharedSound (setting_of u) false (common_of u) → (context : Context) (ts : List (NewBranch MachineThread)) (ds : List Branch) (n p : ℕ) → up (Some p) ≡ context → map seen ts ≡ map (to_begin context) ds → AllAre (BranchFits (script_of u.code) (common_of u)) ds
    → AllAre (Quiet up u) (new_seats seated p n ts)
all_new up u script shared context [] ds n p is e fits = tt
all_new up u script shared context (b ∷ ts) [] n p is e fits = absurd (cc e)
all_new up u script shared context (b ∷ ts) (d ∷ ds) n p is e fits = (
  (subst (λ c. SeatStands stance_of u c (record { number = n; parent = Some p; wait = Ready Begin; thread = seated b.thread n (Some p) })) (sym is) (new_stands u script shared context b d n p (head_same _ _ _ _ e) fits.0), (λ given. given)),
  all_new up u script shared context ts ds (suc n) p is (rest_same _ _ _ _ e) fits.1,
)

-- they are new, in this context
all_fresh : (context : Context) (ts : List (NewBranch MachineThread)) (ds : List Branch) (n p : ℕ) → map seen ts ≡ map (to_begin context) ds → AllAre (λ (z : Seat). (z.parent ≡ Some p) × ((stance_of z.thread).own.context ≡ context) × (z.wait ≡ Ready Begin)) (new_seats seated p n ts)
all_fresh context [] ds n p e = tt
all_fresh context (b ∷ ts) [] n p e = absurd (cc e)
all_fresh context (b ∷ ts) (d ∷ ds) n p e = ((refl, ap (λ (y : Beginning). y.context) (head_same _ _ _ _ e), refl), all_fresh context ts ds (suc n) p (rest_same _ _ _ _ e))

-- Threads that a turn begins are branches.
all_branches : (context : Context) (ts : List (NewBranch MachineThread)) (ds : List Branch) → map seen ts ≡ map (to_begin context) ds → AllAre (λ (b : NewBranch MachineThread). is_branch b.thread ≡ true) ts
all_branches context [] ds e = tt
all_branches context (b ∷ ts) [] e = absurd (cc e)
all_branches context (b ∷ ts) (d ∷ ds) e = (ap (λ s. branch_by s b.thread.state.parent) (ap (λ (y : Beginning). y.start) (head_same _ _ _ _ e)), all_branches context ts ds (rest_same _ _ _ _ e))

same_many : (context : Context) (ts : List (NewBranch MachineThread)) (ds : List Branch) → map seen ts ≡ map (to_begin context) ds → length ts ≡ length ds
same_many context [] [] e = refl
same_many context [] (d ∷ ds) e = absurd (cc e)
same_many context (b ∷ ts) [] e = absurd (cc e)
same_many context (b ∷ ts) (d ∷ ds) e = ap suc (same_many context ts ds (rest_same _ _ _ _ e))

-- the latest request is found by its number
asked_found : (before : List OpenRequest) (u : Common) (at : Spot) (n r : ℕ) → Rise 0 u.next_request (numbers_of u.requests) → IsAsked at before u n r → IsForRequest at (find (λ q. nat_eq q.number r) u.requests) n
asked_found before u at n r rise h =
    subst (λ rs. IsForRequest at (find (λ q. nat_eq q.number r) rs) n) (sym h.requests)
    (subst (λ j. IsForRequest at (find (λ q. nat_eq q.number j) (before ++ h.latest ∷ [])) n) h.number
    (latest_found at n 0 u.next_request before h.latest (subst (λ rs. Rise 0 u.next_request (numbers_of rs)) h.requests rise) h.thread h.kind))

-- A thread that is ready with an answer, among threads that fit.
pub first_poised : (xs : List Seat) (u : Shared) (x : Seat) (i : ℕ) (t : MachineThread) (a : Answer) → Fits stance_of xs u → slice_get xs i ≡ Some x → x.thread ≡ t → x.wait ≡ Ready a → Poised (setting_of u) (above stance_of xs x.parent) (outermost x.parent) (standing u t.state) (first_move t a)
first_poised xs u x i t a fits at is ready =
    let seat : SeatStands stance_of u (above stance_of xs x.parent) x = all_at (λ y. SeatStands stance_of u (above stance_of xs y.parent) y) xs i x fits.seats at in
    subst (λ (y : MachineThread). Poised (setting_of u) (above stance_of xs x.parent) (outermost x.parent) (standing u y.state) (first_move y a)) is
    (subst (λ w. Poised (setting_of u) (above stance_of xs x.parent) (outermost x.parent) (standing u x.thread.state) (waiting_move w (stance_of x.thread))) ready seat.poised)

module _ (xs : List Seat) (u u' : Shared) (x : Seat) (i : ℕ) (t t' : MachineThread) (a : Answer) (fits : Fits stance_of xs u) (at : slice_get xs i ≡ Some x) (is : x.thread ≡ t) (ready : x.wait ≡ Ready a) where
  -- the contexts above threads, before the turn
  abbrev up : Option ℕ → Context
  up = above stance_of xs

  begun_at : Poised (setting_of u) (above stance_of xs x.parent) (outermost x.parent) (standing u t.state) (first_move t a)
  begun_at = first_poised xs u x i t a fits at is ready

  number_is : t.state.number ≡ x.number
  number_is = subst (λ (y : MachineThread). y.state.number ≡ x.number) is (all_at (λ y. SeatStands stance_of u (above stance_of xs y.parent) y) xs i x fits.seats at).number

  parent_is : t.state.parent ≡ x.parent
  parent_is = subst (λ (y : MachineThread). y.state.parent ≡ x.parent) is (all_at (λ y. SeatStands stance_of u (above stance_of xs y.parent) y) xs i x fits.seats at).parent

  -- no other thread is about to be given an executor
  not_granted : (y : Seat) → (y.number ≡ x.number → ⊥) → IsAlone xs y → IsGranted y.wait → ⊥
  not_granted y other alone given =
      let only : IsReady x.wait → x.number ≡ y.number = all_at (λ z. IsReady z.wait → z.number ≡ y.number) xs i x (alone given) at in
      other (sym (only (subst IsReady (sym ready) tt)))

  module _ (s : Stopped) (runs : Stops (standing u t.state) (first_move t a) s (standing u' t'.state)) (begun : t'.start ≡ None) where
    same : setting_of u' ≡ setting_of u
    same = (runs.onward).setting

    script' : IsScript (script_of u'.code)
    script' = subst (λ (g : Setting). IsScript g.script) (sym same) fits.script

    -- what is known of each thread
    abbrev Known : Seat → Type 0
    Known y = (SeatStands stance_of u (up y.parent) y × IsAlone xs y) × (y.number ≡ x.number → y.parent ≡ x.parent)

    all : AllAre Known xs
    all = all_both _ _ xs (all_both (λ y. SeatStands stance_of u (up y.parent) y) (IsAlone xs) xs fits.seats fits.alone) (same_parent stance_of i x xs fits.numbers at)

    -- the threads of requests that were open wait for them still
    abbrev StillAwaited : List Seat → Type 0
    StillAwaited ys = AllAre (IsWaitedFor (map (as_seat stance_of) ys)) u.requests

    open_still : (ys : List Seat) → ((q : OpenRequest) → (q.thread ≡ x.number → ⊥) → IsWaitedFor (map (as_seat stance_of) xs) q → IsWaitedFor (map (as_seat stance_of) ys) q) → StillAwaited ys
    open_still ys still = all_weaker _ _ (λ q h. still q (λ e. ready_awaits stance_of xs i x q.number a fits.numbers at ready (subst (λ n. IsAwaited stance_of q.number n xs) e h)) h) u.requests fits.waited_for

    -- the thread's own number and parent stay
    own_number : t'.state.number ≡ x.number
    own_number = (runs.leaves).number ∙ number_is

    own_parent : t'.state.parent ≡ x.parent
    own_parent = ((runs.onward).beside).parent ∙ parent_is

    runs_none : (stance_of t').runs ≡ None
    runs_none = ap (λ o. runs_of o t'.state.head) begun

    -- it waits for no branch
    never : (m : ℕ) → Above m (found stance_of xs x.number) → ⊥
    never m = ready_above stance_of xs i x a m fits.numbers at ready

    -- what it has left open, as the laws of evaluation say
    abbrev open_before : Open
    open_before = turn_open (above stance_of xs x.parent).held (length (above stance_of xs x.parent).folders) u.held (own stance_of u xs fits i x at a ready)

    left : LeavesOpen (script_of u.code) (outermost x.parent) (turn_open (above stance_of xs x.parent).held (length (above stance_of xs x.parent).folders) u.held (own stance_of u xs fits i x at a ready)) (stopping s (standing u' t'.state))
    left = turn_left stance_of u xs fits i x at a ready (omega arith) (stopping s (standing u' t'.state))
        (subst (λ (y : MachineThread). Below (unwind (script_of u.code) turn_fuel y.state.stack.items (move_result (script_of u.code) turn_fuel (first_move y a) (state (standing u y.state).world []))) (stopping s (standing u' t'.state))) (sym is)
        (stops_by (standing u t.state) (first_move t a) s (standing u' t'.state) runs turn_fuel))

    calls_on : CallsClosures (script_of u.code) (outermost x.parent) t'.state.stack.items → CallsClosures (script_of u'.code) (outermost x.parent) t'.state.stack.items
    calls_on h = subst (λ (g : Setting). CallsClosures g.script (outermost x.parent) t'.state.stack.items) (sym same) h

    -- it stands in its seat again
    turned_stands : (w : Wait) → Poised (setting_of u') (up x.parent) (outermost x.parent) (standing u' t'.state) (waiting_move w (stance_of t')) → CallsClosures (script_of u'.code) (outermost x.parent) t'.state.stack.items → HasBegun w (stance_of t').runs → WaitStands (common_of u') (innermost (script_of u'.code) (outermost x.parent) t'.state.stack.items) x.number w
        → (y : Seat) → y.number ≡ x.number → Known y → SeatStands stance_of u' (up y.parent) (turned_seat w t' y)
    turned_stands w poised calls waits wait y e k = record {
      poised = subst (λ q. Poised (setting_of u') (up q) (outermost q) (standing u' t'.state) (waiting_move w (stance_of t'))) (sym (k.1 e)) poised;
      closures = subst (λ q. CallsClosures (script_of u'.code) (outermost q) t'.state.stack.items) (sym (k.1 e)) calls;
      begun = waits;
      start = subst (λ o. StartStands o y.parent t'.state.stack.items) (sym runs_none) tt;
      number = own_number ∙ sym e;
      parent = own_parent ∙ sym (k.1 e);
      wait = subst (λ q. WaitStands (common_of u') (innermost (script_of u'.code) (outermost q) t'.state.stack.items) y.number w) (sym (k.1 e))
          (subst (λ n. WaitStands (common_of u') (innermost (script_of u'.code) (outermost x.parent) t'.state.stack.items) n w) (sym e) wait);
    }

    module _ (m : Move) (poised : Poised (setting_of u') (up x.parent) (outermost x.parent) (standing u' t'.state) m) where
      sound' : SharedSound (setting_of u') false (common_of u')
      sound' = shared_of u' t'.state (up x.parent) (outermost x.parent) m poised

      others : (y : Seat) → (y.number ≡ x.number → ⊥) → Known y → Quiet up u' y
      others y other k =
          let never : IsGranted y.wait → ⊥ = not_granted y other (k.0).1 in (
            stands_on stance_of u u' same ((runs.leaves).follows).later sound' (up y.parent) y never
                (wait_then (common_of u) (common_of u') (runs.leaves).follows (innermost (script_of u.code) (outermost y.parent) y.thread.state.stack.items) y.number y.wait ((k.0).0).wait) (k.0).0,
            never,
          )

      shared' : SharedFits (setting_of u') false (common_of u')
      shared' = turn_shared (setting_of u') (common_of u) (standing u' t'.state).world (runs.leaves).follows poised.sound (subst (λ g. SharedFits g false (common_of u)) (sym same) fits.shared)

      fits_now : (ys : List Seat) → Distinct (numbers ys) → Family stance_of (common_of u') ys → AllAre (IsWaitedFor (map (as_seat stance_of) ys)) u'.requests → AllAre (Quiet (above stance_of ys) u') ys → Holding u'.held (rooms stance_of (above stance_of ys) ys) → Fits stance_of ys u'
      fits_now ys differ family awaited h holding = record {
        script = script';
        shared = shared';
        numbers = differ;
        family = family;
        seats = all_stand (above stance_of ys) u' ys h;
        holds = rooms_hold stance_of u' ys holding;
        differ = rooms_differ stance_of u' ys holding;
        alone = all_alone (above stance_of ys) u' ys ys h;
        waited_for = awaited;
      }

    -- it waits for a request
    module _ (r : ℕ) where
      abbrev asks : Seat → Seat
      asks = turned_seat (RequestWait r) t'

      request_kept : Poised (setting_of u') (up x.parent) (outermost x.parent) (standing u' t'.state) (move.Asks (ForRequest r)) → IsAsked (innermost (script_of u.code) (outermost x.parent) t'.state.stack.items) u.requests (common_of u') t'.state.number r
          → Pausing open_before t'.state.stack.items (standing u' t'.state).world × CallsClosures (script_of u.code) (outermost x.parent) t'.state.stack.items → Fits stance_of (with_seat (turned_seat (RequestWait r) t') x.number xs) u'
      request_kept poised asked leaves =
          let spot : Spot = innermost (script_of u.code) (outermost x.parent) t'.state.stack.items in
          let found : IsForRequest (innermost (script_of u.code) (outermost x.parent) t'.state.stack.items) (find (λ q. nat_eq q.number r) u'.requests) t'.state.number =
          asked_found u.requests (common_of u') (innermost (script_of u.code) (outermost x.parent) t'.state.stack.items) t'.state.number r (shared' (move.Asks (ForRequest r)) poised).requests asked in
          let wait : WaitStands (common_of u') (innermost (script_of u'.code) (outermost x.parent) t'.state.stack.items) x.number (RequestWait r) =
          subst (λ n. IsForRequest (innermost (script_of u'.code) (outermost x.parent) t'.state.stack.items) (find (λ q. nat_eq q.number r) u'.requests) n) own_number
          (subst (λ (g : Setting). IsForRequest (innermost g.script (outermost x.parent) t'.state.stack.items) (find (λ q. nat_eq q.number r) u'.requests) t'.state.number) (sym same) found) in
          fits_now (move.Asks (ForRequest r)) poised _ (differ_with asks (λ y. refl) x.number xs fits.numbers)
          (changed_family stance_of (common_of u) (common_of u') ((runs.leaves).follows).later xs fits.family x.number never (λ y. RequestWait r) (λ y. t') (λ y e. tt))
          (subst (AllAre (IsWaitedFor (map (as_seat stance_of) (with_seat asks x.number xs)))) (sym asked.requests)
          (all_append _ u.requests (asked.latest ∷ [])
          (open_still (with_seat asks x.number xs) (λ q other h. found_with stance_of (WaitsFor q.number) asks (λ y. refl) x.number q.thread (λ y e w. absurd (other e)) xs h)) (
            subst (λ n. IsAwaited stance_of (asked.latest).number n (with_seat asks x.number xs)) (sym (asked.thread ∙ own_number))
                (found_now stance_of (WaitsFor (asked.latest).number) asks (λ y. refl) (λ y. ap RequestWait (sym asked.number)) xs i x at),
            tt,
          )))
          (all_under up (above stance_of (with_seat asks x.number xs)) u' (with_seat asks x.number xs) (waits_under stance_of u xs fits i x at a ready u' t' t'.state.stack.items leaves.0 (RequestWait r) (λ zs. refl))
          (with_all Known (Quiet up u') asks x.number (λ y e k. (turned_stands (RequestWait r) poised (calls_on leaves.1) runs_none wait y e k, λ given. given)) (others (move.Asks (ForRequest r)) poised) xs all))
          (waits_holding stance_of u xs fits i x at a ready u' t' t'.state.stack.items leaves.0 (RequestWait r) (λ zs. refl))

    -- it waits for branches that begin
    module _ (next : ℕ) (ts : List (NewBranch MachineThread)) where
      abbrev forks : Seat → Seat
      forks = turned_seat (BranchesWait (new_joins next ts)) t'

      branches_kept : AllBelow next xs → 1 ≤ length ts → u'.requests ≡ u.requests → (ds : List Branch) → map seen ts ≡ map (to_begin t'.state.context) ds → Poised (setting_of u') (up x.parent) (outermost x.parent) (standing u' t'.state) (move.Asks (ForBranches ds))
          → Pausing open_before t'.state.stack.items (standing u' t'.state).world × CallsClosures (script_of u.code) (outermost x.parent) t'.state.stack.items → Fits stance_of (with_seat (turned_seat (BranchesWait (new_joins next ts)) t') x.number xs ++ new_seats seated x.number next ts) u'
      branches_kept below some quiet ds e poised leaves =
          let waits : Poised (setting_of u') (up x.parent) (outermost x.parent) (standing u' t'.state) (move.Asks (ForBranches [])) =
          with_move (setting_of u') (up x.parent) (outermost x.parent) (standing u' t'.state) (move.Asks (ForBranches ds)) (move.Asks (ForBranches []))
          (any_branches (script_of u'.code) (common_of u') (innermost (script_of u'.code) (outermost x.parent) t'.state.stack.items) ds poised.move) poised in
          fits_now (move.Asks (ForBranches ds)) poised _
          (differ_more seated x.number next ts (with_seat forks x.number xs) (below_with forks (λ y. refl) x.number next xs below) (differ_with forks (λ y. refl) x.number xs fits.numbers))
          (forked_family stance_of (common_of u) (common_of u') ((runs.leaves).follows).later xs fits.family x.number never t' seated next ts below (all_at (λ y. y.number < next) xs i x below at) some i x at refl)
          (subst (AllAre (IsWaitedFor (map (as_seat stance_of) (with_seat forks x.number xs ++ new_seats seated x.number next ts)))) (sym quiet)
          (open_still (with_seat forks x.number xs ++ new_seats seated x.number next ts)
          (λ q other h. found_more stance_of (WaitsFor q.number) (λ none. none) q.thread (with_seat forks x.number xs) (new_seats seated x.number next ts) (found_with stance_of (WaitsFor q.number) forks (λ y. refl) x.number q.thread (λ y e w. absurd (other e)) xs h))))
          (all_more (Quiet (above stance_of (with_seat forks x.number xs ++ new_seats seated x.number next ts)) u') (with_seat forks x.number xs) (new_seats seated x.number next ts)
          (all_under up (above stance_of (with_seat forks x.number xs ++ new_seats seated x.number next ts)) u' (with_seat forks x.number xs)
          (forks_under stance_of u xs fits i x at a ready u' t' t'.state.stack.items leaves.0 (BranchesWait (new_joins next ts)) (λ zs. refl) (new_seats seated x.number next ts) (all_fresh t'.state.context ts ds next x.number e))
          (with_all Known (Quiet up u') forks x.number (λ y e k. (turned_stands (BranchesWait (new_joins next ts)) waits (calls_on leaves.1) runs_none (none_ended (common_of u') next ts) y e k, λ given. given)) (others (move.Asks (ForBranches ds)) poised) xs all))
          (all_new (above stance_of (with_seat forks x.number xs ++ new_seats seated x.number next ts)) u' script' (sound' (move.Asks (ForBranches ds)) poised) t'.state.context ts ds next x.number
          (above_new stance_of u xs fits i x at a ready u' t' t'.state.stack.items leaves.0 (BranchesWait (new_joins next ts)) (λ zs. refl) (new_seats seated x.number next ts) (all_fresh t'.state.context ts ds next x.number e)) e (poised.move).1))
          (forks_holding stance_of u xs fits i x at a ready u' t' t'.state.stack.items leaves.0 (BranchesWait (new_joins next ts)) (λ zs. refl) (new_seats seated x.number next ts) (all_fresh t'.state.context ts ds next x.number e))

    -- it has ended, and its parent goes on where it was the last
    module _ (o : Outcome) where
      abbrev joins : Seat → Seat
      joins = joined_seat x.number t'.state.head o

      ended_kept : (e : Ending) (p : ℕ) → x.parent ≡ Some p → u'.requests ≡ u.requests → o ≡ outcome_of e → t'.state.stack.items ≡ [] → Poised (setting_of u') (up x.parent) (outermost x.parent) (standing u' t'.state) (move.Ends e) → Pausing open_before [] (standing u' t'.state).world
          → Fits stance_of (with_seat (joined_seat x.number t'.state.head o) p (without_seat x.number xs)) u'
      ended_kept e p under quiet is_outcome none poised leaves =
          let there : OutcomeFits (common_of u') o = subst (OutcomeFits (common_of u')) (sym is_outcome) (ended_there (script_of u'.code) (common_of u') x.parent t'.state.stack.items e none poised.move) in
          let own : ParentFits (map (as_seat stance_of) xs) x.number (Some p) = subst (ParentFits (map (as_seat stance_of) xs) x.number) under (all_at (λ y. ParentFits (map (as_seat stance_of) xs) y.number y.parent) xs i x (fits.family).parents at) in
          fits_now (move.Ends e) poised _ (differ_with joins (λ y. refl) p (without_seat x.number xs) (differ_without x.number xs fits.numbers))
          (ended_family stance_of (common_of u) (common_of u') ((runs.leaves).follows).later xs fits.family x.number never p t'.state.head o own.0 (λ m h. one_parent m p x.parent (subst (ParentIs m) (found_at stance_of xs i x fits.numbers at) h) under) (λ place. ((poised.sound).head, there)))
          (subst (AllAre (IsWaitedFor (map (as_seat stance_of) (with_seat joins p (without_seat x.number xs))))) (sym quiet)
          (open_still (with_seat joins p (without_seat x.number xs))
          (λ q other h. found_with stance_of (WaitsFor q.number) joins (λ y. refl) p q.thread (λ y e w. joined_request x.number t'.state.head o q.number y.wait w) (without_seat x.number xs) (found_without stance_of (WaitsFor q.number) x.number q.thread other xs h))))
          (all_under up (above stance_of (with_seat joins p (without_seat x.number xs))) u' (with_seat joins p (without_seat x.number xs)) (ends_under stance_of u xs fits i x at a ready u' t' [] leaves t'.state.head o p)
          (with_all (Quiet up u') (Quiet up u') joins p
          (λ y at h. (joined_stands stance_of u' (up y.parent) x.number t'.state.head o (poised.sound).head there y y.wait h.0, joined_grants x.number t'.state.head o y.wait h.1))
          (λ y other h. h) (without_seat x.number xs)
          (without_all Known (Quiet up u') x.number (others (move.Ends e) poised) xs all)))
          (ends_holding stance_of u xs fits i x at a ready u' t' [] leaves t'.state.head o p)

-- and it waits for one of them at least
some_branch : (u u' : Shared) (t t' : MachineThread) (m : Move) (ds : List Branch) (ts : List (NewBranch MachineThread)) → map seen ts ≡ map (to_begin t'.state.context) ds → Stops (standing u t.state) m (stopped.Waits (ForBranches ds)) (standing u' t'.state) → 1 ≤ length ts
some_branch u u' t t' m [] ts e runs = absurd ((runs.leaves).waits Any_branch)
some_branch u u' t t' m (d ∷ ds) ts e runs = (let many : length ts ≡ length (d ∷ ds) = same_many t'.state.context ts (d ∷ ds) e in omega (arith, many))

-- a thread that waits for branches has opened no request
no_request : (u u' : Shared) (t t' : MachineThread) (m : Move) (ds : List Branch) → Stops (standing u t.state) m (stopped.Waits (ForBranches ds)) (standing u' t'.state) → u'.requests ≡ u.requests
no_request u u' t t' m [] runs = absurd ((runs.leaves).waits Any_branch)
no_request u u' t t' m (d ∷ ds) runs = (runs.leaves).waits Any_branch

-- So a turn keeps the fit of all threads.
turn_fits : (g : Threads MachineThread) (u u' : Shared) (x : Seat) (i : ℕ) (t t' : MachineThread) (a : Answer) (fits : Fits stance_of g.seats u) → AllBelow g.next g.seats → (at : slice_get g.seats i ≡ Some x) (is : x.thread ≡ t) (ready : x.wait ≡ Ready a) (s : Stopped) (stops : Stop MachineThread)
    → IsStop s stops t'.state.context → Stops (standing u t.state) (first_move t a) s (standing u' t'.state) → t'.start ≡ None → (parent : Option ℕ) → x.parent ≡ parent → GoesOn parent stops
    → Fits stance_of (turned seated last_node g (record { number = x.number; parent = parent; wait = x.wait; thread = x.thread }) stops t').seats u'
turn_fits g u u' x i t t' a fits below at is ready (stopped.Waits (ForRequest r)) (stop.Waits q) e runs begun parent under goes =
    let b = begun_at g.seats u u' x i t t' a fits at is ready in
    subst (λ j. Fits stance_of (with_seat (turned_seat (RequestWait j) t') x.number g.seats) u') (sym e)
    (request_kept g.seats u u' x i t t' a fits at is ready (stopped.Waits (ForRequest r)) runs begun r (runs.stands (above stance_of g.seats x.parent) (outermost x.parent) b) ((runs.leaves).waits (outermost x.parent)) (left g.seats u u' x i t t' a fits at is ready (stopped.Waits (ForRequest r)) runs begun))
turn_fits g u u' x i t t' a fits below at is ready (stopped.Waits (ForBranches ds)) (stop.Forks ts) e runs begun parent under goes =
    let b = begun_at g.seats u u' x i t t' a fits at is ready in
    branches_kept g.seats u u' x i t t' a fits at is ready (stopped.Waits (ForBranches ds)) runs begun g.next ts below (some_branch u u' t t' (first_move t a) ds ts e runs) (no_request u u' t t' (first_move t a) ds runs) ds e (runs.stands (above stance_of g.seats x.parent) (outermost x.parent) b)
    (left g.seats u u' x i t t' a fits at is ready (stopped.Waits (ForBranches ds)) runs begun)
turn_fits g u u' x i t t' a fits below at is ready (stopped.Ended e) (stop.Ended o) same runs begun (Some p) under goes =
    let b = begun_at g.seats u u' x i t t' a fits at is ready in
    ended_kept g.seats u u' x i t t' a fits at is ready (stopped.Ended e) runs begun o e p under ((runs.leaves).waits Any_branch) same runs.over (runs.stands (above stance_of g.seats x.parent) (outermost x.parent) b)
    (left g.seats u u' x i t t' a fits at is ready (stopped.Ended e) runs begun)
turn_fits g u u' x i t t' a fits below at is ready (stopped.Ended e) (stop.Ended o) outcome runs begun None under goes = absurd goes
turn_fits g u u' x i t t' a fits below at is ready s (stop.Limit k) never runs begun parent under goes = absurd goes
turn_fits g u u' x i t t' a fits below at is ready s stops never runs begun parent under goes = absurd never

pub turn_keeps : (t t' : MachineThread) (u u' : Shared) (a : Answer) (stops : Stop MachineThread) → IsTurn t u a stops t' u' → Keeps seated last_node (Fits stance_of) t u a stops t' u'
turn_keeps t t' u u' a stops turn g x i fits below at is ready goes = turn_fits g u u' x i t t' a fits below at is ready turn.stopped_so stops turn.stop turn.runs turn.begun x.parent refl goes

-- A thread in its seat has a parent exactly where it is a branch.
branch_is : (s : Option Start) (head : ℕ) (own p : Option ℕ) (fs : List Frame) → own ≡ p → StartStands (runs_of s head) p fs → branch_by s own ≡ is_some p
branch_is None head own p fs e h = ap is_some e
branch_is (Some start.Script) head own p fs e h = sym (ap is_some h.0)
branch_is (Some (start.Branch c)) head own p fs e h = sym h.0

seated_branch : (u : Shared) (above : Context) (x : Seat) → SeatStands stance_of u above x → is_branch x.thread ≡ is_some x.parent
seated_branch u above x h = branch_is x.thread.start x.thread.state.head x.thread.state.parent x.parent x.thread.state.stack.items h.parent h.start

pub turn_branch : (t t' : MachineThread) (u u' : Shared) (a : Answer) (stops : Stop MachineThread) → MayResume (Fits stance_of) t u a → IsTurn t u a stops t' u' → is_branch t' ≡ is_branch t
turn_branch t t' u u' a stops may turn =
    let seat : SeatStands stance_of u (above stance_of may.0 (may.1).parent) may.1 = all_at (λ y. SeatStands stance_of u (above stance_of may.0 y.parent) y) may.0 may.2 may.1 (may.3).seats may.4 in
    let was : is_branch t ≡ is_some (may.1).parent = subst (λ (y : MachineThread). is_branch y ≡ is_some (may.1).parent) may.5 (seated_branch u (above stance_of may.0 (may.1).parent) may.1 seat) in
    let parent : t.state.parent ≡ (may.1).parent = subst (λ (y : MachineThread). y.state.parent ≡ (may.1).parent) may.5 seat.parent in
    ap (λ s. branch_by s t'.state.parent) turn.begun ∙ ap is_some ((((turn.runs).onward).beside).parent ∙ parent) ∙ sym was

-- Each branch that begins or ends has made a flow node.
lowers_by : (t t' : MachineThread) (u u' : Shared) (m : Move) (s : Stopped) (stops : Stop MachineThread) (p : Option ℕ) → IsStop s stops t'.state.context → Stops (standing u t.state) m s (standing u' t'.state) → (above : Context) → Poised (setting_of u) above (outermost p) (standing u t.state) m → Lowers stops (is_some p) (nodes_left u) (nodes_left u')
lowers_by t t' u u' m (stopped.Waits (ForRequest r)) (stop.Waits q) p e runs above poised = (let l : nodes_left u' + 0 ≤ nodes_left u = (runs.leaves).spent in omega (arith, l))
lowers_by t t' u u' m (stopped.Waits (ForBranches [])) (stop.Forks ts) p e runs above poised = absurd ((runs.leaves).waits Any_branch)
lowers_by t t' u u' m (stopped.Waits (ForBranches (d ∷ ds))) (stop.Forks ts) p e runs above poised =
    let l : nodes_left u' + suc (length (d ∷ ds)) ≤ nodes_left u = (runs.leaves).spent in
    let many : length ts ≡ length (d ∷ ds) = same_many t'.state.context ts (d ∷ ds) e in
    (omega (arith, many), omega (arith, l, many))
lowers_by t t' u u' m (stopped.Ended e) (stop.Ended o) (Some p) same runs above poised = runs.branch_ends above poised runs.over
lowers_by t t' u u' m (stopped.Ended e) (stop.Ended o) None same runs above poised = (let l : nodes_left u' + 0 ≤ nodes_left u = (runs.leaves).spent in omega (arith, l))
lowers_by t t' u u' m (stopped.Limit k) (stop.Limit j) p same runs above poised = (let l : nodes_left u' + 0 ≤ nodes_left u = (runs.leaves).spent in omega (arith, l))
lowers_by t t' u u' m s stops p same runs above poised = absurd same

pub turn_lowers : (t t' : MachineThread) (u u' : Shared) (a : Answer) (stops : Stop MachineThread) → MayResume (Fits stance_of) t u a → IsTurn t u a stops t' u' → Lowers stops (is_branch t) (nodes_left u) (nodes_left u')
turn_lowers t t' u u' a stops may turn =
    let b = first_poised may.0 u may.1 may.2 t a may.3 may.4 may.5 may.6 in
    let was : is_branch t ≡ is_some (may.1).parent = subst (λ (y : MachineThread). is_branch y ≡ is_some (may.1).parent) may.5 (seated_branch u (above stance_of may.0 (may.1).parent) may.1 (all_at (λ y. SeatStands stance_of u (above stance_of may.0 y.parent) y) may.0 may.2 may.1 (may.3).seats may.4)) in
    subst (λ x. Lowers stops x (nodes_left u) (nodes_left u')) (sym was) (lowers_by t t' u u' (first_move t a) turn.stopped_so stops (may.1).parent turn.stop turn.runs (above stance_of may.0 (may.1).parent) b)

begins_by : (s : Stopped) (stops : Stop MachineThread) (context : Context) → IsStop s stops context → Begins is_branch stops
begins_by (stopped.Waits (ForBranches ds)) (stop.Forks ts) context e = all_branches context ts ds e
begins_by s (stop.Waits q) context e = tt
begins_by s (stop.Ended o) context e = tt
begins_by s (stop.Limit k) context e = tt
begins_by s stops context e = absurd e

pub turn_begins : (t t' : MachineThread) (u u' : Shared) (a : Answer) (stops : Stop MachineThread) → IsTurn t u a stops t' u' → Begins is_branch stops
turn_begins t t' u u' a stops turn = begins_by turn.stopped_so stops t'.state.context turn.stop

-- And the machine may run.
first_begins : (s : Option Runs) (a : Answer) → May_begin (first_of s a)
first_begins None a = tt
first_begins (Some Script) a = tt
first_begins (Some (Closure k env head)) a = tt

pub turn_runs : (t : MachineThread) (u : Shared) (a : Answer) → MayResume (Fits stance_of) t u a → IsScript (script_of u.code) × MayRun (standing u t.state) (first_move t a)
turn_runs t u a may =
    let b = first_poised may.0 u may.1 may.2 t a may.3 may.4 may.5 may.6 in
    let holds : HoldsAll (standing u t.state).world (first_move t a) = subst (λ (y : MachineThread). HoldsAll (standing u y.state).world (first_move y a)) may.5 (first_holds stance_of u may.0 may.3 may.2 may.1 may.4 a may.6) in (
      (may.3).script,
      record {
        above = above stance_of may.0 (may.1).parent;
        at = outermost (may.1).parent;
        poised = b;
        begins = first_begins (stance_of t).runs a;
        holds = holds;
        enough = above_has_folders stance_of u may.0 may.3 may.2 may.1 may.4;
      },
    )

-- so it may run what it does first
pub first_runs : (t t1 : MachineThread) (u : Shared) (a : Answer) (first : Move) → MayResume (Fits stance_of) t u a → t1 ≡ record t { start = None } → first ≡ first_move t a → MayRun (standing u t1.state) first
first_runs t t1 u a first may e is =
    subst (λ (m : Move). MayRun (standing u t1.state) m) (sym is) (subst (λ (y : MachineThread). MayRun (standing u y.state) (first_move t a)) (sym e) (turn_runs t u a may).1)

-- What it runs ends as a block does.
script_plain : (root : Term) → IsScript root → is_declaration (shape_at root 0).form ≡ false
script_plain root script =
    subst (λ t. is_declaration (form_of t) ≡ false) (sym (script_at root script))
    (∥∥₁_elim script (hlevel (Bool-set)) (λ s. subst (λ t. is_declaration (form_of t) ≡ false) (sym s.1) refl))

ends_outermost : (root : Term) → IsScript root → (p : Option ℕ) (u : Common) (e : Ending) → EndsAt root u (outermost p) e → is_block_ending e ≡ true
ends_outermost root script None u e h = plain_ends (shape_at root 0).form u e (script_plain root script) h
ends_outermost root script (Some p) u e h = plain_ends form.Block u e refl h

ends_so : (t : MachineThread) (u : Shared) (a : Answer) (s : Stopped) (v : Standing) → MayResume (Fits stance_of) t u a → Stops (standing u t.state) (first_move t a) s v → EndsAsBlock s
ends_so t u a (stopped.Ended e) v may stops =
    let b = first_poised may.0 u may.1 may.2 t a may.3 may.4 may.5 may.6 in
    let at : Spot = outermost (may.1).parent in
    let still : Poised v.world.setting (above stance_of may.0 (may.1).parent) at v (move.Ends e) = stops.stands (above stance_of may.0 (may.1).parent) at b in
    let here : EndsAt v.world.setting.script v.world.shared at e = subst (λ fs. EndsAt v.world.setting.script v.world.shared (innermost v.world.setting.script at fs) e) stops.over still.move in
    ends_outermost v.world.setting.script (subst (λ (g : Setting). IsScript g.script) (sym stops.onward.setting) (may.3).script) (may.1).parent v.world.shared e here
ends_so t u a (stopped.Limit k) v may stops = tt
ends_so t u a (stopped.Waits q) v may stops = tt

pub turn_ends : (t t1 : MachineThread) (u : Shared) (a : Answer) (first : Move) (s : Stopped) (v : Standing) → MayResume (Fits stance_of) t u a → t1 ≡ record t { start = None } → first ≡ first_move t a → Stops (standing u t1.state) first s v → EndsAsBlock s
turn_ends t t1 u a first s v may e is runs =
    ends_so t u a s v may (subst (λ (m : Move). Stops (standing u t.state) m s v) is (subst (λ (y : MachineThread). Stops (standing u y.state) first s v) e runs))

pub turn_made : (t t1 : MachineThread) (u u' : Shared) (a : Answer) (first : Move) (s : Stopped) (st : ThreadState) (stops : Stop MachineThread) → t1 ≡ record t { start = None } → first ≡ first_move t a → Stops (standing u t1.state) first s (standing u' st) → IsStop s stops st.context
    → (low : ℕ) → StaysBelow t1.low t1.state.stack.items low st.stack.items → IsTurn t u a stops (record t1 { state = st; low = low; touched = true }) u'
turn_made t t1 u u' a first s st stops e is runs stop low stays = record {
  stopped_so = s;
  stop = stop;
  runs = subst (λ (m : Move). Stops (standing u t.state) m s (standing u' st)) is (subst (λ (y : MachineThread). Stops (standing u y.state) first s (standing u' st)) e runs);
  begun = ap (λ (y : MachineThread). y.start) e;
  stays = subst (λ (y : MachineThread). StaysBelow y.low y.state.stack.items low st.stack.items) e stays;
  touched = refl;
}

-- A turn is one of direct evaluation: of a thread that goes on, of the script, and of a branch.
pub turn_resumes : (t t' : MachineThread) (u u' : Shared) (a : Answer) (stops : Stop MachineThread) → MayResume (Fits stance_of) t u a → t.start ≡ None → (turn : IsTurn t u a stops t' u') → ResumesAs (standing u t.state) a turn.stopped_so (standing u' t'.state)
turn_resumes t t' u u' a stops may begun turn =
    resumes_as (standing u t.state) a turn.stopped_so (standing u' t'.state) (may.3).script (omega arith)
    (subst (λ s. Stops (standing u t.state) (first_of (runs_of s t.state.head) a) turn.stopped_so (standing u' t'.state)) begun turn.runs)

pub turn_of_script : (t t' : MachineThread) (u u' : Shared) (a : Answer) (stops : Stop MachineThread) → MayResume (Fits stance_of) t u a → t.start ≡ Some start.Script → t.state.stack.items ≡ [] → (turn : IsTurn t u a stops t' u') → BeginsAs Script (standing u t.state) turn.stopped_so (standing u' t'.state)
turn_of_script t t' u u' a stops may begins none turn =
    begins_script (standing u t.state) turn.stopped_so (standing u' t'.state) (may.3).script (omega arith) none
    (subst (λ s. Stops (standing u t.state) (first_of (runs_of s t.state.head) a) turn.stopped_so (standing u' t'.state)) begins turn.runs)

pub turn_of_branch : (t t' : MachineThread) (u u' : Shared) (a : Answer) (stops : Stop MachineThread) (c : Callee) → t.start ≡ Some (start.Branch c) → t.state.stack.items ≡ [] → (turn : IsTurn t u a stops t' u') → BeginsAs (Closure c.node c.env t.state.head) (standing u t.state) turn.stopped_so (standing u' t'.state)
turn_of_branch t t' u u' a stops c begins none turn =
    begins_branch (standing u t.state) c.node c.env t.state.head turn.stopped_so (standing u' t'.state) (omega arith) none
    (subst (λ s. Stops (standing u t.state) (first_of (runs_of s t.state.head) a) turn.stopped_so (standing u' t'.state)) begins turn.runs)
