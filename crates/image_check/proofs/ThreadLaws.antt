-- Where no test of a thread fails, it is one of a sound build, and the other way round.
use Rattle.std.proofs.Common.{◌≡◌, ◌∙◌, ◌<◌, ◌≤◌, ◌+◌, ◌++◌, ℕ, suc, Bool, true, false, not, List, [], ◌∷◌, length, length-append, map, take, drop, Option, Some, None, refl, ap, sym, subst, arith, inl, inr}
use Rattle.std.specs.Prelude.{◌&&◌, ◌||◌, ◌⊎◌, nat_eq, nat_lt, filter, cond, is_some, slice_get}
use Rattle.std.specs.Option.{option_map}
use Rattle.std.specs.List.{AllByRecursion as AllAre, list_all, list_any}
use Rattle.std.specs.Cmp.Lexicographic.{bytes_decides, pointwise}
use Rattle.std.proofs.lemmas.Bool.{eqb-true, eq-eqb}
use Rattle.std.proofs.lemmas.List.{take-append-drop}
use Rattle.std.proofs.Math.Seq.{take-append_seam}
use Rattle.model_values.specs.declared.cell.Cell.{Cell}
use Rattle.model_values.specs.declared.cell.Cell.TheVariants as cell
use Rattle.model_values.specs.declared.value.Outcome.{Outcome}
use Rattle.model_values.specs.declared.value.Outcome.TheVariants.{Value as ValueOutcome, Thrown as ThrownOutcome}
use Rattle.model_values.specs.Fitting.{HasThrowable}
use Rattle.model_run.specs.declared.frame.FrameKind.{FrameKind}
use Rattle.model_run.specs.declared.request.OpenRequest.{OpenRequest}
use Rattle.model_run.specs.declared.wait.Join.{Join}
use Rattle.model_run.specs.declared.wait.JoinEnd.{JoinEnd}
use Rattle.model_run.specs.declared.wait.Wait.{Wait}
use Rattle.model_run.specs.declared.wait.Wait.TheVariants.{Ready, Request as RequestWait, Branches}
use Rattle.model_run.specs.Fitting.{Above, Asks, context_in, holds_executor, holds_folder, BranchFits, ForRequest, IsOpen, JoinFits, NotReady, OutcomeFits, ParentFits, ParentIs, Some_of, WaitFits, Waited, context_above as above_seat, seat_of}
use Rattle.model_run.specs.Nesting.{Spot, For_branches, Begun, Any_body, Body_of, Any_branch, For_executor, For_task, For_person}
use Rattle.model_run.specs.State.{Common}
use Rattle.model_run.specs.Steps.{held_for}
use Rattle.model_run.specs.Terms.{Term}
use Rattle.image_form.specs.declared.image.Image.{Image}
use Rattle.image_form.specs.declared.image.ImageThread.{ImageThread}
use Rattle.image_form.specs.declared.image.ImageFrame.{ImageFrame}
use Rattle.image_frames.specs.Standings.{frame_in, kind_of}
use Rattle.frame_rows.specs.Leading.{Decides, may_ask}
use Rattle.frame_rows.proofs.StandLaws.{asks_decided}
use Rattle.image_check.specs.Requests.{all_differ, thread_of}
use Rattle.image_check.specs.Scans.{none_or}
use Rattle.image_check.specs.Standings.{seat_in, shared_in}
use Rattle.image_check.specs.Threads.{asked, bodies, context_above, context_in as in_thread, goes_on, is_held, awaits, has_branch, has_branches, has_end, has_end_node, has_outcome, has_parent, has_request, is_child, is_flow_node, is_for_branches, is_number, is_open, is_open_branch, is_own, is_ready, is_throwable, joins_of, may_be_asked, may_wait}
use Rattle.image_check.proofs.Testing.{Tests, alike, both, flag, less, same, left_true, right_true, both_true}
use Rattle.image_check.proofs.Numbers.{differ_tests}
use Rattle.image_check.proofs.RequestLaws.{Seated, find_seat, none_tests, some_tests}
use Rattle.image_check.proofs.CellLaws.{there}

-- of lists
all_tests : {A : Type 0} (t : A → Bool) (P : A → Type 0) → ((x : A) → Tests (t x) (P x)) → (xs : List A) → Tests (list_all t xs) (AllAre P xs)
all_tests t P one [] = record { holds = λ e. tt; told = λ h. refl }
all_tests t P one (x ∷ xs) = both (t x) (list_all t xs) (one x) (all_tests t P one xs)

or_tests : {P Q : Type 0} (a b : Bool) → Tests a P → Tests b Q → Tests (a || b) (P ⊎ Q)
or_tests true b p q = record { holds = λ e. inl (p.holds refl); told = λ h. refl }
or_tests false b p q = record { holds = λ e. inr (q.holds e); told = λ h. elim h [ inl x ↦ absurd (cc (p.told x)) | inr y ↦ q.told y ] }

any_tests : {A : Type 0} (t : A → Bool) (P : A → Type 0) → ((x : A) → Tests (t x) (P x)) → (xs : List A) → Tests (list_any t xs) (Some_of P xs)
any_tests t P one [] = record { holds = λ e. absurd (cc e); told = λ h. absurd h }
any_tests t P one (x ∷ xs) = or_tests (t x) (list_any t xs) (one x) (any_tests t P one xs)

asked_tests : (P : Type 0) (b : Bool) → Decides b P → Tests b P
asked_tests P true p = record { holds = λ e. p; told = λ h. refl }
asked_tests P false p = record { holds = λ e. absurd (cc e); told = λ h. absurd (p h) }

-- flow nodes, and what branches ended with
pub node_tests : (nodes n : ℕ) → Tests (is_flow_node nodes n) ((2 ≤ n) × (n < nodes + 2))
node_tests nodes n = both (nat_lt 1 n) (nat_lt n (nodes + 2)) (alike (nat_lt 1 n) (less 1 n) (λ h. omega (arith, h)) (λ h. omega (arith, h))) (less n (nodes + 2))

throwable_tests : (o : Option Cell) → Tests (is_throwable o) (HasThrowable o)
throwable_tests (Some (cell.Thrown c m)) = record { holds = λ e. tt; told = λ h. refl }
throwable_tests o = record { holds = λ e. absurd (cc e); told = λ h. absurd h }

outcome_tests : (u : Common) (o : Outcome) → Tests (has_outcome u.cells o) (OutcomeFits u o)
outcome_tests u (ValueOutcome v) = there u.cells v
outcome_tests u (ThrownOutcome c) = throwable_tests (slice_get u.cells c)

-- seats have the numbers, parents, waits and contexts of their threads
pub seated : (root : Term) → Seated (seat_in root)
seated root = record { number = λ t. refl; wait = λ t. refl }

module _ (root : Term) (i : Image) where
  found : (n : ℕ) → seat_of (map (seat_in root) i.threads) n ≡ option_map (seat_in root) (thread_of i n)
  found n = find_seat (seat_in root) (seated root) n i.threads

  -- a branch that has not ended is a thread with this parent
  number_tests : (n : ℕ) (o : Option ℕ) → Tests (is_number n o) (o ≡ Some n)
  number_tests n None = record { holds = λ e. absurd (cc e); told = λ h. absurd (cc h) }
  number_tests n (Some p) = alike (nat_eq p n) (same p n) (λ e. ap Some e) (λ e. cc e)

  child_of : (n : ℕ) (o : Option ImageThread) → Tests (is_child n o) (ParentIs n (option_map (seat_in root) o))
  child_of n None = record { holds = λ e. absurd (cc e); told = λ h. absurd h }
  child_of n (Some t) = number_tests n t.parent

  child_tests : (n m : ℕ) → Tests (is_child n (thread_of i m)) (ParentIs n (seat_of (map (seat_in root) i.threads) m))
  child_tests n m = subst (λ o. Tests (is_child n (thread_of i m)) (ParentIs n o)) (sym (found m)) (child_of n (thread_of i m))

  -- the three tests of a branch
  branch_of : (n m : ℕ) (o : Option JoinEnd) → Tests (none_or (λ (e : JoinEnd). is_flow_node (length i.nodes) e.node) o && (none_or (λ (e : JoinEnd). has_outcome i.cells e.outcome) o && (is_some o || is_child n (thread_of i m)))) (BranchFits (shared_in i) n o (seat_of (map (seat_in root) i.threads) m))
  branch_of n m None = child_tests n m
  branch_of n m (Some e) =
      let node = is_flow_node (length i.nodes) e.node in
      let outcome = has_outcome i.cells e.outcome in
      alike (node && (outcome && true)) (both node (outcome && true) (node_tests (length i.nodes) e.node) (both outcome true (outcome_tests (shared_in i) e.outcome) (flag true)))
      (λ h. (h.0, h.1.0)) (λ h. (h.0, (h.1, refl)))

  branch_tests : (n : ℕ) (j : Join) → Tests (has_end_node (length i.nodes) j && (has_end i.cells j && has_branch i n j)) (JoinFits (shared_in i) (map (seat_in root) i.threads) n j)
  branch_tests n j = branch_of n j.thread j.ended

  -- the parent waits for a branch
  open_tests : (n : ℕ) (j : Join) → Tests (is_open_branch n j) ((j.thread ≡ n) × (j.ended ≡ None))
  open_tests n j = both (nat_eq j.thread n) (not (is_some j.ended)) (same j.thread n) (none_tests j.ended)

  waited_of : (n : ℕ) (w : Wait) → Tests (list_any (is_open_branch n) (joins_of w)) (Waited n w)
  waited_of n (Branches js) = any_tests (is_open_branch n) (λ j. (j.thread ≡ n) × (j.ended ≡ None)) (open_tests n) js
  waited_of n (Ready x) = record { holds = λ e. absurd (cc e); told = λ h. absurd h }
  waited_of n (RequestWait r) = record { holds = λ e. absurd (cc e); told = λ h. absurd h }

  above_of : (n : ℕ) (o : Option ImageThread) → Tests (awaits n o) (Above n (option_map (seat_in root) o))
  above_of n None = record { holds = λ e. absurd (cc e); told = λ h. absurd h }
  above_of n (Some t) = waited_of n t.wait

  pub parent_tests : (n : ℕ) (o : Option ℕ) → Tests (has_parent i n o) (ParentFits (map (seat_in root) i.threads) n o)
  parent_tests n None = same n 0
  parent_tests n (Some p) =
      both (nat_lt p n) (awaits n (thread_of i p)) (less p n)
      (subst (λ o. Tests (awaits n (thread_of i p)) (Above n o)) (sym (found p)) (above_of n (thread_of i p)))

  -- A wait: the tests of its request, of its branches, and of its spot.
  own_tests : (n : ℕ) (at : Spot) (o : Option OpenRequest) → Tests (is_own n o && may_be_asked at o) (ForRequest at o n)
  own_tests n at None = record { holds = λ e. absurd (cc e); told = λ h. absurd h }
  own_tests n at (Some q) = both (nat_eq q.thread n) (may_ask at q.request) (same q.thread n) (asked_tests (Asks at q.request) (may_ask at q.request) (asks_decided at q.request))

  for_branches : (at : Spot) → Tests (is_for_branches at) (at ≡ For_branches)
  for_branches For_branches = record { holds = λ e. refl; told = λ h. refl }
  for_branches at = record { holds = λ e. absurd (cc e); told = λ h. absurd (cc h) }

  joined : (n : ℕ) (js : List Join) → Tests (list_all (λ j. has_end_node (length i.nodes) j && (has_end i.cells j && has_branch i n j)) js) (AllAre (JoinFits (shared_in i) (map (seat_in root) i.threads) n) js)
  joined n js = all_tests (λ j. has_end_node (length i.nodes) j && (has_end i.cells j && has_branch i n j)) (JoinFits (shared_in i) (map (seat_in root) i.threads) n) (branch_tests n) js

  -- What the tests of a wait say, together; it waits at the spot inside the last frame.
  pub record WaitTests (n : ℕ) (at : Spot) (w : Wait) : Type 0 where
    pub rests : is_ready w ≡ false
    pub nodes : list_all (has_end_node (length i.nodes)) (joins_of w) ≡ true
    pub outcomes : list_all (has_end i.cells) (joins_of w) ≡ true
    pub request : has_request i n w ≡ true
    pub branches : has_branches i n w ≡ true
    pub waits : may_wait i w at ≡ true

  three : (n : ℕ) (js : List Join) → list_all (has_end_node (length i.nodes)) js ≡ true → list_all (has_end i.cells) js ≡ true → list_all (has_branch i n) js ≡ true → list_all (λ j. has_end_node (length i.nodes) j && (has_end i.cells j && has_branch i n j)) js ≡ true
  three n [] a b c = refl
  three n (j ∷ js) a b c =
      let x = has_end_node (length i.nodes) in
      let y = has_end i.cells in
      let z = has_branch i n in
      both_true (x j && (y j && z j)) (list_all (λ k. x k && (y k && z k)) js)
      (both_true (x j) (y j && z j) (left_true (x j) (list_all x js) a) (both_true (y j) (z j) (left_true (y j) (list_all y js) b) (left_true (z j) (list_all z js) c)))
      (three n js (right_true (x j) (list_all x js) a) (right_true (y j) (list_all y js) b) (right_true (z j) (list_all z js) c))

  -- and one by one
  pub record Three (n : ℕ) (js : List Join) : Type 0 where
    pub nodes : list_all (has_end_node (length i.nodes)) js ≡ true
    pub outcomes : list_all (has_end i.cells) js ≡ true
    pub branches : list_all (has_branch i n) js ≡ true

  apart : (n : ℕ) (js : List Join) → list_all (λ j. has_end_node (length i.nodes) j && (has_end i.cells j && has_branch i n j)) js ≡ true → Three n js
  apart n [] e = record { nodes = refl; outcomes = refl; branches = refl }
  apart n (j ∷ js) e =
      let x = has_end_node (length i.nodes) in
      let y = has_end i.cells in
      let z = has_branch i n in
      let here = left_true (x j && (y j && z j)) (list_all (λ k. x k && (y k && z k)) js) e in
      let rest = apart n js (right_true (x j && (y j && z j)) (list_all (λ k. x k && (y k && z k)) js) e) in
      record {
        nodes = both_true (x j) (list_all x js) (left_true (x j) (y j && z j) here) rest.nodes;
        outcomes = both_true (y j) (list_all y js) (left_true (y j) (z j) (right_true (x j) (y j && z j) here)) rest.outcomes;
        branches = both_true (z j) (list_all z js) (right_true (y j) (z j) (right_true (x j) (y j && z j) here)) rest.branches;
      }

  -- the wait of a thread at rest, at a spot
  abbrev pub WaitStands : ImageThread → Spot → Wait → Type 0
  WaitStands t at w = NotReady w × WaitFits (shared_in i) (map (seat_in root) i.threads) (seat_in root t) at w

  open_one : (js : List Join) → Tests (list_any is_open js) (Some_of IsOpen js)
  open_one js = any_tests is_open IsOpen (λ j. none_tests j.ended) js

  pub wait_holds : (t : ImageThread) (at : Spot) (w : Wait) → WaitTests t.number at w → WaitStands t at w
  wait_holds t at (RequestWait r) h = (tt, (own_tests t.number at (asked i r)).holds (both_true (is_own t.number (asked i r)) (may_be_asked at (asked i r)) h.request h.waits))
  wait_holds t at (Branches js) h =
      let all = list_all (has_branch i t.number) js in
      let any = list_any is_open js in
      let differ = all_differ (map (λ j. j.thread) js) in
      let rest = right_true all (any && differ) h.branches in (
        tt,
        subst (λ (spot : Spot). WaitFits (shared_in i) (map (seat_in root) i.threads) (seat_in root t) spot (Branches js)) (sym ((for_branches at).holds h.waits))
            ((joined t.number js).holds (three t.number js h.nodes h.outcomes (left_true all (any && differ) h.branches)), (open_one js).holds (left_true any differ rest), (differ_tests (map (λ j. j.thread) js)).holds (right_true any differ rest)),
      )
  wait_holds t at (Ready x) h = absurd (cc h.rests)

  spot_of : (t : ImageThread) (at : Spot) (js : List Join) → WaitFits (shared_in i) (map (seat_in root) i.threads) (seat_in root t) at (Branches js) → at ≡ For_branches
  spot_of t For_branches js h = refl
  spot_of t (Begun k) js h = absurd h
  spot_of t Any_body js h = absurd h
  spot_of t (Body_of k) js h = absurd h
  spot_of t Any_branch js h = absurd h
  spot_of t For_executor js h = absurd h
  spot_of t For_task js h = absurd h
  spot_of t For_person js h = absurd h

  pub wait_told : (t : ImageThread) (at : Spot) (w : Wait) → WaitStands t at w → WaitTests t.number at w
  wait_told t at (RequestWait r) h =
      let own = is_own t.number (asked i r) in
      let asks = may_be_asked at (asked i r) in
      let e = (own_tests t.number at (asked i r)).told h.1 in
      record { rests = refl; nodes = refl; outcomes = refl; request = left_true own asks e; branches = refl; waits = right_true own asks e }
  wait_told t at (Branches js) h =
      let is = spot_of t at js h.1 in
      let fits = subst (λ (spot : Spot). WaitFits (shared_in i) (map (seat_in root) i.threads) (seat_in root t) spot (Branches js)) is h.1 in
      let one = apart t.number js ((joined t.number js).told fits.0) in
      let any = list_any is_open js in
      let differ = all_differ (map (λ j. j.thread) js) in
      record {
        rests = refl;
        nodes = one.nodes;
        outcomes = one.outcomes;
        request = refl;
        branches = both_true (list_all (has_branch i t.number) js) (any && differ) one.branches (both_true any differ ((open_one js).told fits.1) ((differ_tests (map (λ j. j.thread) js)).told fits.2));
        waits = (for_branches at).told is;
      }
  wait_told t at (Ready x) h = absurd h.0

  -- the context above
  above_in : (o : Option ImageThread) → context_in (option_map (seat_in root) o) ≡ in_thread o
  above_in None = refl
  above_in (Some t) = refl

  pub above_is : (parent : Option ℕ) → above_seat (map (seat_in root) i.threads) parent ≡ context_above i parent
  above_is None = refl
  above_is (Some p) = ap context_in (found p) ∙ above_in (thread_of i p)

  -- what is held
  held_one : (r : ℕ) → Tests (is_held i r) (held_for r i.held ≡ None → ⊥)
  held_one r = some_tests (held_for r i.held)

  pub held_all : (rs : List ℕ) → Tests (list_all (is_held i) rs) (AllAre (λ r. held_for r i.held ≡ None → ⊥) rs)
  held_all rs = all_tests (is_held i) (λ r. held_for r i.held ≡ None → ⊥) held_one rs

-- bodies among the frames
counted : (root : Term) (test : FrameKind → Bool) (f : ImageFrame) (fs : List ImageFrame) (b : Bool) → test (kind_of f.kind) ≡ b → length (filter (λ g. test g.kind) (map (frame_in root) fs)) ≡ bodies test fs → length (filter (λ g. test g.kind) (frame_in root f ∷ map (frame_in root) fs)) ≡ bodies test (f ∷ fs)
counted root test f fs true is e =
    ap (λ c. length (cond c (frame_in root f ∷ filter (λ g. test g.kind) (map (frame_in root) fs)) (filter (λ g. test g.kind) (map (frame_in root) fs)))) is
    ∙ ap suc e ∙ sym (ap (λ c. length (cond c (f ∷ filter (λ (g : ImageFrame). test (kind_of g.kind)) fs) (filter (λ (g : ImageFrame). test (kind_of g.kind)) fs))) is)
counted root test f fs false is e =
    ap (λ c. length (cond c (frame_in root f ∷ filter (λ g. test g.kind) (map (frame_in root) fs)) (filter (λ g. test g.kind) (map (frame_in root) fs)))) is
    ∙ e ∙ sym (ap (λ c. length (cond c (f ∷ filter (λ (g : ImageFrame). test (kind_of g.kind)) fs) (filter (λ (g : ImageFrame). test (kind_of g.kind)) fs))) is)

pub bodies_are : (root : Term) (test : FrameKind → Bool) (fs : List ImageFrame) → length (filter (λ g. test g.kind) (map (frame_in root) fs)) ≡ bodies test fs
bodies_are root test [] = refl
bodies_are root test (f ∷ fs) = counted root test f fs (test (kind_of f.kind)) refl (bodies_are root test fs)

-- a context that goes on
pub record Continues (held : List ℕ) (count : ℕ) (t : ImageThread) : Type 0 where
  pub own : (mine : List ℕ) × (t.context.held ≡ held ++ mine) × (length mine ≡ bodies holds_executor t.frames)
  pub folders : length t.context.folders ≡ count + bodies holds_folder t.frames

pub continues : (held : List ℕ) (folders : ℕ) (t : ImageThread) → Tests (goes_on held folders t) (Continues held folders t)
continues held folders t =
    let front = pointwise nat_eq (take (length held) t.context.held) held in
    let long = nat_eq (length t.context.held) (length held + bodies holds_executor t.frames) in
    let many = nat_eq (length t.context.folders) (folders + bodies holds_folder t.frames) in
    record {
      holds = λ e. (
          let is : take (length held) t.context.held ≡ held = (bytes_decides (take (length held) t.context.held) held).0 (left_true front (long && many) e) in
          let whole : t.context.held ≡ held ++ drop (length held) t.context.held = sym (take-append-drop (length held) t.context.held) ∙ ap (λ xs. xs ++ drop (length held) t.context.held) is in
          let size : length t.context.held ≡ length held + bodies holds_executor t.frames = eqb-true (length t.context.held) (length held + bodies holds_executor t.frames) (left_true long many (right_true front (long && many) e)) in
          let both_sizes : length t.context.held ≡ length held + length (drop (length held) t.context.held) = ap length whole ∙ length-append held (drop (length held) t.context.held) in
          let rest : length (drop (length held) t.context.held) ≡ bodies holds_executor t.frames = omega (arith, size, both_sizes) in
          record {
            own = (drop (length held) t.context.held, whole, rest);
            folders = eqb-true (length t.context.folders) (folders + bodies holds_folder t.frames) (right_true long many (right_true front (long && many) e));
          });
      told = λ c. (
          let mine = c.own.0 in
          let whole : t.context.held ≡ held ++ mine = c.own.1 in
          let sizes : length t.context.held ≡ length held + length mine = ap length whole ∙ length-append held mine in
          let is : take (length held) t.context.held ≡ held = ap (take (length held)) whole ∙ take-append_seam held mine in
          both_true front (long && many) ((bytes_decides (take (length held) t.context.held) held).1 is)
          (both_true long many (eq-eqb (length t.context.held) (length held + bodies holds_executor t.frames) (sizes ∙ ap (λ n. length held + n) c.own.2)) (eq-eqb (length t.context.folders) (folders + bodies holds_folder t.frames) c.folders)));
    }
