-- What a look and a launch leave of what a host in memory has written and ended.
use Rattle.std.proofs.Common.{◌≡◌, ◌≢◌, inl, inr, ◌<◌, ℕ, zero, suc, ℤ, Bool, true, false, cond, List, [], ◌∷◌, length, get_or, set, take, Option, Some, None, IsSome, refl, sym, ◌∙◌, ap, subst, arith, nat_eq}
use Rattle.std.specs.Prelude.{find, position, Contains, option_and_then, ◌||◌}
use Rattle.std.specs.Option.{option_map_or}
use Rattle.std.proofs.Math.Seq.{take-length}
use Rattle.std.proofs.Math.Bool.{or-false}
use Rattle.std.proofs.lemmas.List.{set-get_or}
use Rattle.std.proofs.lemmas.List.Folds.{list_any-append, list_any_at}
use Rattle.task_host.specs.declared.answers.Look.{Look}
use Rattle.task_host.specs.declared.answers.Look.TheVariants as look
use Rattle.task_host.specs.declared.order.Stream.{Stream}
use Rattle.task_host.specs.declared.order.Stream.TheVariants.{Log, Out}
use Rattle.task_host.specs.declared.outcome.TaskOutcome.{TaskOutcome}
use Rattle.task_host.specs.declared.memory.behavior.Behavior.{Behavior}
use Rattle.task_host.specs.declared.memory.behavior.Behavior.TheVariants.{Listed, Echo}
use Rattle.task_host.specs.Host.{GoesOn, LaunchesAtMost}
use Rattle.task_host.specs.Tasks.{State, outcome_of, text_of, code_of, is_launched, written_by, ended_with, one_less, first_less, after_look, IsRunning, HasEnded, LooksOnce, LooksAt, Looks}
use Rattle.std.proofs.lemmas.Bool.{eq-eqb, ne_eqb, eqb-true}
use Rattle.std.proofs.lemmas.List.Quantifiers.{position-Some}
use Rattle.task_host.proofs.FindLemmas.{find-position, find-position-None}

-- ---- what a task has written and how it ended, by whether it was launched and by its outcome

abbrev written_from : Bool → Option TaskOutcome → Stream → List ℕ
written_from launched outcome stream = cond launched (option_map_or (text_of stream) outcome []) []

abbrev ended_from : Bool → Option TaskOutcome → Option ℤ
ended_from launched outcome = cond launched (option_and_then code_of outcome) None

none_is_not_some : (X : Type 0) → IsSome {T = X} None → ⊥
none_is_not_some X h = cc h

-- ---- a look

-- the first outcome that is listed of a task
abbrev first_of : ℕ → List TaskOutcome → Option TaskOutcome
first_of task outcomes = find (λ o. nat_eq o.task task) outcomes

-- the outcomes of other tasks stay
first-less_other : (task other : ℕ) (outcomes : List TaskOutcome) → other ≢ task → first_of other (first_less task outcomes) ≡ first_of other outcomes
first-less_other task other [] differs = refl
first-less_other task other (o ∷ outcomes) differs = by (nat_eq o.task task) refl (first-less_other task other outcomes differs)
  where
    by : (b : Bool) → nat_eq o.task task ≡ b → first_of other (first_less task outcomes) ≡ first_of other outcomes → first_of other (cond b (one_less o ∷ outcomes) (o ∷ first_less task outcomes)) ≡ first_of other (o ∷ outcomes)
    by true is rest =
        let away : nat_eq o.task other ≡ false = ne_eqb o.task other (λ same. differs (sym same ∙ eqb-true o.task task is)) in
        rw away refl
    by false is rest = ap (λ (x : Option TaskOutcome). cond (nat_eq o.task other) (Some o) x) rest

outcome-after_look_other : (task other : ℕ) (behavior : Behavior) → other ≢ task → outcome_of other (after_look task behavior) ≡ outcome_of other behavior
outcome-after_look_other task other (Listed outcomes) differs = first-less_other task other outcomes differs
outcome-after_look_other task other Echo differs = refl

-- the outcome of this task has one look less
first-less : (task : ℕ) (outcomes : List TaskOutcome) (o : TaskOutcome) → first_of task outcomes ≡ Some o → first_of task (first_less task outcomes) ≡ Some (one_less o)
first-less task [] o is = absurd cc
first-less task (p ∷ outcomes) o is = by (nat_eq p.task task) refl is (first-less task outcomes o)
  where
    by : (b : Bool) → nat_eq p.task task ≡ b → cond b (Some p) (first_of task outcomes) ≡ Some o → (first_of task outcomes ≡ Some o → first_of task (first_less task outcomes) ≡ Some (one_less o))
        → first_of task (cond b (one_less p ∷ outcomes) (p ∷ first_less task outcomes)) ≡ Some (one_less o)
    by true same found rest =
        let p_is : p ≡ o = cc in
        rw same (ap (λ (x : TaskOutcome). Some (one_less x)) p_is)
    by false same found rest = rw same (rest found)

less-None : (task : ℕ) (outcomes : List TaskOutcome) → first_of task outcomes ≡ None → first_less task outcomes ≡ outcomes
less-None task [] none = refl
less-None task (p ∷ outcomes) none = by (nat_eq p.task task) none (less-None task outcomes)
  where
    by : (b : Bool) → cond b (Some p) (first_of task outcomes) ≡ None → (first_of task outcomes ≡ None → first_less task outcomes ≡ outcomes) → cond b (one_less p ∷ outcomes) (p ∷ first_less task outcomes) ≡ p ∷ outcomes
    by true found rest = absurd cc
    by false found rest = ap (λ (x : List TaskOutcome). p ∷ x) (rest found)

-- the same by the place of the outcome
less-at : (task : ℕ) (outcomes : List TaskOutcome) (place : ℕ) (d : TaskOutcome) → place < length outcomes → nat_eq (get_or outcomes place d).task task ≡ true → ((k : ℕ) → k < place → nat_eq (get_or outcomes k d).task task ≡ false)
    → first_less task outcomes ≡ set outcomes place (one_less (get_or outcomes place d))
less-at task [] place d lt passes fails = absurd (omega arith)
less-at task (o ∷ outcomes) zero d lt passes fails = rw passes refl
less-at task (o ∷ outcomes) (suc place) d lt passes fails =
    rw (fails 0 (omega arith)) (ap (λ (x : List TaskOutcome). o ∷ x) (less-at task outcomes place d (omega arith) passes (λ k less. fails (suc k) (omega arith))))

-- a look at the outcome that stands first
module _ (task : ℕ) (outcomes : List TaskOutcome) (place : ℕ) (o o' : TaskOutcome) (is : position (λ x. nat_eq x.task task) outcomes ≡ Some place) (at : o ≡ get_or outcomes place o) where
  found : first_of task outcomes ≡ Some o
  found = find-position (λ x. nat_eq x.task task) outcomes place o is at

  pub looks_at_place : (answer : Look) → LooksOnce o o' answer → LooksAt task (Listed outcomes) (Listed (set outcomes place o')) answer
  looks_at_place look.Running once =
      let first = position-Some (λ x. nat_eq x.task task) outcomes place o is in
      let less : first_less task outcomes ≡ set outcomes place o' =
      less-at task outcomes place o first.0 first.1 first.2 ∙ ap (λ (x : TaskOutcome). set outcomes place (one_less x)) (sym at) ∙ ap (set outcomes place) (sym once.1) in
      (subst IsRunning (sym found) once.0, ap Listed (sym less))
  looks_at_place (look.Exited code) once =
      let same : set outcomes place o' ≡ outcomes = ap (set outcomes place) (once.2 ∙ at) ∙ set-get_or outcomes place o in
      (subst (HasEnded code) (sym found) (once.0, once.1), ap Listed same)
  looks_at_place look.Absent once = absurd once
  looks_at_place look.NotStarted once = absurd once
  looks_at_place look.Failed once = absurd once

-- a look at a launched task with no outcome
pub looks_on : (task : ℕ) (outcomes : List TaskOutcome) → position (λ x. nat_eq x.task task) outcomes ≡ None → LooksAt task (Listed outcomes) (Listed outcomes) look.Running
looks_on task outcomes is =
    let none = find-position-None (λ x. nat_eq x.task task) outcomes is in
    (subst IsRunning (sym none) tt, ap Listed (sym (less-None task outcomes none)))

-- a look at a task that has a folder and was launched
pub looks_at : (task : ℕ) (tasks : State) (behavior : Behavior) (answer : Look) → Contains tasks.dirs task → Contains tasks.launches task → LooksAt task tasks.behavior behavior answer → Looks task tasks (record tasks { behavior = behavior }) answer
looks_at task tasks behavior look.Running here there looks = (here, there, looks.0, ap (λ (x : Behavior). record tasks { behavior = x }) looks.1)
looks_at task tasks behavior (look.Exited code) here there looks = (here, there, looks.0, ap (λ (x : Behavior). record tasks { behavior = x }) looks.1)
looks_at task tasks behavior look.Absent here there looks = absurd looks
looks_at task tasks behavior look.NotStarted here there looks = absurd looks
looks_at task tasks behavior look.Failed here there looks = absurd looks

-- while a task runs, a look leaves what it has written, and it has not ended before
module _ (task : ℕ) (launches : List ℕ) (behavior : Behavior) (running : IsRunning (outcome_of task behavior)) where
  pub not_ended : ended_with launches behavior task ≡ None
  not_ended = by (is_launched task launches) (outcome_of task behavior) running
    where
      by : (b : Bool) (x : Option TaskOutcome) → IsRunning x → ended_from b x ≡ None
      by true None runs = refl
      by true (Some o) runs = let still : nat_eq o.running 0 ≡ false = ne_eqb o.running 0 (λ none. omega arith) in rw still refl
      by false x runs = refl

  pub look_goes_on : GoesOn task (ended_with launches behavior) (ended_with launches (after_look task behavior)) (written_by launches behavior) (written_by launches (after_look task behavior))
  look_goes_on = record {
    grows = λ stream. ap (take (length (written_by launches behavior task stream))) (same stream) ∙ take-length (written_by launches behavior task stream);
    output_stays = λ stream ended. same stream;
    exit_stays = λ ended. absurd (none_is_not_some ℤ (subst IsSome not_ended ended));
    other_output = λ other stream differs. ap (λ x. written_from (is_launched other launches) x stream) (outcome-after_look_other task other behavior differs);
    other_exited = λ other differs. ap (ended_from (is_launched other launches)) (outcome-after_look_other task other behavior differs);
  }
    where
      text_same : (stream : Stream) (o : TaskOutcome) → text_of stream (one_less o) ≡ text_of stream o
      text_same Log o = refl
      text_same Out o = refl

      listed : (outcomes : List TaskOutcome) (x : Option TaskOutcome) → first_of task outcomes ≡ x → (stream : Stream) → written_by launches (Listed (first_less task outcomes)) task stream ≡ written_by launches (Listed outcomes) task stream
      listed outcomes None is stream = ap (λ (x : List TaskOutcome). written_by launches (Listed x) task stream) (less-None task outcomes is)
      listed outcomes (Some o) is stream =
          ap (λ x. written_from (is_launched task launches) x stream) (first-less task outcomes o is)
          ∙ ap (λ l. cond (is_launched task launches) l []) (text_same stream o)
          ∙ ap (λ x. written_from (is_launched task launches) x stream) (sym is)

      by : (b : Behavior) (stream : Stream) → written_by launches (after_look task b) task stream ≡ written_by launches b task stream
      by (Listed outcomes) stream = listed outcomes (first_of task outcomes) refl stream
      by Echo stream = refl

      same : (stream : Stream) → written_by launches (after_look task behavior) task stream ≡ written_by launches behavior task stream
      same stream = by behavior stream

-- a task that was launched and has ended
pub ended_now : (task : ℕ) (code : ℤ) (launches : List ℕ) (behavior : Behavior) → Contains launches task → HasEnded code (outcome_of task behavior) → ended_with launches behavior task ≡ Some code
ended_now task code launches behavior there ended =
    ap (λ b. ended_from b (outcome_of task behavior)) (list_any_at (λ t. nat_eq t task) launches there.0 task there.1 (eq-eqb (get_or launches there.0 task) task there.2)) ∙ by (outcome_of task behavior) ended
  where
    by : (x : Option TaskOutcome) → HasEnded code x → ended_from true x ≡ Some code
    by None e = absurd e
    by (Some o) e = let now : nat_eq o.running 0 ≡ true = eq-eqb o.running 0 e.0 in rw now (ap Some (sym e.1))

-- what a task writes by the place of its outcome
pub written_at : (task : ℕ) (stream : Stream) (outcomes : List TaskOutcome) (place : ℕ) (o : TaskOutcome) → position (λ x. nat_eq x.task task) outcomes ≡ Some place → o ≡ get_or outcomes place o → text_of stream o ≡ option_map_or (text_of stream) (first_of task outcomes) []
written_at task stream outcomes place o is at = sym (ap (λ x. written_from true x stream) (find-position (λ x. nat_eq x.task task) outcomes place o is at))

pub nothing_written : (task : ℕ) (stream : Stream) (outcomes : List TaskOutcome) → position (λ x. nat_eq x.task task) outcomes ≡ None → option_map_or (text_of stream) (first_of task outcomes) [] ≡ []
nothing_written task stream outcomes none = ap (λ x. written_from true x stream) (find-position-None (λ x. nat_eq x.task task) outcomes none)

-- ---- a launch

launched_other : (task other : ℕ) (old new : List ℕ) → LaunchesAtMost task old new → other ≢ task → is_launched other new ≡ is_launched other old
launched_other task other old new (inl same) differs = ap (is_launched other) same
launched_other task other old new (inr more) differs =
    let away : nat_eq task other ≡ false = ne_eqb task other (λ e. differs (sym e)) in
    ap (is_launched other) more ∙ list_any-append (λ t. nat_eq t other) old (task ∷ []) ∙ ap (λ b. is_launched other old || (b || false)) away ∙ or-false (is_launched other old)

launched_still : (task : ℕ) (old new : List ℕ) → LaunchesAtMost task old new → is_launched task old ≡ true → is_launched task new ≡ true
launched_still task old new (inl same) was = ap (is_launched task) same ∙ was
launched_still task old new (inr more) was = ap (is_launched task) more ∙ list_any-append (λ t. nat_eq t task) old (task ∷ []) ∙ ap (λ b. b || (nat_eq task task || false)) was

module _ (task : ℕ) (launches launches' : List ℕ) (behavior : Behavior) (launching : LaunchesAtMost task launches launches') where
  other_output : (other : ℕ) (stream : Stream) → other ≢ task → written_by launches' behavior other stream ≡ written_by launches behavior other stream
  other_output other stream differs = ap (λ b. written_from b (outcome_of other behavior) stream) (launched_other task other launches launches' launching differs)

  other_exited : (other : ℕ) → other ≢ task → ended_with launches' behavior other ≡ ended_with launches behavior other
  other_exited other differs = ap (λ b. ended_from b (outcome_of other behavior)) (launched_other task other launches launches' launching differs)

  -- where nothing was written and nothing had ended
  from_nothing : ((stream : Stream) → written_by launches behavior task stream ≡ []) → ended_with launches behavior task ≡ None → GoesOn task (ended_with launches behavior) (ended_with launches' behavior) (written_by launches behavior) (written_by launches' behavior)
  from_nothing nothing none = record {
    grows = λ stream. ap (λ l. take (length l) (written_by launches' behavior task stream)) (nothing stream) ∙ sym (nothing stream);
    output_stays = λ stream ended. absurd (none_is_not_some ℤ (subst IsSome none ended));
    exit_stays = λ ended. absurd (none_is_not_some ℤ (subst IsSome none ended));
    other_output = other_output;
    other_exited = other_exited;
  }

  -- where the task stays as it was
  from_same : ((stream : Stream) → written_by launches' behavior task stream ≡ written_by launches behavior task stream) → ended_with launches' behavior task ≡ ended_with launches behavior task → GoesOn task (ended_with launches behavior) (ended_with launches' behavior) (written_by launches behavior) (written_by launches' behavior)
  from_same same exit = record {
    grows = λ stream. ap (take (length (written_by launches behavior task stream))) (same stream) ∙ take-length (written_by launches behavior task stream);
    output_stays = λ stream ended. same stream;
    exit_stays = λ ended. exit;
    other_output = other_output;
    other_exited = other_exited;
  }

  pub launch_goes_on : GoesOn task (ended_with launches behavior) (ended_with launches' behavior) (written_by launches behavior) (written_by launches' behavior)
  launch_goes_on = by (is_launched task launches) refl
    where
      by : (b : Bool) → is_launched task launches ≡ b → GoesOn task (ended_with launches behavior) (ended_with launches' behavior) (written_by launches behavior) (written_by launches' behavior)
      by true was =
          let still = launched_still task launches launches' launching was in
          from_same
          (λ stream. ap (λ b. written_from b (outcome_of task behavior) stream) (still ∙ sym was))
          (ap (λ b. ended_from b (outcome_of task behavior)) (still ∙ sym was))
      by false was =
          from_nothing
          (λ stream. ap (λ b. written_from b (outcome_of task behavior) stream) was)
          (ap (λ b. ended_from b (outcome_of task behavior)) was)
