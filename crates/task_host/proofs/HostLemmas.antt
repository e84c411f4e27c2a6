-- What a host promises, of one in memory: it follows from what its calls make of folders and tasks.
use Rattle.std.proofs.Common.{◌≡◌, ◌-◌, ℕ, ℤ, List, length, take, min, Option, Result, Ok, Err, inl, inr, sym, ◌∙◌, ap, subst, arith}
use Rattle.std.proofs.Math.Seq.{take-length}
use Rattle.device_faults.specs.declared.faults.Failed.{Failed}
use Rattle.task_host.specs.declared.answers.Made.{Made}
use Rattle.task_host.specs.declared.answers.Made.TheVariants as made
use Rattle.task_host.specs.declared.answers.Started.{Started}
use Rattle.task_host.specs.declared.answers.Started.TheVariants as started
use Rattle.task_host.specs.declared.answers.Look.{Look}
use Rattle.task_host.specs.declared.answers.Look.TheVariants as look
use Rattle.task_host.specs.declared.order.Stream.{Stream}
use Rattle.task_host.specs.declared.memory.behavior.Behavior.{Behavior}
use Rattle.task_host.specs.Host.{MakesFolder, RemovesFolder, LaunchesAtMost, Launches, TellsState, Stays, GoesOn, Reads}
use Rattle.task_host.specs.Tasks.{State, written_by, ended_with, MakesDir, Starts, Looks, Removes}
use Rattle.task_host.proofs.OutcomeLemmas.{launch_goes_on, look_goes_on, not_ended, ended_now}

abbrev output : State → ℕ → Stream → List ℕ
output s = written_by s.launches s.behavior

abbrev exited : State → ℕ → Option ℤ
exited s = ended_with s.launches s.behavior

-- a call that leaves launches alone, and what the tasks do
stays : (old new : State) → new.launches ≡ old.launches → new.behavior ≡ old.behavior → Stays (exited old) (exited new) (output old) (output new)
stays old new launches behavior = record {
  output = λ task stream. ap (λ (l : List ℕ). written_by l new.behavior task stream) launches ∙ ap (λ (b : Behavior). written_by old.launches b task stream) behavior;
  exited = λ task. ap (λ (l : List ℕ). ended_with l new.behavior task) launches ∙ ap (λ (b : Behavior). ended_with old.launches b task) behavior;
}

goes_on_at : (task : ℕ) (old new : State) → Stays (exited old) (exited new) (output old) (output new) → GoesOn task (exited old) (exited new) (output old) (output new)
goes_on_at task old new same = record {
  grows = λ stream. ap (take (length (output old task stream))) (same.output task stream) ∙ take-length (output old task stream);
  output_stays = λ stream ended. same.output task stream;
  exit_stays = λ ended. same.exited task;
  other_output = λ other stream differs. same.output other stream;
  other_exited = λ other differs. same.exited other;
}

-- a call that leaves folders and tasks alone
pub same_goes_on : (task : ℕ) (old new : State) → new ≡ old → GoesOn task (exited old) (exited new) (output old) (output new)
same_goes_on task old new same = goes_on_at task old new (stays old new (ap (λ (s : State). s.launches) same) (ap (λ (s : State). s.behavior) same))

-- ---- make_dir

module _ (task : ℕ) (old new : State) where
  pub makes_folder : (answer : Made) → MakesDir task old new answer → MakesFolder task old.dirs new.dirs answer
  makes_folder made.Made is = (is.0, ap (λ (s : State). s.dirs) is.1)
  makes_folder made.Exists is = (is.0, ap (λ (s : State). s.dirs) is.1)
  makes_folder made.Failed is = inl (ap (λ (s : State). s.dirs) is)

  pub make_launches : (answer : Made) → MakesDir task old new answer → new.launches ≡ old.launches
  make_launches made.Made is = ap (λ (s : State). s.launches) is.1
  make_launches made.Exists is = ap (λ (s : State). s.launches) is.1
  make_launches made.Failed is = ap (λ (s : State). s.launches) is

  make_behavior : (answer : Made) → MakesDir task old new answer → new.behavior ≡ old.behavior
  make_behavior made.Made is = ap (λ (s : State). s.behavior) is.1
  make_behavior made.Exists is = ap (λ (s : State). s.behavior) is.1
  make_behavior made.Failed is = ap (λ (s : State). s.behavior) is

  pub make_stays : (answer : Made) → MakesDir task old new answer → Stays (exited old) (exited new) (output old) (output new)
  make_stays answer is = stays old new (make_launches answer is) (make_behavior answer is)

-- ---- start

module _ (task : ℕ) (old new : State) where
  pub starts_at_most : (answer : Started) → Starts task old new answer → LaunchesAtMost task old.launches new.launches
  starts_at_most started.Started is = inr (ap (λ (s : State). s.launches) is.1)
  starts_at_most started.Failed is = inl (ap (λ (s : State). s.launches) is)

  pub starts_launches : (answer : Started) → Starts task old new answer → Launches task old.dirs old.launches new.launches answer
  starts_launches started.Started is = (is.0, ap (λ (s : State). s.launches) is.1)
  starts_launches started.Failed is = tt

  pub start_dirs : (answer : Started) → Starts task old new answer → new.dirs ≡ old.dirs
  start_dirs started.Started is = ap (λ (s : State). s.dirs) is.1
  start_dirs started.Failed is = ap (λ (s : State). s.dirs) is

  start_behavior : (answer : Started) → Starts task old new answer → new.behavior ≡ old.behavior
  start_behavior started.Started is = ap (λ (s : State). s.behavior) is.1
  start_behavior started.Failed is = ap (λ (s : State). s.behavior) is

  pub start_goes_on : (answer : Started) → Starts task old new answer → GoesOn task (exited old) (exited new) (output old) (output new)
  start_goes_on answer is =
      subst (λ (b : Behavior). GoesOn task (exited old) (ended_with new.launches b) (output old) (written_by new.launches b)) (sym (start_behavior answer is))
      (launch_goes_on task old.launches new.launches old.behavior (starts_at_most answer is))

-- ---- look

module _ (task : ℕ) (old new : State) where
  pub look_state : (answer : Look) → Looks task old new answer → TellsState task old.dirs old.launches (exited old task) (exited new task) answer
  look_state look.Absent is = is.0
  look_state look.NotStarted is = (is.0, is.1)
  look_state look.Running is = (is.0, is.1, not_ended task old.launches old.behavior is.2)
  look_state (look.Exited code) is = (is.0, is.1, ap (λ (s : State). exited s task) is.3 ∙ ended_now task code old.launches old.behavior is.1 is.2)
  look_state look.Failed is = tt

  pub look_launches : (answer : Look) → Looks task old new answer → new.launches ≡ old.launches
  look_launches look.Absent is = ap (λ (s : State). s.launches) is.1
  look_launches look.NotStarted is = ap (λ (s : State). s.launches) is.2
  look_launches look.Running is = ap (λ (s : State). s.launches) is.3
  look_launches (look.Exited code) is = ap (λ (s : State). s.launches) is.3
  look_launches look.Failed is = ap (λ (s : State). s.launches) is

  pub look_dirs : (answer : Look) → Looks task old new answer → new.dirs ≡ old.dirs
  look_dirs look.Absent is = ap (λ (s : State). s.dirs) is.1
  look_dirs look.NotStarted is = ap (λ (s : State). s.dirs) is.2
  look_dirs look.Running is = ap (λ (s : State). s.dirs) is.3
  look_dirs (look.Exited code) is = ap (λ (s : State). s.dirs) is.3
  look_dirs look.Failed is = ap (λ (s : State). s.dirs) is

  pub looks_go_on : (answer : Look) → Looks task old new answer → GoesOn task (exited old) (exited new) (output old) (output new)
  looks_go_on look.Absent is = same_goes_on task old new is.1
  looks_go_on look.NotStarted is = same_goes_on task old new is.2
  looks_go_on look.Running is =
      subst (λ (s : State). GoesOn task (exited old) (exited s) (output old) (output s)) (sym is.3) (look_goes_on task old.launches old.behavior is.2)
  looks_go_on (look.Exited code) is = same_goes_on task old new is.3
  looks_go_on look.Failed is = same_goes_on task old new is

-- ---- read

pub reads_all : (end «from» : ℕ) (old : List ℕ) (n : ℕ) → n ≡ min (length old) (end - «from») → Reads end «from» old n
reads_all end «from» old n is = record { some_bytes = λ before some. omega (arith, is, before, some); at_end = λ behind. omega (arith, is, behind) }

-- ---- remove

module _ (task : ℕ) (old new : State) where
  pub removes_folder : (answer : Result (Unit {0}) Failed) → Removes task old new answer → RemovesFolder task old.dirs new.dirs answer
  removes_folder (Ok done) is = ap (λ (s : State). s.dirs) is
  removes_folder (Err failed) is = inl (ap (λ (s : State). s.dirs) is)

  pub remove_launches : (answer : Result (Unit {0}) Failed) → Removes task old new answer → new.launches ≡ old.launches
  remove_launches (Ok done) is = ap (λ (s : State). s.launches) is
  remove_launches (Err failed) is = ap (λ (s : State). s.launches) is

  remove_behavior : (answer : Result (Unit {0}) Failed) → Removes task old new answer → new.behavior ≡ old.behavior
  remove_behavior (Ok done) is = ap (λ (s : State). s.behavior) is
  remove_behavior (Err failed) is = ap (λ (s : State). s.behavior) is

  pub remove_stays : (answer : Result (Unit {0}) Failed) → Removes task old new answer → Stays (exited old) (exited new) (output old) (output new)
  remove_stays answer is = stays old new (remove_launches answer is) (remove_behavior answer is)
