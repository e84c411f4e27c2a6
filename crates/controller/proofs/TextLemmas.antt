-- The text of each status that is not that of a build.
use Rattle.std.proofs.Common.{◌≡◌, ◌⊎◌, ◌<◌, ℕ, List, Option, inl, inr, refl, arith}
use Rattle.device_faults.specs.Faults.{Rose}
use Rattle.model_run.specs.declared.event.Event.{Event}
use Rattle.model_run.specs.State.{Setting}
use Rattle.model_run.specs.World.{Build}
use Rattle.build_commands.specs.Lower.build_store.Lives.{TellsStart}
use Rattle.build_commands.specs.Lower.build_store.declared.beginning.BeginFault.{BeginFault}
use Rattle.build_commands.specs.Statuses.{HasRun, HasLog}
use Rattle.build_commands.specs.Inputs.{Input}
use Rattle.build_commands.specs.Lines as texts
use Rattle.build_commands.specs.Beginning.{BeginSays}
use Rattle.build_commands.specs.Beginning as begin
use Rattle.build_commands.specs.Plans.{Faults, RefusesFiles}
use Rattle.build_commands.specs.Plans as plan
use Rattle.build_commands.specs.Reporting.{Reports}
use Rattle.build_commands.specs.Reporting as report
use Rattle.build_commands.specs.Showing as showing
use Rattle.build_commands.specs.Texts as store
use Rattle.build_commands.specs.Writing as writing
use Rattle.controller.specs.Output.{Says, usage, script_too_long, script_faulty, disk_failed, read_failed, no_memory, has_build, no_build, damaged, agents_faulty, full}
use Rattle.controller.proofs.CallLemmas.{unrun}

-- what was written of a text, and the status
pub written : {old new : Option (List ℕ)} {a b n m : ℕ} {text : List ℕ} → writing.Writes old new a b text n m → (m ≡ n) ⊎ ((m ≡ 7) × Rose a b)
written (writing.whole appends calm) = inl refl
written (writing.cut part rose) = inr (refl, rose)

pub written_run : {old new : Option (List ℕ)} {a b n m : ℕ} {text : List ℕ} → HasLog n → writing.Writes old new a b text n m → HasRun m
written_run log (writing.whole appends calm) = inl log
written_run log (writing.cut part rose) = inr refl

pub says_unrun : {n : ℕ} {text : List ℕ} → Says n text → HasRun n → ⊥
says_unrun usage run = unrun 2 2 refl refl run
says_unrun script_too_long run = unrun 4 4 refl refl run
says_unrun (script_faulty fault) run = unrun 4 4 refl refl run
says_unrun disk_failed run = unrun 5 5 refl refl run
says_unrun read_failed run = unrun 6 6 refl refl run
says_unrun no_memory run = unrun 8 8 refl refl run
says_unrun has_build run = unrun 9 9 refl refl run
says_unrun no_build run = unrun 9 9 refl refl run
says_unrun (damaged at) run = unrun 9 9 refl refl run
says_unrun (agents_faulty path kind) run = unrun 13 13 refl refl run
says_unrun (full len add long) run = unrun 14 14 refl refl run

pub faults_say : {s a : List ℕ} {n : ℕ} {text : List ℕ} → Faults s a n text → Says n text
faults_say (plan.of_agents {path = path} {kind = kind} is) = agents_faulty path kind
faults_say (plan.too_long site long) = script_too_long
faults_say (plan.of_script {fault = fault} site fits first) = script_faulty fault
faults_say plan.no_memory = no_memory

pub files_say : {script agents : Input} {n : ℕ} {text : List ℕ} → RefusesFiles script agents n text → Says n text
files_say (plan.unread failed) = read_failed
files_say (plan.no_room calm) = no_memory
files_say (plan.judged calm hold faults) = faults_say faults

pub begin_says : {fault : BeginFault} {n : ℕ} {text : List ℕ} (setting : Setting) (start : Event) → BeginSays fault n text → TellsStart setting start fault → Says n text
begin_says setting start begin.has_build sizes = has_build
begin_says setting start begin.disk_failed sizes = disk_failed
begin_says setting start (begin.full len add) sizes = full len add sizes.1
begin_says setting start (begin.no_memory other) sizes = no_memory

pub reports_say : {a b x y c d : ℕ} {old new : Option (List ℕ)} {n : ℕ} → Reports a b x y old new c d n → HasRun n ⊎ ((text : List ℕ) × Says n text × writing.Tells old new c d text)
reports_say (report.rested quiet log writes) = inl (written_run log writes)
reports_say (report.answers_failed calm rose tells) = inr (texts.read_failed_text, read_failed, tells)
reports_say (report.disk_failed rose tells) = inr (store.disk_failed_text, disk_failed, tells)
reports_say (report.full len add long quiet tells) = inr (store.full_text len add, full len add long, tells)
reports_say (report.no_memory quiet tells) = inr (store.out_of_memory_text, no_memory, tells)

pub not_told_says : {stored : Option (List ℕ)} {a b n : ℕ} {text : List ℕ} → showing.NotTold stored a b n text → Says n text
not_told_says (showing.no_build calm none) = no_build
not_told_says (showing.damaged at calm fails) = damaged at
not_told_says (showing.disk_failed rose) = disk_failed
not_told_says (showing.no_memory calm) = no_memory

pub decides_says : {text_of : Build → List ℕ} {stored : Option (List ℕ)} {a b n : ℕ} {text : List ℕ} → showing.Decides text_of stored a b n text → 0 < n → Says n text
decides_says (showing.shown calm is) some = absurd (omega (arith, some))
decides_says (showing.not_told why) some = not_told_says why
