-- Why a build was not begun, and of what it is begun.
use Rattle.std.proofs.Common.{◌≡◌, ℕ, List, [], ◌∷◌, Option, None, Some, refl}
use Rattle.std.specs.Prelude.{IsSome}
use Rattle.journal_core.specs.declared.faults.TakeFault.TheVariants as take
use Rattle.model_syntax.specs.declared.tree.Tree.{Tree}
use Rattle.model_run.specs.declared.event.Event.{Event}
use Rattle.model_run.specs.declared.site.Site.{Site}
use Rattle.build_commands.specs.Files.{Builds}
use Rattle.build_life.specs.Lower.build_store.declared.beginning.BeginFault.{BeginFault}
use Rattle.build_life.specs.Lower.build_store.declared.beginning.BeginFault.TheVariants as begin
use Rattle.build_life.specs.Lower.durable_build.Settings.{script_setting}
use Rattle.build_life.specs.Lower.store_laws.Store.{Mean}
use Rattle.build_commands.specs.declared.refusal.Refusal.{Refusal}
use Rattle.build_commands.specs.declared.refusal.Refusal.TheVariants.{DiskFailed, HasBuild, OutOfMemory}
use Rattle.build_commands.specs.Beginning.{BeginSays, has_build, disk_failed, full, no_memory}
use Rattle.build_commands.specs.declared.end_text.EndText.{EndText}
use Rattle.build_commands.specs.declared.end_text.EndText.TheVariants.{Log, Numbers}
use Rattle.build_commands.specs.EndTexts.{Counts}
use Rattle.build_commands.specs.Refusals.{SaysBegin, refusal_status, refusal_text}
use Rattle.build_commands.specs.Texts.{full_text}
use Rattle.build_commands.proofs.RefusalLemmas.{as_said, as_told}

pub begin_says : (f : BeginFault) (r : Refusal) → SaysBegin f r → BeginSays f (refusal_status r) (refusal_text r)
begin_says begin.HasBuild r says = as_told (BeginSays begin.HasBuild) r HasBuild says has_build
begin_says (begin.Take take.Memory) r says = as_told (BeginSays (begin.Take take.Memory)) r OutOfMemory says (no_memory (λ e. absurd (cc)))
begin_says (begin.Take take.Disk) r says = as_told (BeginSays (begin.Take take.Disk)) r DiskFailed says disk_failed
begin_says (begin.Take take.Stopped) r says = as_told (BeginSays (begin.Take take.Stopped)) r OutOfMemory says (no_memory (λ e. absurd (cc)))
begin_says (begin.Take (take.Full len add)) r says = as_said (BeginSays (begin.Take (take.Full len add))) r 14 (full_text len add) says (no_memory (λ e. absurd (cc))) (full len add)

-- what can be built means a setting
pub meant : (script agents : List ℕ) (tree : Tree) (site : Site) → Builds script agents tree site → Mean script agents (script_setting tree site)
meant script agents tree site b = record { tree = tree; within = b.fits; faultless = b.faultless; means = b.means; is = refl }

-- of the first event there is one record
pub counts_first : (kind : EndText) (records : ℕ) (e : Event) → records ≡ 1 → Counts kind records (e ∷ [])
counts_first Log records e one = tt
counts_first (Numbers stages) records e one = one

-- the bytes that a disk tells
pub known_file : (o : Option (List ℕ)) → IsSome o → (file : List ℕ) × (o ≡ Some file)
known_file None known = absurd (cc)
known_file (Some file) known = (file, refl)
