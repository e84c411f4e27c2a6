-- Why a consistent store was not opened.
use Rattle.std.proofs.Common.{◌≡◌, ℕ, List, [], ◌∷◌, None, refl, sym, ap, ◌∙◌, subst}
use Rattle.device_faults.specs.Faults.{Rose}
use Rattle.journal_core.specs.Records.{Walked}
use Rattle.build_life.specs.Lower.record_form.declared.record.EventRecord.{EventRecord}
use Rattle.model_run.specs.declared.event.Event.{Event}
use Rattle.model_run.specs.State.{Setting}
use Rattle.build_life.specs.Lower.build_images.Images.{world_image}
use Rattle.build_life.specs.Lower.store_laws.Store.{IsConsistent, Told, events_of}
use Rattle.build_life.specs.Lower.durable_build.declared.faults.StoreFault.{StoreFault}
use Rattle.build_life.specs.Lower.durable_build.declared.faults.StoreFault.TheVariants as fault
use Rattle.build_life.specs.Lower.durable_build.Opening.{OpenFails}
use Rattle.build_life.specs.Lower.build_store.Saved.{Stores}
use Rattle.build_commands.specs.declared.refusal.Refusal.{Refusal}
use Rattle.build_commands.specs.declared.refusal.Refusal.TheVariants.{DiskFailed, NoBuild, OutOfMemory}
use Rattle.build_commands.specs.Refusals.{TellsFault, refusal_status, refusal_text}
use Rattle.build_commands.specs.Resuming.{NotOpened, no_build, disk_failed, no_memory}
use Rattle.build_commands.proofs.RefusalLemmas.{as_told}

-- a consistent store of some events is one
pub is_consistent : (setting : Setting) (events : List Event) (file : List ℕ) → Stores setting events file → IsConsistent world_image file
is_consistent setting events file s = record {
  setting = setting;
  records = s.told.records;
  tells = record { payloads = s.payloads; has = s.has; spelled = s.told.spelled };
  story = s.told.story;
  due = s.told.due;
}

no_events : (records : List EventRecord) (payloads : List (List ℕ)) → payloads ≡ [] → Told None records payloads → events_of records ≡ []
no_events [] payloads none spelled = refl
no_events (r ∷ rs) payloads none spelled = absurd (subst (Told None (r ∷ rs)) none spelled)

pub not_opened : (setting : Setting) (events : List Event) (file : List ℕ) (a b : ℕ) (f : StoreFault) (r : Refusal) → TellsFault f r → OpenFails file f → Stores setting events file → ((at : ℕ) → f ≡ fault.Damaged at → ⊥) → (f ≡ fault.Disk → Rose a b)
    → NotOpened events a b (refusal_status r) (refusal_text r)
not_opened setting events file a b fault.Memory r tells fails stores sound rose = as_told (NotOpened events a b) r OutOfMemory tells no_memory
not_opened setting events file a b fault.Disk r tells fails stores sound rose = as_told (NotOpened events a b) r DiskFailed tells (disk_failed (rose refl))
not_opened setting events file a b fault.Empty r tells fails stores sound rose =
    let none : stores.payloads ≡ [] = ap (λ (w : Walked). w.payloads) (sym stores.has ∙ fails) in
    as_told (NotOpened events a b) r NoBuild tells (no_build (sym stores.told.are ∙ no_events stores.told.records stores.payloads none stores.told.spelled))
not_opened setting events file a b (fault.Damaged at) r tells fails stores sound rose = absurd (sound at refl)
