-- Opening a consistent store never tells of damage.
use Rattle.std.proofs.Common.{◌≡◌, inl, inr, ℕ, true, false, List, [], ◌∷◌, Some, None, refl, sym, ap, ◌∙◌, subst}
use Rattle.journal_core.specs.Records.{Walked}
use Rattle.delta_records.specs.Lower.record_form.declared.record.EventRecord.{EventRecord}
use Rattle.image_form.specs.declared.image.Image.{Image}
use Rattle.model_run.specs.declared.event.Event.{Event}
use Rattle.model_run.specs.declared.event.Event.TheVariants as event
use Rattle.model_run.specs.State.{Setting}
use Rattle.model_run.specs.World as W
use Rattle.build_images.specs.Images.{world_image}
use Rattle.store_laws.specs.Store.{IsConsistent, IsStory, Mean, Starts, Told, events_of, record_at}
use Rattle.store_laws.proofs.Tellings.{one_record, one_setting}
use Rattle.durable_build.specs.declared.faults.StoreFault.TheVariants.{Damaged}
use Rattle.durable_build.specs.Standing.{IsDamagedAt, IsWhole, Opening}
use Rattle.durable_build.specs.Opening.{OpenFails}
use Rattle.durable_build.proofs.Begun.{starts_first}
use Rattle.durable_build.proofs.KindLemmas.{breaks_unclosed}
use Rattle.durable_build.proofs.OpenLemmas.{begun_all, closes, is_start, one_image}
use Rattle.durable_build.proofs.Whole.{meant_whole}

-- the first record is that of a `Start`
pub record Opens (s : Setting) (payload : List ℕ) : Type 0 where
  pub script : List ℕ
  pub agents : List ℕ
  pub opening : Opening s script agents payload

opens_by : (s : Setting) (r : EventRecord) (p : List ℕ) → record_at None p ≡ Some r → (e : Event) → r.event ≡ e → Starts s e → Opens s p
opens_by s r p tells (event.Start script agents) is starts = record { script = script; agents = agents; opening = record { first = r; tells = tells; starts = is; mean = starts } }
opens_by s r p tells (event.Granted request executor) is starts = absurd starts
opens_by s r p tells (event.Output task stream from bytes) is starts = absurd starts
opens_by s r p tells (event.Exited task code) is starts = absurd starts
opens_by s r p tells (event.Lost task why) is starts = absurd starts
opens_by s r p tells (event.Decided request proceed name) is starts = absurd starts

-- of a script and an agents file that mean the setting
opening_means : (s t : Setting) (r : EventRecord) (p script agents : List ℕ) → record_at None p ≡ Some r → Starts s r.event → Opening t script agents p → Mean script agents s
opening_means s t r p script agents tells starts opening =
    subst (Starts s) (ap (λ (x : EventRecord). x.event) (one_record None r opening.first p tells opening.tells) ∙ opening.starts) starts

undamaged_behind : (s : Setting) (r : EventRecord) (rs : List EventRecord) (p : List ℕ) (ps : List (List ℕ)) (at : ℕ) → Told None (r ∷ rs) (p ∷ ps) → IsStory world_image s (r ∷ rs) → IsDamagedAt (p ∷ ps) at → ⊥
undamaged_behind s r rs p ps at told story (inl none) =
    let opens : Opens s p = opens_by s r p told.0 r.event refl story.starts in
    none.1 s opens.script opens.agents opens.opening
undamaged_behind s r rs p ps at told story (inr (t, script, agents, opening, inl breaks)) =
    let bad = sym (breaks_unclosed (p ∷ ps) at breaks) ∙ closes s W.unbegun r rs (p ∷ ps) story.follows told in
    absurd (cc)
undamaged_behind s r rs p ps at told story (inr (t, script, agents, opening, inr (here, (image, closing, none)))) =
    let mean : Mean script agents s = opening_means s t r p script agents told.0 story.starts opening in
    let events : List Event = events_of (r ∷ rs) in
    let begun : (W.world_in s events).started ≡ true = begun_all s (r.event ∷ []) (events_of rs) (starts_first s r.event (is_start s r.event story.starts)) in
    let world : Image = world_image s (W.world_in s events) in
    let same : image ≡ world = one_image image world (p ∷ ps) closing (closes s W.unbegun r rs (p ∷ ps) story.follows told) in
    none (subst (IsWhole t) (sym same) (subst (λ (x : Setting). IsWhole x world) (one_setting s t script agents mean opening.mean) (meant_whole script agents s mean events begun)))

undamaged_story : (s : Setting) (records : List EventRecord) (payloads : List (List ℕ)) (at : ℕ) → Told None records payloads → IsStory world_image s records → IsDamagedAt payloads at → ⊥
undamaged_story s [] [] at spells story damaged = damaged
undamaged_story s (r ∷ rs) (p ∷ ps) at spells story damaged = undamaged_behind s r rs p ps at spells story damaged
undamaged_story s [] (p ∷ ps) at spells story damaged = absurd spells
undamaged_story s (r ∷ rs) [] at spells story damaged = absurd spells

pub never_damaged : (file : List ℕ) → IsConsistent world_image file → (at : ℕ) → OpenFails file (Damaged at) → ⊥
never_damaged file store at (payloads, inl cut) = let bad : true ≡ false = ap (λ (w : Walked). w.is_whole) (sym store.tells.has ∙ cut.0) in absurd (cc)
never_damaged file store at (payloads, inr found) =
    undamaged_story store.setting store.records store.tells.payloads at store.tells.spelled store.story
    (subst (λ (ps : List (List ℕ)). IsDamagedAt ps at) (ap (λ (w : Walked). w.payloads) (sym found.0 ∙ store.tells.has)) found.1)
