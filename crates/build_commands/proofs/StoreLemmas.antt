-- What a store tells that was opened.
use Rattle.std.proofs.Common.{◌≡◌, ◌<◌, ℕ, true, false, List, [], ◌∷◌, length, Option, Some, None, ◌⊎◌, inl, inr, refl, sym, ap, ◌∙◌, subst, arith}
use Rattle.journal_core.specs.Records.{Has, Walked}
use Rattle.build_life.specs.Lower.record_form.declared.record.EventRecord.{EventRecord}
use Rattle.image_form.specs.declared.image.Image.{Image}
use Rattle.model_run.specs.State.{Common, Setting}
use Rattle.model_run.specs.World.{Build, world_in}
use Rattle.settle_laws.specs.Stances.{Stance}
use Rattle.build_life.specs.Lower.build_core.Builds.{Parts, StandsFor, setting_in}
use Rattle.build_life.specs.Lower.build_core.Phases.{has_begun, shown}
use Rattle.build_life.specs.Lower.build_core.declared.phase.Phase.{Phase}
use Rattle.build_life.specs.Lower.build_core.declared.phase.Phase.TheVariants.{Unbegun, Running, Ended, Stopped}
use Rattle.build_life.specs.Lower.build_images.Images.{image_in, world_image}
use Rattle.build_life.specs.Lower.store_laws.Store.{IsStory, Starts, Told, events_of, record_at}
use Rattle.build_life.proofs.Lower.store_laws.Tellings.{one_record, one_setting}
use Rattle.build_life.specs.Lower.durable_build.declared.faults.StoreFault.TheVariants.{Damaged}
use Rattle.build_life.specs.Lower.durable_build.Standing.{Breaks, IsDamagedAt, IsUnsound, IsWhole, Kept, Closing, Opening, StandsBy, StandsForStory, last_place}
use Rattle.build_life.proofs.Lower.durable_build.KindLemmas.{breaks_unclosed}
use Rattle.build_life.specs.Lower.durable_build.Opening.{OpenFails, Opened}
use Rattle.build_commands.specs.Reporting.{StartsBy}
use Rattle.build_commands.specs.Showing.{HasBuild, ShowsBuild}
use Rattle.jp_disk.specs.View.{DiskView}

same_payloads : (ps qs : List (List ℕ)) (file : List ℕ) → Has ps file → Has qs file → ps ≡ qs
same_payloads ps qs file a b = ap (λ (w : Walked). w.payloads) (sym a ∙ b)

nothing : 0 < 0 → ⊥
nothing lt = omega (arith, lt)

-- a record that starts a build starts it in the setting that its script and agents file mean
same_setting : (s t : Setting) (script agents p : List ℕ) (r : EventRecord) → Opening s script agents p → record_at None p ≡ Some r → Starts t r.event → t ≡ s
same_setting s t script agents p r o tells starts =
    let same : o.first ≡ r = one_record None o.first r p o.tells tells in
    one_setting t s script agents (subst (Starts t) (ap (λ (x : EventRecord). x.event) (sym same) ∙ o.starts) starts) o.mean

-- a build that has begun shows all its nodes
pub shown_nodes : (p : Phase) (u : Common) → has_begun p ≡ true → (shown p u).nodes ≡ u.nodes
shown_nodes Unbegun u begun = absurd (cc)
shown_nodes Running u begun = refl
shown_nodes Ended u begun = refl
shown_nodes Stopped u begun = refl

module _ {T : Type 0} (stance : T → Stance) (b : Parts T) (script agents : List ℕ) where
  stands_for : (payloads : List (List ℕ)) (s : Setting) (records : List EventRecord) → 0 < length payloads → StandsBy stance b script agents payloads → StandsForStory stance b payloads
      → Told None records payloads → IsStory world_image s records → StandsFor stance b (world_in s (events_of records))
  stands_for [] s records some stands of_story spelled story = absurd (nothing some)
  stands_for (p ∷ ps) s [] some stands of_story spelled story = absurd spelled
  stands_for (p ∷ ps) s (r ∷ rs) some stands of_story spelled story =
      let same : s ≡ setting_in b = same_setting (setting_in b) s script agents p r stands.1 spelled.0 story.starts in
      subst (λ (t : Setting). StandsFor stance b (world_in t (events_of (r ∷ rs)))) (sym same) (of_story (r ∷ rs) spelled (subst (λ (t : Setting). IsStory world_image t (r ∷ rs)) same story))

  -- the records by which a build stands, where there is one, begin with its `Start`
  pub starts_by : (payloads : List (List ℕ)) → 0 < length payloads → StandsBy stance b script agents payloads → StartsBy (setting_in b) payloads
  starts_by [] some stands = nothing some
  starts_by (p ∷ ps) some stands = (script, agents, stands.1)

  ends_by : (payloads : List (List ℕ)) → 0 < length payloads → StandsBy stance b script agents payloads → Closing (image_in stance b) payloads
  ends_by [] some stands = absurd (nothing some)
  ends_by (p ∷ ps) some stands = stands.2

-- Records of which the first is the `Start` of this setting are not damaged, where the last has an image that is whole.
not_damaged : (setting : Setting) (image : Image) (payloads : List (List ℕ)) (at : ℕ) → StartsBy setting payloads → Closing image payloads → IsWhole setting image → IsDamagedAt payloads at → ⊥
not_damaged setting image [] at starts closes whole damaged = starts
not_damaged setting image (p ∷ ps) at starts closes whole (inl first) = first.1 setting starts.0 starts.1 starts.2
not_damaged setting image (p ∷ ps) at starts closes whole (inr last) = by last.4
  where
    same : last.0 ≡ setting
    same = let o = last.3 in same_setting setting last.0 starts.0 starts.1 p o.first starts.2 o.tells (subst (Starts last.0) (sym o.starts) o.mean)

    by : Breaks (p ∷ ps) at ⊎ ((at ≡ last_place 0 p ps) × IsUnsound last.0 (p ∷ ps)) → ⊥
    by (inl breaks) = let no : Some image ≡ None = sym closes ∙ breaks_unclosed (p ∷ ps) at breaks in absurd (cc)
    by (inr (place, (other, closing, unsound))) =
        let both : Some image ≡ Some other = sym closes ∙ closing in
        let is : image ≡ other = cc in
        unsound (subst (λ (t : Setting). IsWhole t other) (sym same) (subst (IsWhole setting) is whole))

-- so a store of them has a build, which the next opening finds
pub sound_store : (file : List ℕ) (setting : Setting) (image : Image) (payloads : List (List ℕ)) → Has payloads file → StartsBy setting payloads → Closing image payloads → IsWhole setting image → HasBuild file
sound_store file setting image payloads has starts closes whole = (none, sound)
  where
    none : Has [] file → ⊥
    none empty = subst (StartsBy setting) (same_payloads payloads [] file has empty) starts

    sound : (at : ℕ) → OpenFails file (Damaged at) → ⊥
    sound at (ps, inl cut) = let bad : true ≡ false = ap (λ (w : Walked). w.is_whole) (sym has ∙ cut.0) in absurd (cc)
    sound at (ps, inr damaged) =
        let same = same_payloads ps payloads file damaged.0 has in
        not_damaged setting image payloads at starts closes whole (subst (λ (qs : List (List ℕ)). IsDamagedAt qs at) same damaged.1)

module _ {D T : Type 0} (disk : DiskView D) (stance : T → Stance) (file : List ℕ) (k : Kept D T) (o : Opened disk stance file k) where
  pub has_build : IsWhole (setting_in k.build) (image_in stance k.build) → HasBuild file
  has_build whole =
      sound_store file (setting_in k.build) (image_in stance k.build) o.payloads o.has (starts_by stance k.build k.script k.agents o.payloads o.some o.keeps.stands)
      (ends_by stance k.build k.script k.agents o.payloads o.some o.keeps.stands) whole

  -- what is the text of each build of the definitions that the opened one stands for, is the text of the store's build
  pub shows_build : (text_of : Build → List ℕ) (text : List ℕ) → IsWhole (setting_in k.build) (image_in stance k.build) → ((w : Build) → StandsFor stance k.build w → text ≡ text_of w) → ShowsBuild text_of file text
  shows_build text_of text whole is = record {
    some = (has_build whole).0;
    sound = (has_build whole).1;
    is = λ setting records tells story.
        let spelled = subst (Told None records) (same_payloads tells.payloads o.payloads file tells.has o.has) tells.spelled in
        is (world_in setting (events_of records)) (stands_for stance k.build k.script k.agents o.payloads setting records o.some o.keeps.stands o.keeps.story spelled story);
  }

  -- the last record's image is that of the opened build
  pub last_is : (p : List ℕ) (ps : List (List ℕ)) (image : Image) → Has (p ∷ ps) file → Closing image (p ∷ ps) → image_in stance k.build ≡ image
  last_is p ps image has closing =
      let s = subst (λ (qs : List (List ℕ)). StandsBy stance k.build k.script k.agents qs) (same_payloads o.payloads (p ∷ ps) file o.has has) o.keeps.stands in
      let both : Some (image_in stance k.build) ≡ Some image = sym s.2 ∙ closing in cc
