-- An opened build is that of its records, where they are those of one build.
use Rattle.std.proofs.Common.{◌≡◌, ◌<◌, ℕ, true, List, [], ◌∷◌, ◌++◌, length, Option, Some, None, sym, ap, ◌∙◌, subst, arith, append-nil, append_assoc}
use Rattle.std.specs.Prelude.{fold}
use Rattle.delta_records.specs.Lower.record_form.declared.record.EventRecord.{EventRecord}
use Rattle.image_form.specs.declared.image.Image.{Image}
use Rattle.model_run.specs.declared.event.Event.{Event}
use Rattle.model_run.specs.declared.event.Event.TheVariants as event
use Rattle.model_run.specs.State.{Setting}
use Rattle.model_run.specs.World as W
use Rattle.settle_laws.specs.Stances.{Stance}
use Rattle.durable_build.proofs.StaysBegun.{stays_begun}
use Rattle.build_images.specs.Lower.build_core.Builds.{Parts, setting_in}
use Rattle.store_laws.specs.Store.{Starts, Follows, Told, events_of}
use Rattle.store_laws.proofs.Payloads.{image_of_last, told_last}
use Rattle.store_laws.proofs.Stories.{IsStart}
use Rattle.durable_build.proofs.Begun.{starts_first}
use Rattle.build_images.specs.Images.{world_image, image_in}
use Rattle.durable_build.specs.Standing.{Closing, StandsBy, StandsForStory}
use Rattle.durable_build.specs.Opening.{StandsWhere}

pub begun_all : (s : Setting) (front more : List Event) → (W.world_in s front).started ≡ true → (W.world_in s (front ++ more)).started ≡ true
begun_all s front [] begun = subst (λ (es : List Event). (W.world_in s es).started ≡ true) (sym (append-nil front)) begun
begun_all s front (e ∷ es) begun =
    subst (λ (xs : List Event). (W.world_in s xs).started ≡ true) (append_assoc front (e ∷ []) es) (begun_all s (front ++ e ∷ []) es (stays_begun s front e begun))

pub is_start : (s : Setting) (e : Event) → Starts s e → IsStart e
is_start s (event.Start script agents) starts = tt
is_start s (event.Granted request executor) starts = starts
is_start s (event.Output task stream from bytes) starts = starts
is_start s (event.Exited task code) starts = starts
is_start s (event.Lost task why) starts = starts
is_start s (event.Decided request proceed name) starts = starts

-- the last record's image is that of the world of all events
follows_last : (s : Setting) (w : W.Build) (before : Option Image) (r : EventRecord) (rs : List EventRecord) → Follows world_image s w (r ∷ rs) → image_of_last before (r ∷ rs) ≡ Some (world_image s (fold (W.after_one s) w (events_of (r ∷ rs))))
follows_last s w before r [] follows = ap (λ (i : Image). Some i) follows.1
follows_last s w before r (q ∷ qs) follows = follows_last s (W.after_one s w r.event) (Some r.image) q qs follows.2

pub closes : (s : Setting) (w : W.Build) (r : EventRecord) (rs : List EventRecord) (ps : List (List ℕ)) → Follows world_image s w (r ∷ rs) → Told None (r ∷ rs) ps → Closing (world_image s (fold (W.after_one s) w (events_of (r ∷ rs)))) ps
closes s w r rs ps follows told = told_last None (r ∷ rs) ps told ∙ follows_last s w None r rs follows

pub one_image : (a b : Image) (ps : List (List ℕ)) → Closing a ps → Closing b ps → a ≡ b
one_image a b ps one other = let same : Some a ≡ Some b = sym one ∙ other in cc

module _ {T : Type 0} (stance : T → Stance) (b : Parts T) (where_it : StandsWhere stance b) where
  -- a build that stands by its records, and for each build of the definitions that has its image, stands for the one that they tell of
  pub opened_story : (script agents p : List ℕ) (ps : List (List ℕ)) → StandsBy stance b script agents (p ∷ ps) → StandsForStory stance b (p ∷ ps)
  opened_story script agents p ps stands [] spells story = absurd spells
  opened_story script agents p ps stands (r ∷ rs) spells story =
      let s = setting_in b in
      let events = events_of (r ∷ rs) in
      where_it events (begun_all s (r.event ∷ []) (events_of rs) (starts_first s r.event (is_start s r.event story.starts)))
      (one_image (image_in stance b) (world_image s (W.world_in s events)) (p ∷ ps) stands.2 (closes s W.unbegun r rs (p ∷ ps) story.follows spells))

  pub opened_stories : (script agents : List ℕ) (payloads : List (List ℕ)) → 0 < length payloads → StandsBy stance b script agents payloads → StandsForStory stance b payloads
  opened_stories script agents [] some stands = absurd (omega (arith, some))
  opened_stories script agents (p ∷ ps) some stands = opened_story script agents p ps stands
