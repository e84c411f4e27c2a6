-- What one event more makes of a store, and what a crash leaves of it.
use Rattle.std.proofs.Common.{◌≡◌, ℕ, List, ◌∷◌, ◌++◌, Option, Some, None, inl, inr, refl, sym, ap, ◌∙◌, subst, append-nil, append_assoc, []}
use Rattle.durable_build.specs.Lower.record_form.declared.record.EventRecord.{EventRecord}
use Rattle.model_run.specs.declared.event.Event.{Event}
use Rattle.model_run.specs.declared.event.Event.TheVariants as event
use Rattle.model_run.specs.declared.taken.Taken.TheVariants.{Accepted}
use Rattle.model_run.specs.State.{Common, Setting}
use Rattle.model_run.specs.World.{Build, unbegun, answer_to, after_one, next_grant, standing}
use Rattle.settle_laws.specs.Stances.{Stance}
use Rattle.durable_build.specs.Lower.build_core.Builds.{Parts, StandsFor, setting_in, standing_of}
use Rattle.durable_build.specs.Lower.build_core.Phases.{has_begun, has_ended, shown}
use Rattle.durable_build.specs.Lower.build_core.declared.phase.Phase.{Phase}
use Rattle.durable_build.specs.Lower.build_core.declared.phase.Phase.TheVariants.{Unbegun, Running, Ended, Stopped}
use Rattle.durable_build.specs.Lower.cps_frames.Standing.{common_of}
use Rattle.durable_build.specs.Lower.build_images.Images.{world_image}
use Rattle.durable_build.specs.Lower.store_laws.Store.{FirstStarts, Mean, grant_of, record_at}
use Rattle.build_store.specs.Saved.{IsTold, Stores, Survives}

shown_requests : (p : Phase) (u : Common) → (shown p u).requests ≡ u.requests
shown_requests Unbegun u = refl
shown_requests Running u = refl
shown_requests Ended u = refl
shown_requests Stopped u = refl

shown_held : (p : Phase) (u : Common) → (shown p u).held ≡ u.held
shown_held Unbegun u = refl
shown_held Running u = refl
shown_held Ended u = refl
shown_held Stopped u = refl

-- the answer of a build is that of each build of the definitions that it stands for
pub same_standing : {T : Type 0} (stance : T → Stance) (b : Parts T) (w : Build) → StandsFor stance b w → standing_of b ≡ standing (setting_in b) w
same_standing stance b w st =
    let started : w.started ≡ has_begun b.phase = st.started in
    let ended : w.ended ≡ has_ended b.phase = st.ended in
    let requests : w.shared.requests ≡ b.shared.requests = ap (λ (u : Common). u.requests) st.stand.shared ∙ shown_requests b.phase (common_of b.shared) in
    let held : w.shared.held ≡ b.shared.held = ap (λ (u : Common). u.held) st.stand.shared ∙ shown_held b.phase (common_of b.shared) in
    rw (started, ended, requests, held) refl

module _ (setting : Setting) where
  -- no event, and no record
  pub told_none : IsTold setting [] []
  told_none = record { records = []; spelled = tt; story = record { starts = tt; follows = tt }; due = tt; are = refl }

  -- a `Start`, and its record
  pub told_start : (script agents p : List ℕ) (r : EventRecord) → Mean script agents setting → record_at None p ≡ Some r → r.event ≡ event.Start script agents
      → r.image ≡ world_image setting (after_one setting unbegun r.event) → IsTold setting (event.Start script agents ∷ []) (p ∷ [])
  told_start script agents p r mean tells is image = record {
    records = r ∷ [];
    spelled = (tells, tt);
    story = record {
      starts = subst (λ (e : Event). FirstStarts setting (record r { event = e } ∷ [])) (sym is) mean;
      follows = (subst (λ (e : Event). answer_to setting unbegun e ≡ Accepted) (sym is) refl, image, tt);
    };
    due = (subst (λ (e : Event). next_grant setting unbegun ≡ grant_of e) (sym is) refl, tt);
    are = ap (λ (e : Event). e ∷ []) is;
  }

  module _ (before : List Event) where
    -- all that was taken survives, and what survives of some events survives of more
    pub survives_all : (events : List Event) (risked : Option Event) (image : List ℕ) → (more : List Event) × (events ≡ before ++ more) → Stores setting events image → Survives setting before events risked image
    survives_all events risked image goes stores = record {
      kept = events;
      front = record { begins = goes; within = inl ([], sym (append-nil events)) };
      stores = stores;
    }

    pub survives_risked : (events : List Event) (e : Event) (image : List ℕ) → (more : List Event) × (events ≡ before ++ more) → Stores setting (events ++ e ∷ []) image → Survives setting before events (Some e) image
    survives_risked events e image goes stores = record {
      kept = events ++ e ∷ [];
      front = record { begins = (goes.0 ++ e ∷ [], ap (λ (es : List Event). es ++ e ∷ []) goes.1 ∙ append_assoc before goes.0 (e ∷ [])); within = inr refl };
      stores = stores;
    }
