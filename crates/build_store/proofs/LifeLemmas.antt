-- What a store has while a life goes on over it.
use Rattle.std.specs.Prelude.{IsSome}
use Rattle.std.proofs.Common.{◌≡◌, ℕ, List, Option, None, sym, subst, append-nil, []}
use Rattle.jp_disk.proofs.MomentLemmas.{starts}
use Rattle.journal_core.proofs.StepLemmas.{stores_has}
use Rattle.model_run.specs.declared.event.Event.{Event}
use Rattle.model_run.specs.State.{Setting}
use Rattle.model_run.specs.World.{world_in}
use Rattle.settle_laws.specs.Stances.{Stance}
use Rattle.durable_build.specs.Lower.build_core.Builds.{StandsFor, setting_in}
use Rattle.durable_build.specs.Lower.store_laws.Store.{events_of}
use Rattle.durable_build.specs.Standing.{Kept}
use Rattle.build_store.specs.Saved.{IsTold, Saves, Stores, Survives}
use Rattle.build_store.specs.Lives.{Goes, Lasts}
use Rattle.build_store.proofs.SavedLemmas.{survives_all}
use Rattle.jp_disk.specs.View.{DiskLaws, DiskView}

module _ {D T : Type 0} (disk : DiskView D) (stance : T → Stance) where
  -- a build that is saved stands for that of its events
  pub saves_world : (setting : Setting) (events : List Event) (kept : Kept D T) → setting_in kept.build ≡ setting → Saves disk stance kept events → StandsFor stance kept.build (world_in setting events)
  saves_world setting events kept same saves =
      let t = saves.told in
      subst (λ (es : List Event). StandsFor stance kept.build (world_in setting es)) t.are
      (subst (λ (x : Setting). StandsFor stance kept.build (world_in x (events_of t.records))) same (saves.keeps.story t.records t.spelled t.story))

  -- what a crash leaves of a life, and what stands on its disk now
  pub saved_image : (setting : Setting) (events : List Event) (kept : Kept D T) (image : List ℕ) → setting_in kept.build ≡ setting → Saves disk stance kept events → disk.may_leave kept.journal.disk image → Stores setting events image
  saved_image setting events kept image same saves left = record {
    payloads = saves.payloads;
    has = stores_has disk kept.journal.disk kept.journal.len saves.payloads image saves.keeps.holds left;
    told = subst (λ (x : Setting). IsTold x events saves.payloads) same saves.told;
  }

  -- a life from its own disk on
  pub lasts_here : DiskLaws disk → (setting : Setting) (entry : Option (List ℕ)) (events : List Event) (kept : Kept D T) → Goes stance setting events kept
      → (IsSome entry → Saves disk stance kept events) → Lasts disk stance setting entry kept.journal.disk events events kept
  lasts_here laws setting entry events kept goes saves = record {
    goes = goes;
    goes_on = ([], sym (append-nil events));
    saves = saves;
    moments = λ known. starts disk kept.journal.disk (Survives setting events events None)
        (λ image left. survives_all setting events events None image ([], sym (append-nil events)) (saved_image setting events kept image goes.same (saves known) (laws.only_now kept.journal.disk image left)));
  }
