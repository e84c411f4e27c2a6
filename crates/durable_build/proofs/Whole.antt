-- A store of a build is never damaged: the image of each world that has begun passes the check of images.
use Rattle.std.proofs.Common.{◌≡◌, ℕ, true, List, refl, sym, ap, subst, arith}
use Rattle.std.specs.List.{AllByRecursion as AllAre}
use Rattle.model_syntax.specs.declared.tree.Tree.{Tree}
use Rattle.model_syntax.specs.TreeNodes.{tree_node}
use Rattle.model_run.specs.declared.event.Event.{Event}
use Rattle.model_run.specs.declared.site.Site.{Site}
use Rattle.model_run.specs.Fitting.{WorldFits, seats_of}
use Rattle.model_run.specs.State.{Setting}
use Rattle.model_run.specs.Terms.{term}
use Rattle.model_run.specs.World as W
use Rattle.build_images.proofs.Lower.fit_laws.Joined.{world_fits}
use Rattle.build_images.proofs.Lower.fit_laws.SharedStates.{limits_narrow}
use Rattle.build_images.specs.Images.{IsWhole, world_image}
use Rattle.build_images.proofs.Seats.{Clear}
use Rattle.build_images.proofs.Whole.{whole_image}
use Rattle.build_images.proofs.Worlds.{clear}
use Rattle.store_laws.specs.Store.{Mean}
use Rattle.durable_build.proofs.Cleared.{IsCleared, world_clears}

module _ (tree : Tree) (site : Site) where
  abbrev setting : Setting
  setting = W.setting_of W.run_limits (term 0 (tree_node tree)) site

  abbrev world : List Event → W.Build
  world events = W.world_in setting events

  pub world_whole : (events : List Event) → (world events).started ≡ true → IsWhole setting (world_image setting (world events))
  world_whole events started =
      let clears : AllAre (Clear setting.script) (seats_of setting (world events).threads) = clear setting ∣ (tree, refl) ∣₁ (omega arith) limits_narrow events started in
      let fits : WorldFits setting (world events) = world_fits setting tree refl (omega arith) limits_narrow events started in
      whole_image setting (world events).shared (world events).next_thread (world events).ended (seats_of setting (world events).threads) clears fits
      (λ over. let c : IsCleared (world events) = world_clears setting events over in record { threads = ap (seats_of setting) c.threads; requests = c.requests; held = c.held })

-- so it is in each setting that a script and an agents file mean
pub meant_whole : (script agents : List ℕ) (s : Setting) → Mean script agents s → (events : List Event) → (W.world_in s events).started ≡ true → IsWhole s (world_image s (W.world_in s events))
meant_whole script agents s mean events =
    subst (λ (x : Setting). (W.world_in x events).started ≡ true → IsWhole x (world_image x (W.world_in x events))) (sym mean.is) (world_whole mean.tree s.site events)
