-- Which event comes next in the world of a script: where a grant is due it is that one, and where the build is settled it is no grant.
use Rattle.std.proofs.Common.{◌≡◌, ◌⊎◌, ◌∙◌, ℕ, Bool, true, false, List, Option, Some, None, inl, inr, refl, sym, ap, subst, lit≤}
use Rattle.std.specs.Prelude.{if◌then◌else◌}
use Rattle.model_syntax.specs.TreeNodes.{tree_node}
use Rattle.model_run.specs.declared.event.Event.{Event}
use Rattle.model_run.specs.declared.event.Event.TheVariants.{Start, Granted, Output, Exited, Lost, Decided}
use Rattle.model_run.specs.declared.taken.Taken.{Taken}
use Rattle.model_run.specs.declared.taken.Taken.TheVariants.{Accepted, Finished}
use Rattle.model_run.specs.Below.{Small}
use Rattle.model_run.specs.Grants.{grant}
use Rattle.model_run.specs.State.{Common, Setting}
use Rattle.model_run.specs.Taking.{Standing, answered, answered_first, taken}
use Rattle.model_run.specs.Terms.{term}
use Rattle.model_run.specs.World as W
use Rattle.model_run.proofs.DueLaws.{due_accepted, none_due}
use Rattle.settle_laws.specs.Stances.{Stance}
use Rattle.durable_build.specs.Lower.cps_frames.Standing.{common_of}
use Rattle.durable_build.specs.Lower.build_core.Builds.{Parts, StandsFor, setting_in, standing_of}
use Rattle.durable_build.specs.Lower.build_core.Phases.{has_begun}
use Rattle.durable_build.proofs.Lower.build_images.SavedBuilds.{shown_is}
use Rattle.durable_build.specs.Lower.store_laws.Store.{Mean, grant_of}
use Rattle.durable_build.proofs.Lower.store_laws.Starts.{no_second_start}
use Rattle.durable_build.specs.Taking.{MayStart}
use Rattle.locked_build.specs.Showing.{answer_of, due, IsSettled}
use Rattle.locked_build.specs.Facts.{IsMeant}
use Rattle.locked_build.proofs.Executors.{site_numbered}

-- a build that stands for one of the definitions, as far as answers and grants hang on it
module _ {T : Type 0} (stance : T → Stance) (b : Parts T) (w : W.Build) (begun : has_begun b.phase ≡ true) (at : StandsFor stance b w) where
  shared_is : record w.shared { count = b.shared.count } ≡ common_of b.shared
  shared_is = at.stand.shared ∙ shown_is b.phase (common_of b.shared) begun

  pub same_standing : W.standing (setting_in b) w ≡ standing_of b
  same_standing = λ i. record {
    started = at.started i;
    ended = at.ended i;
    site = b.shared.site;
    requests = ap (λ (c : Common). c.requests) shared_is i;
    held = ap (λ (c : Common). c.held) shared_is i;
  }

  pub same_answer : (e : Event) → W.answer_to (setting_in b) w e ≡ answer_of b e
  same_answer e = ap (λ (x : Standing). taken x e) same_standing

  pub same_due : W.next_grant (setting_in b) w ≡ due b
  same_due = ap (λ (c : Common). grant b.shared.site c.held c.requests) shared_is

going : (ended : Bool) (more : Taken) → (if ended then Finished else more) ≡ Accepted → ended ≡ false
going true more is = absurd (cc)
going false more is = refl

none_or_some : (o : Option (ℕ × ℕ)) → (o ≡ None) ⊎ ((request : ℕ) × (executor : ℕ) × (o ≡ Some (request, executor)))
none_or_some None = inl refl
none_or_some (Some (request, executor)) = inr (request, executor, refl)

-- in the world of a script
module _ (s : Setting) (meant : IsMeant s) (events : List Event) (started : (W.world_in s events).started ≡ true) where
  mean : Mean meant.0 meant.1 s
  mean = meant.2

  of_tree : s.script ≡ term 0 (tree_node mean.tree)
  of_tree = ap (λ (x : Setting). x.script) mean.is

  small : Small s
  small = subst Small (sym mean.is) (lit≤ tt)

  due_is_accepted : (e : Event) → W.answer_to s (W.world_in s events) e ≡ Accepted → (request executor : ℕ) → W.next_grant s (W.world_in s events) ≡ Some (request, executor)
      → W.answer_to s (W.world_in s events) (Granted request executor) ≡ Accepted
  due_is_accepted e accepted request executor is =
      due_accepted s (tree_node mean.tree) of_tree small (site_numbered meant.1 s.site mean.means) events started
      (going (W.world_in s events).ended (if (W.world_in s events).started then answered (W.standing s (W.world_in s events)) e else answered_first e) accepted) request executor is

  no_grant : (e : Event) → W.next_grant s (W.world_in s events) ≡ None → W.answer_to s (W.world_in s events) e ≡ Accepted → grant_of e ≡ None
  no_grant (Start script agents) none accepted = refl
  no_grant (Granted request executor) none accepted = absurd (none_due s (tree_node mean.tree) of_tree small events none request executor accepted)
  no_grant (Output task stream from bytes) none accepted = refl
  no_grant (Exited task code) none accepted = refl
  no_grant (Lost task why) none accepted = refl
  no_grant (Decided request proceed name) none accepted = refl

  settled_next : (e : Event) → W.answer_to s (W.world_in s events) e ≡ Accepted
      → ((request executor : ℕ) → W.next_grant s (W.world_in s events) ≡ Some (request, executor) → W.answer_to s (W.world_in s events) (Granted request executor) ≡ Accepted → ⊥)
      → W.next_grant s (W.world_in s events) ≡ grant_of e
  settled_next e accepted settled = one (none_or_some (W.next_grant s (W.world_in s events)))
    where
      one : (W.next_grant s (W.world_in s events) ≡ None) ⊎ ((request : ℕ) × (executor : ℕ) × (W.next_grant s (W.world_in s events) ≡ Some (request, executor))) → W.next_grant s (W.world_in s events) ≡ grant_of e
      one (inl none) = none ∙ sym (no_grant e none accepted)
      one (inr there) = absurd (settled there.0 there.1 there.2 (due_is_accepted e accepted there.0 there.1 there.2))

-- the event is the grant that is due, or the build is settled
abbrev pub IsInOrder : {T : Type 0} → Parts T → Event → Type 0
IsInOrder b e = (due b ≡ grant_of e) ⊎ IsSettled b

module _ {T : Type 0} (stance : T → Stance) (b : Parts T) (begun : has_begun b.phase ≡ true) (e : Event) (accepted : answer_of b e ≡ Accepted) where
  pub next_in_order : IsInOrder b e → IsMeant (setting_in b) → (events : List Event) → (W.world_in (setting_in b) events).started ≡ true → StandsFor stance b (W.world_in (setting_in b) events)
      → W.next_grant (setting_in b) (W.world_in (setting_in b) events) ≡ grant_of e
  next_in_order (inl is) meant events started at = same_due stance b (W.world_in (setting_in b) events) begun at ∙ is
  next_in_order (inr settled) meant events started at =
      let w = W.world_in (setting_in b) events in
      settled_next (setting_in b) meant events started e (same_answer stance b w begun at e ∙ accepted)
      (λ request executor is ok. settled request executor (sym (same_due stance b w begun at) ∙ is) (sym (same_answer stance b w begun at (Granted request executor)) ∙ ok))

-- a build that has begun accepts no `Start`
pub may_any : {T : Type 0} (b : Parts T) (e : Event) → has_begun b.phase ≡ true → answer_of b e ≡ Accepted → MayStart (setting_in b) e
may_any b (Start script agents) begun is = absurd (no_second_start (standing_of b) (Start script agents) begun is tt)
may_any b (Granted request executor) begun is = tt
may_any b (Output task stream from bytes) begun is = tt
may_any b (Exited task code) begun is = tt
may_any b (Lost task why) begun is = tt
may_any b (Decided request proceed name) begun is = tt
