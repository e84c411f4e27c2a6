-- A task that was claimed is open in each image that a crash may leave at that moment.
use Rattle.std.proofs.Common.{◌≡◌, ◌∙◌, ℕ, List, ◌++◌, Option, Some, None, refl, sym, ap, subst, append-nil}
use Rattle.std.specs.Prelude.{IsSome}
use Rattle.std.proofs.Math.Logic.{∥∥₁_elim, ∥∥₁_map, ∥∥₁_prop}
use Rattle.journal_core.specs.declared.faults.TakeFault.{TakeFault}
use Rattle.agent_worker.specs.declared.gate.Claim.TheVariants as claim
use Rattle.build_life.specs.Lower.build_core.Builds.{Parts}
use Rattle.build_life.specs.Lower.durable_build.Standing.{Kept}
use Rattle.journal_core.proofs.StepLemmas.{stores_has}
use Rattle.model_run.specs.declared.event.Event.{Event}
use Rattle.model_run.specs.declared.request.OpenRequest.{OpenRequest}
use Rattle.model_run.specs.Requests.{IsTaskOf, RunsOn}
use Rattle.model_run.specs.Fitting.{Some_of}
use Rattle.model_run.specs.State.{Setting}
use Rattle.model_run.specs.World.{world_in}
use Rattle.build_life.specs.Lower.build_store.Lives.{Lasts}
use Rattle.build_life.specs.Lower.build_store.Saved.{IsTold, Stores}
use Rattle.settle_laws.specs.Stances.{Stance}
use Rattle.build_life.proofs.Lower.member_turns.ClaimLaws.{free_order}
use Rattle.build_life.proofs.StoreLemmas.{lasts_on}
use Rattle.build_life.proofs.WalkLemmas.{ShowsAll, found_task, requests_are, shows_shown}
use Rattle.build_life.specs.Lower.locked_build.Claims.{ClaimSays}
use Rattle.build_life.specs.Lower.locked_build.Facts.{Facts, IsSite}
use Rattle.build_life.specs.Lower.locked_build.Histories.{Quiet, kept_fault, tooks}
use Rattle.build_life.specs.Lower.locked_build.Says.{Answers, Says, SaysAt}
use Rattle.build_life.specs.Lower.locked_build.Showing.{IsShown}
use Rattle.build_life.specs.Lower.locked_build.declared.ask.Ask.TheVariants as ask
use Rattle.build_life.specs.Lower.locked_build.declared.ask.Entry.{Entry}
use Rattle.build_life.specs.Lower.locked_build.declared.ask.Reply.TheVariants as reply
use Rattle.build_life.proofs.Lower.locked_build.HistoryLaws.{kept_fault-append, tooks-append}
use Rattle.task_host.specs.declared.order.Order.{Order}
use Rattle.task_laws.specs.Tasks.{HasOpenTask}
use Rattle.jp_disk.specs.View.{DiskView}

stopped_order : (order : Order) → reply.Claimed (claim.Order order) ≡ reply.Claimed claim.Stopped → ⊥
stopped_order order is = cc

module _ {T : Type 0} (stance : T → Stance) (opening : Parts T) (history : List Entry) (executor : ℕ) (order : Order) (new : List Entry) where
  -- an order is given only while no fault is kept
  calm_at : (f : Option TakeFault) → SaysAt stance opening history f (ask.Claim executor) (reply.Claimed (claim.Order order)) new → f ≡ None
  calm_at None says = refl
  calm_at (Some fault) says = absurd (stopped_order order says.0)

  calm_said : (f : Option TakeFault) → SaysAt stance opening history f (ask.Claim executor) (reply.Claimed (claim.Order order)) new → Answers stance opening history (ask.Claim executor) (reply.Claimed (claim.Order order)) new
  calm_said None says = says
  calm_said (Some fault) says = absurd (stopped_order order says.0)

  -- The entry of a claim tells of no event and of no fault.
  pub claim_is_quiet : Says stance opening history (ask.Claim executor) (reply.Claimed (claim.Order order)) new → Quiet new
  claim_is_quiet says = let claims = (calm_said (kept_fault history) says).2 in (ap tooks claims.3, ap kept_fault claims.3)

module _ {D T : Type 0} (disk : DiskView D) (stance : T → Stance)
    (setting : Setting) (entry : Option (List ℕ)) (origin : D) (before begun : List Event) (opening now : Kept D T)
    (known : IsSome entry) (lasts : Lasts disk stance setting entry origin before begun opening) where
  -- While no fault is kept each image that a crash may leave is a store of just the events from before and those that the history tells as taken.
  pub images_store : (history : List Entry) → Facts disk stance opening now history → kept_fault history ≡ None
      → (image : List ℕ) → disk.may_leave now.journal.disk image → Stores setting (begun ++ tooks history) image
  images_store history facts none image leaves =
      let later = lasts_on disk stance setting entry origin before begun opening now history lasts facts none in
      let saves = later.saves known in
      record {
        payloads = saves.payloads;
        has = stores_has disk now.journal.disk now.journal.len saves.payloads image saves.keeps.holds leaves;
        told = subst (λ (s : Setting). IsTold s (begun ++ tooks history) saves.payloads) later.goes.same saves.told;
      }

  module _ (history : List Entry) (executor : ℕ) (order : Order) (new : List Entry) (says : Says stance opening.build history (ask.Claim executor) (reply.Claimed (claim.Order order)) new) where
    calm : kept_fault history ≡ None
    calm = calm_at stance opening.build history executor order new (kept_fault history) says

    -- the task is open by the events
    found : (b : Parts T) → IsShown stance opening.build (tooks history) b → ClaimSays b.shared.requests history executor (claim.Order order) new → IsTaskOf executor order.task (world_in setting (begun ++ tooks history)).shared
    found b shown claims =
        let opened : ShowsAll stance setting lasts.goes.proper opening.build begun = record { same = lasts.goes.same; begun = lasts.goes.begun; stands = lasts.goes.stands } in
        let all = shows_shown stance setting lasts.goes.proper opening.build b begun (tooks history) opened shown in
        let task : order.task ≡ claims.0.number = (free_order history executor b.shared.requests claims.0 order claims.1 claims.2).1 in
        subst (λ (rs : List OpenRequest). Some_of (λ (q : OpenRequest). (q.number ≡ order.task) × RunsOn executor q.request) rs) (sym (requests_are stance setting lasts.goes.proper b (begun ++ tooks history) all))
        (subst (λ (n : ℕ). Some_of (λ (q : OpenRequest). (q.number ≡ n) × RunsOn executor q.request) b.shared.requests) (sym task) (found_task history executor b.shared.requests claims.0 claims.1))

    task_open : ∥ IsTaskOf executor order.task (world_in setting (begun ++ tooks history)).shared ∥₁
    task_open = let claims = calm_said stance opening.build history executor order new (kept_fault history) says in ∥∥₁_map claims.1 (λ shown. found claims.0 shown claims.2)

    -- The answer to a claim is an order: just before it, just behind it, and until another event is taken or a fault is noted, the task is an open one
    -- of the executor in each image that a crash may leave. `more` is what has come to the history since the claim was asked.
    pub open_until_next : (more : List Entry) (capacity : ℕ) → Quiet more → ∥ IsSite disk stance opening now (history ++ more) capacity ∥₁
        → ∥ ((image : List ℕ) → disk.may_leave now.journal.disk image → HasOpenTask setting executor order.task image) ∥₁
    open_until_next more capacity quiet site =
        let none : kept_fault (history ++ more) ≡ None = kept_fault-append history more calm ∙ quiet.1 in
        let same : tooks (history ++ more) ≡ tooks history = tooks-append history more ∙ ap (λ (es : List Event). tooks history ++ es) quiet.0 ∙ append-nil (tooks history) in
        ∥∥₁_elim site ∥∥₁_prop (λ is. ∥∥₁_map task_open (λ open_now image leaves.
        record {
          events = begun ++ tooks history;
          stores = subst (λ (es : List Event). Stores setting (begun ++ es) image) same (images_store (history ++ more) is.facts none image leaves);
          task_of = open_now;
        }))

    -- A claimed task is open in each image that a crash may leave when the claim has been answered.
    pub claimed_is_open : (capacity : ℕ) → ∥ IsSite disk stance opening now (history ++ new) capacity ∥₁
        → ∥ ((image : List ℕ) → disk.may_leave now.journal.disk image → HasOpenTask setting executor order.task image) ∥₁
    claimed_is_open capacity site = open_until_next new capacity (claim_is_quiet stance opening.build history executor order new says) site
