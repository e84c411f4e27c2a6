-- The tasks that were claimed in a life stand in each image that a crash may leave behind it.
use Rattle.std.proofs.Common.{◌≡◌, ◌⊎◌, ◌∙◌, inl, inr, ℕ, ℤ, true, List, [], ◌∷◌, ◌++◌, Option, Some, None, Result, Ok, Err, refl, sym, ap, subst, append_assoc, append-nil}
use Rattle.std.specs.Prelude.{IsSome, IsSomeAnd}
use Rattle.journal_core.specs.declared.faults.TakeFault.{TakeFault}
use Rattle.agent_worker.specs.declared.member.Member.{Member}
use Rattle.build_life.specs.Lower.durable_build.Standing.{Kept}
use Rattle.build_life.proofs.Lower.durable_build.OpenLemmas.{begun_all}
use Rattle.journal_core.proofs.StepLemmas.{stores_has}
use Rattle.model_run.specs.declared.event.Event.{Event}
use Rattle.model_run.specs.Requests.{IsTaskOf}
use Rattle.model_run.specs.State.{Setting}
use Rattle.model_run.specs.World.{world_in}
use Rattle.build_life.specs.Lower.build_store.Saved.{IsTold, Stores}
use Rattle.build_life.specs.declared.resting.Rest.{Rest}
use Rattle.settle_laws.specs.Stances.{Stance}
use Rattle.build_life.specs.Lower.member_turns.Coming.{EachIs}
use Rattle.build_life.specs.Lower.member_turns.Turns.{Turn}
use Rattle.build_life.specs.Lives.{Ends, EndsBehind}
use Rattle.build_life.specs.Telling.{ClaimedInTime}
use Rattle.build_life.specs.Lower.locked_build.Histories.{tooks}
use Rattle.build_life.specs.Lower.locked_build.declared.ask.Entry.{Entry}
use Rattle.build_life.specs.Lower.locked_build.declared.ask.Entry.TheVariants.{Took, Claimed, Line, Failed}
use Rattle.build_life.proofs.Lower.locked_build.HistoryLaws.{tooks-append}
use Rattle.task_host.specs.declared.call.Call.{Call}
use Rattle.task_host.specs.declared.order.Stream.{Stream}
use Rattle.task_laws.specs.Tasks.{AllClaimed, HadOpenTask}
use Rattle.jp_disk.specs.View.{DiskView}
use Rattle.task_host.specs.View.{HostView}
use Rattle.jp_io.specs.View.{SourceView}

module _ (setting : Setting) (begun taken : List Event) (started : (world_in setting begun).started ≡ true) (Leaves : List ℕ → Type 0)
    (all_store : (image : List ℕ) → Leaves image → (rest : List Event) × Stores setting ((begun ++ taken) ++ rest) image) where
  abbrev Stays : ℕ → ℕ → Type 0
  Stays executor task = (image : List ℕ) → Leaves image → HadOpenTask setting executor task image

  -- a task that was open behind the first ones of the events that were taken
  stays : (front later : List Event) (executor task : ℕ) → front ++ later ≡ taken → IsTaskOf executor task (world_in setting (begun ++ front)).shared → Stays executor task
  stays front later executor task is task_of image leaves =
      let there = all_store image leaves in
      record {
        events = (begun ++ taken) ++ there.0;
        stores = there.1;
        was = record {
          front = begun ++ front;
          rest = later ++ there.0;
          is = ap (λ (es : List Event). (begun ++ es) ++ there.0) (sym is) ∙ ap (λ (es : List Event). es ++ there.0) (sym (append_assoc begun front later)) ∙ append_assoc (begun ++ front) later there.0;
          begun = begun_all setting begun front started;
          task_of = task_of;
        };
      }

  all_stay : (before es : List Entry) → tooks (before ++ es) ≡ taken → EachIs (ClaimedInTime setting begun) before es → AllClaimed Stays es
  all_stay before [] is each = tt
  all_stay before (Claimed executor task keep_out kept_log kept_out ∷ es) is each = (
    stays (tooks before) (tooks es) executor task (sym (tooks-append before (Claimed executor task keep_out kept_log kept_out ∷ es)) ∙ is) each.0,
    all_stay (before ++ Claimed executor task keep_out kept_log kept_out ∷ []) es (ap tooks (append_assoc before (Claimed executor task keep_out kept_log kept_out ∷ []) es) ∙ is) each.1,
  )
  all_stay before (Took event ∷ es) is each = all_stay (before ++ Took event ∷ []) es (ap tooks (append_assoc before (Took event ∷ []) es) ∙ is) each.1
  all_stay before (Line line ∷ es) is each = all_stay (before ++ Line line ∷ []) es (ap tooks (append_assoc before (Line line ∷ []) es) ∙ is) each.1
  all_stay before (Failed fault event ∷ es) is each = all_stay (before ++ Failed fault event ∷ []) es (ap tooks (append_assoc before (Failed fault event ∷ []) es) ∙ is) each.1

module _ {D T H A : Type 0} (disk : DiskView D) (stance : T → Stance)
    (setting : Setting) (entry : Option (List ℕ)) (origin : D) (before : List Event) (known : IsSome entry) where
  -- a store behind a life has all events of its end, and perhaps the one that the disk failed
  ends_store : (Refused : Event → Type 0) (now : List Event) (members : List (Member H A)) (kept : Kept D T) (ended : Result Rest TakeFault)
      → EndsBehind disk stance setting entry origin before Refused now members kept ended
      → (image : List ℕ) → disk.may_leave kept.journal.disk image → (rest : List Event) × Stores setting (now ++ rest) image
  ends_store Refused now members kept (Ok rest) ends image leaves =
      let saves = ends.lasts.saves known in (
        [],
        record {
          payloads = saves.payloads;
          has = stores_has disk kept.journal.disk kept.journal.len saves.payloads image saves.keeps.holds leaves;
          told = subst (λ (es : List Event). IsTold setting es saves.payloads) (sym (append-nil now)) (subst (λ (s : Setting). IsTold s now saves.payloads) ends.lasts.goes.same saves.told);
        },
      )
  ends_store Refused now members kept (Err fault) ends image leaves = by ends.fails.risked (ends.fails.images known image leaves)
    where
      by : (risked : Option Event) → Stores setting now image ⊎ IsSomeAnd risked (λ e. Stores setting (now ++ e ∷ []) image) → (rest : List Event) × Stores setting (now ++ rest) image
      by risked (inl has) = ([], subst (λ (es : List Event). Stores setting es image) (sym (append-nil now)) has)
      by None (inr has) = absurd has
      by (Some e) (inr has) = (e ∷ [], has)

  -- Of each task that was claimed in a life, each image that a crash may leave behind the life tells that it was an open one of the executor.
  pub claims_stay : (host : HostView H) (source : SourceView A) (looks : ℕ) {durable : Kept D T} (turns : List (Turn H A)) (events : List Event) (old new : List (Member H A)) (history : List Entry) (kept : Kept D T) (ended : Result Rest TakeFault)
      → (world_in setting events).started ≡ true
      → Ends disk stance host source looks turns durable setting entry origin before events old new history kept ended
      → AllClaimed (λ executor task. (image : List ℕ) → disk.may_leave kept.journal.disk image → HadOpenTask setting executor task image) history
  claims_stay host source looks turns events old new history kept ended started ends =
      all_stay setting (events ++ ends.granted) (tooks history) (begun_all setting events ends.granted started) (disk.may_leave kept.journal.disk)
      (λ image leaves. subst (λ (now : List Event). (rest : List Event) × Stores setting (now ++ rest) image) ends.is (ends_store _ ends.now new kept ended ends.ends image leaves)) [] history refl ends.claims
