-- The outputs of the events of a store: each stream of a task stands on its host put together, where each output does.
use Rattle.std.proofs.Common.{◌≡◌, ◌+◌, ℕ, true, false, List, [], ◌∷◌, ◌++◌, length, sym, subst}
use Rattle.std.proofs.lemmas.List.Sums.{fold-append}
use Rattle.agent_worker.specs.Acts.{named}
use Rattle.build_life.specs.Lower.build_images.Images.{world_image}
use Rattle.build_life.proofs.Lower.durable_build.Begun.{starts_first}
use Rattle.build_life.proofs.Lower.durable_build.OpenLemmas.{begun_all, is_start}
use Rattle.launch_laws.specs.Fitting.{WasTask}
use Rattle.launch_laws.specs.ManyTurns.{AllTaken}
use Rattle.launch_laws.specs.Outputs.{Delivered}
use Rattle.model_syntax.specs.Nodes.{Node}
use Rattle.model_run.specs.declared.event.Event.{Event}
use Rattle.model_run.specs.declared.event.Event.TheVariants.{Start, Granted, Output, Exited, Lost, Decided}
use Rattle.model_run.specs.declared.event.Stream.{Stream as EventStream}
use Rattle.model_run.specs.Below.{Small}
use Rattle.model_run.specs.State.{Setting}
use Rattle.model_run.specs.Terms.{term}
use Rattle.model_run.specs.World.{Build, after_one, unbegun, world_in}
use Rattle.task_laws.specs.Streams.{output_of}
use Rattle.task_laws.proofs.Orders.{delivered_together}
use Rattle.build_life.specs.Lower.record_form.declared.record.EventRecord.{EventRecord}
use Rattle.build_life.specs.Lower.build_store.Saved.{Stores}
use Rattle.build_life.proofs.FactLemmas.{none_first}
use Rattle.build_life.specs.Lower.store_laws.Store.{FirstStarts, Follows, Starts, events_of}
use Rattle.task_host.specs.declared.order.Stream.{Stream}
use Rattle.task_laws.specs.Members.{StandsTogether}

-- the events of the records of one build were taken
follows_taken : (setting : Setting) (before : List Event) (rs : List EventRecord) → (world_in setting before).started ≡ true → Follows world_image setting (world_in setting before) rs → AllTaken setting before (events_of rs)
follows_taken setting before [] started follows = tt
follows_taken setting before (r ∷ rs) started follows = (
  record { begun = started; accepted = follows.0 },
  follows_taken setting (before ++ r.event ∷ []) rs (begun_all setting before (r.event ∷ []) started)
      (subst (λ (b : Build). Follows world_image setting b rs) (sym (fold-append (after_one setting) unbegun before (r.event ∷ []))) follows.2),
)

heads_same : {A : Type 0} (x y : A) (xs ys : List A) → x ∷ xs ≡ y ∷ ys → x ≡ y
heads_same x y xs ys is = cc

tails_same : {A : Type 0} (x y : A) (xs ys : List A) → x ∷ xs ≡ y ∷ ys → xs ≡ ys
tails_same x y xs ys is = cc

-- the `Start` outputs nothing
module _ (setting : Setting) (task : ℕ) (stream : EventStream) (output : List ℕ) (es : List Event) (stands : StandsTogether task stream es output) where
  order_so : (script agents : List ℕ) (front rest : List Event) (place : ℕ) (bytes : List ℕ) → Start script agents ∷ es ≡ front ++ Output task stream place bytes ∷ rest → place ≡ stands.first + length (output_of task stream front)
  order_so script agents [] rest place bytes is = let bad : Start script agents ≡ Output task stream place bytes = heads_same (Start script agents) (Output task stream place bytes) es rest is in absurd (cc)
  order_so script agents (y ∷ front) rest place bytes is =
      subst (λ (z : Event). place ≡ stands.first + length (output_of task stream (z ∷ front))) (heads_same (Start script agents) y es (front ++ Output task stream place bytes ∷ rest) is)
      (stands.in_order front rest place bytes (tails_same (Start script agents) y es (front ++ Output task stream place bytes ∷ rest) is))

  behind_start : (e : Event) → Starts setting e → StandsTogether task stream (e ∷ es) output
  behind_start (Start script agents) starts = record { first = stands.first; in_order = order_so script agents; stands = stands.stands }
  behind_start (Granted request executor) starts = absurd starts
  behind_start (Output t name place bytes) starts = absurd starts
  behind_start (Exited t code) starts = absurd starts
  behind_start (Lost t why) starts = absurd starts
  behind_start (Decided request proceed name) starts = absurd starts

module _ (setting : Setting) (p : Node) (e : setting.script ≡ term 0 p) (small : Small setting) (executor : ℕ) (output : ℕ → Stream → List ℕ) (task : ℕ) (stream : Stream) where
  records_together : (rs : List EventRecord) → FirstStarts setting rs → Follows world_image setting unbegun rs → Delivered setting (events_of rs) executor output → WasTask setting (events_of rs) executor task
      → StandsTogether task (named stream) (events_of rs) (output task stream)
  records_together [] starts follows delivered was =
      let bad : false ≡ true = subst (λ (es : List Event). (world_in setting es).started ≡ true) (none_first was.front was.rest (sym was.is)) was.begun in absurd (cc)
  records_together (r ∷ rs) starts follows delivered was =
      let all : AllTaken setting (r.event ∷ []) (events_of rs) = follows_taken setting (r.event ∷ []) rs (starts_first setting r.event (is_start setting r.event starts)) follows.2 in
      let its = delivered_together setting p e small (r.event ∷ []) (events_of rs) all executor output delivered task was stream in
      behind_start setting task (named stream) (output task stream) (events_of rs) (record { first = its.0; in_order = its.1; stands = its.2 }) r.event starts

  -- Of a store: where each output of the tasks of an executor stands on its host, all of a stream of a task do, put together.
  pub stored_together : (events : List Event) (file : List ℕ) → Stores setting events file → Delivered setting events executor output → WasTask setting events executor task → StandsTogether task (named stream) events (output task stream)
  stored_together events file stores delivered was =
      let told = stores.told in
      subst (λ (es : List Event). StandsTogether task (named stream) es (output task stream)) told.are
      (records_together told.records told.story.starts told.story.follows (subst (λ (es : List Event). Delivered setting es executor output) (sym told.are) delivered) (subst (λ (es : List Event). WasTask setting es executor task) (sym told.are) was))
