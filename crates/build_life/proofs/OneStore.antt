-- A store tells of one build at most: of these events, and where there are any, of one setting.
use Rattle.std.proofs.Common.{◌≡◌, ◌∙◌, ℕ, List, [], ◌∷◌, refl, sym, ap, subst}
use Rattle.build_store.specs.Lower.record_form.declared.record.EventRecord.{EventRecord}
use Rattle.model_run.specs.declared.event.Event.{Event}
use Rattle.model_run.specs.declared.event.Event.TheVariants.{Start, Granted, Output, Exited, Lost, Decided}
use Rattle.model_run.specs.State.{Setting}
use Rattle.build_store.specs.Lower.store_laws.Store.{FirstStarts, HasEvents, Starts, Tells, events_of}
use Rattle.build_store.proofs.Lower.store_laws.Tellings.{one_history, one_setting, one_telling}
use Rattle.build_store.specs.Saved.{Stores}

tells : {s : Setting} {es : List Event} {file : List ℕ} → (a : Stores s es file) → Tells a.told.records file
tells a = record { payloads = a.payloads; has = a.has; spelled = a.told.spelled }

has_events : {s : Setting} {es : List Event} {file : List ℕ} → Stores s es file → HasEvents es file
has_events a = record { records = a.told.records; tells = tells a; are = a.told.are }

-- an event starts a build in one setting at most
one_start : (s t : Setting) (e : Event) → Starts s e → Starts t e → s ≡ t
one_start s t (Start script agents) a b = one_setting s t script agents a b
one_start s t (Granted request executor) a b = absurd a
one_start s t (Output task stream place bytes) a b = absurd a
one_start s t (Exited task code) a b = absurd a
one_start s t (Lost task why) a b = absurd a
one_start s t (Decided request proceed name) a b = absurd a

first_one : (s t : Setting) (records : List EventRecord) → FirstStarts s records → FirstStarts t records → ¬ (records ≡ []) → s ≡ t
first_one s t [] a b some = absurd (some refl)
first_one s t (r ∷ records) a b some = one_start s t r.event a b

pub one_store : (s t : Setting) (es ds : List Event) (file : List ℕ) → Stores s es file → Stores t ds file → (es ≡ ds) × (¬ (es ≡ []) → s ≡ t)
one_store s t es ds file a b = (
  one_history es ds file (has_events a) (has_events b),
  λ some. first_one s t a.told.records a.told.story.starts
      (subst (FirstStarts t) (sym (one_telling a.told.records b.told.records file (tells a) (tells b))) b.told.story.starts) (λ none. some (sym a.told.are ∙ ap events_of none)),
)
