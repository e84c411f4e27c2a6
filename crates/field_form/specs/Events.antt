-- How events are spelled.
use Rattle.std.specs.Prelude.{◌≡◌, ℕ, ℤ, Bool, List, [], ◌∷◌, Some, refl, ◌⊎◌, slice_get}
use Rattle.std.proofs.Common.{inl, inr, arith}
use Rattle.field_form.specs.Forms.{Form, Lawful, last, ◌or◌, kinds, of_parts, pair, u32_form, u64_form, i32_form, bool_form, bytes_form, numbered}
use Rattle.field_form.specs.FieldLaws.{u32_lawful, u64_lawful, i32_lawful, bytes_lawful}
use Rattle.field_form.specs.FormLaws.{last_lawful, or_lawful, kinds_lawful, of_parts_lawful, pair_lawful, bool_lawful}
use Rattle.field_form.specs.Numbered.{few_lawful}
use Rattle.model_run.specs.declared.event.Event.{Event}
use Rattle.model_run.specs.declared.event.Event.TheVariants as event
use Rattle.model_run.specs.declared.event.Stream.{Stream}
use Rattle.model_run.specs.declared.event.Stream.TheVariants as stream
use Rattle.model_run.specs.declared.event.Why.{Why}
use Rattle.model_run.specs.declared.event.Why.TheVariants as why

-- Stream: `00` Log or `01` Out.
abbrev pub stream_number : Stream → ℕ
stream_number stream.Log = 0
stream_number stream.Out = 1

abbrev pub streams : List Stream
streams = stream.Log ∷ stream.Out ∷ []

stream_found : (s : Stream) → slice_get streams (stream_number s) ≡ Some s
stream_found = elim [ stream.Log ↦ refl | stream.Out ↦ refl ]

abbrev pub stream_form : Form Stream
stream_form = numbered stream_number streams

pub stream_lawful : Lawful stream_form
stream_lawful = few_lawful stream_number streams stream_found refl (omega arith)

-- Why a task has no exit code: `00` NotStarted or `01` Gone.
abbrev pub why_number : Why → ℕ
why_number why.NotStarted = 0
why_number why.Gone = 1

abbrev pub reasons : List Why
reasons = why.NotStarted ∷ why.Gone ∷ []

why_found : (w : Why) → slice_get reasons (why_number w) ≡ Some w
why_found = elim [ why.NotStarted ↦ refl | why.Gone ↦ refl ]

abbrev pub why_form : Form Why
why_form = numbered why_number reasons

pub why_lawful : Lawful why_form
why_lawful = few_lawful why_number reasons why_found refl (omega arith)

-- `00` Start (script, agents), `01` Granted (request, executor), `02` Output (task, stream, from u64, bytes),
-- `03` Exited (task, code i32), `04` Lost (task, why), `05` Decided (request, `00` abort or `01` proceed, name).
abbrev pub EventParts : Type 0
EventParts = (List ℕ × List ℕ) ⊎ ((ℕ × ℕ) ⊎ ((ℕ × (Stream × (ℕ × List ℕ))) ⊎ ((ℕ × ℤ) ⊎ ((ℕ × Why) ⊎ (ℕ × (Bool × List ℕ))))))

abbrev pub event_of : EventParts → Event
event_of (inl e) = event.Start e.0 e.1
event_of (inr (inl e)) = event.Granted e.0 e.1
event_of (inr (inr (inl e))) = event.Output e.0 e.1.0 e.1.1.0 e.1.1.1
event_of (inr (inr (inr (inl e)))) = event.Exited e.0 e.1
event_of (inr (inr (inr (inr (inl e))))) = event.Lost e.0 e.1
event_of (inr (inr (inr (inr (inr e))))) = event.Decided e.0 e.1.0 e.1.1

abbrev pub event_parts : Event → EventParts
event_parts (event.Start script agents) = inl (script, agents)
event_parts (event.Granted request executor) = inr (inl (request, executor))
event_parts (event.Output task stream from bytes) = inr (inr (inl (task, (stream, (from, bytes)))))
event_parts (event.Exited task code) = inr (inr (inr (inl (task, code))))
event_parts (event.Lost task why) = inr (inr (inr (inr (inl (task, why)))))
event_parts (event.Decided request proceed name) = inr (inr (inr (inr (inr (request, (proceed, name))))))

abbrev pub event_form : Form Event
event_form = of_parts event_of event_parts (kinds (pair bytes_form bytes_form or pair u32_form u32_form
    or pair u32_form (pair stream_form (pair u64_form bytes_form)) or pair u32_form i32_form or pair u32_form why_form
    or last (pair u32_form (pair bool_form bytes_form))))

event_there : (x : EventParts) → event_parts (event_of x) ≡ x
event_there (inl e) = refl
event_there (inr (inl e)) = refl
event_there (inr (inr (inl e))) = refl
event_there (inr (inr (inr (inl e)))) = refl
event_there (inr (inr (inr (inr (inl e))))) = refl
event_there (inr (inr (inr (inr (inr e))))) = refl

event_back : (e : Event) → event_of (event_parts e) ≡ e
event_back (event.Start script agents) = refl
event_back (event.Granted request executor) = refl
event_back (event.Output task stream from bytes) = refl
event_back (event.Exited task code) = refl
event_back (event.Lost task why) = refl
event_back (event.Decided request proceed name) = refl

pub event_lawful : Lawful event_form
event_lawful = of_parts_lawful event_of event_parts _ event_there event_back (kinds_lawful _
    (or_lawful _ _ (pair_lawful _ _ bytes_lawful bytes_lawful) (or_lawful _ _ (pair_lawful _ _ u32_lawful u32_lawful)
    (or_lawful _ _ (pair_lawful _ _ u32_lawful (pair_lawful _ _ stream_lawful (pair_lawful _ _ u64_lawful bytes_lawful)))
    (or_lawful _ _ (pair_lawful _ _ u32_lawful i32_lawful) (or_lawful _ _ (pair_lawful _ _ u32_lawful why_lawful)
    (last_lawful _ (pair_lawful _ _ u32_lawful (pair_lawful _ _ bool_lawful bytes_lawful)))))))))
