-- A build begins with a `Start`, and with one alone.
use Rattle.std.proofs.Common.{◌≡◌, Bool, true, false}
use Rattle.std.specs.Prelude.{if◌then◌else◌}
use Rattle.model_run.specs.declared.event.Event.{Event}
use Rattle.model_run.specs.declared.event.Event.TheVariants as event
use Rattle.model_run.specs.declared.taken.Taken.{Taken}
use Rattle.model_run.specs.declared.taken.Taken.TheVariants.{Accepted, NotOpen, Finished}
use Rattle.model_run.specs.Taking.{Standing, taken, answered, answered_first}
use Rattle.store_laws.proofs.Stories.{IsStart}

chosen_first : (ended started : Bool) (a f : Taken) → started ≡ false → (if ended then Finished else if started then a else f) ≡ Accepted → f ≡ Accepted
chosen_first true started a f unbegun is = absurd (cc)
chosen_first false true a f unbegun is = absurd (cc)
chosen_first false false a f unbegun is = is

chosen_later : (ended started : Bool) (a f : Taken) → started ≡ true → (if ended then Finished else if started then a else f) ≡ Accepted → a ≡ Accepted
chosen_later true started a f begun is = absurd (cc)
chosen_later false true a f begun is = is
chosen_later false false a f begun is = absurd (cc)

first_answer : (e : Event) → answered_first e ≡ Accepted → IsStart e
first_answer (event.Start script agents) is = tt
first_answer (event.Granted request executor) is = absurd (cc)
first_answer (event.Output task stream from bytes) is = absurd (cc)
first_answer (event.Exited task code) is = absurd (cc)
first_answer (event.Lost task why) is = absurd (cc)
first_answer (event.Decided request proceed name) is = absurd (cc)

-- before its `Start` a build accepts nothing else
pub only_start : (standing : Standing) (e : Event) → standing.started ≡ false → taken standing e ≡ Accepted → IsStart e
only_start standing e unbegun is = first_answer e (chosen_first standing.ended standing.started (answered standing e) (answered_first e) unbegun is)

-- and behind it no other one
pub no_second_start : (standing : Standing) (e : Event) → standing.started ≡ true → taken standing e ≡ Accepted → IsStart e → ⊥
no_second_start standing (event.Start script agents) begun is start =
    let no : NotOpen ≡ Accepted = chosen_later standing.ended standing.started NotOpen Accepted begun is in absurd (cc)
no_second_start standing (event.Granted request executor) begun is start = start
no_second_start standing (event.Output task stream from bytes) begun is start = start
no_second_start standing (event.Exited task code) begun is start = start
no_second_start standing (event.Lost task why) begun is start = start
no_second_start standing (event.Decided request proceed name) begun is start = start
