use Rattle.std.proofs.Common.{◌∙◌, sym, ap}
use Rattle.model_run.specs.declared.event.Event.TheVariants.{Decided}
use Rattle.locked_build.specs.Hearing.{nothing_open}
use Rattle.locked_build.proofs.hearing.decision_in.Goals as goal

pub returns-in_default-input_of : goal.returns-in_default-input_of
returns-in_default-input_of g c = nothing_open c.in-Some.answer.proceed c.in-Some.answer.id.now c.in-Some.answer.name.now c.in-Some.ensures.reads (sym c.input_of.ensures.here ∙ c.in_default-input_of.is)

pub returns : goal.returns
returns g c = record {
  answer = record {
    proceed = c.in-Some.answer.proceed;
    id = c.in-Some.answer.id.now;
    name = c.in-Some.answer.name.now;
    answers = c.in-Some.ensures.reads;
    is = ap (λ name. Decided c.in-Some-input_of.request c.in-Some.answer.proceed name) c.in_ok-name.ensures;
  };
  open_now = sym c.input_of.ensures.here ∙ c.in-Some-input_of.is;
}
