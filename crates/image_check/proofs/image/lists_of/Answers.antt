use Rattle.std.proofs.Common.{◌∙◌, ap, sym}
use Rattle.model_run.specs.declared.request.OpenRequest.{OpenRequest}
use Rattle.image_form.specs.declared.image.ImageThread.{ImageThread}
use Rattle.image_check.specs.Requests.{numbers_rise}
use Rattle.image_check.proofs.Numbers.{numbers_rise_so}
use Rattle.image_check.proofs.image.lists_of.Goals as goal

pub returns-clause-requests : goal.returns-clause-requests
returns-clause-requests c = λ e.
    numbers_rise_so (λ (r : OpenRequest). r.number) c.args.image.now.requests (sym (c.numbers_rise-requests_rise.ensures ∙ ap (numbers_rise (λ (r : OpenRequest). r.number)) c.as_slice.ensures) ∙ e)

pub returns-clause-threads : goal.returns-clause-threads
returns-clause-threads c = λ e.
    numbers_rise_so (λ (t : ImageThread). t.number) c.args.image.now.threads (sym (c.numbers_rise-threads_rise.ensures ∙ ap (numbers_rise (λ (t : ImageThread). t.number)) c.as_slice-2.ensures) ∙ e)
