use Rattle.std.proofs.Common.{◌∙◌, ap, sym}
use Rattle.image_form.specs.declared.image.ImageThread.{ImageThread}
use Rattle.image_check.specs.Requests.{numbers_rise}
use Rattle.image_check.proofs.Numbers.{numbers_rise_so}
use Rattle.image_check.proofs.requests.requests_fault.Goals as goal

pub request_fault-requires : goal.request_fault-requires
request_fault-requires c = λ e.
    numbers_rise_so (λ (t : ImageThread). t.number) c.args.image.now.threads (sym (c.numbers_rise-threads_rise.ensures ∙ ap (numbers_rise (λ (t : ImageThread). t.number)) c.as_slice.ensures) ∙ e)
