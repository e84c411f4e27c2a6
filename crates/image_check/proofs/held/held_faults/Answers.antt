use Rattle.std.proofs.Common.{◌∙◌, ap, sym}
use Rattle.model_run.specs.declared.request.OpenRequest.{OpenRequest}
use Rattle.image_check.specs.Requests.{numbers_rise}
use Rattle.image_check.proofs.Numbers.{numbers_rise_so}
use Rattle.image_check.proofs.held.held_faults.Goals as goal

pub first_in-found-requires : goal.first_in-found-requires
first_in-found-requires c = λ e.
    numbers_rise_so (λ (r : OpenRequest). r.number) c.args.image.now.requests (sym (c.numbers_rise.ensures ∙ ap (numbers_rise (λ (r : OpenRequest). r.number)) c.as_slice.ensures) ∙ e)
