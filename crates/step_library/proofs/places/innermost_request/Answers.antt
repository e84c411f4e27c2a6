use Rattle.std.proofs.Common.{◌∙◌, ap, sym}
use Rattle.model_run.specs.Steps.{last_number}
use Rattle.step_library.proofs.ContextLaws.{last_at}
use Rattle.step_library.proofs.places.innermost_request.Goals as goal

pub returns-in-len1-up : goal.returns-in-len1-up
returns-in-len1-up c = sym (ap last_number (sym c.as_slice.ensures) ∙ last_at c.as_slice.result.now 0 c.in-len1-up.len_at_least)
