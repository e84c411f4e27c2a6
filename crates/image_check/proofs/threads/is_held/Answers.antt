use Rattle.std.proofs.Common.{◌∙◌, ap}
use Rattle.std.specs.Prelude.{nat_eq}
use Rattle.std.specs.List.{list_any}
use Rattle.model_run.specs.declared.held.Held.{Held}
use Rattle.image_check.proofs.HeldLaws.{holder_found}
use Rattle.image_check.proofs.threads.is_held.Goals as goal

pub returns-else-is_among : goal.returns-else-is_among
returns-else-is_among c = c.has_holder.ensures ∙ ap (list_any (λ (x : Held). nat_eq x.request c.args.request)) c.as_slice.ensures ∙ holder_found c.args.request c.args.lists.now.image.now.held
