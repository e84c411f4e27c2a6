use Rattle.std.proofs.Common.{◌∙◌, ap, map}
use Rattle.model_run.specs.declared.held.Held.{Held}
use Rattle.image_check.proofs.HeldLaws.{are_held}
use Rattle.image_check.proofs.image.sorted_requests.Goals as goal

pub returns : goal.returns
returns c = λ r e. are_held c.args.image.now c.in_ok-held.held.items c.sort_unstable.new.self.items r (c.in_ok-held.ensures ∙ ap (map (λ (x : Held). x.request)) c.as_slice.ensures) c.sort_unstable.ensures.permutation e
