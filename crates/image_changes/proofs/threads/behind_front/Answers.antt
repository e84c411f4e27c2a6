use Rattle.std.proofs.Common.{◌∙◌, ◌++◌, List, sym, ap}
use Rattle.image_form.specs.declared.image.ImageFrame.{ImageFrame}
use Rattle.image_changes.proofs.Gets.{rest_behind}
use Rattle.image_changes.proofs.threads.behind_front.Goals as goal

pub returns : goal.returns
returns c = c.requires.front.1 ∙ ap (λ (l : List ImageFrame). c.args.front.now ++ l) (sym (rest_behind c.args.front.now c.args.frames.now c.requires.front))
