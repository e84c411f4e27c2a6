use Rattle.std.proofs.Common.{◌∙◌, ◌++◌, List, sym, ap, subst}
use Rattle.image_form.specs.declared.image.ImageFrame.{ImageFrame}
use Rattle.model_run.specs.FlowNodes.{IsFront}
use Rattle.image_changes.proofs.Fronts.{same_behind}
use Rattle.image_changes.proofs.threads.has_same_frames.Goals as goal

pub behind_front-rest-requires : goal.behind_front-rest-requires
behind_front-rest-requires c = record { front = subst (IsFront c.args.front.now) (sym c.as_slice.ensures) c.requires.front }

pub returns : goal.returns
returns c =
    let front = c.args.front.now in
    let stood = sym c.as_slice.ensures ∙ c.behind_front-rest.ensures in (
      λ t. stood ∙ ap (λ (l : List ImageFrame). front ++ l) (c.are_same.ensures.0 t ∙ c.as_slice-2.ensures),
      λ e. c.are_same.ensures.1 (same_behind front _ _ (sym stood ∙ e) ∙ sym c.as_slice-2.ensures),
    )
