use Rattle.std.proofs.Common.{◌∙◌, ◌++◌, List, length, sym, subst}
use Rattle.image_form.specs.declared.image.ImageFrame.{ImageFrame}
use Rattle.model_run.specs.FlowNodes.{IsFront}
use Rattle.image_changes.specs.Growing.{IsCommon}
use Rattle.image_changes.proofs.Fronts.{common_counted}
use Rattle.image_changes.proofs.threads.common.Goals as goal

pub behind_front-rest-requires : goal.behind_front-rest-requires
behind_front-rest-requires c = record { front = subst (IsFront c.args.front.now) (sym c.as_slice.ensures) c.requires.front }

pub counted-requires : goal.counted-requires
counted-requires c = record { few = c.requires.few }

pub returns : goal.returns
returns c =
    let front = c.args.front.now in
    let rest = c.behind_front-rest.result.now in
    let stood = sym c.as_slice.ensures ∙ c.behind_front-rest.ensures in
    subst (λ (xs : List ImageFrame). IsCommon xs (front ++ c.args.thread.now.frames) (length front) c.counted.result) (sym stood)
    (subst (λ (ys : List ImageFrame). IsCommon (front ++ rest) (front ++ ys) (length front) c.counted.result) c.as_slice-2.ensures
    (common_counted front rest c.as_slice-2.result.now c.common_length-more.result c.counted.result c.common_length-more.ensures.same c.common_length-more.ensures.within.0 c.common_length-more.ensures.within.1 c.common_length-more.ensures.most c.counted.ensures))
