use Rattle.std.proofs.lemmas.Result.{on_ok_weaker}
use Rattle.field_form.proofs.Writing.{written_pair}
use Rattle.image_form.specs.Images.{frame_of, frame_parts}
use Rattle.image_form.proofs.Parts.{written_parts}
use Rattle.image_form.proofs.threads.ImageFrameField.spell.Goals as goal

pub returns : goal.returns
returns c = on_ok_weaker c.spell-4.result
    (λ values. written_parts frame_of frame_parts _ _ _ _
    (written_pair _ _ _ _ _ _ _ c.in_ok-put_kind.ensures
    (written_pair _ _ _ _ _ _ _ c.in_ok-spell.ensures
    (written_pair _ _ _ _ _ _ _ c.in_ok-spell-2.ensures
    (written_pair _ _ _ _ _ _ _ c.in_ok-spell-3.ensures values)))))
    c.spell-4.ensures
