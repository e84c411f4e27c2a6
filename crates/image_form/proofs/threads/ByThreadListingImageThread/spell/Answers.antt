use Rattle.std.proofs.lemmas.Result.{on_ok_weaker}
use Rattle.field_form.specs.Rules.{rises}
use Rattle.field_form.proofs.Writing.{written_pair}
use Rattle.image_form.specs.Images.{lower_thread, thread_of, thread_parts}
use Rattle.image_form.proofs.Parts.{written_admitted, written_parts}
use Rattle.image_form.proofs.threads.ByThreadListingImageThread.spell.Goals as goal

pub returns : goal.returns
returns c = on_ok_weaker c.spell-6.result
    (λ frames. written_parts thread_of thread_parts _ _ _ _
    (written_pair _ _ _ _ _ _ _ (written_admitted (rises lower_thread c.args._before.now) _ _ _ _ c.requires.0.0 c.in_ok-spell.ensures)
    (written_pair _ _ _ _ _ _ _ c.in_ok-spell-2.ensures
    (written_pair _ _ _ _ _ _ _ c.in_ok-spell-3.ensures
    (written_pair _ _ _ _ _ _ _ c.in_ok-spell-4.ensures
    (written_pair _ _ _ _ _ _ _ c.in_ok-spell-5.ensures frames))))))
    c.spell-6.ensures
