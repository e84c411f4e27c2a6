use Rattle.std.proofs.lemmas.Result.{on_ok_weaker}
use Rattle.field_form.specs.Rules.{rises}
use Rattle.field_form.proofs.Writing.{written_pair}
use Rattle.image_form.proofs.Parts.{written_admitted, written_parts}
use Rattle.delta_form.specs.Numbers.{has_lower}
use Rattle.delta_form.specs.Deltas.{thread_of, thread_parts}
use Rattle.delta_form.specs.declared.delta.WrittenThread.{WrittenThread}
use Rattle.delta_form.proofs.items.ByWrittenThreadListingWrittenThread.spell.Goals as goal

pub returns : goal.returns
returns c = on_ok_weaker c.spell-7.result
    (λ frames. written_parts thread_of thread_parts _ _ _ _
    (written_pair _ _ _ _ _ _ _ (written_admitted (rises (has_lower (λ (t : WrittenThread). t.number)) c.args._before.now) _ _ _ _ c.requires.0.0 c.in_ok-spell.ensures)
    (written_pair _ _ _ _ _ _ _ c.in_ok-spell-2.ensures
    (written_pair _ _ _ _ _ _ _ c.in_ok-spell-3.ensures
    (written_pair _ _ _ _ _ _ _ c.in_ok-spell-4.ensures
    (written_pair _ _ _ _ _ _ _ c.in_ok-spell-5.ensures
    (written_pair _ _ _ _ _ _ _ c.in_ok-spell-6.ensures frames)))))))
    c.spell-7.ensures
