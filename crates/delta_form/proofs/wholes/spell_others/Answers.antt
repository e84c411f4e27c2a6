use Rattle.std.proofs.lemmas.Result.{on_ok_weaker}
use Rattle.field_form.proofs.Writing.{written_pair}
use Rattle.delta_form.proofs.wholes.spell_others.Goals as goal

pub returns : goal.returns
returns c = on_ok_weaker c.put_list-5.result
    (λ threads. written_pair _ _ _ _ _ _ _ c.in_ok-spell.ensures
    (written_pair _ _ _ _ _ _ _ c.in_ok-spell-2.ensures
    (written_pair _ _ _ _ _ _ _ c.in_ok-put_list.ensures
    (written_pair _ _ _ _ _ _ _ c.in_ok-put_list-2.ensures
    (written_pair _ _ _ _ _ _ _ c.in_ok-put_list-3.ensures
    (written_pair _ _ _ _ _ _ _ c.in_ok-put_list-4.ensures threads))))))
    c.put_list-5.ensures
