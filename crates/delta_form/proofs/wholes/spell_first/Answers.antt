use Rattle.std.proofs.lemmas.Result.{on_ok_weaker}
use Rattle.field_form.proofs.Writing.{written_pair}
use Rattle.delta_form.proofs.wholes.spell_first.Goals as goal

pub returns : goal.returns
returns c = on_ok_weaker c.put_list-2.result
    (λ cells. written_pair _ _ _ _ _ _ _ c.in_ok-spell.ensures
    (written_pair _ _ _ _ _ _ _ c.in_ok-spell-2.ensures
    (written_pair _ _ _ _ _ _ _ c.in_ok-put_result.ensures
    (written_pair _ _ _ _ _ _ _ c.in_ok-spell-3.ensures
    (written_pair _ _ _ _ _ _ _ c.in_ok-put_list.ensures cells)))))
    c.put_list-2.ensures
