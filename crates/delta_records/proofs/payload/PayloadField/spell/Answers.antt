use Rattle.std.proofs.lemmas.Result.{on_ok_weaker}
use Rattle.delta_records.proofs.Writing.{changed_written, whole_written}
use Rattle.delta_records.proofs.payload.PayloadField.spell.Goals as goal

pub returns-in_ok-put_u8-in-Whole : goal.returns-in_ok-put_u8-in-Whole
returns-in_ok-put_u8-in-Whole c = on_ok_weaker c.spell_both.result
    (λ behind. whole_written c.args.self.now c.in-Whole.event c.in-Whole.image c.args.out.now.items c.put_u8.new.out.items c.spell_both.new.out.items c.in-Whole.is c.in_ok-put_u8-in-Whole.ensures.ok behind)
    c.spell_both.ensures

pub returns-in_ok-put_u8-in-Changed : goal.returns-in_ok-put_u8-in-Changed
returns-in_ok-put_u8-in-Changed c = on_ok_weaker c.spell_both-in-Changed.result
    (λ behind. changed_written c.args.self.now c.in-Changed.event c.in-Changed.delta c.args.out.now.items c.put_u8-in-Changed.new.out.items c.spell_both-in-Changed.new.out.items c.in-Changed.is c.in_ok-put_u8-in-Changed.ensures.ok behind)
    c.spell_both-in-Changed.ensures
