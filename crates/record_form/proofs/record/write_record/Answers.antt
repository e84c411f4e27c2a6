use Rattle.record_form.proofs.ShortImages.{short_record}
use Rattle.record_form.proofs.record.write_record.Goals as goal

pub spell_record-requires : goal.spell_record-requires
spell_record-requires c =
    let needs = short_record c.args.image.now c.requires.order c.args.event.now c.requires.short in
    record { event = needs.0; image = needs.1 }
