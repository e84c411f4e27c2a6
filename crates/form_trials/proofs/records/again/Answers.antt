use Rattle.form_trials.proofs.records.again.Goals as goal

pub write_whole-requires : goal.write_whole-requires
write_whole-requires c = (tt, c.in-Ok.ensures.writable)
