use Rattle.std.proofs.Common.{true, refl}
use Rattle.build_commands.specs.Writing.{whole, cut}
use Rattle.build_commands.proofs.refusal.tell_text.Goals as goal

pub returns-in-Ok : goal.returns-in-Ok
returns-in-Ok g c = whole c.in-Ok.ensures.all (c.in-Ok.ensures.cause.calm (refl {a = true}))

pub returns-in-Err : goal.returns-in-Err
returns-in-Err g c = cut c.in-Err.ensures.part (c.in-Err.ensures.cause.failed (refl {a = true}))
