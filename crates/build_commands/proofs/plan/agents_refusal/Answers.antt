use Rattle.std.proofs.Common.{inl, inr, refl}
use Rattle.build_commands.proofs.plan.agents_refusal.Goals as goal

pub returns-in-Ok : goal.returns-in-Ok
returns-in-Ok c = inr (refl, c.in-Ok.ensures)

pub returns-in-Err : goal.returns-in-Err
returns-in-Err c = inl refl
