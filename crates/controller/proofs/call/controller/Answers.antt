use Rattle.controller.proofs.HeadlineLemmas.{promises}
use Rattle.controller.proofs.call.controller.Goals as goal

pub returns : goal.returns
returns g c =
    let told = g.met.D.Disk g.world.𝓛 g.world.𝓜 g.world.𝓡 ((λ s x. x), (λ x. x), (λ x. x), λ x. x) in
    record { promises = rw c.deref.ensures.value at (promises _ g.R.ScriptThread.stance (record { told_end = told.told_end; told_image = told.told_image; counts_now = told.counts_now; only_now = told.only_now }) _ c.requires.hosts c.do_command.ensures.does) }
