use Rattle.build_core.proofs.Granting.{running_fits}
use Rattle.build_core.proofs.build.Build.next_grant.Goals as goal

pub due_grant-requires : goal.due_grant-requires
due_grant-requires g c = record { fit = g.met.R.ScriptThread.shared_fits _ _ (running_fits g.R.Runner.number g.R.Runner.parent g.R.Runner.branch g.R.Runner.fits c.self.inside.phase c.self.inside.group c.self.inside.shared c.in-Running.is c.self.invariant) }
