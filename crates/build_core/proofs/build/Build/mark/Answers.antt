use Rattle.std.proofs.Common.{sym, subst}
use Rattle.cell_heap.specs.Region.{Region}
use Rattle.green_threads.specs.Threads.{Threads}
use Rattle.build_core.specs.Phases.{SoundIn}
use Rattle.script_thread.specs.Marks.{marked}
use Rattle.build_core.proofs.Marks.{marked_sound}
use Rattle.build_core.proofs.build.Build.mark.Goals as goal

pub invariant_of-self : goal.invariant_of-self
invariant_of-self g c =
    subst (λ (r : Region). SoundIn g.R.Runner.number g.R.Runner.parent g.R.Runner.branch g.R.Runner.fits c.self.inside.phase c.mark.new.self (record c.self.inside.shared { heap = r })) (sym c.mark-2.ensures)
    (subst (λ (k : Threads _). SoundIn g.R.Runner.number g.R.Runner.parent g.R.Runner.branch g.R.Runner.fits c.self.inside.phase k (marked c.self.inside.shared)) (sym c.mark.ensures)
    (marked_sound g.R.Runner.number g.R.Runner.parent g.R.Runner.branch g.R.Runner.fits g.R.Runner.marked g.R.Runner.marked_seat g.met.R.ScriptThread.marked_fits c.self.inside.phase c.self.inside.group c.self.inside.shared c.self.invariant))
