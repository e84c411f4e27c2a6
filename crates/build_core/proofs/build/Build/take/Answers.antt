use Rattle.std.proofs.Common.{rules, ◌≡◌, ◌∙◌, sym, ap, subst}
use Rattle.model_run.specs.declared.taken.Taken.TheVariants.{Accepted}
use Rattle.green_threads.specs.Threads.{Threads}
use Rattle.script_thread.specs.Marks.{ThreadsStay}
use Rattle.build_core.specs.Builds.{Parts}
use Rattle.build_core.specs.Phases.{SoundIn}
use Rattle.build_core.proofs.Frames.{stay_accepted, stay_refused}
use Rattle.build_core.proofs.Marks.{stays}
use Rattle.build_core.proofs.Requests.{requests_from}
use Rattle.build_core.proofs.build.Build.take.Goals as goal

pub returns-then-ne-clause-goes_on : goal.returns-then-ne-clause-goes_on
returns-then-ne-clause-goes_on g c = search rules

pub returns-then-ne-clause-frames : goal.returns-then-ne-clause-frames
returns-then-ne-clause-frames g c =
    let b = c.args.self.now in
    let number = g.R.Runner.number in
    let parent = g.R.Runner.parent in
    let branch = g.R.Runner.branch in
    let fits = g.R.Runner.fits in
    let low = g.R.ScriptThread.low in
    let touched = g.R.ScriptThread.touched in
    let stance = g.R.ScriptThread.stance in
    subst (λ (k : Threads _). ThreadsStay low touched stance b.group.seats k.seats) (sym (ap (λ (k : Parts _). k.group) c.self.view_is))
    (stay_refused low touched stance number parent branch fits b.phase b.group b.shared (subst (λ (k : Parts _). SoundIn number parent branch fits k.phase k.group k.shared) c.self.view_is c.self.invariant) (returns-then-ne-clause-goes_on g c))

pub returns-clause-goes_on : goal.returns-clause-goes_on
returns-clause-goes_on g c = search rules

pub returns-clause-steps : goal.returns-clause-steps
returns-clause-steps g c = search rules

pub returns-clause-taken : goal.returns-clause-taken
returns-clause-taken g c = search rules

pub returns-clause-frames : goal.returns-clause-frames
returns-clause-frames g c =
    let b = c.args.self.now in
    let number = g.R.Runner.number in
    let parent = g.R.Runner.parent in
    let branch = g.R.Runner.branch in
    let fits = g.R.Runner.fits in
    let accepted : c.in_ok-answer.answer ≡ Accepted = search rules in
    stay_accepted g.R.ScriptThread.low g.R.ScriptThread.touched g.R.ScriptThread.stance number parent branch g.R.Runner.seated g.R.Runner.head g.R.Runner.turns g.R.Runner.room fits g.met.R.ScriptThread.stays g.met.R.ScriptThread.touches b.phase _ c.args.event.now b.group b.shared _ _
    (subst (λ (k : Parts _). SoundIn number parent branch fits k.phase k.group k.shared) c.self.view_is c.self.invariant) (returns-clause-goes_on g c) (λ running. returns-clause-steps g c running (sym (returns-clause-taken g c) ∙ accepted))

pub returns-then-ne-clause-marks : goal.returns-then-ne-clause-marks
returns-then-ne-clause-marks g c = stays c.args.self.now.shared _ (ap (λ (k : Parts _). k.shared) c.self.view_is)

pub returns-then-ne-clause-requests : goal.returns-then-ne-clause-requests
returns-then-ne-clause-requests g c =
    let b = c.args.self.now in
    let number = g.R.Runner.number in
    let parent = g.R.Runner.parent in
    let branch = g.R.Runner.branch in
    let fits = g.R.Runner.fits in
    requests_from number parent branch fits g.met.R.ScriptThread.shared_fits b.phase b.group b.shared _
    (subst (λ (k : Parts _). SoundIn number parent branch fits k.phase k.group k.shared) c.self.view_is c.self.invariant) (returns-then-ne-clause-goes_on g c) (returns-then-ne-clause-marks g c)

pub returns-clause-marks : goal.returns-clause-marks
returns-clause-marks g c = search rules

pub returns-clause-requests : goal.returns-clause-requests
returns-clause-requests g c =
    let b = c.args.self.now in
    let number = g.R.Runner.number in
    let parent = g.R.Runner.parent in
    let branch = g.R.Runner.branch in
    let fits = g.R.Runner.fits in
    requests_from number parent branch fits g.met.R.ScriptThread.shared_fits b.phase b.group b.shared _
    (subst (λ (k : Parts _). SoundIn number parent branch fits k.phase k.group k.shared) c.self.view_is c.self.invariant) (returns-clause-goes_on g c) (returns-clause-marks g c)
