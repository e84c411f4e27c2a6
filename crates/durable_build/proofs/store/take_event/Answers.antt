use Rattle.std.proofs.Common.{◌≡◌, ◌∙◌, sym}
use Rattle.model_run.specs.declared.taken.Taken.TheVariants.{Accepted}
use Rattle.model_run.specs.Taking.{taken}
use Rattle.build_images.specs.Lower.build_core.Builds.{standing_of}
use Rattle.durable_build.proofs.Begun.{accepted_begun}
use Rattle.durable_build.proofs.store.take_event.Goals as goal

pub returns-clause-begun : goal.returns-clause-begun
returns-clause-begun g c = λ is.
    let old = c.args.build.now in
    let answered : taken (standing_of old) c.args.event.now ≡ Accepted = sym c.in_ok-answer.ensures.taken ∙ is in
    accepted_begun g.R.ScriptThread.stance g.R.Runner.seated g.R.Runner.head g.R.Runner.turns g.R.Runner.room g.R.Runner.number g.R.Runner.parent g.R.Runner.branch g.R.Runner.fits
    old c.take.new.self c.args.event.now answered c.in_ok-answer.ensures.stands c.shared-shared.ensures.sound (λ running. c.in_ok-answer.ensures.steps running answered)
    (λ over. let bad = c.in_ok-answer.ensures.ended over in absurd (cc)) c.in_ok-answer.ensures.goes_on
