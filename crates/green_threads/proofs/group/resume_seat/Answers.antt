use Rattle.std.proofs.Common.{sym, subst, ◌∙◌}
use Rattle.green_threads.specs.Resuming.{MayResume}
use Rattle.green_threads.proofs.group.resume_seat.Goals as goal

pub answer_of-answer-requires : goal.answer_of-answer-requires
answer_of-answer-requires g c = (c.requires.ready.0, c.replace.ensures.value ∙ c.requires.ready.1)

pub resume-requires : goal.resume-requires
resume-requires g c = record { ready = subst (λ b. MayResume g.R.Runner.fits c.args.seat.now.thread c.args.shared.now b) (sym (c.answer_of-answer.ensures c.requires.ready.0 (c.replace.ensures.value ∙ c.requires.ready.1))) c.requires.ready.2 }
