use Rattle.std.proofs.Common.{OnErr, sym, subst}
use Rattle.model_run.specs.declared.event.Event.{Event}
use Rattle.model_run.specs.Grants.{executor_of}
use Rattle.build_requests.specs.Memory.{AsksFit, NeedsMemory}
use Rattle.build_requests.specs.Standings.{standing_of}
use Rattle.build_requests.proofs.answers.answer_running.Goals as goal

pub returns-in-Granted-clause-memory : goal.returns-in-Granted-clause-memory
returns-in-Granted-clause-memory c =
    subst (λ (e : Event). OnErr c.answer_grant.result (NeedsMemory (standing_of c.args.site.now c.args.requests.now c.args.held.now) e)) (sym c.in-Granted.is)
    (subst (λ asked. OnErr c.answer_grant.result (AsksFit c.args.held.now (executor_of c.args.site.now c.in-Granted.executor) asked)) c.request_of-asked.ensures c.answer_grant.ensures.memory)
