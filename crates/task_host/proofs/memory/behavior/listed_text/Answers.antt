use Rattle.std.proofs.Common.{sym, ◌∙◌}
use Rattle.task_host.proofs.OutcomeLemmas.{written_at, nothing_written}
use Rattle.task_host.proofs.memory.behavior.listed_text.Goals as goal

pub returns-in-Some : goal.returns-in-Some
returns-in-Some c = c.text.ensures ∙ written_at c.args.task c.args.stream c.args.outcomes.now c.in-Some.place c.index-outcomes-place.result (sym c.in-Some.ensures) c.index-outcomes-place.is

pub returns-in-None : goal.returns-in-None
returns-in-None c = sym (nothing_written c.args.task c.args.stream c.args.outcomes.now (sym c.in-None.ensures))
