use Rattle.std.proofs.Common.{◌≡◌, Contains, sym, ◌∙◌, ap, subst}
use Rattle.task_host.specs.Tasks.{State, is_launched, Looks}
use Rattle.task_host.specs.MemoryHostLaws.{contains_from}
use Rattle.task_host.proofs.OutcomeLemmas.{looks_at}
use Rattle.task_host.proofs.memory.tasks.Tasks.look.Goals as goal

pub returns-clause-looks : goal.returns-clause-looks
returns-clause-looks c =
    let d = c.self.inside in
    let tasks : State = record { dirs = d.dirs.items; launches = d.launches.items; behavior = d.behavior } in
    let here : Contains d.dirs.items c.args.task = contains_from c.args.task d.dirs.items (ap (is_launched c.args.task) (sym c.deref.ensures.value) ∙ sym c.contains.ensures.value ∙ c.if-not-contains.false) in
    let was : is_launched c.args.task d.launches.items ≡ c.was_launched.result = ap (λ (s : State). is_launched c.args.task s.launches) c.self.view_is ∙ sym c.was_launched.ensures in
    let there : Contains d.launches.items c.args.task = contains_from c.args.task d.launches.items (was ∙ c.if-not-was_launched.false) in
    subst (λ (s : State). Looks c.args.task s (record tasks { behavior = c.look.new.self }) c.look.result) c.self.view_is
    (looks_at c.args.task tasks c.look.new.self c.look.result here there c.look.ensures)
