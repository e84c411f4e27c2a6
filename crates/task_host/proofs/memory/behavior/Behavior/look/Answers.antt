use Rattle.std.proofs.Common.{◌≡◌, Some, None, List, nat_eq, position, set, sym, ◌∙◌, ap, subst}
use Rattle.task_host.specs.declared.answers.Look.TheVariants as look
use Rattle.task_host.specs.declared.memory.behavior.Behavior.{Behavior}
use Rattle.task_host.specs.declared.memory.behavior.Behavior.TheVariants.{Listed}
use Rattle.task_host.specs.declared.outcome.TaskOutcome.{TaskOutcome}
use Rattle.task_host.specs.Tasks.{LooksAt}
use Rattle.task_host.proofs.OutcomeLemmas.{looks_at_place, looks_on}
use Rattle.task_host.proofs.memory.behavior.Behavior.look.Goals as goal

pub returns-in-Some : goal.returns-in-Some
returns-in-Some c =
    let outcomes : List TaskOutcome = c.outcomes.inside.items.items in
    let listed : Listed outcomes ≡ c.args.self.now = ap Listed c.outcomes.view_is ∙ sym c.in-Listed.is in
    let found : position (λ o. nat_eq o.task c.args.task) outcomes ≡ Some c.in-Some.place =
    ap (position (λ o. nat_eq o.task c.args.task)) (sym c.deref.ensures.value) ∙ sym c.in-Some.ensures in
    subst (λ (b : Behavior). LooksAt c.args.task b (Listed (set outcomes c.in-Some.place c.look_once.new.outcome)) c.look_once.result) listed
    (looks_at_place c.args.task outcomes c.in-Some.place c.index_mut.result.now c.look_once.new.outcome found c.index_mut.ensures.value c.look_once.result c.look_once.ensures)

pub returns-in-None : goal.returns-in-None
returns-in-None c =
    let outcomes : List TaskOutcome = c.outcomes.inside.items.items in
    let none : position (λ o. nat_eq o.task c.args.task) outcomes ≡ None =
    ap (position (λ o. nat_eq o.task c.args.task)) (sym c.deref.ensures.value) ∙ sym c.in-None.ensures in
    let listed : Listed outcomes ≡ Listed c.in-Listed.outcomes = ap Listed c.outcomes.view_is in
    subst (λ (b : Behavior). LooksAt c.args.task b (Listed c.in-Listed.outcomes) look.Running) (sym c.in-Listed.is)
    (subst (λ (b : Behavior). LooksAt c.args.task b b look.Running) listed (looks_on c.args.task outcomes none))
