use Rattle.std.proofs.Common.{rules, ◌≡◌, ℕ, List, nat_eq, not, ap, subst}
use Rattle.std.proofs.lemmas.Fn.{filter_same}
use Rattle.task_host.specs.Host.{without}
use Rattle.task_host.specs.Tasks.{State}
use Rattle.task_host.proofs.memory.tasks.Tasks.remove.Goals as goal

pub returns-clause-removes : goal.returns-clause-removes
returns-clause-removes c =
    let d = c.self.inside in
    let tasks : State = record { dirs = d.dirs.items; launches = d.launches.items; behavior = d.behavior } in
    let kept : c.retain.new.self.items ≡ without c.args.task d.dirs.items =
    filter_same _ (λ t. not (nat_eq t c.args.task)) _ (λ x b f says. (search rules, search rules)) _ _ c.retain.ensures.filtered in
    subst (λ (s : State). record tasks { dirs = c.retain.new.self.items } ≡ record s { dirs = without c.args.task s.dirs }) c.self.view_is
    (ap (λ (l : List ℕ). record tasks { dirs = l }) kept)
