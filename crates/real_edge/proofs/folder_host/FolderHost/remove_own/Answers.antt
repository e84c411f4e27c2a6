use Rattle.std.proofs.Common.{subst, rules, Contains}
use Rattle.real_edge.specs.FolderHost.{HostState}
use Rattle.real_edge.proofs.folder_host.FolderHost.remove_own.Goals as goal

pub returns-in_err-remove-clause-foreign : goal.returns-in_err-remove-clause-foreign
returns-in_err-remove-clause-foreign g c = λ other. absurd (other (subst (λ (s : HostState). Contains s.own c.args.order.now.task) c.self.view_is (c.contains.ensures.0 (search rules))))
