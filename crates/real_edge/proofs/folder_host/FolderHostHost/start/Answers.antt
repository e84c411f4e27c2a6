use Rattle.std.proofs.Common.{subst, Contains}
use Rattle.real_edge.specs.FolderHost.{HostState}
use Rattle.real_edge.proofs.folder_host.FolderHostHost.start.Goals as goal

pub returns-in-Ok-clause-foreign : goal.returns-in-Ok-clause-foreign
returns-in-Ok-clause-foreign g c = λ other. absurd (other (subst (λ (s : HostState). Contains s.own c.args.order.now.task) c.self.view_is c.in-Ok.ensures.own))
