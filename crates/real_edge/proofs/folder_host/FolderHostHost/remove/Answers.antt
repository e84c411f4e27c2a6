use Rattle.std.proofs.Common.{subst, Contains}
use Rattle.real_edge.specs.FolderHost.{HostState}
use Rattle.real_edge.proofs.folder_host.FolderHostHost.remove.Goals as goal

pub returns-in-Err-clause-foreign : goal.returns-in-Err-clause-foreign
returns-in-Err-clause-foreign g c = λ other. c.in-Err.ensures.foreign (λ own. other (subst (λ (s : HostState). Contains s.own c.args.order.now.task) c.self.view_is own))
