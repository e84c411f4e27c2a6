use Rattle.std.proofs.Common.{subst, sym, ◌∙◌, Contains}
use Rattle.real_edge.specs.FolderHost.{HostState}
use Rattle.real_edge.proofs.folder_host.FolderHostHost.look.Goals as goal

pub returns-in-Ok-clause-foreign : goal.returns-in-Ok-clause-foreign
returns-in-Ok-clause-foreign g c = λ other. cc (c.in-Ok.ensures.foreign (λ own. other (subst (λ (s : HostState). Contains s.own c.args.order.now.task) c.self.view_is own)))

pub returns-in-Err-clause-foreign : goal.returns-in-Err-clause-foreign
returns-in-Err-clause-foreign g c = λ other. cc (c.in-Err.ensures.foreign (λ own. other (subst (λ (s : HostState). Contains s.own c.args.order.now.task) c.self.view_is own)))

pub returns-in-Ok-Running-clause-foreign : goal.returns-in-Ok-Running-clause-foreign
returns-in-Ok-Running-clause-foreign g c = λ other. sym c.in-Ok-Running.field-0-is ∙ cc (c.in-Ok-Running.ensures.foreign (λ own. other (subst (λ (s : HostState). Contains s.own c.args.order.now.task) c.self.view_is own)))
