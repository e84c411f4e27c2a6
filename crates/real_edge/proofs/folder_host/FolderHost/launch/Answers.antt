use Rattle.std.proofs.Common.{subst, rules, Contains, Result, Ok, Err, IfOk}
use Rattle.real_edge.specs.FolderHost.{HostState}
use Rattle.real_edge.proofs.folder_host.FolderHost.launch.Goals as goal

-- what holds anyway
always : {T E : Type 0} {P : Type 0} (result : Result T E) → P → IfOk result (λ _. P)
always (Ok x) holds = holds
always (Err e) holds = tt

pub returns-in-Some-clause-own : goal.returns-in-Some-clause-own
returns-in-Some-clause-own g c = always c.start.result (subst (λ (s : HostState). Contains s.own c.args.order.now.task) c.self.view_is (c.contains.ensures.0 (search rules)))

pub returns-in-None-clause-own : goal.returns-in-None-clause-own
returns-in-None-clause-own g c = always c.start-in-None.result (subst (λ (s : HostState). Contains s.own c.args.order.now.task) c.self.view_is (c.contains.ensures.0 (search rules)))
