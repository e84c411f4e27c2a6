use Rattle.task_host.proofs.HostLemmas.{removes_folder, remove_launches, remove_stays}
use Rattle.task_host.proofs.memory.MemoryHostHost.remove.Goals as goal

pub returns-clause-folder : goal.returns-clause-folder
returns-clause-folder c = removes_folder c.args.order.now.task c.args.self.now.tasks c.remove-answer.new.self c.remove-answer.result c.remove-answer.ensures.removes

pub returns-clause-launches : goal.returns-clause-launches
returns-clause-launches c = remove_launches c.args.order.now.task c.args.self.now.tasks c.remove-answer.new.self c.remove-answer.result c.remove-answer.ensures.removes

pub returns-clause-output : goal.returns-clause-output
returns-clause-output c = remove_stays c.args.order.now.task c.args.self.now.tasks c.remove-answer.new.self c.remove-answer.result c.remove-answer.ensures.removes
