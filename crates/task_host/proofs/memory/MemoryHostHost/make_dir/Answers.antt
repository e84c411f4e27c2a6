use Rattle.task_host.proofs.HostLemmas.{makes_folder, make_launches, make_stays}
use Rattle.task_host.proofs.memory.MemoryHostHost.make_dir.Goals as goal

pub returns-clause-folder : goal.returns-clause-folder
returns-clause-folder c = makes_folder c.args.order.now.task c.args.self.now.tasks c.make_dir-answer.new.self c.make_dir-answer.result c.make_dir-answer.ensures.makes

pub returns-clause-launches : goal.returns-clause-launches
returns-clause-launches c = make_launches c.args.order.now.task c.args.self.now.tasks c.make_dir-answer.new.self c.make_dir-answer.result c.make_dir-answer.ensures.makes

pub returns-clause-output : goal.returns-clause-output
returns-clause-output c = make_stays c.args.order.now.task c.args.self.now.tasks c.make_dir-answer.new.self c.make_dir-answer.result c.make_dir-answer.ensures.makes
