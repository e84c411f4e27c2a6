use Rattle.task_host.proofs.HostLemmas.{starts_at_most, starts_launches, start_dirs, start_goes_on}
use Rattle.task_host.proofs.memory.MemoryHostHost.start.Goals as goal

pub returns-clause-launches : goal.returns-clause-launches
returns-clause-launches c = starts_at_most c.args.order.now.task c.args.self.now.tasks c.start-answer.new.self c.start-answer.result c.start-answer.ensures.starts

pub returns-clause-launched : goal.returns-clause-launched
returns-clause-launched c = starts_launches c.args.order.now.task c.args.self.now.tasks c.start-answer.new.self c.start-answer.result c.start-answer.ensures.starts

pub returns-clause-folders : goal.returns-clause-folders
returns-clause-folders c = start_dirs c.args.order.now.task c.args.self.now.tasks c.start-answer.new.self c.start-answer.result c.start-answer.ensures.starts

pub returns-clause-output : goal.returns-clause-output
returns-clause-output c = start_goes_on c.args.order.now.task c.args.self.now.tasks c.start-answer.new.self c.start-answer.result c.start-answer.ensures.starts
