use Rattle.task_host.proofs.HostLemmas.{look_state, look_launches, look_dirs, looks_go_on}
use Rattle.task_host.proofs.memory.MemoryHostHost.look.Goals as goal

pub returns-clause-state : goal.returns-clause-state
returns-clause-state c = look_state c.args.order.now.task c.args.self.now.tasks c.look-answer.new.self c.look-answer.result c.look-answer.ensures.looks

pub returns-clause-launches : goal.returns-clause-launches
returns-clause-launches c = look_launches c.args.order.now.task c.args.self.now.tasks c.look-answer.new.self c.look-answer.result c.look-answer.ensures.looks

pub returns-clause-folders : goal.returns-clause-folders
returns-clause-folders c = look_dirs c.args.order.now.task c.args.self.now.tasks c.look-answer.new.self c.look-answer.result c.look-answer.ensures.looks

pub returns-clause-output : goal.returns-clause-output
returns-clause-output c = looks_go_on c.args.order.now.task c.args.self.now.tasks c.look-answer.new.self c.look-answer.result c.look-answer.ensures.looks
