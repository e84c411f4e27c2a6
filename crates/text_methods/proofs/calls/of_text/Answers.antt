use Rattle.std.proofs.Common.{arith}
use Rattle.text_methods.proofs.CallLemmas.{more_arguments}
use Rattle.text_methods.proofs.calls.of_text.Goals as goal

pub returns-in_default : goal.returns-in_default
returns-in_default c = more_arguments c.args.heap.now.cells c.args.text.now c.args.method c.args.args.now (omega arith)
