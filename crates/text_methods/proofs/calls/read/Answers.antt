use Rattle.std.proofs.Common.{rules}
use Rattle.text_methods.proofs.calls.read.Goals as goal

pub returns-in-Thrown : goal.returns-in-Thrown
returns-in-Thrown c =
    let there = c.of_throwable.ensures c.args.heap.now.cells in
    search rules
