use Rattle.std.proofs.Common.{length, rules}
use Rattle.value_operators.proofs.operators.operate.Goals as goal

pub returns-in-Range-clause-read : goal.returns-in-Range-clause-read
returns-in-Range-clause-read c =
    let there = c.range.ensures.read c.args.heap.now.cells in
    search rules

pub returns-in_ok-element-in-GetAt-clause-below : goal.returns-in_ok-element-in-GetAt-clause-below
returns-in_ok-element-in-GetAt-clause-below c = c.in_ok-element-in-GetAt.ensures.below (length c.args.heap.now.cells) c.kind_of-left.ensures.sound

pub returns-in_ok-minus-in-Minus-clause-below : goal.returns-in_ok-minus-in-Minus-clause-below
returns-in_ok-minus-in-Minus-clause-below c = c.in_ok-minus-in-Minus.ensures.below (length c.args.heap.now.cells)

pub returns-in_ok-times-in-Times-clause-below : goal.returns-in_ok-times-in-Times-clause-below
returns-in_ok-times-in-Times-clause-below c = c.in_ok-times-in-Times.ensures.below (length c.args.heap.now.cells)

pub returns-in_ok-remainder-in-Mod-clause-below : goal.returns-in_ok-remainder-in-Mod-clause-below
returns-in_ok-remainder-in-Mod-clause-below c = c.in_ok-remainder-in-Mod.ensures.below (length c.args.heap.now.cells)

pub returns-in_ok-compare-in-Less-clause-below : goal.returns-in_ok-compare-in-Less-clause-below
returns-in_ok-compare-in-Less-clause-below c = c.in_ok-compare-in-Less.ensures.below (length c.args.heap.now.cells)

pub returns-in_ok-compare-in-LessEqual-clause-below : goal.returns-in_ok-compare-in-LessEqual-clause-below
returns-in_ok-compare-in-LessEqual-clause-below c = c.in_ok-compare-in-LessEqual.ensures.below (length c.args.heap.now.cells)

pub returns-in_ok-compare-in-Greater-clause-below : goal.returns-in_ok-compare-in-Greater-clause-below
returns-in_ok-compare-in-Greater-clause-below c = c.in_ok-compare-in-Greater.ensures.below (length c.args.heap.now.cells)

pub returns-in_ok-compare-in-GreaterEqual-clause-below : goal.returns-in_ok-compare-in-GreaterEqual-clause-below
returns-in_ok-compare-in-GreaterEqual-clause-below c = c.in_ok-compare-in-GreaterEqual.ensures.below (length c.args.heap.now.cells)

pub returns-in_ok-negative-in-Negative-clause-below : goal.returns-in_ok-negative-in-Negative-clause-below
returns-in_ok-negative-in-Negative-clause-below c = c.in_ok-negative-in-Negative.ensures.below (length c.args.heap.now.cells)

pub returns-in_ok-positive-in-Positive-clause-below : goal.returns-in_ok-positive-in-Positive-clause-below
returns-in_ok-positive-in-Positive-clause-below c = c.in_ok-positive-in-Positive.ensures.below (length c.args.heap.now.cells)
