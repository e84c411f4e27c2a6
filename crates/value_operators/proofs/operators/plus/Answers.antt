use Rattle.std.proofs.Common.{length, [], rules}
use Rattle.std.proofs.lemmas.Int.{wraps}
use Rattle.std.proofs.lemmas.List.Elements.{All-cons, All-nil}
use Rattle.cell_heap.specs.Soundness.{ValueBelow}
use Rattle.value_operators.proofs.operators.plus.Goals as goal

pub returns-in-Number-Number-clause-read : goal.returns-in-Number-Number-clause-read
returns-in-Number-Number-clause-read c = search (rules, wraps)

pub returns-in-List-List-clause-read : goal.returns-in-List-List-clause-read
returns-in-List-List-clause-read c =
    let there = c.lists_joined.ensures.read c.args.heap.now.cells in
    search rules

pub returns-in-List-List-clause-below : goal.returns-in-List-List-clause-below
returns-in-List-List-clause-below c =
    let left = rw c.in-List-List.is-0 at c.kind_of-left.ensures.sound in
    let right = rw c.in-List-List.is-1 at c.kind_of-right.ensures.sound in
    c.lists_joined.ensures.below (length c.args.heap.now.cells) (rw c.as_slice.ensures left.1) (rw c.as_slice-in-List-List.ensures right.1)

pub returns-in-List-default : goal.returns-in-List-default
returns-in-List-default c =
    let n = length c.args.heap.now.cells in
    let there = c.lists_joined-in-List-default.ensures.read c.args.heap.now.cells in
    let left = rw c.in-List-default.is-0 at c.kind_of-left.ensures.sound in
    record {
      read = search rules;
      below = c.lists_joined-in-List-default.ensures.below n (rw c.as_slice-in-List-default.ensures left.1) (All-cons (ValueBelow n) c.args.b.now [] c.requires.right (All-nil (ValueBelow n)));
    }

pub returns-in_ok-no_method-in_default-clause-below : goal.returns-in_ok-no_method-in_default-clause-below
returns-in_ok-no_method-in_default-clause-below c = c.in_ok-no_method-in_default.ensures.below (length c.args.heap.now.cells)
