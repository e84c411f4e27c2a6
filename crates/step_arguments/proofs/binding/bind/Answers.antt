use Rattle.model_values.specs.declared.value.Value.TheVariants.{Null}
use Rattle.step_arguments.specs.Binding.{seen_with}
use Rattle.step_arguments.proofs.Faults.{bind_none, bind_one}
use Rattle.step_arguments.proofs.Rests.{none_left, one_left}
use Rattle.step_arguments.proofs.binding.bind.Goals as goal

pub returns-in-empty-clause-bound : goal.returns-in-empty-clause-bound
returns-in-empty-clause-bound c = λ w.
    bind_none (seen_with c.args.heap.now.cells w) c.args.step c.args.arguments.now (c.split_last-body.result.0.now, c.split_last-body.result.1) c.bind_given.result c.split_last-body.ensures.split
    (none_left c.split_last-body.result.0.now c.in-empty.len_below) (rw c.new.ensures.items at (c.bind_given.ensures.bound w))

pub returns-in_ok-given-in-len1-clause-bound : goal.returns-in_ok-given-in-len1-clause-bound
returns-in_ok-given-in-len1-clause-bound c = λ w.
    bind_one (seen_with c.args.heap.now.cells w) c.args.step c.args.arguments.now (c.split_last-body.result.0.now, c.split_last-body.result.1) _ c.bind_given-in-len1.result c.split_last-body.ensures.split
    (one_left c.split_last-body.result.0.now Null c.in-len1.len_at_least c.in-len1.len_below) (rw c.in_ok-given-in-len1.ensures.given at (c.bind_given-in-len1.ensures.bound w))
