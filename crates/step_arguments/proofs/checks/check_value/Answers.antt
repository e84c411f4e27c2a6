use Rattle.model_run.specs.StepTable.{fit}
use Rattle.step_arguments.specs.Binding.{seen_with}
use Rattle.step_arguments.specs.Parameters.{sort_seen}
use Rattle.step_arguments.proofs.Faults.{bad_part, bad_whole, too_long}
use Rattle.step_arguments.proofs.checks.check_value.Goals as goal

pub returns-in_ok-text-in-Err-Bad-None-clause-refused : goal.returns-in_ok-text-in-Err-Bad-None-clause-refused
returns-in_ok-text-in-Err-Bad-None-clause-refused c = λ w args body rest.
    bad_whole (seen_with c.args.heap.now.cells w) c.args.step args body c.args.name.now (fit (seen_with c.args.heap.now.cells w) (sort_seen c.args.sort) c.args.value.now) rest c.in_ok-text-in-Err-Bad-None.text (rw (c.in-Err-Bad-None.field-0-is, c.in-Err-Bad-None.field-0-0-is) at (c.in-Err-Bad-None.ensures w)) c.in_ok-text-in-Err-Bad-None.ensures

pub returns-in_ok-text-in-Err-Bad-Some-clause-refused : goal.returns-in_ok-text-in-Err-Bad-Some-clause-refused
returns-in_ok-text-in-Err-Bad-Some-clause-refused c = λ w args body rest.
    bad_part (seen_with c.args.heap.now.cells w) c.args.step args body c.args.name.now c.in-Err-Bad-Some.part (fit (seen_with c.args.heap.now.cells w) (sort_seen c.args.sort) c.args.value.now) rest c.in_ok-text-in-Err-Bad-Some.text (rw (c.in-Err-Bad-Some.field-0-is, c.in-Err-Bad-Some.field-0-0-is) at (c.in-Err-Bad-Some.ensures w)) (rw c.as_slice.ensures at c.in_ok-text-in-Err-Bad-Some.ensures)

pub returns-in-Err-Limit-clause-refused : goal.returns-in-Err-Limit-clause-refused
returns-in-Err-Limit-clause-refused c = λ w args body rest.
    too_long (seen_with c.args.heap.now.cells w) c.args.step args body c.args.name.now (fit (seen_with c.args.heap.now.cells w) (sort_seen c.args.sort) c.args.value.now) rest c.in-Err-Limit.limit (rw c.in-Err-Limit.field-0-is at (c.in-Err-Limit.ensures w))
