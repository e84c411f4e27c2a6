use Rattle.std.proofs.Common.{rules}
use Rattle.text_methods.proofs.CallLemmas.{named_from}
use Rattle.text_methods.proofs.calls.call.Goals as goal

pub returns-in_ok-perform-in-Some-2-clause-answer : goal.returns-in_ok-perform-in-Some-2-clause-answer
returns-in_ok-perform-in-Some-2-clause-answer c = search rules

pub returns-in_ok-perform-in-Some-2-clause-named : goal.returns-in_ok-perform-in-Some-2-clause-named
returns-in_ok-perform-in-Some-2-clause-named c = named_from c.args.heap.now.cells c.args.on.now c.args.name.now c.args.args.now _ _ c.args.count.now _ _ (returns-in_ok-perform-in-Some-2-clause-answer c)

pub returns-in-None-clause-answer : goal.returns-in-None-clause-answer
returns-in-None-clause-answer c = search rules

pub returns-in-None-clause-named : goal.returns-in-None-clause-named
returns-in-None-clause-named c = named_from c.args.heap.now.cells c.args.on.now c.args.name.now c.args.args.now _ _ c.args.count.now _ _ (returns-in-None-clause-answer c)
