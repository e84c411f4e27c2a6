use Rattle.std.proofs.Common.{◌∙◌}
use Rattle.scope_check.proofs.FirstWrong.{walked-fault}
use Rattle.scope_check.proofs.first_fault.check.Goals as goal

pub returns-in-None-clause-no_fault : goal.returns-in-None-clause-no_fault
returns-in-None-clause-no_fault c =
    walked-fault c.args.alloc c.args.tree.now c.as_slice.ensures c.new-scopes.ensures c.in_ok-tops.ensures ∙ c.in-None.is

pub returns-clause-first_fault : goal.returns-clause-first_fault
returns-clause-first_fault c =
    walked-fault c.args.alloc c.args.tree.now c.as_slice.ensures c.new-scopes.ensures c.in_ok-tops.ensures ∙ c.in-Some.is
