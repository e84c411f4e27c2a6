use Rattle.model_syntax.specs.Scopes.{declares_function}
use Rattle.scope_check.proofs.WalkLaws.{walked-behind}
use Rattle.scope_check.proofs.scopes.Scopes.function.Goals as goal

pub returns : goal.returns
returns c =
    rw (← c.as_slice.ensures, ← c.as_slice-2.ensures)
    (walked-behind _ (declares_function _) _ _ _ c.in_ok-declare_function.ensures c.callable.ensures)
