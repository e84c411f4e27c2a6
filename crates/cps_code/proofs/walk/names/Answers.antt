use Rattle.std.proofs.Common.{◌∙◌, ◌++◌, ◌∷◌, [], ap, List, ℕ}
use Rattle.cps_code.proofs.WalkLaws.{names-step, names-done}
use Rattle.cps_code.proofs.walk.names.Goals as goal

pub loop-one-preserved : goal.loop-one-preserved
loop-one-preserved c =
    names-step c.args.declared.now _ _ _ c.one-item.is c.loop-one-test.true
    (c.in_ok-push.ensures.pushed ∙ ap (λ (n : List ℕ). c.loop-one.names ++ n ∷ []) c.in_ok-clone.ensures.cases)
    c.loop-one.invariant

pub returns : goal.returns
returns c = names-done c.args.declared.now _ _ c.loop-one-test.false c.loop-one.invariant
