use Rattle.std.proofs.Common.{◌∙◌, ◌++◌, ap}
use Rattle.model_text.specs.declared.pair.Pair.{Pair}
use Rattle.control_folders.specs.TaskScript.{exports}
use Rattle.control_folders.proofs.Pieces.{put-step, put-done}
use Rattle.control_folders.proofs.elsewhere.put_variables.Goals as goal

pub loop-variable-preserved : goal.loop-variable-preserved
loop-variable-preserved c =
    put-step exports c.args.variables.now _ _ c.variable-item.result c.loop-variable-test.true
    (c.in_ok-put_variable.ensures ∙ ap (λ (v : Pair). c.loop-variable.text ++ exports v) c.variable-item.is)
    c.loop-variable.invariant

pub returns : goal.returns
returns c = put-done exports c.args.variables.now _ _ c.loop-variable-test.false c.loop-variable.invariant
