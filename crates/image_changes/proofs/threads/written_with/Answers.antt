use Rattle.std.proofs.Common.{◌∙◌, ap}
use Rattle.model_run.specs.declared.wait.Wait.{Wait}
use Rattle.model_run.specs.declared.context.Context.{Context}
use Rattle.image_changes.specs.Growing.{with_front}
use Rattle.image_changes.proofs.threads.written_with.Goals as goal

pub returns : goal.returns
returns c =
    let w = with_front c.args.item.now c.args.kept in
    ap (λ (x : Wait). record w { parent = c.args.parent; wait = x; context = c.in_ok-context.context; frames = c.args.frames }) c.in_ok-wait.ensures
    ∙ ap (λ (x : Context). record w { parent = c.args.parent; wait = c.args.wait.now; context = x; frames = c.args.frames }) c.in_ok-context.ensures
