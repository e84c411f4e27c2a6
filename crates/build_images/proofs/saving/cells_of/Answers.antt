use Rattle.std.proofs.Common.{◌∙◌, ◌++◌, [], ◌∷◌, ap}
use Rattle.build_images.proofs.Parts.{one_found}
use Rattle.build_images.proofs.saving.cells_of.Goals as goal

pub loop-id-preserved : goal.loop-id-preserved
loop-id-preserved c = one_found c.args.heap.now.cells c.loop-id.id c.get.result.now c.loop-id.cells c.push.new.self c.get.ensures.cell c.loop-id.invariant (c.in_ok-push.ensures.pushed ∙ ap (λ y. c.loop-id.cells ++ y ∷ []) c.in_ok-copied.ensures)
