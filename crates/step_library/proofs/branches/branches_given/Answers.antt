use Rattle.std.proofs.Common.{◌∙◌, ap, subst, sym}
use Rattle.model_run.specs.Steps.{branch_entries}
use Rattle.cps_frames.specs.Standing.{world_of}
use Rattle.step_arguments.specs.Binding.{AreBranches}
use Rattle.step_library.proofs.ContextLaws.{if_ok}
use Rattle.step_library.proofs.branches.branches_given.Goals as goal

pub branches_of-requires : goal.branches_of-requires
branches_of-requires c = subst (AreBranches c.args.shared.now.heap.cells) (sym c.in-Map.ensures.kind) c.requires.closures

pub returns : goal.returns
returns c = λ t.
    let w = world_of c.args.shared.now t in
    if_ok _ _ c.branches_of.result (λ named is. is ∙ ap (branch_entries w) c.in-Map.ensures.kind) (c.branches_of.ensures w)
