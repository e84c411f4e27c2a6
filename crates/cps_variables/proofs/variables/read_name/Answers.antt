use Rattle.std.proofs.Common.{◌∙◌, ◌++◌, List, ℕ, subst, sym}
use Rattle.std.specs.Prelude.{codes}
use Rattle.model_values.specs.declared.throwable.Class.TheVariants.{MissingProperty}
use Rattle.cps_frames.specs.Changes.{GivesNothing}
use Rattle.cps_frames.proofs.ThrowLaws.{no_value, throws}
use Rattle.cps_variables.proofs.SightLaws.{seen_variable}
use Rattle.cps_variables.proofs.variables.read_name.Goals as goal

pub variable-requires : goal.variable-requires
variable-requires c = seen_variable c.args.heap.now.cells c.args.binding.now c.args.env.now c.args.name.now _ c.requires (sym c.meant.ensures ∙ c.in-Some.is)

pub perform-requires : goal.perform-requires
perform-requires c = c.in_ok-effect-in-None.ensures.below _

pub unreachable-requires : goal.unreachable-requires
unreachable-requires c =
    let h = c.args.heap.now.cells in
    no_value _ c.args.heap.now c.perform.new.heap c.perform.result
    (subst GivesNothing (sym (c.in_ok-effect-in-None.ensures.answer h)) (throws h MissingProperty (codes "No such property: " ++ c.args.name.now ++ codes " for class: WorkflowScript"))) c.perform.ensures.answer c.in_default.not-Err
