use Rattle.std.proofs.Common.{◌∙◌, sym, ap}
use Rattle.std.specs.Prelude.{slice_get}
use Rattle.model_values.specs.Fitting.{HasVariable}
use Rattle.model_run.specs.Names.{look}
use Rattle.cps_calls.proofs.MeaningLaws.{look_has}
use Rattle.cps_calls.proofs.callees.binding_closure.Goals as goal

pub variable-requires : goal.variable-requires
variable-requires c =
    look_has (λ n. HasVariable (slice_get c.args.shared.now.heap.cells n)) c.args.name.now c.args.shared.now.binding.items c.requires.bound c.in-Some.cell (sym (c.in-Some.ensures ∙ ap (look c.args.name.now) c.as_slice.ensures.value))
