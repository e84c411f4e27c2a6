use Rattle.std.proofs.Common.{sym}
use Rattle.std.specs.Prelude.{slice_get}
use Rattle.model_values.specs.Fitting.{HasVariable}
use Rattle.cps_calls.proofs.MeaningLaws.{look_has}
use Rattle.cps_calls.proofs.names.called_value.Goals as goal

pub variable-requires : goal.variable-requires
variable-requires c =
    look_has (λ n. HasVariable (slice_get c.args.shared.now.heap.cells n)) c.args.name.now c.args.env.now c.requires c.in-Some.cell (sym c.in-Some.ensures)
