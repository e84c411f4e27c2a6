use Rattle.std.proofs.Common.{length}
use Rattle.cell_heap.specs.Soundness.{ValueBelow}
use Rattle.cps_code.specs.Script.{script_of}
use Rattle.model_run.specs.Nesting.{shape_at}
use Rattle.cps_frames.specs.Standing.{standing}
use Rattle.cps_operators.proofs.SignLaws.{Signed}
use Rattle.cps_operators.proofs.groups.prefixed_operand.Given as goal

abbrev pub invariant-loop-at : goal.invariant-loop-at
invariant-loop-at l = record {
  signed : Signed (shape_at (script_of l.fn.shared.code) l.fn.frame.node).parts (standing l.fn.shared l.fn.state) l.fn.value l.at (standing l.shared l.fn.state) l.value;
  below : ValueBelow (length l.shared.heap.cells) l.value;
}
