use Rattle.std.proofs.Common.{refl, [], ◌++◌}
use Rattle.std.proofs.lemmas.Result.{err_from_is_err_and}
use Rattle.std.specs.Prelude.{Ok}
use Rattle.cps_frames.specs.declared.thread.Move.TheVariants.{Ends}
use Rattle.model_run.specs.declared.flow.NodeKind.TheVariants.{EndBlock}
use Rattle.std.specs.Prelude.{codes}
use Rattle.model_run.specs.FlowNodes.{pipeline}
use Rattle.model_run.specs.State.{Ended}
use Rattle.step_library.proofs.StepMoves.{no_note, to_note}
use Rattle.cps_frames.proofs.MoveLaws.{comes_ended}
use Rattle.step_library.proofs.blocks.close.Goals as goal

pub returns-in_err-end_block : goal.returns-in_err-end_block
returns-in_err-end_block c = λ k r pos.
    let p = err_from_is_err_and c.from_residual.result c.from_residual.ensures.1 in
    rw (p.1, p.2) (no_note k r EndBlock [] c.args.start (pipeline (codes "// " ++ c.args.name.now)) (λ sh a. Ended c.args.ending) c.in_err-end_block.field-0.0 _ _ c.in_err-end_block.ensures pos)

pub returns : goal.returns
returns c = λ k r pos. to_note k r EndBlock [] c.args.start (pipeline (codes "// " ++ c.args.name.now)) (λ sh a. Ended c.args.ending) _ _ (Ok (Ends c.args.ending)) _ c.in_ok-end_block.ensures (comes_ended k r _ _ _ pos (λ a rs. refl))
