use Rattle.std.proofs.lemmas.Result.{err_from_is_err_and}
use Rattle.std.specs.Prelude.{codes}
use Rattle.model_values.specs.declared.value.Value.TheVariants.{Null}
use Rattle.model_run.specs.Around.{ended}
use Rattle.model_run.specs.Callables.{calling, closure_of}
use Rattle.model_run.specs.FlowNodes.{pipeline}
use Rattle.model_run.specs.State.{seeing}
use Rattle.model_run.specs.Steps.{stage_body, starts}
use Rattle.model_run.specs.declared.flow.NodeKind.TheVariants.{Block}
use Rattle.model_run.specs.declared.frame.FrameKind.TheVariants.{StageBody}
use Rattle.cps_frames.specs.Standing.{standing}
use Rattle.step_library.proofs.StepMoves.{no_note, to_calling, to_kept, to_note}
use Rattle.step_library.proofs.blocks.stage.Goals as goal

pub returns-in_err-note_block : goal.returns-in_err-note_block
returns-in_err-note_block c = λ r pos.
    let p = err_from_is_err_and c.from_residual.result c.from_residual.ensures.1 in
    rw (p.1, p.2) (no_note c.args.node r Block (codes "stage") 0 (pipeline (codes "stage")) (λ sh a. seeing (λ w. calling (closure_of w c.args.body.now) (ended Null) (stage_body a c.args.node c.args.env c.args.name.now w))) c.in_err-note_block.field-0.0 _ _ c.in_err-note_block.ensures pos)

pub returns : goal.returns
returns c = λ r pos.
    let u = standing c.note_block.new.shared c.note_block.new.state in
    to_note c.args.node r Block (codes "stage") 0 (pipeline (codes "stage")) (λ sh a. seeing (λ w. calling (closure_of w c.args.body.now) (ended Null) (stage_body a c.args.node c.args.env c.args.name.now w))) _ u _ _ c.in_ok-note_block.ensures
    (to_calling c.args.node r c.args.body.now c.in_ok-callee.callee (λ w x sh a. stage_body a c.args.node c.args.env c.args.name.now w x) u _ _ (c.in_ok-callee.ensures u.world)
    (to_kept c.args.node r StageBody c.args.env c.in_ok-values.values (starts u.world) c.args.name.now c.in_ok-callee.callee u _ _ c.in_ok-values.ensures (c.run_body.ensures r pos)))
