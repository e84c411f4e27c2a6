use Rattle.std.proofs.Common.{◌∷◌, ◌++◌, []}
use Rattle.std.specs.Prelude.{codes}
use Rattle.model_values.specs.declared.value.Value.TheVariants.{Null}
use Rattle.model_run.specs.Around.{ended, whole}
use Rattle.model_run.specs.Callables.{calling, closure_of}
use Rattle.model_run.specs.FlowNodes.{pipeline}
use Rattle.model_run.specs.Results.{rank as result_rank}
use Rattle.model_run.specs.State.{seeing}
use Rattle.model_run.specs.Steps.{catch_error_body, starts}
use Rattle.model_run.specs.declared.flow.NodeKind.TheVariants.{Block}
use Rattle.model_run.specs.declared.frame.FrameKind.TheVariants.{CatchErrorBody}
use Rattle.cps_frames.specs.Standing.{standing}
use Rattle.step_library.proofs.StepMoves.{to_calling, to_kept, to_note}
use Rattle.step_library.proofs.catch_error.begin_catch.Goals as goal

pub returns : goal.returns
returns c = λ r pos.
    let u = standing c.note_block.new.shared c.note_block.new.state in
    to_note c.args.node r Block (codes "catchError") 0 (pipeline (codes "catchError")) (λ sh a. seeing (λ w. calling (closure_of w c.args.body.now) (ended Null) (catch_error_body a c.args.node c.args.env (result_rank c.args.least) c.args.message w))) _ u _ _ c.in_ok-note_block.ensures
    (to_calling c.args.node r c.args.body.now c.in_ok-callee.callee (λ w x sh a. catch_error_body a c.args.node c.args.env (result_rank c.args.least) c.args.message w x) u _ _ (c.in_ok-callee.ensures u.world)
    (to_kept c.args.node r CatchErrorBody c.args.env c.in_ok-values.values (starts u.world ++ whole (result_rank c.args.least) ∷ c.args.message ∷ []) [] c.in_ok-callee.callee u _ _ c.in_ok-values.ensures (c.run_body.ensures r pos)))
