use Rattle.std.proofs.Common.{ℕ, refl}
use Rattle.std.specs.Prelude.{codes}
use Rattle.model_run.specs.Around.{Around, Shape}
use Rattle.model_run.specs.FlowNodes.{pipeline}
use Rattle.model_run.specs.State.{seeing}
use Rattle.model_run.specs.Steps.{after_retry, retry_body}
use Rattle.model_run.specs.declared.flow.NodeKind.TheVariants.{Block}
use Rattle.cps_frames.specs.Standing.{standing}
use Rattle.cps_frames.proofs.MoveLaws.{to_as}
use Rattle.step_library.proofs.StepMoves.{to_note}
use Rattle.step_library.proofs.retry.retry.Goals as goal

pub returns : goal.returns
returns c = λ r pos.
    let u = standing c.note_block.new.shared c.note_block.new.state in
    let says = λ (start : ℕ) (sh : Shape) (a : Around). retry_body (after_retry a c.args.node c.args.env start c.args.body.now c.args.more) a c.args.node c.args.env start c.args.more c.args.body.now in
    to_note c.args.node r Block (codes "retry") 0 (pipeline (codes "retry")) (λ sh a. seeing (λ w. says w.own.head sh a)) _ u _ _ c.in_ok-note_block.ensures
    (to_as c.args.node r (λ sh a. seeing (λ w. says w.own.head sh a)) (says c.note_block.new.state.head) u _ _ (λ a rs. refl) (c.begin_try.ensures r pos))
