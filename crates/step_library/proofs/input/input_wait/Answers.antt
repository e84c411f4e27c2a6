use Rattle.std.proofs.Common.{◌∙◌, List, ℕ, ap, refl, subst, sym}
use Rattle.model_run.specs.Steps.{after_input}
use Rattle.model_run.specs.declared.ending.Ending.TheVariants.{Answered}
use Rattle.model_run.specs.declared.frame.FrameKind.TheVariants as kind
use Rattle.model_run.specs.declared.wait.Answer.TheVariants.{Decided}
use Rattle.cps_frames.specs.Moves.{ComesTo}
use Rattle.cps_frames.specs.Order.{rank}
use Rattle.cps_frames.specs.Standing.{standing}
use Rattle.cps_frames.proofs.MoveLaws.{to_kind}
use Rattle.step_library.proofs.FrameFacts.{decided_in}
use Rattle.step_library.proofs.StepMoves.{low_rank}
use Rattle.step_library.proofs.input.input_wait.Goals as goal

pub decision-proceed-requires : goal.decision-proceed-requires
decision-proceed-requires c = decided_in (standing c.args.shared.now c.args.state.now) c.args.frame.now c.args.ending c.requires.may c.requires.kind

pub returns : goal.returns
returns c =
    let f = c.args.frame.now in
    let name = c.decision-proceed.result.1 in
    let told = c.decision-proceed.ensures ∙ ap (λ (t : List ℕ). Answered (Decided c.decision-proceed.result.0 t)) (sym c.as_slice.ensures) in
    to_kind (rank f) f kind.InputWait c.args.ending _ _ _ c.requires.kind
    (subst (λ e. ComesTo f.node (rank f) (λ sh a. after_input e) (standing c.args.shared.now c.args.state.now) c.decided.result (standing c.decided.new.shared c.args.state.now)) (sym told)
    (c.decided.ensures c.args.state.now f.node (rank f) (low_rank f kind.InputWait c.requires.kind refl)))
