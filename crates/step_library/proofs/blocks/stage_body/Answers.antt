use Rattle.std.proofs.Common.{ℕ, [], refl, subst, arith}
use Rattle.std.specs.Prelude.{codes}
use Rattle.model_run.specs.Around.{position, value_at}
use Rattle.model_run.specs.FlowNodes.{end_block}
use Rattle.model_run.specs.State.{Ended}
use Rattle.model_run.specs.declared.frame.FrameKind.TheVariants as kind
use Rattle.cps_frames.specs.Moves.{ComesTo}
use Rattle.cps_frames.specs.Order.{rank}
use Rattle.cps_frames.specs.Standing.{standing}
use Rattle.cps_frames.proofs.MoveLaws.{to_kind}
use Rattle.step_library.proofs.FrameFacts.{starts_in}
use Rattle.step_library.proofs.StepMoves.{low_rank, to_body_end}
use Rattle.step_library.proofs.blocks.stage_body.Goals as goal

pub number_at-requires : goal.number_at-requires
number_at-requires c = let s = (starts_in (standing c.args.shared.now c.args.state.now) c.args.frame c.args.ending kind.StageBody [] c.requires.may c.requires.kind (λ sh left env. refl)) in record { within = omega (arith, s.many); natural = s.body }

pub number_at-requires-2 : goal.number_at-requires-2
number_at-requires-2 c = let s = (starts_in (standing c.args.shared.now c.args.state.now) c.args.frame c.args.ending kind.StageBody [] c.requires.may c.requires.kind (λ sh left env. refl)) in record { within = omega (arith, s.many); natural = s.start }

pub returns : goal.returns
returns c =
    let f = c.args.frame in
    let u = standing c.end_body.new.shared c.end_body.new.state in
    let pos = low_rank f kind.StageBody c.requires.kind refl in
    to_kind (rank f) f kind.StageBody c.args.ending _ _ _ c.requires.kind
    (to_body_end f.node (rank f) (position (value_at 1 f.values)) c.number_at.result (λ sh a. end_block (codes "stage") (position (value_at 0 f.values)) (Ended c.args.ending)) _ u _ _ c.number_at.ensures.number c.in_ok-end_body.ensures
    (subst (λ (m : ℕ). ComesTo f.node (rank f) (λ sh a. end_block (codes "stage") m (Ended c.args.ending)) u c.close.result (standing c.close.new.shared c.close.new.state)) c.number_at-2.ensures.number (c.close.ensures f.node (rank f) pos)))
