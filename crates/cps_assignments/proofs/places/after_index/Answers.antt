use Rattle.std.proofs.Common.{◌≡◌, ◌∙◌, ◌+◌, ◌*◌, ◌^◌, ◌++◌, ◌∷◌, [], ap, arith, refl, subst, sym}
use Rattle.model_run.specs.Around.{value_at}
use Rattle.model_run.specs.Assignments.{at_target}
use Rattle.model_run.specs.declared.frame.FrameKind.TheVariants as kind
use Rattle.cps_frames.specs.Moves.{ComesTo}
use Rattle.cps_frames.specs.Order.{rank}
use Rattle.cps_frames.specs.Standing.{standing}
use Rattle.cps_frames.proofs.EndLaws.{block_inside}
use Rattle.cps_variables.proofs.NodeLaws.{rank_is, value_frame, value_there}
use Rattle.cps_assignments.proofs.TargetLaws.{index_kept, index_stands}
use Rattle.cps_assignments.proofs.places.after_index.Goals as goal

pub value_of-requires : goal.value_of-requires
value_of-requires c = block_inside c.requires.may c.requires.kind refl

pub at_target-requires : goal.at_target-requires
at_target-requires c =
    index_stands (standing c.args.shared.now c.args.state.now) c.args.frame c.args.ending c.in_ok-index.index c.push.new.self c.requires.may c.requires.kind
    (value_there (standing c.args.shared.now c.args.state.now) c.args.frame c.args.ending c.in_ok-index.index c.requires.may (sym c.in_ok-index.ensures)) c.in_ok-push.ensures.pushed

pub returns : goal.returns
returns c =
    let e : rank c.args.frame ≡ 1 * 2 ^ 34 + (c.args.frame.left + c.args.frame.left) + 1 = rank_is c.args.frame kind.TargetIndex c.requires.kind in
    value_frame (rank c.args.frame) c.args.frame kind.TargetIndex (λ y sh a. at_target a c.args.frame.node sh c.args.frame.env (value_at 0 c.args.frame.values ∷ y ∷ []) sh.form) c.args.ending c.in_ok-index.index _ _ _ c.requires.kind (λ sh a. refl) (sym c.in_ok-index.ensures)
    (subst (λ vs. ComesTo c.args.frame.node (rank c.args.frame) (λ sh a. at_target a c.args.frame.node sh c.args.frame.env vs sh.form) (standing c.args.shared.now c.args.state.now) c.at_target.result (standing c.at_target.new.shared c.at_target.new.state))
    (c.in_ok-push.ensures.pushed ∙ ap (λ vs. vs ++ c.in_ok-index.index ∷ []) (index_kept (standing c.args.shared.now c.args.state.now) c.args.frame c.args.ending c.requires.may c.requires.kind))
    (c.at_target.ensures (rank c.args.frame) (omega (arith, e))))
