use Rattle.std.proofs.Common.{◌≡◌, ◌∙◌, ◌<◌, ◌+◌, ◌*◌, ◌^◌, ◌++◌, ◌∷◌, [], ap, arith, refl, subst, sym}
use Rattle.std.proofs.lemmas.Result.{err_from_is_err_and}
use Rattle.model_run.specs.Around.{frame, under}
use Rattle.model_run.specs.Assignments.{at_target}
use Rattle.model_run.specs.Forms.{after}
use Rattle.model_run.specs.declared.ending.Entry.TheVariants.{Inside}
use Rattle.model_run.specs.declared.frame.FrameKind.TheVariants as kind
use Rattle.cps_frames.specs.Moves.{ComesTo}
use Rattle.cps_frames.specs.Order.{rank}
use Rattle.cps_frames.specs.Standing.{standing}
use Rattle.cps_frames.proofs.EndLaws.{block_inside}
use Rattle.cps_variables.proofs.NodeLaws.{rank_is, rank_some, value_there}
use Rattle.cps_assignments.specs.Targets.{is_property}
use Rattle.cps_assignments.proofs.AssignLaws.{entry_frame, no_receiver, property_frame}
use Rattle.cps_assignments.proofs.TargetLaws.{property_stands, receiver_target, target_part}
use Rattle.cps_assignments.proofs.places.after_receiver.Goals as goal

pub value_of-requires : goal.value_of-requires
value_of-requires c = block_inside c.requires.may c.requires.kind refl

pub returns-in_err-of : goal.returns-in_err-of
returns-in_err-of c =
    let p = err_from_is_err_and c.from_residual.result c.from_residual.ensures.1 in
    rw (p.1, p.2) (no_receiver (rank c.args.frame) c.args.frame c.args.ending c.in_err-of.field-0.0 (standing c.args.shared.now c.args.state.now) c.requires.kind (sym c.in_err-of.ensures) (rank_some c.args.frame))

pub part_form-requires-clause-part : goal.part_form-requires-clause-part
part_form-requires-clause-part c = target_part _ _ (receiver_target (standing c.args.shared.now c.args.state.now) c.args.frame c.args.ending c.requires.may c.requires.kind)

pub at_target-requires : goal.at_target-requires
at_target-requires c =
    property_stands (standing c.args.shared.now c.args.state.now) c.args.frame c.args.ending c.in_ok-of.of c.push.new.self c.requires.may c.requires.kind (ap is_property (sym c.part_form.ensures) ∙ sym c.is_property.ensures ∙ c.if-is_property.true)
    (value_there (standing c.args.shared.now c.args.state.now) c.args.frame c.args.ending c.in_ok-of.of c.requires.may (sym c.in_ok-of.ensures)) (c.in_ok-push.ensures.pushed ∙ ap (λ vs. vs ++ c.in_ok-of.of ∷ []) c.new-place.ensures)

pub returns-then-is_property : goal.returns-then-is_property
returns-then-is_property c =
    let e : rank c.args.frame ≡ 2 * 2 ^ 34 + (c.args.frame.left + c.args.frame.left) + 1 = rank_is c.args.frame kind.TargetReceiver c.requires.kind in
    property_frame (rank c.args.frame) c.args.frame c.args.ending c.in_ok-of.of _ _ _ c.requires.kind (ap is_property (sym c.part_form.ensures) ∙ sym c.is_property.ensures ∙ c.if-is_property.true) (sym c.in_ok-of.ensures)
    (subst (λ vs. ComesTo c.args.frame.node (rank c.args.frame) (λ sh a. at_target a c.args.frame.node sh c.args.frame.env vs sh.form) (standing c.args.shared.now c.args.state.now) c.at_target.result (standing c.at_target.new.shared c.at_target.new.state)) (c.in_ok-push.ensures.pushed ∙ ap (λ vs. vs ++ c.in_ok-of.of ∷ []) c.new-place.ensures)
    (c.at_target.ensures (rank c.args.frame) (omega (arith, e))))

pub under-requires-clause-part : goal.under-requires-clause-part
under-requires-clause-part c = target_part _ _ (receiver_target (standing c.args.shared.now c.args.state.now) c.args.frame c.args.ending c.requires.may c.requires.kind)

pub returns : goal.returns
returns c =
    let e : rank c.args.frame ≡ 2 * 2 ^ 34 + (c.args.frame.left + c.args.frame.left) + 1 = rank_is c.args.frame kind.TargetReceiver c.requires.kind in
    let lt : 1 * 2 ^ 34 + (0 + 0) + 1 < rank c.args.frame = omega (arith, e) in
    entry_frame (rank c.args.frame) c.args.frame c.args.ending c.in_ok-of.of _ _ _ c.requires.kind (ap is_property (sym c.part_form.ensures) ∙ sym c.is_property.ensures ∙ c.if-is_property.false) (sym c.in_ok-of.ensures)
    (subst (λ n. ComesTo c.args.frame.node (rank c.args.frame) (λ sh a. under a (frame kind.TargetIndex c.args.frame.node 0 c.args.frame.env (c.in_ok-of.of ∷ [])) (after (frame kind.TargetIndex c.args.frame.node 0 c.args.frame.env (c.in_ok-of.of ∷ [])) sh a) (Inside 1) 0 n) (standing c.args.shared.now c.args.state.now) c.under.result (standing c.args.shared.now c.under.new.state)) c.in_ok-inner.ensures.cases
    (subst (λ vs. ComesTo c.args.frame.node (rank c.args.frame) (λ sh a. under a (frame kind.TargetIndex c.args.frame.node 0 c.args.frame.env vs) (after (frame kind.TargetIndex c.args.frame.node 0 c.args.frame.env vs) sh a) (Inside 1) 0 c.in_ok-inner.inner) (standing c.args.shared.now c.args.state.now) c.under.result (standing c.args.shared.now c.under.new.state)) (c.in_ok-push.ensures.pushed ∙ ap (λ vs. vs ++ c.in_ok-of.of ∷ []) c.new-place.ensures)
    (c.under.ensures (rank c.args.frame) lt)))
