use Rattle.std.proofs.Common.{◌≡◌, ◌+◌, suc, arith, refl, subst, sym}
use Rattle.model_values.specs.Fitting.{There}
use Rattle.model_run.specs.Around.{position, value_at}
use Rattle.model_run.specs.Statements.{each_from}
use Rattle.model_run.specs.declared.frame.FrameKind.TheVariants as kind
use Rattle.cps_frames.specs.Moves.{ComesTo}
use Rattle.cps_frames.specs.Order.{rank}
use Rattle.cps_frames.specs.Standing.{common_of, standing}
use Rattle.cps_frames.proofs.EndLaws.{block_inside}
use Rattle.cps_statements.proofs.EachLaws.{each_values, kept_on, kept_position, kept_two}
use Rattle.cps_statements.proofs.WayLaws.{turn_frame}
use Rattle.cps_variables.proofs.NodeLaws.{rank_some}
use Rattle.cps_statements.proofs.each.after_each_body.Goals as goal

pub turn_of-requires : goal.turn_of-requires
turn_of-requires c = block_inside c.requires.may c.requires.kind refl

pub kept_position-at-requires : goal.kept_position-at-requires
kept_position-at-requires c =
    let fits = each_values (standing c.args.shared.now c.args.state.now) c.args.frame c.args.ending c.requires.may c.requires.kind in
    record { kept = kept_two (common_of c.args.shared.now) c.args.frame.values fits; place = kept_position (common_of c.args.shared.now) c.args.frame.values fits }

pub kept_value-on-requires : goal.kept_value-on-requires
kept_value-on-requires c =
    let many = kept_two (common_of c.args.shared.now) c.args.frame.values (each_values (standing c.args.shared.now c.args.state.now) c.args.frame c.args.ending c.requires.may c.requires.kind) in
    omega (arith, many)

pub each_from-requires : goal.each_from-requires
each_from-requires c = subst (λ v. There c.args.shared.now.heap.cells v) (sym c.kept_value-on.ensures) (kept_on (common_of c.args.shared.now) c.args.frame.values (each_values (standing c.args.shared.now c.args.state.now) c.args.frame c.args.ending c.requires.may c.requires.kind))

pub returns : goal.returns
returns c =
    let next : c.kept_position-at.result + 1 ≡ suc (position (value_at 1 c.args.frame.values)) = (let e = c.kept_position-at.ensures.position in omega (arith, e)) in
    turn_frame (rank c.args.frame) c.args.frame kind.EachBody (λ sh a. each_from a c.args.frame.env (value_at 0 c.args.frame.values) (suc (position (value_at 1 c.args.frame.values)))) c.args.ending _ _ _ _ c.requires.kind (λ sh a. refl) (sym c.in_ok-turn_of.ensures)
    (subst (λ i. ComesTo c.args.frame.node (rank c.args.frame) (λ sh a. each_from a c.args.frame.env (value_at 0 c.args.frame.values) i) (standing c.args.shared.now c.args.state.now) c.each_from.result (standing c.each_from.new.shared c.args.state.now)) next
    (subst (λ on. ComesTo c.args.frame.node (rank c.args.frame) (λ sh a. each_from a c.args.frame.env on (c.kept_position-at.result + 1)) (standing c.args.shared.now c.args.state.now) c.each_from.result (standing c.each_from.new.shared c.args.state.now)) c.kept_value-on.ensures
    (c.each_from.ensures c.args.state.now (rank c.args.frame) (rank_some c.args.frame))))
