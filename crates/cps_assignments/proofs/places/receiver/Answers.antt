use Rattle.std.proofs.Common.{◌∙◌, [], ap, arith, subst, sym}
use Rattle.model_run.specs.Assignments.{at_target}
use Rattle.cps_frames.specs.Moves.{ComesTo}
use Rattle.cps_code.specs.Script.{script_of}
use Rattle.cps_frames.specs.Standing.{common_of, standing}
use Rattle.cps_assignments.specs.Targets.{TargetStands, is_name}
use Rattle.cps_assignments.proofs.AssignLaws.{to_named, to_receiver}
use Rattle.cps_assignments.proofs.TargetLaws.{name_size, target_part}
use Rattle.cps_assignments.proofs.places.receiver.Goals as goal

pub part_form-requires-clause-part : goal.part_form-requires-clause-part
part_form-requires-clause-part c = target_part _ _ c.requires.target

pub inside-requires-clause-part : goal.inside-requires-clause-part
inside-requires-clause-part c = target_part _ _ c.requires.target

pub at_target-requires : goal.at_target-requires
at_target-requires c =
    subst (TargetStands (script_of c.args.shared.now.code) (common_of c.args.shared.now) c.args.node c.args.env) (sym c.new-place.ensures)
    (record { target = c.requires.target; sees = c.requires.sees; there = tt; size = name_size _ [] (ap is_name (sym c.part_form.ensures) ∙ sym c.is_name.ensures ∙ c.if-is_name.true) })

pub returns-then-is_name : goal.returns-then-is_name
returns-then-is_name c = λ r lt.
    to_named c.args.node r c.args.env _ _ _ (ap is_name (sym c.part_form.ensures) ∙ sym c.is_name.ensures ∙ c.if-is_name.true)
    (subst (λ vs. ComesTo c.args.node r (λ sh a. at_target a c.args.node sh c.args.env vs sh.form) (standing c.args.shared.now c.args.state.now) c.at_target.result (standing c.at_target.new.shared c.at_target.new.state)) c.new-place.ensures (c.at_target.ensures r (omega (arith, lt))))

pub returns : goal.returns
returns c = λ r lt. to_receiver c.args.node r c.args.env _ _ _ (ap is_name (sym c.part_form.ensures) ∙ sym c.is_name.ensures ∙ c.if-is_name.false) (c.inside.ensures r lt)
