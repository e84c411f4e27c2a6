use Rattle.cps_code.specs.Script.{script_of}
use Rattle.cps_assignments.proofs.TargetLaws.{no_other_target, target_part}
use Rattle.cps_assignments.proofs.targets.place_size.Goals as goal

pub part_form-requires-clause-part : goal.part_form-requires-clause-part
part_form-requires-clause-part c = target_part _ _ c.requires

pub unreachable-requires : goal.unreachable-requires
unreachable-requires c = no_other_target (script_of c.args.code.now) c.args.node c.part_form.result.now c.requires c.part_form.ensures c.in_default.not-ToName c.in_default.not-ToProperty c.in_default.not-ToIndex
