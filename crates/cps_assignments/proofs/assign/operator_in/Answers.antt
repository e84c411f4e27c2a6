use Rattle.cps_assignments.proofs.TargetLaws.{only_assigns}
use Rattle.cps_assignments.proofs.assign.operator_in.Goals as goal

pub unreachable-requires : goal.unreachable-requires
unreachable-requires c = only_assigns c.args.form.now c.requires c.in_default.not-Assign
