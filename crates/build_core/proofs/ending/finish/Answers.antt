use Rattle.std.proofs.Common.{refl}
use Rattle.build_core.specs.Endings.{lines_of}
use Rattle.build_core.proofs.Marks.{end_from}
use Rattle.build_core.proofs.ending.finish.Goals as goal

pub returns-clause-marks : goal.returns-clause-marks
returns-clause-marks c = end_from c.args.shared.now _ _ (lines_of c.args.cause) c.args.final_result refl c.in_ok-end.ensures.added refl c.in_ok-end_log.ensures refl c.new.ensures
