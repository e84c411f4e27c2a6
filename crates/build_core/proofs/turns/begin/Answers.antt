use Rattle.std.proofs.Common.{refl}
use Rattle.std.specs.Prelude.{codes}
use Rattle.build_core.proofs.Answering.{map_ok}
use Rattle.build_core.proofs.Marks.{line_from, same_requests}
use Rattle.build_core.proofs.turns.begin.Goals as goal

pub returns-clause-marks : goal.returns-clause-marks
returns-clause-marks g c = map_ok c.go_on.result c.go_on.ensures.marks (λ p k. line_from c.args.shared.now (record c.args.shared.now { log = c.end_line.new.self }) _ (codes "[Pipeline] Start of Pipeline") refl refl refl c.in_ok-end_line.ensures.written (same_requests _ _ refl refl) k)
