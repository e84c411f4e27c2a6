use Rattle.std.proofs.Common.{Option, subst, sym}
use Rattle.model_run.specs.Steps.{joined_as}
use Rattle.model_run.specs.declared.wait.BranchEnd.{BranchEnd}
use Rattle.cps_frames.specs.Moves.{ComesTo}
use Rattle.cps_frames.specs.Standing.{standing}
use Rattle.step_library.proofs.BranchLaws.{failed_first, none_failed}
use Rattle.step_library.proofs.parallel.joined.Goals as goal

pub thrown_by-requires : goal.thrown_by-requires
thrown_by-requires c = failed_first c.args.ends.now c.in-Some.branch.now (sym c.in-Some.ensures)

pub joined_values-requires-clause-values : goal.joined_values-requires-clause-values
joined_values-requires-clause-values c = none_failed c.args.ends.now (sym c.in-None.ensures)

pub returns-in-None : goal.returns-in-None
returns-in-None c = λ t k r pos. subst (λ (o : Option BranchEnd). ComesTo k r (λ sh a. joined_as c.args.ends.now o) (standing c.args.shared.now t) c.joined_values.result (standing c.joined_values.new.shared t)) c.in-None.ensures (c.joined_values.ensures t k r pos)
