use Rattle.std.proofs.Common.{List, ℕ, subst}
use Rattle.model_values.specs.declared.throwable.Class.TheVariants.{MissingContextVariable}
use Rattle.model_run.specs.Steps.{throwing}
use Rattle.cps_frames.specs.Moves.{ComesTo}
use Rattle.cps_frames.specs.Standing.{standing}
use Rattle.step_library.proofs.shell.no_node.Goals as goal

pub returns : goal.returns
returns c = λ t k r pos. subst (λ (x : List ℕ). ComesTo k r (λ sh a. throwing MissingContextVariable x) (standing c.args.shared.now t) c.throwing.result (standing c.throwing.new.shared t)) c.in_ok-message.ensures (c.throwing.ensures t k r pos)
