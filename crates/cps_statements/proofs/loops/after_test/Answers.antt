use Rattle.std.proofs.Common.{◌∙◌, sym, subst}
use Rattle.model_run.specs.State.{tick}
use Rattle.cps_frames.specs.Moves.{ComesTo}
use Rattle.cps_frames.specs.Standing.{standing}
use Rattle.cps_statements.proofs.WayLaws.{test_holds}
use Rattle.cps_statements.proofs.loops.after_test.Goals as goal

pub returns-then-truth : goal.returns-then-truth
returns-then-truth c = λ r lt.
    test_holds c.args.frame.node r c.args.frame.env c.args.ending c.in_ok-test.test _ _ _ (sym c.in_ok-test.ensures) (sym c.truth.ensures ∙ c.if-truth.true)
    (subst (λ vs. ComesTo c.args.frame.node r (λ sh a. tick (a.again 0 vs c.args.frame.env)) (standing c.args.shared.now c.args.state.now) c.turn.result (standing c.turn.new.shared c.args.state.now)) c.new-kept.ensures (c.turn.ensures c.args.state.now r lt))
