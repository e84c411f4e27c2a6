use Rattle.std.proofs.Common.{◌∙◌, List, ℕ, subst, sym}
use Rattle.model_values.specs.declared.throwable.Class.TheVariants.{FlowInterrupted}
use Rattle.model_values.specs.declared.value.Value.TheVariants.{Null}
use Rattle.model_run.specs.Around.{ended}
use Rattle.model_run.specs.FlowNodes.{logging}
use Rattle.model_run.specs.Steps.{input_decided, throwing}
use Rattle.model_run.specs.declared.wait.Answer.TheVariants.{Decided}
use Rattle.cps_frames.specs.Moves.{ComesTo}
use Rattle.cps_frames.specs.Standing.{standing}
use Rattle.step_library.proofs.input.decided.Goals as goal

pub returns-then-proceed : goal.returns-then-proceed
returns-then-proceed c = λ t k r pos.
    let told = c.as_slice.ensures ∙ c.in_ok-line.ensures in
    subst (λ b. ComesTo k r (λ sh a. input_decided (Decided b c.args.name.now)) (standing c.args.shared.now t) c.last_line.result (standing c.last_line.new.shared t)) (sym c.if-proceed.true)
    (subst (λ (x : List ℕ). ComesTo k r (λ sh a. logging x (ended Null)) (standing c.args.shared.now t) c.last_line.result (standing c.last_line.new.shared t)) told (c.last_line.ensures t k r pos))

pub returns : goal.returns
returns c = λ t k r pos.
    subst (λ b. ComesTo k r (λ sh a. input_decided (Decided b c.args.name.now)) (standing c.args.shared.now t) c.throwing.result (standing c.throwing.new.shared t)) (sym c.if-proceed.false)
    (subst (λ (x : List ℕ). ComesTo k r (λ sh a. throwing FlowInterrupted x) (standing c.args.shared.now t) c.throwing.result (standing c.throwing.new.shared t)) c.in_ok-message.ensures (c.throwing.ensures t k r pos))
