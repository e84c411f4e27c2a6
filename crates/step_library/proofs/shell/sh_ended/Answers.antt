use Rattle.std.proofs.Common.{◌∙◌, List, ℕ, Bool, subst, sym}
use Rattle.std.specs.Prelude.{if◌then◌else◌}
use Rattle.model_values.specs.declared.throwable.Class.TheVariants.{Abort}
use Rattle.model_run.specs.Steps.{exit_message, sh_ended, sh_output, throwing}
use Rattle.cps_frames.specs.Moves.{ComesTo}
use Rattle.cps_frames.specs.Standing.{standing}
use Rattle.step_library.proofs.shell.sh_ended.Goals as goal

pub returns-then-is_zero : goal.returns-then-is_zero
returns-then-is_zero c = λ t k r pos.
    subst (λ b. ComesTo k r (λ sh a. sh_ended b c.args.keep_out c.args.end.code c.args.end.out) (standing c.args.shared.now t) c.output.result (standing c.output.new.shared t)) (sym c.if-status.false)
    (subst (λ (b : Bool). ComesTo k r (λ sh a. if b then sh_output c.args.keep_out c.args.end.out else throwing Abort (exit_message c.args.end.code)) (standing c.args.shared.now t) c.output.result (standing c.output.new.shared t)) (sym c.if-is_zero.true ∙ c.is_zero.ensures) (c.output.ensures t k r pos))

pub returns : goal.returns
returns c = λ t k r pos.
    subst (λ b. ComesTo k r (λ sh a. sh_ended b c.args.keep_out c.args.end.code c.args.end.out) (standing c.args.shared.now t) c.throwing.result (standing c.throwing.new.shared t)) (sym c.if-status.false)
    (subst (λ (b : Bool). ComesTo k r (λ sh a. if b then sh_output c.args.keep_out c.args.end.out else throwing Abort (exit_message c.args.end.code)) (standing c.args.shared.now t) c.throwing.result (standing c.throwing.new.shared t)) (sym c.if-is_zero.false ∙ c.is_zero.ensures)
    (subst (λ (x : List ℕ). ComesTo k r (λ sh a. throwing Abort x) (standing c.args.shared.now t) c.throwing.result (standing c.throwing.new.shared t)) c.in_ok-message.ensures (c.throwing.ensures t k r pos)))
