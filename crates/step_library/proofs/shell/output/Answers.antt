use Rattle.std.proofs.Common.{List, ℕ, subst, sym}
use Rattle.std.specs.Str.Lossy.{utf8_lossy}
use Rattle.model_values.specs.Cells.{new_text}
use Rattle.model_run.specs.Around.{cells, ended, limits}
use Rattle.model_run.specs.State.{operating}
use Rattle.model_run.specs.Steps.{sh_output}
use Rattle.cps_frames.specs.Moves.{ComesTo}
use Rattle.cps_frames.specs.Standing.{standing}
use Rattle.step_library.proofs.shell.output.Goals as goal

pub returns-then-keep_out : goal.returns-then-keep_out
returns-then-keep_out c = λ t k r pos.
    subst (λ b. ComesTo k r (λ sh a. sh_output b c.args.out) (standing c.args.shared.now t) c.kept_output.result (standing c.kept_output.new.shared t)) (sym c.if-keep_out.true)
    (subst (λ (x : List ℕ). ComesTo k r (λ sh a. operating (λ w. new_text (limits w) (cells w) (utf8_lossy x)) ended) (standing c.args.shared.now t) c.kept_output.result (standing c.kept_output.new.shared t)) c.as_slice.ensures (c.kept_output.ensures t k r pos))
