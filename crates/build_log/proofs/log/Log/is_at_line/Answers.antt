use Rattle.std.proofs.Common.{◌∙◌, sym, ap, List, ℕ}
use Rattle.std.specs.List.{last_or}
use Rattle.std.specs.Prelude.{None}
use Rattle.model_run.specs.LogText.{before_line}
use Rattle.build_log.proofs.LastByte.{last_byte}
use Rattle.build_log.proofs.log.Log.is_at_line.Goals as goal

pub returns-in-Some : goal.returns-in-Some
returns-in-Some c =
    ap (λ (log : List ℕ). before_line (last_or None log)) (sym c.self.view_is ∙ sym c.deref.ensures.value)
    ∙ ap before_line (last_byte c.deref.result.now ∙ sym c.in-Some.ensures.value)
