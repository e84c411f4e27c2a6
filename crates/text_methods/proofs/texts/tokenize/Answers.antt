use Rattle.std.proofs.Common.{sym, ◌∙◌}
use Rattle.text_methods.proofs.MethodLemmas.{no_text}
use Rattle.text_methods.proofs.texts.tokenize.Goals as goal

pub returns-in_ok-bad_argument-in_default : goal.returns-in_ok-bad_argument-in_default
returns-in_ok-bad_argument-in_default c =
    (λ h e. c.in_ok-bad_argument-in_default.ensures.answer h ∙ sym (no_text h c.args.cuts.now _ c.in_default.not-Text), c.in_ok-bad_argument-in_default.ensures.below c.args.first)
