use Rattle.std.proofs.Common.{◌∙◌}
use Rattle.step_arguments.proofs.Rests.{name_longer, sign_behind}
use Rattle.step_arguments.proofs.uses.override_of.Goals as goal

pub loop-at-preserved : goal.loop-at-preserved
loop-at-preserved c =
    let at = c.loop-at.at in
    let inside = c.loop-at-test.true in
    let no_sign = c.if-text-at-eq61.false in
    record { rest = name_longer c.args.text.now at inside no_sign ∙ c.loop-at.invariant.rest; signed = sign_behind c.args.text.now at inside no_sign c.loop-at.invariant.signed }
