use Rattle.std.proofs.Common.{Bool, inl, inr, refl, sym, ap, ◌∙◌}
use Rattle.build_commands.specs.Statuses.{result_status, status_of}
use Rattle.build_commands.proofs.StatusLemmas.{ended_status, going_status}
use Rattle.build_commands.proofs.status.build_status.Goals as goal

pub returns-then-has_ended-clause-here : goal.returns-then-has_ended-clause-here
returns-then-has_ended-clause-here g c =
    let ended = sym c.has_ended.ensures.here ∙ c.if-has_ended.true in
    c.result_status.ensures ∙ ap result_status c.result.ensures.here ∙ ap (λ (b : Bool). status_of b c.args.build.now.shared.result) (sym ended)

pub returns-then-has_ended-clause-log : goal.returns-then-has_ended-clause-log
returns-then-has_ended-clause-log g c = inl (c.result.result, c.result_status.ensures)

pub returns-then-has_ended-clause-world : goal.returns-then-has_ended-clause-world
returns-then-has_ended-clause-world g c = λ w s. c.result_status.ensures ∙ ap result_status (c.result.ensures.world w s) ∙ sym (ended_status w (sym (c.has_ended.ensures.world w s) ∙ c.if-has_ended.true))

pub returns-clause-here : goal.returns-clause-here
returns-clause-here g c =
    let going = sym c.has_ended.ensures.here ∙ c.if-has_ended.false in
    ap (λ (b : Bool). status_of b c.args.build.now.shared.result) (sym going)

pub returns-clause-log : goal.returns-clause-log
returns-clause-log g c = inr refl

pub returns-clause-world : goal.returns-clause-world
returns-clause-world g c = λ w s. sym (going_status w (sym (c.has_ended.ensures.world w s) ∙ c.if-has_ended.false))
