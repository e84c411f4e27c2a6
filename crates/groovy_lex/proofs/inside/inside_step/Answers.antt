use Rattle.std.proofs.Common.{◌≡◌, ℕ, length, subst, arith}
use Rattle.model_syntax.specs.Source.{byte_at}
use Rattle.model_syntax.specs.TextForms.{GoesOn}
use Rattle.groovy_lex.specs.OpenStack.{form_of}
use Rattle.groovy_lex.proofs.InsideLemmas.{part_reads}
use Rattle.groovy_lex.proofs.inside.inside_step.Goals as goal

pub returns-then-at-end : goal.returns-then-at-end
returns-then-at-end c = c.part_step.ensures (byte_at c.args.src.now) (length c.args.src.now) c.args.stack.now c.args.at
    (part_reads (byte_at c.args.src.now) (length c.args.src.now) c.args.stack.now (form_of c.args.form) c.args.opening c.args.at c.in_ok-plain.end c.in_ok-plain.plain c.requires.top c.in_ok-plain.ensures c.if-at-end.true)
    c.if-at-end.true c.in_ok-plain.ensures.inside

pub stop_step-requires-clause-stops : goal.stop_step-requires-clause-stops
stop_step-requires-clause-stops c =
    let e : c.in_ok-plain.end ≡ c.args.at = omega (arith, c.in_ok-plain.ensures.forward, c.if-at-end.false) in
    subst (λ (z : ℕ). GoesOn (byte_at c.args.src.now) (form_of c.args.form) z → ⊥) e c.in_ok-plain.ensures.stops
