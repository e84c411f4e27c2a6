use Rattle.std.proofs.Common.{◌∙◌, sym, ap}
use Rattle.model_syntax.specs.declared.place.Declared.{Declared}
use Rattle.model_syntax.specs.Stream.{places_of}
use Rattle.groovy_expr.specs.Answers.{kinds}
use Rattle.groovy_expr.proofs.StatementTries.{caught_none, caught_no_name, caught_plain, caught_stuck, caught_unclosed, caught_typed}
use Rattle.groovy_expr.proofs.tries.read_caught.Goals as goal

pub returns-then-not-sees : goal.returns-then-not-sees
returns-then-not-sees c = caught_none (kinds c.args.tokens.now) (places_of c.args.tokens.now) c.if-not-sees.ensures

pub returns-in_default : goal.returns-in_default
returns-in_default c =
    let h = rw c.in_default.is at c.in_ok-first.ensures in
    caught_no_name (kinds c.args.tokens.now) (places_of c.args.tokens.now) c.if-not-sees.ensures.0 h

pub returns-then-sees : goal.returns-then-sees
returns-then-sees c =
    let h = rw c.in-Some.is at c.in_ok-first.ensures in
    rw h.2 (caught_plain (kinds c.args.tokens.now) (places_of c.args.tokens.now) c.if-not-sees.ensures.0 h.1 c.if-sees.ensures.0)

pub returns-in_default-caught_class : goal.returns-in_default-caught_class
returns-in_default-caught_class c =
    let h = rw c.in-Some.is at c.in_ok-first.ensures in
    caught_stuck (kinds c.args.tokens.now) (places_of c.args.tokens.now) c.if-not-sees.ensures.0 h.1 c.if-sees.ensures (λ x m t g. c.in_default-caught_class.ensures x (ap (λ (d : Declared). d.name) h.2 ∙ t))

pub returns-in_default-2 : goal.returns-in_default-2
returns-in_default-2 c =
    let h = rw c.in-Some.is at c.in_ok-first.ensures in
    let f = rw c.in_default-2.is at c.in_ok-name.ensures in
    caught_stuck (kinds c.args.tokens.now) (places_of c.args.tokens.now) c.if-not-sees.ensures.0 h.1 c.if-sees.ensures (λ x m t g. f m g)

pub returns-then-not-sees-2 : goal.returns-then-not-sees-2
returns-then-not-sees-2 c =
    let h = rw c.in-Some.is at c.in_ok-first.ensures in
    let g = rw c.in-Some-2.is at c.in_ok-name.ensures in
    caught_unclosed (kinds c.args.tokens.now) (places_of c.args.tokens.now) c.if-not-sees.ensures.0 h.1 c.in-Some-caught_class.caught (sym (ap (λ (d : Declared). d.name) h.2) ∙ c.in-Some-caught_class.ensures) g.1 c.if-not-sees-2.ensures

pub returns : goal.returns
returns c =
    let h = rw c.in-Some.is at c.in_ok-first.ensures in
    let g = rw c.in-Some-2.is at c.in_ok-name.ensures in
    rw g.2 (caught_typed (kinds c.args.tokens.now) (places_of c.args.tokens.now) c.if-not-sees.ensures.0 h.1 c.in-Some-caught_class.caught (sym (ap (λ (d : Declared). d.name) h.2) ∙ c.in-Some-caught_class.ensures) g.1 c.if-not-sees-2.ensures.0)
