use Rattle.model_syntax.specs.Stream.{places_of}
use Rattle.groovy_expr.specs.Answers.{kinds}
use Rattle.groovy_expr.proofs.HeadRules.{heads_typed_arrow, heads_typed_as}
use Rattle.groovy_expr.proofs.closure.read_typed_head.Goals as goal

pub returns-then-not-sees : goal.returns-then-not-sees
returns-then-not-sees c = absurd (c.if-not-sees.ensures (heads_typed_arrow (places_of c.args.tokens.now) (kinds c.args.tokens.now) c.requires.headed c.requires.other c.requires.typed))

pub returns : goal.returns
returns c =
    let h = rw c.in-Some.is at c.in_ok-name.ensures in
    rw (c.in_ok-push.ensures.ok, c.new-names.ensures) (heads_typed_as (places_of c.args.tokens.now) (kinds c.args.tokens.now) c.requires.headed c.requires.other h.2 h.1)
