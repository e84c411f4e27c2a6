use Rattle.model_syntax.specs.Stream.{places_of}
use Rattle.groovy_expr.specs.Answers.{kinds}
use Rattle.groovy_expr.proofs.BracketRules.{no_map, no_map_bad}
use Rattle.groovy_expr.proofs.collections.read_no_map.Goals as goal

pub returns-then-not-sees : goal.returns-then-not-sees
returns-then-not-sees c = no_map_bad (places_of c.args.tokens.now) (kinds c.args.tokens.now) c.requires.open c.requires.colon c.if-not-sees.ensures

pub returns : goal.returns
returns c = rw c.new.ensures (no_map (places_of c.args.tokens.now) (kinds c.args.tokens.now) c.requires.open c.requires.colon c.if-not-sees.ensures.0)
