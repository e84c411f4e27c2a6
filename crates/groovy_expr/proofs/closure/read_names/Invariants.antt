use Rattle.std.proofs.Common.{◌++◌, length, ◌-◌}
use Rattle.model_syntax.specs.Stream.{places_of}
use Rattle.model_syntax.specs.Grammar.{NameList}
use Rattle.groovy_expr.specs.Answers.{kinds}
use Rattle.groovy_expr.specs.Stops.{stops_names}
use Rattle.groovy_expr.proofs.Calculus.{Tail}
use Rattle.groovy_expr.proofs.closure.read_names.Given as goal

abbrev pub invariant-names : goal.invariant-names
invariant-names l = Tail (λ K. NameList K (places_of l.tokens)) (λ K. NameList K (places_of l.tokens)) stops_names (kinds l.tokens) l.fn.at (λ z. l.names ++ z) l.from

abbrev pub decreases-names : goal.decreases-names
decreases-names l = length l.tokens - l.from
