use Rattle.std.proofs.Common.{◌-◌, length}
use Rattle.model_syntax.specs.Stream.{places_of}
use Rattle.groovy_expr.specs.Answers.{kinds}
use Rattle.groovy_parse.proofs.ParameterRules.{ParametersLoop}
use Rattle.groovy_parse.proofs.function.read_parameters.Given as goal

abbrev pub invariant-all : goal.invariant-all
invariant-all l = ParametersLoop (places_of l.tokens) (kinds l.tokens) l.fn.at l.all l.from

abbrev pub decreases-all : goal.decreases-all
decreases-all l = length l.tokens - l.from
