use Rattle.std.proofs.Common.{◌-◌, length}
use Rattle.model_syntax.specs.Stream.{places_of}
use Rattle.groovy_expr.specs.Answers.{kinds}
use Rattle.groovy_parse.proofs.ScriptRules.{TopsLoop}
use Rattle.groovy_parse.proofs.script.read_tops.Given as goal

abbrev pub invariant-tops : goal.invariant-tops
invariant-tops l = TopsLoop (places_of l.tokens) (kinds l.tokens) l.all l.may_begin l.from

abbrev pub decreases-tops : goal.decreases-tops
decreases-tops l = length l.tokens - l.from
