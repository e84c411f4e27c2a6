use Rattle.std.proofs.Common.{◌∙◌, arith, sym}
use Rattle.cps_code.specs.Script.{script_of}
use Rattle.cps_statements.proofs.RowLaws.{no_value, with_value}
use Rattle.cps_variables.proofs.NodeLaws.{count_is}
use Rattle.cps_statements.proofs.endings.return_from.Goals as goal

pub returns-then-parts-eq0 : goal.returns-then-parts-eq0
returns-then-parts-eq0 c = λ r lt. no_value c.args.node r c.args.env _ (sym (c.parts.ensures ∙ count_is (script_of c.args.shared.now.code) c.args.node) ∙ c.if-parts-eq0.true) (omega (arith, lt))

pub inside-requires-clause-part : goal.inside-requires-clause-part
inside-requires-clause-part c = let e = c.parts.ensures ∙ count_is (script_of c.args.shared.now.code) c.args.node in omega (arith, e, c.if-parts-eq0.false)

pub returns : goal.returns
returns c = λ r lt. with_value c.args.node r c.args.env _ _ _ (λ z. c.if-parts-eq0.false (c.parts.ensures ∙ count_is (script_of c.args.shared.now.code) c.args.node ∙ z)) (c.inside.ensures r lt)
