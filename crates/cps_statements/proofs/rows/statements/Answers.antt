use Rattle.std.proofs.Common.{◌∙◌, ◌-◌, arith, ap}
use Rattle.cps_code.specs.Script.{script_of}
use Rattle.cps_statements.proofs.RowLaws.{to_statements}
use Rattle.cps_variables.proofs.NodeLaws.{count_is}
use Rattle.cps_statements.proofs.rows.statements.Goals as goal

pub overflow_sub-at : goal.overflow_sub-at
overflow_sub-at c = let e = c.parts.ensures ∙ count_is (script_of c.args.shared.now.code) c.args.node in omega (arith, e, c.requires.left)

pub inside-requires-clause-part : goal.inside-requires-clause-part
inside-requires-clause-part c = let e = c.parts.ensures ∙ count_is (script_of c.args.shared.now.code) c.args.node in omega (arith, e, c.requires.left, c.if-left-eq0.false)

pub returns : goal.returns
returns c =
    to_statements c.args.node c.args.left _ c.args.value c.args.env _ _ _ c.if-left-eq0.false (ap (λ n. n - c.args.left) (c.parts.ensures ∙ count_is (script_of c.args.shared.now.code) c.args.node)) c.inside.ensures
