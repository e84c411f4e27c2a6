use Rattle.std.proofs.Common.{◌≡◌}
use Rattle.std.proofs.lemmas.Result.{err_from_is_err_and}
use Rattle.groovy_expr.specs.declared.refusal.Refusal.TheVariants.{Fault}
use Rattle.groovy_parse.proofs.Whole.{tree_read, place_told}
use Rattle.groovy_parse.proofs.script.parse_tokens.Goals as goal

pub returns-in_err-tops-clause-fault : goal.returns-in_err-tops-clause-fault
returns-in_err-tops-clause-fault c i e =
    let p = err_from_is_err_and c.from_residual.result c.from_residual.ensures.1 in
    let h : c.in_err-tops.field-0.0 ≡ Fault i = cc in
    place_told c.args.tokens.now c.in_err-tops.field-0.0 c.in_err-tops.ensures i h

pub returns-clause-found : goal.returns-clause-found
returns-clause-found c = tree_read c.args.tokens.now c.in_ok-tops.ensures
