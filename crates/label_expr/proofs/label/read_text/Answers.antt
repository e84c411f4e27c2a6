use Rattle.std.proofs.Common.{sym, ◌∙◌}
use Rattle.label_expr.proofs.LabelLaws.{fault-kept, blank_fits, ok_faultless, err_fault}
use Rattle.label_expr.proofs.label.read_text.Goals as goal

pub returns-then-is_blank-clause-fits : goal.returns-then-is_blank-clause-fits
returns-then-is_blank-clause-fits c = blank_fits c.args.text.now (sym c.is_blank.ensures ∙ c.if-is_blank.true)

pub returns-then-is_blank-clause-faultless : goal.returns-then-is_blank-clause-faultless
returns-then-is_blank-clause-faultless c = fault-kept c.args.text.now _ (sym c.is_blank.ensures ∙ c.if-is_blank.true)

pub returns-clause-faultless : goal.returns-clause-faultless
returns-clause-faultless c = ok_faultless c.args.text.now (sym c.is_blank.ensures ∙ c.if-is_blank.false) _ c.parse.ensures.says

pub returns-clause-refused : goal.returns-clause-refused
returns-clause-refused c = err_fault c.args.text.now (sym c.is_blank.ensures ∙ c.if-is_blank.false) _ c.parse.ensures.refused
