use Rattle.std.proofs.Common.{ap, ◌∙◌, length}
use Rattle.std.proofs.lemmas.Result.{err_from_is_err_and}
use Rattle.label_expr.specs.Conditions.{formula}
use Rattle.label_expr.specs.Readings.{seen}
use Rattle.label_expr.proofs.WholeLaws.{text_stops, text_says, text_goes_on, says_fits, none_left, some_left}
use Rattle.label_expr.specs.declared.refusal.LabelRefusal.TheVariants.{Fault}
use Rattle.label_expr.proofs.FirstBadLaws.{first_bad}
use Rattle.model_run.specs.Labels.{place_of}
use Rattle.label_expr.proofs.parser.parse.Goals as goal

pub returns-in_err-condition-clause-refused : goal.returns-in_err-condition-clause-refused
returns-in_err-condition-clause-refused c =
    let are = ap seen c.as_slice.ensures.value ∙ c.in_ok-spots.ensures in
    let p = err_from_is_err_and c.from_residual-in_err-condition.result c.from_residual-in_err-condition.ensures.1 in
    rw (p.1, p.2) (text_stops c.args.text.now c.as_slice.result.now are c.in_err-condition.field-0.0 c.in_err-condition.ensures.reads)

pub returns-then-not-is_empty-clause-refused : goal.returns-then-not-is_empty-clause-refused
returns-then-not-is_empty-clause-refused c =
    let are = ap seen c.as_slice.ensures.value ∙ c.in_ok-spots.ensures in
    rw c.fault.ensures (text_goes_on c.args.text.now c.as_slice.result.now are (formula c.in_ok-condition.condition) c.in_ok-condition.rest.now c.in_ok-condition.ensures.reads (some_left c.in_ok-condition.rest.now c.if-not-is_empty.ensures))

pub returns-clause-says : goal.returns-clause-says
returns-clause-says c =
    let are = ap seen c.as_slice.ensures.value ∙ c.in_ok-spots.ensures in
    text_says c.args.text.now c.as_slice.result.now are (formula c.in_ok-condition.condition) c.in_ok-condition.rest.now c.in_ok-condition.ensures.reads (none_left c.in_ok-condition.rest.now c.if-not-is_empty.ensures)

pub returns-clause-fits : goal.returns-clause-fits
returns-clause-fits c labels =
    let are = ap seen c.as_slice.ensures.value ∙ c.in_ok-spots.ensures in
    says_fits labels c.args.text.now (formula c.in_ok-condition.condition)
    (text_says c.args.text.now c.as_slice.result.now are (formula c.in_ok-condition.condition) c.in_ok-condition.rest.now c.in_ok-condition.ensures.reads (none_left c.in_ok-condition.rest.now c.if-not-is_empty.ensures))

pub returns-in_err-condition-clause-first : goal.returns-in_err-condition-clause-first
returns-in_err-condition-clause-first c =
    let are = ap seen c.as_slice.ensures.value ∙ c.in_ok-spots.ensures in
    let p = err_from_is_err_and c.from_residual-in_err-condition.result c.from_residual-in_err-condition.ensures.1 in
    rw (p.1, p.2) (first_bad c.args.text.now c.in_err-condition.field-0.0 (text_stops c.args.text.now c.as_slice.result.now are c.in_err-condition.field-0.0 c.in_err-condition.ensures.reads))

pub returns-then-not-is_empty-clause-first : goal.returns-then-not-is_empty-clause-first
returns-then-not-is_empty-clause-first c =
    let are = ap seen c.as_slice.ensures.value ∙ c.in_ok-spots.ensures in
    rw c.fault.ensures (first_bad c.args.text.now (Fault (place_of (length c.args.text.now) (seen c.in_ok-condition.rest.now))) (text_goes_on c.args.text.now c.as_slice.result.now are (formula c.in_ok-condition.condition) c.in_ok-condition.rest.now c.in_ok-condition.ensures.reads (some_left c.in_ok-condition.rest.now c.if-not-is_empty.ensures)))
