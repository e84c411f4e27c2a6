use Rattle.std.proofs.Common.{◌≡◌, ◌<◌, ◌≤◌, ◌-◌, length, false, refl, arith}
use Rattle.std.proofs.lemmas.Bool.Decides.{nat_tests}
use Rattle.std.proofs.lemmas.Result.{err_from_is_err_and}
use Rattle.model_syntax.specs.Stream.{places_of}
use Rattle.groovy_expr.specs.Answers.{kinds}
use Rattle.groovy_expr.proofs.Calculus.{passed}
use Rattle.groovy_expr.proofs.StatementLists.{separates_forward}
use Rattle.groovy_parse.proofs.ScriptRules.{script_start, script_bad, script_fails, top_long, script_step}
use Rattle.groovy_parse.proofs.Whole.{something_there, script_read}
use Rattle.groovy_parse.proofs.script.read_tops.Goals as goal
use Rattle.groovy_parse.proofs.script.read_tops.Goals.{then-tops-test+else-from-tokens, else-tops-test}

pub tops-init : goal.tops-init
tops-init c = rw c.new-all.ensures (script_start (kinds c.args.tokens.now) (places_of c.args.tokens.now) c.skip_separators-from.ensures c.skip_newline.ensures refl)

pub returns-in_err-top : goal.returns-in_err-top
returns-in_err-top c =
    let lt : c.tops.from < length c.args.tokens.now = grind (arith, nat_tests, c.if-from-tokens.true) in
    let there = something_there c.args.tokens.now c.tops.from lt in
    let p = err_from_is_err_and c.from_residual.result c.from_residual.ensures.1 in
    rw (p.1, p.2) (passed c.in_err-top.field-0.0 c.in_err-top.ensures (λ i f. script_fails (kinds c.args.tokens.now) (places_of c.args.tokens.now) c.tops.all c.tops.invariant there c.tops-test.true f))

pub tops-smaller : goal.tops-smaller
tops-smaller c =
    let lt : c.tops.from < length c.args.tokens.now = grind (arith, nat_tests, c.if-from-tokens.true) in
    let there = something_there c.args.tokens.now c.tops.from lt in
    let long : c.tops.from < c.in_ok-top.end = top_long (kinds c.args.tokens.now) (places_of c.args.tokens.now) c.tops.all c.tops.invariant there c.tops-test.true c.in_ok-top.ensures in
    let on : c.in_ok-top.end ≤ c.skip_separators-from-in-tops.result = separates_forward c.skip_separators-from-in-tops.ensures.run in
    let less : length c.args.tokens.now - c.skip_separators-from-in-tops.result < length c.args.tokens.now - c.tops.from = omega arith in
    less

pub tops-preserved : goal.tops-preserved
tops-preserved c =
    let lt : c.tops.from < length c.args.tokens.now = grind (arith, nat_tests, c.if-from-tokens.true) in
    let there = something_there c.args.tokens.now c.tops.from lt in
    rw c.in_ok-push.ensures.ok (script_step (kinds c.args.tokens.now) (places_of c.args.tokens.now) c.tops.all c.tops.invariant there c.tops-test.true c.in_ok-top.ensures c.skip_separators-from-in-tops.ensures refl)

pub returns-then-from-tokens-2 : goal.returns-then-from-tokens-2
returns-then-from-tokens-2 c =
    let lt : c.tops.from < length c.args.tokens.now = grind (arith, nat_tests, c.if-from-tokens-2.true) in
    let there = something_there c.args.tokens.now c.tops.from lt in
    let shut : c.tops.may_begin ≡ false = elim c.tops-test.branch [ then-tops-test+else-from-tokens w ↦ absurd (grind (arith, nat_tests, lt, w.if-from-tokens.false)) | else-tops-test w ↦ w.tops-test.false ] in
    script_bad (kinds c.args.tokens.now) (places_of c.args.tokens.now) c.tops.all c.tops.invariant there shut

pub returns : goal.returns
returns c =
    let le : length c.args.tokens.now ≤ c.tops.from = grind (arith, nat_tests, c.if-from-tokens-2.false) in
    script_read c.args.tokens.now c.tops.all c.tops.invariant le
