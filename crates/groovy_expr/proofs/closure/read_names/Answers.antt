use Rattle.model_syntax.specs.Stream.{places_of}
use Rattle.groovy_expr.specs.Answers.{kinds}
use Rattle.groovy_expr.proofs.HeadRules.{names_list, one_name_as, no_name}
use Rattle.groovy_expr.proofs.EntryRules.{many_start, separated_fails, separated_last, separated_next}
use Rattle.groovy_expr.proofs.closure.read_names.Goals as goal

pub names-init : goal.names-init
names-init c = rw c.new-names.ensures (many_start (kinds c.args.tokens.now) c.args.at)

pub returns-in_default : goal.returns-in_default
returns-in_default c =
    let h = rw c.in_default.is at c.in_ok-name.ensures in
    separated_fails (names_list (places_of c.args.tokens.now)) (kinds c.args.tokens.now) c.names.names c.names.invariant (no_name (places_of c.args.tokens.now) (kinds c.args.tokens.now) h)

pub returns-then-not-sees : goal.returns-then-not-sees
returns-then-not-sees c =
    let h = rw c.in-Some.is at c.in_ok-name.ensures in
    rw c.in_ok-push.ensures.ok (separated_last (names_list (places_of c.args.tokens.now)) (kinds c.args.tokens.now) c.names.names c.names.invariant (one_name_as (places_of c.args.tokens.now) (kinds c.args.tokens.now) h.2 h.1) c.if-not-sees.ensures)

pub names-preserved : goal.names-preserved
names-preserved c =
    let h = rw c.in-Some.is at c.in_ok-name.ensures in
    rw c.in_ok-push.ensures.ok (separated_next (names_list (places_of c.args.tokens.now)) (kinds c.args.tokens.now) c.names.names c.names.invariant (one_name_as (places_of c.args.tokens.now) (kinds c.args.tokens.now) h.2 h.1) c.if-not-sees.ensures.0)
