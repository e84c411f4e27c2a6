use Rattle.groovy_expr.specs.Statements.{each_head_plain, each_head_typed}
use Rattle.groovy_expr.proofs.StatementFors.{no_head_type}
use Rattle.groovy_expr.proofs.loops.each_head.Goals as goal

pub returns-in-Some : goal.returns-in-Some
returns-in-Some c =
    let h = rw c.in-Some.is at c.in_ok-name.ensures in
    rw h.2 (each_head_plain h.1 c.if-sees_word.ensures.0)

pub returns-then-not-sees_type : goal.returns-then-not-sees_type
returns-then-not-sees_type c = no_head_type c.if-not-sees_type.ensures

pub returns-in-Some-2 : goal.returns-in-Some-2
returns-in-Some-2 c =
    let h = rw c.in-Some-2.is at c.in_ok-name-2.ensures in
    rw h.2 (each_head_typed c.if-not-sees_type.ensures.0 h.1 c.if-not-sees_in.ensures.0)
