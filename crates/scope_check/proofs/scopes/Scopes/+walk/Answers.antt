use Rattle.std.proofs.Common.{map, sym, ◌∙◌, arith}
use Rattle.model_syntax.specs.Scopes.{breaks, continues, declares, arm_marks, catch_marks, choice_marks, entry_marks, expr_marks, operand_marks, part_marks, stmt_marks, suffix_marks}
use Rattle.model_syntax.proofs.ScopeLaws.{assignment-Write, choice-IfTrue, entry-Computed, expr-Number, expr-Literal, expr-True, expr-False, expr-Null, expr-Variable, expr-Suffixed, expr-Joined, expr-Chosen, part-Plain, suffix-Property, target-ToName, target-ToIndex, stmt-If, stmt-While, stmt-ForEach, stmt-ForDeclared, stmt-ForSteps, stmt-Try, stmt-Declare, stmt-Break, stmt-Continue}
use Rattle.scope_check.proofs.WalkLaws.{walked-none, walked-one, walked-then, walked-last, walked-behind, walked-catch, walked-for_each, walked-for_declared, walked-for_steps, walked-step, walked-done, marks-Arm, marks-Catch, marks-Operand, marks-Arguments}
use Rattle.scope_check.proofs.scopes.Scopes.+walk.Goals as goal

pub arms-loop-arm-preserved : goal.arms-loop-arm-preserved
arms-loop-arm-preserved t c =
    walked-step arm_marks c.args.arms.now _ _ _ c.arm-item.is c.loop-arm-test.true
    (rw (marks-Arm, ← c.as_slice.ensures) (walked-then _ _ _ c.in_ok-expression.ensures c.in_ok-block.ensures))
    c.loop-arm.invariant

pub arms-returns : goal.arms-returns
arms-returns t c = walked-done arm_marks c.args.arms.now _ _ c.loop-arm-test.false c.loop-arm.invariant

pub catches-loop-catch-preserved : goal.catches-loop-catch-preserved
catches-loop-catch-preserved t c =
    walked-step catch_marks c.args.catches.now _ _ _ c.catch-item.is c.loop-catch-test.true
    (rw (marks-Catch, ← c.as_slice.ensures)
    (walked-catch c.catch-item.result.name (map stmt_marks c.as_slice.result.now) _ c.in_ok-open.ensures c.in_ok-declare.ensures c.in_ok-statements.ensures c.close.ensures))
    c.loop-catch.invariant

pub catches-returns : goal.catches-returns
catches-returns t c = walked-done catch_marks c.args.catches.now _ _ c.loop-catch-test.false c.loop-catch.invariant

pub choices-loop-choice-preserved : goal.choices-loop-choice-preserved
choices-loop-choice-preserved t c =
    walked-step choice_marks c.args.choices.now _ _ _ c.choice-item.is c.loop-choice-test.true
    c.in_ok-choice.ensures
    c.loop-choice.invariant

pub choices-returns : goal.choices-returns
choices-returns t c = walked-done choice_marks c.args.choices.now _ _ c.loop-choice-test.false c.loop-choice.invariant

pub entries-loop-entry-preserved : goal.entries-loop-entry-preserved
entries-loop-entry-preserved t c =
    walked-step entry_marks c.args.entries.now _ _ _ c.entry-item.is c.loop-entry-test.true
    c.in_ok-entry.ensures
    c.loop-entry.invariant

pub entries-returns : goal.entries-returns
entries-returns t c = walked-done entry_marks c.args.entries.now _ _ c.loop-entry-test.false c.loop-entry.invariant

pub expressions-loop-expression-preserved : goal.expressions-loop-expression-preserved
expressions-loop-expression-preserved t c =
    walked-step expr_marks c.args.expressions.now _ _ _ c.expression-item.is c.loop-expression-test.true
    c.in_ok-expression.ensures
    c.loop-expression.invariant

pub expressions-returns : goal.expressions-returns
expressions-returns t c = walked-done expr_marks c.args.expressions.now _ _ c.loop-expression-test.false c.loop-expression.invariant

pub operands-loop-operand-preserved : goal.operands-loop-operand-preserved
operands-loop-operand-preserved t c =
    walked-step operand_marks c.args.operands.now _ _ _ c.operand-item.is c.loop-operand-test.true
    (rw marks-Operand c.in_ok-expression.ensures)
    c.loop-operand.invariant

pub operands-returns : goal.operands-returns
operands-returns t c = walked-done operand_marks c.args.operands.now _ _ c.loop-operand-test.false c.loop-operand.invariant

pub parts-loop-part-preserved : goal.parts-loop-part-preserved
parts-loop-part-preserved t c =
    walked-step part_marks c.args.parts.now _ _ _ c.part-item.is c.loop-part-test.true
    c.in_ok-part.ensures
    c.loop-part.invariant

pub parts-returns : goal.parts-returns
parts-returns t c = walked-done part_marks c.args.parts.now _ _ c.loop-part-test.false c.loop-part.invariant

pub statements-loop-statement-preserved : goal.statements-loop-statement-preserved
statements-loop-statement-preserved t c =
    walked-step stmt_marks c.args.statements.now _ _ _ c.statement-item.is c.loop-statement-test.true
    c.in_ok-statement.ensures
    c.loop-statement.invariant

pub statements-returns : goal.statements-returns
statements-returns t c = walked-done stmt_marks c.args.statements.now _ _ c.loop-statement-test.false c.loop-statement.invariant

pub suffixes-loop-suffix-preserved : goal.suffixes-loop-suffix-preserved
suffixes-loop-suffix-preserved t c =
    walked-step suffix_marks c.args.suffixes.now _ _ _ c.suffix-item.is c.loop-suffix-test.true
    c.in_ok-suffix.ensures
    c.loop-suffix.invariant

pub suffixes-returns : goal.suffixes-returns
suffixes-returns t c = walked-done suffix_marks c.args.suffixes.now _ _ c.loop-suffix-test.false c.loop-suffix.invariant

pub arguments-returns : goal.arguments-returns
arguments-returns t c = rw (marks-Arguments, ← c.as_slice.ensures, ← c.as_slice-2.ensures) (walked-last _ _ _ _ _ c.in_ok-entries.ensures c.expressions.ensures)

pub choice-returns-in_ok-expression-in-IfTrue : goal.choice-returns-in_ok-expression-in-IfTrue
choice-returns-in_ok-expression-in-IfTrue t c = rw (c.in-IfTrue.is, choice-IfTrue) (walked-last _ _ _ _ _ c.in_ok-expression-in-IfTrue.ensures c.expression-in-IfTrue.ensures)

pub entry-returns-in_ok-expression-in-Computed : goal.entry-returns-in_ok-expression-in-Computed
entry-returns-in_ok-expression-in-Computed t c = rw (c.in-Computed.is, entry-Computed) (walked-last _ _ _ _ _ c.in_ok-expression-in-Computed.ensures c.expression-in-Computed.ensures)

pub expression-returns-in_ok-expression-in-Suffixed : goal.expression-returns-in_ok-expression-in-Suffixed
expression-returns-in_ok-expression-in-Suffixed t c = rw (c.in-Suffixed.is, expr-Suffixed, ← c.get-in-Suffixed.ensures, ← c.as_slice-in-Suffixed.ensures) (walked-last _ _ _ _ _ c.in_ok-expression-in-Suffixed.ensures c.suffixes.ensures)

pub expression-returns-in_ok-expression-in-Joined : goal.expression-returns-in_ok-expression-in-Joined
expression-returns-in_ok-expression-in-Joined t c = rw (c.in-Joined.is, expr-Joined, ← c.get-in-Joined.ensures, ← c.as_slice-in-Joined.ensures) (walked-last _ _ _ _ _ c.in_ok-expression-in-Joined.ensures c.operands.ensures)

pub expression-returns-in_ok-choices-in-Chosen : goal.expression-returns-in_ok-choices-in-Chosen
expression-returns-in_ok-choices-in-Chosen t c = rw (c.in-Chosen.is, expr-Chosen, ← c.as_slice-in-Chosen.ensures, ← c.get-in-Chosen.ensures) (walked-last _ _ _ _ _ c.in_ok-choices-in-Chosen.ensures c.expression-in-Chosen.ensures)

pub for_each-returns : goal.for_each-returns
for_each-returns t c = rw (c.in-ForEach.is, stmt-ForEach, ← c.as_slice.ensures) (walked-for_each _ _ _ _ c.in_ok-open.ensures c.in_ok-declare.ensures c.in_ok-expression.ensures c.in_ok-loop_body.ensures c.close.ensures)

pub for_declared-returns : goal.for_declared-returns
for_declared-returns t c = rw (c.in-ForDeclared.is, stmt-ForDeclared, ← c.get.ensures, ← c.as_slice.ensures) (walked-for_declared _ _ _ _ _ _ c.in_ok-open.ensures c.in_ok-declare.ensures c.in_ok-expression.ensures c.in_ok-expression-2.ensures c.in_ok-assignment.ensures c.in_ok-loop_body.ensures c.close.ensures)

pub for_steps-returns : goal.for_steps-returns
for_steps-returns t c = rw (c.in-ForSteps.is, stmt-ForSteps, ← c.get.ensures, ← c.get-2.ensures, ← c.as_slice.ensures) (walked-for_steps _ _ _ _ _ c.in_ok-open.ensures c.in_ok-assignment.ensures c.in_ok-expression.ensures c.in_ok-assignment-2.ensures c.in_ok-loop_body.ensures c.close.ensures)

pub part-returns-in-Plain : goal.part-returns-in-Plain
part-returns-in-Plain t c = rw (c.in-Plain.is, part-Plain) (sym (walked-none _))

pub suffix-returns-in-Property : goal.suffix-returns-in-Property
suffix-returns-in-Property t c = rw (c.in-Property.is, suffix-Property) (sym (walked-none _))

pub target-returns-in-ToName : goal.target-returns-in-ToName
target-returns-in-ToName t c = rw (c.in-ToName.is, target-ToName) (sym (walked-none _))

pub statement-returns-in_ok-expression-in-While : goal.statement-returns-in_ok-expression-in-While
statement-returns-in_ok-expression-in-While t c = rw (c.in-While.is, stmt-While, ← c.as_slice.ensures) (walked-last _ _ _ _ _ c.in_ok-expression-in-While.ensures c.loop_body.ensures)

pub statement-returns-in_ok-declare-in-Declare : goal.statement-returns-in_ok-declare-in-Declare
statement-returns-in_ok-declare-in-Declare t c = rw (c.in-Declare.is, stmt-Declare) (walked-behind _ (declares _) _ _ _ c.in_ok-declare-in-Declare.ensures c.value.ensures)

pub assignment-returns-in_ok-target-in-Write : goal.assignment-returns-in_ok-target-in-Write
assignment-returns-in_ok-target-in-Write t c = rw (c.in-Write.is, assignment-Write) (walked-last _ _ _ _ _ c.in_ok-target-in-Write.ensures c.expression.ensures)

pub statement-returns-in-Break : goal.statement-returns-in-Break
statement-returns-in-Break t c = rw (c.in-Break.is, stmt-Break) (c.need_loop.ensures ∙ sym (walked-one (breaks _) _))

pub statement-returns-in-Continue : goal.statement-returns-in-Continue
statement-returns-in-Continue t c = rw (c.in-Continue.is, stmt-Continue) (c.need_loop-in-Continue.ensures ∙ sym (walked-one (continues _) _))

pub try_block-returns-in-Some : goal.try_block-returns-in-Some
try_block-returns-in-Some t c = rw (c.in-Try.is, stmt-Try, c.in-Some.is, ← c.as_slice.ensures, ← c.as_slice-2.ensures, ← c.as_slice-in-Some.ensures) (walked-last _ _ _ _ _ c.in_ok-block.ensures (walked-last _ _ _ _ _ c.in_ok-catches.ensures c.block-in-Some.ensures))

pub try_block-returns-in-None : goal.try_block-returns-in-None
try_block-returns-in-None t c = rw (c.in-Try.is, stmt-Try, c.in-None.is, ← c.as_slice.ensures, ← c.as_slice-2.ensures) (walked-then _ _ _ c.in_ok-block.ensures (walked-then _ _ _ c.in_ok-catches.ensures (sym (walked-none _))))

pub expression-returns-in-Number : goal.expression-returns-in-Number
expression-returns-in-Number t c = grind (arith, expr-Number, walked-none)

pub expression-returns-in-Number-2 : goal.expression-returns-in-Number-2
expression-returns-in-Number-2 t c = grind (arith, expr-Literal, walked-none)

pub expression-returns-in-Number-3 : goal.expression-returns-in-Number-3
expression-returns-in-Number-3 t c = grind (arith, expr-True, walked-none)

pub expression-returns-in-Number-4 : goal.expression-returns-in-Number-4
expression-returns-in-Number-4 t c = grind (arith, expr-False, walked-none)

pub expression-returns-in-Number-5 : goal.expression-returns-in-Number-5
expression-returns-in-Number-5 t c = grind (arith, expr-Null, walked-none)

pub expression-returns-in-Number-6 : goal.expression-returns-in-Number-6
expression-returns-in-Number-6 t c = grind (arith, expr-Variable, walked-none)

pub target-returns-in_ok-expression-in-ToIndex : goal.target-returns-in_ok-expression-in-ToIndex
target-returns-in_ok-expression-in-ToIndex t c = rw (c.in-ToIndex.is, target-ToIndex) (walked-last _ _ _ _ _ c.in_ok-expression-in-ToIndex.ensures c.expression-in-ToIndex-2.ensures)

pub if_block-returns-in-Some : goal.if_block-returns-in-Some
if_block-returns-in-Some t c = rw (c.in-If.is, stmt-If, c.in-Some.is, ← c.as_slice.ensures, ← c.as_slice-in-Some.ensures) (walked-last _ _ _ _ _ c.in_ok-arms.ensures c.block.ensures)

pub if_block-returns-in-None : goal.if_block-returns-in-None
if_block-returns-in-None t c = rw (c.in-If.is, stmt-If, c.in-None.is, ← c.as_slice.ensures) (walked-then _ _ _ c.in_ok-arms.ensures (sym (walked-none _)))
