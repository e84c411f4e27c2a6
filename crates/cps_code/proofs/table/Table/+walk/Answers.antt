use Rattle.std.proofs.Common.{◌∙◌}
use Rattle.model_syntax.specs.TreeNodes.{arm_node, catch_node, choice_node, entry_node, expr_node, operand_node, part_node, stmt_node, suffix_node}
use Rattle.model_syntax.proofs.TreeNodeLaws.{assignment-Write, choice-IfTrue, entry-Computed, expr-Suffixed, expr-Joined, expr-Chosen, target-ToIndex, stmt-If, stmt-While, stmt-ForEach, stmt-ForDeclared, stmt-ForSteps, stmt-Try}
use Rattle.model_syntax.specs.declared.node.NodeForm.TheVariants as form
use Rattle.cps_code.proofs.WalkLaws.{added-step, added-done, tail, node-all, node-one, node-two, node-rest, node-behind, node-last, node-none, node-for, node-tried, node-untried, same-form, first_one, first_all, node-Arm, node-Catch, node-Operand, node-Arguments}
use Rattle.cps_code.proofs.table.Table.+walk.Goals as goal

pub statements-loop-statement-preserved : goal.statements-loop-statement-preserved
statements-loop-statement-preserved t c = added-step stmt_node c.args.statements.now _ _ _ _ c.statement-item.is c.loop-statement-test.true c.in_ok-statement.ensures c.loop-statement.invariant

pub catches-loop-catch-preserved : goal.catches-loop-catch-preserved
catches-loop-catch-preserved t c =
    added-step catch_node c.args.catches.now _ _ _ _ c.catch-item.is c.loop-catch-test.true
    (rw (node-Catch, ← c.as_slice.ensures) (c.in_ok-with_block.ensures ∙ same-form _ _ (form.Catch c.catch-item.result.caught) _ c.in_ok-clone.ensures.cases))
    c.loop-catch.invariant

pub expressions-loop-expression-preserved : goal.expressions-loop-expression-preserved
expressions-loop-expression-preserved t c = added-step expr_node c.args.expressions.now _ _ _ _ c.expression-item.is c.loop-expression-test.true c.in_ok-expression.ensures c.loop-expression.invariant

pub gstring-loop-part-preserved : goal.gstring-loop-part-preserved
gstring-loop-part-preserved t c = added-step part_node c.args.parts.now _ _ _ _ c.part-item.is c.loop-part-test.true c.in_ok-text_part.ensures c.loop-part.invariant

pub entries-loop-entry-preserved : goal.entries-loop-entry-preserved
entries-loop-entry-preserved t c = added-step entry_node c.args.entries.now _ _ _ _ c.entry-item.is c.loop-entry-test.true c.in_ok-entry.ensures c.loop-entry.invariant

pub suffixes-loop-suffix-preserved : goal.suffixes-loop-suffix-preserved
suffixes-loop-suffix-preserved t c = added-step suffix_node c.args.suffixes.now _ _ _ _ c.suffix-item.is c.loop-suffix-test.true c.in_ok-suffix.ensures c.loop-suffix.invariant

pub operands-loop-operand-preserved : goal.operands-loop-operand-preserved
operands-loop-operand-preserved t c = added-step operand_node c.args.operands.now _ _ _ _ c.operand-item.is c.loop-operand-test.true (rw node-Operand c.in_ok-with_one.ensures) c.loop-operand.invariant

pub with_choices-loop-choice-preserved : goal.with_choices-loop-choice-preserved
with_choices-loop-choice-preserved t c = added-step choice_node c.args.choices.now _ _ _ _ c.choice-item.is c.loop-choice-test.true c.in_ok-choice.ensures c.loop-choice.invariant

pub with_arms-loop-arm-preserved : goal.with_arms-loop-arm-preserved
with_arms-loop-arm-preserved t c =
    added-step arm_node c.args.arms.now _ _ _ _ c.arm-item.is c.loop-arm-test.true
    (rw (node-Arm, ← c.as_slice.ensures) (c.in_ok-block.ensures ∙ node-two _ _ _ _ c.in_ok-arm_number.ensures.number _ _ c.in_ok-arm_number.ensures.added))
    c.loop-arm.invariant

pub statements-returns : goal.statements-returns
statements-returns t c = added-done stmt_node c.args.statements.now _ _ _ c.loop-statement-test.false c.loop-statement.invariant

pub catches-returns : goal.catches-returns
catches-returns t c = added-done catch_node c.args.catches.now _ _ _ c.loop-catch-test.false c.loop-catch.invariant

pub expressions-returns : goal.expressions-returns
expressions-returns t c = added-done expr_node c.args.expressions.now _ _ _ c.loop-expression-test.false c.loop-expression.invariant

pub entries-returns : goal.entries-returns
entries-returns t c = added-done entry_node c.args.entries.now _ _ _ c.loop-entry-test.false c.loop-entry.invariant

pub suffixes-returns : goal.suffixes-returns
suffixes-returns t c = added-done suffix_node c.args.suffixes.now _ _ _ c.loop-suffix-test.false c.loop-suffix.invariant

pub operands-returns : goal.operands-returns
operands-returns t c = added-done operand_node c.args.operands.now _ _ _ c.loop-operand-test.false c.loop-operand.invariant

pub gstring-returns : goal.gstring-returns
gstring-returns t c = added-done part_node c.args.parts.now _ _ _ c.loop-part-test.false c.loop-part.invariant ∙ node-all _ _ _ _ c.in_ok-number.ensures.number _ c.in_ok-number.ensures.opened

pub with_choices-returns-clause-added : goal.with_choices-returns-clause-added
with_choices-returns-clause-added t c = first_all _ _ _ _ _ c.in_ok-number.ensures.number c.in_ok-number.ensures.opened (added-done choice_node c.args.choices.now _ _ _ c.loop-choice-test.false c.loop-choice.invariant)

pub with_arms-returns-clause-added : goal.with_arms-returns-clause-added
with_arms-returns-clause-added t c = first_all _ _ _ _ _ c.in_ok-number.ensures.number c.in_ok-number.ensures.opened (added-done arm_node c.args.arms.now _ _ _ c.loop-arm-test.false c.loop-arm.invariant)

pub block-returns : goal.block-returns
block-returns t c = tail _ _ (node-all _ _ _ _ c.in_ok-number.ensures.number _ c.in_ok-number.ensures.opened) c.statements.ensures

pub with_block-returns : goal.with_block-returns
with_block-returns t c = tail _ _ (node-one _ _ _ _ c.in_ok-number.ensures.number _ c.in_ok-number.ensures.opened) c.block.ensures

pub with_one-returns : goal.with_one-returns
with_one-returns t c = tail _ _ (node-one _ _ _ _ c.in_ok-number.ensures.number _ c.in_ok-number.ensures.opened) c.expression.ensures

pub with_all-returns : goal.with_all-returns
with_all-returns t c = tail _ _ (node-all _ _ _ _ c.in_ok-number.ensures.number _ c.in_ok-number.ensures.opened) c.expressions.ensures

pub with_target-returns : goal.with_target-returns
with_target-returns t c = tail _ _ (node-one _ _ _ _ c.in_ok-number.ensures.number _ c.in_ok-number.ensures.opened) c.target.ensures

pub map-returns : goal.map-returns
map-returns t c = tail _ _ (node-all _ _ _ _ c.in_ok-number.ensures.number _ c.in_ok-number.ensures.opened) c.entries.ensures

pub with_arguments-returns : goal.with_arguments-returns
with_arguments-returns t c = rw (node-Arguments, ← c.as_slice.ensures, ← c.as_slice-2.ensures) (tail _ _ (node-behind _ _ _ _ c.in_ok-number.ensures.number _ _ (first_all _ _ _ _ _ c.in_ok-number.ensures.number c.in_ok-number.ensures.opened c.in_ok-entries.ensures)) c.expressions.ensures)

pub prefixed-returns : goal.prefixed-returns
prefixed-returns t c = tail _ _ (node-last _ _ _ _ c.in_ok-number.ensures.number _ _ (first_all _ _ _ _ _ c.in_ok-number.ensures.number c.in_ok-number.ensures.opened c.in_ok-signs.ensures)) c.expression.ensures

pub assignment-returns-in_ok-target-in-Write : goal.assignment-returns-in_ok-target-in-Write
assignment-returns-in_ok-target-in-Write t c = rw (c.in-Write.is, assignment-Write) (tail _ _ (node-two _ _ _ _ c.in_ok-number-in-Write.ensures.number _ _ (first_one _ _ _ _ _ c.in_ok-number-in-Write.ensures.number c.in_ok-number-in-Write.ensures.opened c.in_ok-target-in-Write.ensures)) c.expression.ensures)

pub target-returns-in_ok-number-in-ToIndex : goal.target-returns-in_ok-number-in-ToIndex
target-returns-in_ok-number-in-ToIndex t c = rw (c.in-ToIndex.is, target-ToIndex) (tail _ _ (node-two _ _ _ _ c.in_ok-number-in-ToIndex.ensures.number _ _ c.in_ok-number-in-ToIndex.ensures.added) c.expression.ensures)

pub entry-returns-in_ok-number-in-Computed : goal.entry-returns-in_ok-number-in-Computed
entry-returns-in_ok-number-in-Computed t c = rw (c.in-Computed.is, entry-Computed) (tail _ _ (node-two _ _ _ _ c.in_ok-number-in-Computed.ensures.number _ _ c.in_ok-number-in-Computed.ensures.added) c.expression.ensures)

pub choice-returns-in_ok-number-in-IfTrue : goal.choice-returns-in_ok-number-in-IfTrue
choice-returns-in_ok-number-in-IfTrue t c = rw (c.in-IfTrue.is, choice-IfTrue) (tail _ _ (node-two _ _ _ _ c.in_ok-number-in-IfTrue.ensures.number _ _ c.in_ok-number-in-IfTrue.ensures.added) c.expression.ensures)

pub expression-returns-in_ok-number-in-Suffixed : goal.expression-returns-in_ok-number-in-Suffixed
expression-returns-in_ok-number-in-Suffixed t c = rw (c.in-Suffixed.is, expr-Suffixed, ← c.get-in-Suffixed.ensures, ← c.as_slice-in-Suffixed.ensures) (tail _ _ (node-rest _ _ _ _ c.in_ok-number-in-Suffixed.ensures.number _ _ c.in_ok-number-in-Suffixed.ensures.added) c.suffixes.ensures)

pub expression-returns-in_ok-number-in-Joined : goal.expression-returns-in_ok-number-in-Joined
expression-returns-in_ok-number-in-Joined t c = rw (c.in-Joined.is, expr-Joined, ← c.get-in-Joined.ensures, ← c.as_slice-in-Joined.ensures) (tail _ _ (node-rest _ _ _ _ c.in_ok-number-in-Joined.ensures.number _ _ c.in_ok-number-in-Joined.ensures.added) c.operands.ensures)

pub expression-returns-in_ok-number-in-Chosen : goal.expression-returns-in_ok-number-in-Chosen
expression-returns-in_ok-number-in-Chosen t c = rw (c.in-Chosen.is, expr-Chosen, ← c.as_slice-in-Chosen.ensures, ← c.get-in-Chosen.ensures) (tail _ _ (node-last _ _ _ _ c.in_ok-number-in-Chosen.ensures.number _ _ c.in_ok-number-in-Chosen.ensures.added) c.expression.ensures)

pub statement-returns-in_ok-number-in-While : goal.statement-returns-in_ok-number-in-While
statement-returns-in_ok-number-in-While t c = rw (c.in-While.is, stmt-While, ← c.as_slice-in-While.ensures) (tail _ _ (node-two _ _ _ _ c.in_ok-number-in-While.ensures.number _ _ c.in_ok-number-in-While.ensures.added) c.block-in-While.ensures)

pub statement-returns-in_ok-number-in-ForEach : goal.statement-returns-in_ok-number-in-ForEach
statement-returns-in_ok-number-in-ForEach t c = rw (c.in-ForEach.is, stmt-ForEach, ← c.as_slice-in-ForEach.ensures) (tail _ _ (node-two _ _ _ _ c.in_ok-number-in-ForEach.ensures.number _ _ c.in_ok-number-in-ForEach.ensures.added ∙ same-form _ _ form.ForEach _ c.in_ok-clone-in-ForEach.ensures.cases) c.block-in-ForEach.ensures)

pub statement-returns-in_ok-assignment-in-ForDeclared : goal.statement-returns-in_ok-assignment-in-ForDeclared
statement-returns-in_ok-assignment-in-ForDeclared t c = rw (c.in-ForDeclared.is, stmt-ForDeclared, ← c.get.ensures, ← c.as_slice-in-ForDeclared.ensures) (tail _ _ (node-for _ _ _ _ _ _ _ _ c.in_ok-number-in-ForDeclared.ensures.number c.in_ok-number-in-ForDeclared.ensures.added c.in_ok-expression-in-ForDeclared.ensures c.in_ok-assignment-in-ForDeclared.ensures) c.block-in-ForDeclared.ensures)

pub statement-returns-in_ok-assignment-in-ForSteps : goal.statement-returns-in_ok-assignment-in-ForSteps
statement-returns-in_ok-assignment-in-ForSteps t c = rw (c.in-ForSteps.is, stmt-ForSteps, ← c.get-in-ForSteps.ensures, ← c.get-in-ForSteps-2.ensures, ← c.as_slice-in-ForSteps.ensures) (tail _ _ (node-for _ _ _ _ _ _ _ _ c.in_ok-number-in-ForSteps.ensures.number c.in_ok-number-in-ForSteps.ensures.added c.in_ok-expression-in-ForSteps.ensures c.in_ok-assignment-in-ForSteps.ensures) c.block-in-ForSteps.ensures)

pub statement-returns-in-Some : goal.statement-returns-in-Some
statement-returns-in-Some t c = rw (c.in-If.is, stmt-If, c.in-Some.is, ← c.as_slice.ensures, ← c.as_slice-in-Some.ensures) (tail _ _ (node-last _ _ _ _ c.in_ok-number-in-If.ensures.number _ _ c.in_ok-number-in-If.ensures.added) c.block.ensures)

pub statement-returns-in-None : goal.statement-returns-in-None
statement-returns-in-None t c = rw (c.in-If.is, stmt-If, c.in-None.is, ← c.as_slice.ensures) (node-none _ _ _ _ c.in_ok-number-in-If.ensures.number _ c.in_ok-number-in-If.ensures.added)

pub statement-returns-in-Some-last : goal.statement-returns-in-Some-last
statement-returns-in-Some-last t c = rw (c.in-Try.is, stmt-Try, c.in-Some-last.is, ← c.as_slice-in-Try.ensures, ← c.as_slice-in-Try-2.ensures, ← c.as_slice-in-Some-last.ensures) (tail _ _ (node-tried _ _ _ _ _ _ _ c.in_ok-number-in-Try.ensures.number c.in_ok-number-in-Try.ensures.added c.in_ok-catches-in-Try.ensures) c.with_block.ensures)

pub statement-returns-in-None-last : goal.statement-returns-in-None-last
statement-returns-in-None-last t c = rw (c.in-Try.is, stmt-Try, c.in-None-last.is, ← c.as_slice-in-Try.ensures, ← c.as_slice-in-Try-2.ensures) (node-untried _ _ _ _ _ _ c.in_ok-number-in-Try.ensures.number c.in_ok-number-in-Try.ensures.added c.in_ok-catches-in-Try.ensures)
