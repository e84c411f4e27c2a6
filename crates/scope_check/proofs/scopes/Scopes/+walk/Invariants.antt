use Rattle.std.proofs.Common.{◌≡◌, map, drop}
use Rattle.model_syntax.specs.Scopes.{all, arm_marks, catch_marks, choice_marks, entry_marks, expr_marks, operand_marks, part_marks, stmt_marks, suffix_marks}
use Rattle.scope_check.specs.Walk.{walked}
use Rattle.scope_check.proofs.scopes.Scopes.+walk.Given as goal

abbrev pub invariant-arms-loop-arm : goal.invariant-arms-loop-arm
invariant-arms-loop-arm l = walked (all (map arm_marks (drop l.arm-index l.arms))) l.self ≡ walked (all (map arm_marks l.arms)) l.initial.self

abbrev pub invariant-catches-loop-catch : goal.invariant-catches-loop-catch
invariant-catches-loop-catch l = walked (all (map catch_marks (drop l.catch-index l.catches))) l.self ≡ walked (all (map catch_marks l.catches)) l.initial.self

abbrev pub invariant-choices-loop-choice : goal.invariant-choices-loop-choice
invariant-choices-loop-choice l = walked (all (map choice_marks (drop l.choice-index l.choices))) l.self ≡ walked (all (map choice_marks l.choices)) l.initial.self

abbrev pub invariant-entries-loop-entry : goal.invariant-entries-loop-entry
invariant-entries-loop-entry l = walked (all (map entry_marks (drop l.entry-index l.entries))) l.self ≡ walked (all (map entry_marks l.entries)) l.initial.self

abbrev pub invariant-expressions-loop-expression : goal.invariant-expressions-loop-expression
invariant-expressions-loop-expression l = walked (all (map expr_marks (drop l.expression-index l.expressions))) l.self ≡ walked (all (map expr_marks l.expressions)) l.initial.self

abbrev pub invariant-operands-loop-operand : goal.invariant-operands-loop-operand
invariant-operands-loop-operand l = walked (all (map operand_marks (drop l.operand-index l.operands))) l.self ≡ walked (all (map operand_marks l.operands)) l.initial.self

abbrev pub invariant-parts-loop-part : goal.invariant-parts-loop-part
invariant-parts-loop-part l = walked (all (map part_marks (drop l.part-index l.parts))) l.self ≡ walked (all (map part_marks l.parts)) l.initial.self

abbrev pub invariant-statements-loop-statement : goal.invariant-statements-loop-statement
invariant-statements-loop-statement l = walked (all (map stmt_marks (drop l.statement-index l.statements))) l.self ≡ walked (all (map stmt_marks l.statements)) l.initial.self

abbrev pub invariant-suffixes-loop-suffix : goal.invariant-suffixes-loop-suffix
invariant-suffixes-loop-suffix l = walked (all (map suffix_marks (drop l.suffix-index l.suffixes))) l.self ≡ walked (all (map suffix_marks l.suffixes)) l.initial.self
