use Rattle.std.proofs.Common.{◌≡◌, map, drop}
use Rattle.model_syntax.specs.Nodes.{nodes}
use Rattle.model_syntax.specs.TreeNodes.{arm_node, catch_node, choice_node, entry_node, expr_node, operand_node, part_node, stmt_node, suffix_node}
use Rattle.cps_code.specs.Walk.{added_all}
use Rattle.cps_code.proofs.table.Table.+walk.Given as goal

abbrev pub invariant-statements-loop-statement : goal.invariant-statements-loop-statement
invariant-statements-loop-statement l = added_all l.of (nodes (map stmt_node (drop l.statement-index l.statements))) l.self ≡ added_all l.of (nodes (map stmt_node l.statements)) l.initial.self

abbrev pub invariant-catches-loop-catch : goal.invariant-catches-loop-catch
invariant-catches-loop-catch l = added_all l.of (nodes (map catch_node (drop l.catch-index l.catches))) l.self ≡ added_all l.of (nodes (map catch_node l.catches)) l.initial.self

abbrev pub invariant-expressions-loop-expression : goal.invariant-expressions-loop-expression
invariant-expressions-loop-expression l = added_all l.of (nodes (map expr_node (drop l.expression-index l.expressions))) l.self ≡ added_all l.of (nodes (map expr_node l.expressions)) l.initial.self

abbrev pub invariant-gstring-loop-part : goal.invariant-gstring-loop-part
invariant-gstring-loop-part l = added_all l.number (nodes (map part_node (drop l.part-index l.parts))) l.self ≡ added_all l.number (nodes (map part_node l.parts)) l.initial.self

abbrev pub invariant-entries-loop-entry : goal.invariant-entries-loop-entry
invariant-entries-loop-entry l = added_all l.of (nodes (map entry_node (drop l.entry-index l.entries))) l.self ≡ added_all l.of (nodes (map entry_node l.entries)) l.initial.self

abbrev pub invariant-suffixes-loop-suffix : goal.invariant-suffixes-loop-suffix
invariant-suffixes-loop-suffix l = added_all l.of (nodes (map suffix_node (drop l.suffix-index l.suffixes))) l.self ≡ added_all l.of (nodes (map suffix_node l.suffixes)) l.initial.self

abbrev pub invariant-operands-loop-operand : goal.invariant-operands-loop-operand
invariant-operands-loop-operand l = added_all l.of (nodes (map operand_node (drop l.operand-index l.operands))) l.self ≡ added_all l.of (nodes (map operand_node l.operands)) l.initial.self

abbrev pub invariant-with_choices-loop-choice : goal.invariant-with_choices-loop-choice
invariant-with_choices-loop-choice l = added_all l.number (nodes (map choice_node (drop l.choice-index l.choices))) l.self ≡ added_all l.number (nodes (map choice_node l.choices)) l.initial.self

abbrev pub invariant-with_arms-loop-arm : goal.invariant-with_arms-loop-arm
invariant-with_arms-loop-arm l = added_all l.number (nodes (map arm_node (drop l.arm-index l.arms))) l.self ≡ added_all l.number (nodes (map arm_node l.arms)) l.initial.self
