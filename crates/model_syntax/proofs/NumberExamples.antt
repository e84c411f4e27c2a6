-- The numbers of `while (x < 3) { echo 'n' + x; x = x + 1 }`.
use Rattle.std.proofs.Common.{◌≡◌, ℕ, List, [], ◌∷◌, ap, ◌∙◌, pos}
use Rattle.std.specs.Prelude.{codes}
use Rattle.model_syntax.specs.declared.place.Place.{Place}
use Rattle.model_syntax.specs.declared.node.NodeForm.{NodeForm}
use Rattle.model_syntax.specs.declared.node.NodeForm.TheVariants as form
use Rattle.model_syntax.specs.declared.tree.AssignSign.TheVariants.{Set}
use Rattle.model_syntax.specs.declared.tree.Assignment.TheVariants.{Write}
use Rattle.model_syntax.specs.declared.tree.Operator.{Operator}
use Rattle.model_syntax.specs.declared.tree.Operator.TheVariants.{Less, Plus}
use Rattle.model_syntax.specs.declared.tree.Expr.{Expr}
use Rattle.model_syntax.specs.declared.tree.Expr.TheVariants.{Number, Literal, Variable, Call, Joined}
use Rattle.model_syntax.specs.declared.tree.Stmt.{Stmt}
use Rattle.model_syntax.specs.declared.tree.Stmt.TheVariants.{While, Assign, Evaluate}
use Rattle.model_syntax.specs.declared.tree.Target.TheVariants.{ToName}
use Rattle.model_syntax.specs.declared.tree.Top.TheVariants.{Statement}
use Rattle.model_syntax.specs.declared.tree.Tree.{Tree}
use Rattle.model_syntax.specs.Operators.{operand}
use Rattle.model_syntax.specs.Nodes.{Node, node, nodes, size, sizes, Numbered, numbers, numbered, numbered_parts}
use Rattle.model_syntax.specs.TreeNodes.{expr_node, stmt_node, tree_node, block}
use Rattle.model_syntax.proofs.TreeNodeLaws.{assignment-Write, expr-Number, expr-Literal, expr-Variable, expr-Call, expr-Joined, operand-is, arguments-is, stmt-While, stmt-Assign, stmt-Evaluate, target-ToName}

abbrev pub x : List ℕ
x = codes "x"

abbrev pub two : Expr → Operator → Expr → Expr
two e o f = Joined e (operand o f ∷ [])

abbrev pub test : Expr
test = two (Variable x) Less (Number (pos 3))

abbrev pub text : Expr
text = two (Literal (codes "n")) Plus (Variable x)

abbrev pub sum : Expr
sum = two (Variable x) Plus (Number (pos 1))

abbrev pub echo : Stmt
echo = Evaluate (Call (codes "echo") (record { named = []; ordered = text ∷ [] }))

abbrev pub step : Stmt
step = Assign (Write (ToName x) Set sum)

abbrev pub tree : Place → Tree
tree p = record { tops = Statement p (While test (echo ∷ step ∷ [])) ∷ [] }

abbrev pub two_nodes : Node → Operator → Node → Node
two_nodes p o q = node form.Joined (nodes (p ∷ node (form.Operand o) (nodes (q ∷ [])) ∷ []))

two-node : (e f : Expr) (o : Operator) {p q : Node} → expr_node e ≡ p → expr_node f ≡ q → expr_node (two e o f) ≡ two_nodes p o q
two-node e f o {p = p} i j = expr-Joined e (operand o f ∷ []) ∙ ap (λ z. node form.Joined (nodes (expr_node e ∷ z ∷ []))) (operand-is o f) ∙ ap (λ z. two_nodes z o (expr_node f)) i ∙ ap (λ z. two_nodes p o z) j

abbrev pub leaf : NodeForm → Node
leaf f = node f (nodes [])

abbrev pub echo_node : Node
echo_node = node form.Evaluate (nodes (node (form.Call (codes "echo")) (nodes (two_nodes (leaf (form.Literal (codes "n"))) Plus (leaf (form.Variable x)) ∷ [])) ∷ []))

abbrev pub step_node : Node
step_node = node (form.Assign Set) (nodes (leaf (form.ToName x) ∷ two_nodes (leaf (form.Variable x)) Plus (leaf (form.Number (pos 1))) ∷ []))

echo-node : stmt_node echo ≡ echo_node
echo-node =
    stmt-Evaluate (Call (codes "echo") (record { named = []; ordered = text ∷ [] }))
    ∙ ap (λ z. node form.Evaluate (nodes (z ∷ []))) (expr-Call (codes "echo") (record { named = []; ordered = text ∷ [] })
    ∙ ap (λ z. node (form.Call (codes "echo")) (nodes z)) (arguments-is [] (text ∷ []) ∙ ap (λ z. z ∷ []) (two-node (Literal (codes "n")) (Variable x) Plus (expr-Literal (codes "n")) (expr-Variable x))))

step-node : stmt_node step ≡ step_node
step-node =
    stmt-Assign (Write (ToName x) Set sum)
    ∙ assignment-Write (ToName x) Set sum
    ∙ ap (λ z. node (form.Assign Set) (nodes (z ∷ expr_node sum ∷ []))) (target-ToName x)
    ∙ ap (λ z. node (form.Assign Set) (nodes (leaf (form.ToName x) ∷ z ∷ []))) (two-node (Variable x) (Number (pos 1)) Plus (expr-Variable x) (expr-Number (pos 1)))

abbrev pub while_node : Node → Node → Node → Node
while_node t p q = node form.While (nodes (t ∷ block (p ∷ q ∷ []) ∷ []))

-- The nodes of the script.
pub script-node : (p : Place) → tree_node (tree p) ≡ node form.Script (nodes (while_node (two_nodes (leaf (form.Variable x)) Less (leaf (form.Number (pos 3)))) echo_node step_node ∷ []))
script-node p = ap (λ z. node form.Script (nodes (z ∷ []))) (
    stmt-While test (echo ∷ step ∷ [])
    ∙ ap (λ z. while_node z (stmt_node echo) (stmt_node step)) (two-node (Variable x) (Number (pos 3)) Less (expr-Variable x) (expr-Number (pos 3)))
    ∙ ap (λ z. while_node (two_nodes (leaf (form.Variable x)) Less (leaf (form.Number (pos 3)))) z (stmt_node step)) echo-node
    ∙ ap (λ z. while_node (two_nodes (leaf (form.Variable x)) Less (leaf (form.Number (pos 3)))) echo_node z) step-node)

abbrev pub entry : ℕ → NodeForm → List ℕ → Numbered
entry n f ps = record { number = n; form = f; parts = ps }

-- And their numbers.
pub script-numbers : (p : Place) → numbered 0 (tree_node (tree p)) ≡
    entry 0 form.Script (1 ∷ []) ∷
    entry 1 form.While (2 ∷ 6 ∷ []) ∷
    entry 2 form.Joined (3 ∷ 4 ∷ []) ∷
    entry 3 (form.Variable x) [] ∷
    entry 4 (form.Operand Less) (5 ∷ []) ∷
    entry 5 (form.Number (pos 3)) [] ∷
    entry 6 form.Block (7 ∷ 13 ∷ []) ∷
    entry 7 form.Evaluate (8 ∷ []) ∷
    entry 8 (form.Call (codes "echo")) (9 ∷ []) ∷
    entry 9 form.Joined (10 ∷ 11 ∷ []) ∷
    entry 10 (form.Literal (codes "n")) [] ∷
    entry 11 (form.Operand Plus) (12 ∷ []) ∷
    entry 12 (form.Variable x) [] ∷
    entry 13 (form.Assign Set) (14 ∷ 15 ∷ []) ∷
    entry 14 (form.ToName x) [] ∷
    entry 15 form.Joined (16 ∷ 17 ∷ []) ∷
    entry 16 (form.Variable x) [] ∷
    entry 17 (form.Operand Plus) (18 ∷ []) ∷
    entry 18 (form.Number (pos 1)) [] ∷ []
unfolding numbered numbered_parts numbers size sizes
script-numbers p = ap (numbered 0) (script-node p)
