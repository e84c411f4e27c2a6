-- The nodes of a tree: a node for each rule and operator, with its parts in the order of the script.
use Rattle.std.specs.Prelude.{ℕ, Option, Some, None, List, [], ◌∷◌, ◌++◌, map}
use Rattle.model_syntax.specs.declared.place.Declared.{Declared}
use Rattle.model_syntax.specs.declared.node.NodeForm.TheVariants as form
use Rattle.model_syntax.specs.declared.tree.Prefix.{Prefix}
use Rattle.model_syntax.specs.declared.tree.Assignment.{Assignment, Assignment-F, fold-Assignment}
use Rattle.model_syntax.specs.declared.tree.Choice.{Choice, Choice-F, fold-Choice}
use Rattle.model_syntax.specs.declared.tree.Entry.{Entry, Entry-F, fold-Entry}
use Rattle.model_syntax.specs.declared.tree.Expr.{Expr, Expr-F, fold-Expr}
use Rattle.model_syntax.specs.declared.tree.Part.{Part, Part-F, fold-Part}
use Rattle.model_syntax.specs.declared.tree.Stmt.{Stmt, Stmt-F, fold-Stmt}
use Rattle.model_syntax.specs.declared.tree.Suffix.{Suffix, Suffix-F, fold-Suffix}
use Rattle.model_syntax.specs.declared.tree.Target.{Target, Target-F, fold-Target}
use Rattle.model_syntax.specs.declared.tree.Arguments.{Arguments, Arguments-F, fold-Arguments}
use Rattle.model_syntax.specs.declared.tree.Arm.{Arm, Arm-F, fold-Arm}
use Rattle.model_syntax.specs.declared.tree.Catch.{Catch, Catch-F, fold-Catch}
use Rattle.model_syntax.specs.declared.tree.Operand.{Operand, Operand-F, fold-Operand}
use Rattle.model_syntax.specs.declared.tree.Function.{Function}
use Rattle.model_syntax.specs.declared.tree.Top.{Top}
use Rattle.model_syntax.specs.declared.tree.Top.TheVariants as top
use Rattle.model_syntax.specs.declared.tree.Tree.{Tree}
use Rattle.model_syntax.specs.Nodes.{Node, node, nodes}

-- A block of statements.
abbrev pub block : List Node → Node
block ss = node form.Block (nodes ss)

-- The names alone.
abbrev pub names_of : List Declared → List (List ℕ)
names_of ds = map (λ d. d.name) ds

-- The names of a closure's heads.
abbrev pub heads_of : Option (List Declared) → Option (List (List ℕ))
heads_of None = None
heads_of (Some ds) = Some (names_of ds)

-- A part that may be absent.
abbrev pub if_any : Option Node → List Node
if_any None = []
if_any (Some p) = p ∷ []

-- A block that may be absent.
abbrev pub block_if_any : Option (List Node) → List Node
block_if_any None = []
block_if_any (Some ss) = block ss ∷ []

-- A `finally` that may be absent.
abbrev pub finally_if_any : Option (List Node) → List Node
finally_if_any None = []
finally_if_any (Some ss) = node form.Finally (nodes (block ss ∷ [])) ∷ []

-- The node of a part of a tree from the nodes of its parts. Arguments give the nodes of all of them in one row.
abbrev pub assignment_step : Assignment-F Node Node Node Node Node Node Node Node (List Node) Node Node Node → Node
assignment_step (Assignment-F.Write t o e) = node (form.Assign o) (nodes (t ∷ e ∷ []))
assignment_step (Assignment-F.Increment t) = node form.Increment (nodes (t ∷ []))
assignment_step (Assignment-F.Decrement t) = node form.Decrement (nodes (t ∷ []))

abbrev pub choice_step : Choice-F Node Node Node Node Node Node Node Node (List Node) Node Node Node → Node
choice_step (Choice-F.IfTrue t v) = node form.IfTrue (nodes (t ∷ v ∷ []))
choice_step (Choice-F.IfSet v) = node form.IfSet (nodes (v ∷ []))

abbrev pub entry_step : Entry-F Node Node Node Node Node Node Node Node (List Node) Node Node Node → Node
entry_step (Entry-F.Named n e) = node (form.NamedEntry n) (nodes (e ∷ []))
entry_step (Entry-F.Numbered v e) = node (form.NumberedEntry v) (nodes (e ∷ []))
entry_step (Entry-F.Computed k e) = node form.ComputedEntry (nodes (k ∷ e ∷ []))

-- A sign before an operand.
abbrev pub prefix_node : Prefix → Node
prefix_node p = node (form.Prefix p) (nodes [])

abbrev pub expr_step : Expr-F Node Node Node Node Node Node Node Node (List Node) Node Node Node → Node
expr_step (Expr-F.Number v) = node (form.Number v) (nodes [])
expr_step (Expr-F.Literal t) = node (form.Literal t) (nodes [])
expr_step (Expr-F.GString ps) = node form.GString (nodes ps)
expr_step Expr-F.True = node form.True (nodes [])
expr_step Expr-F.False = node form.False (nodes [])
expr_step Expr-F.Null = node form.Null (nodes [])
expr_step (Expr-F.Variable n) = node (form.Variable n) (nodes [])
expr_step (Expr-F.Call n args) = node (form.Call n) (nodes args)
expr_step (Expr-F.Group e) = node form.Group (nodes (e ∷ []))
expr_step (Expr-F.List es) = node form.List (nodes es)
expr_step (Expr-F.Map es) = node form.Map (nodes es)
expr_step (Expr-F.Closure ds ss) = node (form.Closure (heads_of ds)) (nodes (block ss ∷ []))
expr_step (Expr-F.New c e) = node (form.New c) (nodes (if_any e))
expr_step (Expr-F.Suffixed e ss) = node form.Suffixed (nodes (e ∷ ss))
expr_step (Expr-F.Prefixed ps e) = node form.Prefixed (nodes (map prefix_node ps ++ e ∷ []))
expr_step (Expr-F.Joined e os) = node form.Joined (nodes (e ∷ os))
expr_step (Expr-F.And es) = node form.And (nodes es)
expr_step (Expr-F.Or es) = node form.Or (nodes es)
expr_step (Expr-F.Chosen cs e) = node form.Chosen (nodes (cs ++ e ∷ []))

abbrev pub part_step : Part-F Node Node Node Node Node Node Node Node (List Node) Node Node Node → Node
part_step (Part-F.Plain t) = node (form.PlainPart t) (nodes [])
part_step (Part-F.Inner e) = e

abbrev pub stmt_step : Stmt-F Node Node Node Node Node Node Node Node (List Node) Node Node Node → Node
stmt_step (Stmt-F.If ts o) = node form.If (nodes (ts ++ block_if_any o))
stmt_step (Stmt-F.While e ss) = node form.While (nodes (e ∷ block ss ∷ []))
stmt_step (Stmt-F.ForEach d e ss) = node (form.ForEach d.name) (nodes (e ∷ block ss ∷ []))
stmt_step (Stmt-F.ForDeclared d v e u ss) = node form.ForSteps (nodes (node (form.Declare d.name) (nodes (v ∷ [])) ∷ e ∷ u ∷ block ss ∷ []))
stmt_step (Stmt-F.ForSteps i e u ss) = node form.ForSteps (nodes (i ∷ e ∷ u ∷ block ss ∷ []))
stmt_step (Stmt-F.Try ss cs o) = node form.Try (nodes (block ss ∷ (cs ++ finally_if_any o)))
stmt_step (Stmt-F.Declare d e) = node (form.Declare d.name) (nodes (if_any e))
stmt_step (Stmt-F.Assign u) = u
stmt_step (Stmt-F.Evaluate e) = node form.Evaluate (nodes (e ∷ []))
stmt_step (Stmt-F.Return e) = node form.Return (nodes (if_any e))
stmt_step (Stmt-F.Break p) = node form.Break (nodes [])
stmt_step (Stmt-F.Continue p) = node form.Continue (nodes [])
stmt_step (Stmt-F.Throw e) = node form.Throw (nodes (e ∷ []))

abbrev pub suffix_step : Suffix-F Node Node Node Node Node Node Node Node (List Node) Node Node Node → Node
suffix_step (Suffix-F.Property d n) = node (form.Property d n) (nodes [])
suffix_step (Suffix-F.Method d n args) = node (form.Method d n) (nodes args)
suffix_step (Suffix-F.Index e) = node form.Index (nodes (e ∷ []))

abbrev pub target_step : Target-F Node Node Node Node Node Node Node Node (List Node) Node Node Node → Node
target_step (Target-F.ToName n) = node (form.ToName n) (nodes [])
target_step (Target-F.ToProperty e n) = node (form.ToProperty n) (nodes (e ∷ []))
target_step (Target-F.ToIndex e i) = node form.ToIndex (nodes (e ∷ i ∷ []))

abbrev pub arguments_step : Arguments-F Node Node Node Node Node Node Node Node (List Node) Node Node Node → List Node
arguments_step args = args.named ++ args.ordered

abbrev pub arm_step : Arm-F Node Node Node Node Node Node Node Node (List Node) Node Node Node → Node
arm_step t = node form.Arm (nodes (t.test ∷ block t.body ∷ []))

abbrev pub catch_step : Catch-F Node Node Node Node Node Node Node Node (List Node) Node Node Node → Node
catch_step c = node (form.Catch c.caught c.name.name) (nodes (block c.body ∷ []))

abbrev pub operand_step : Operand-F Node Node Node Node Node Node Node Node (List Node) Node Node Node → Node
operand_step o = node (form.Operand o.operator) (nodes (o.value ∷ []))

-- The nodes of whole parts of a tree.
abbrev pub assignment_node : Assignment → Node
assignment_node = fold-Assignment Node Node Node Node Node Node Node Node (List Node) Node Node Node assignment_step choice_step entry_step expr_step part_step stmt_step suffix_step target_step arguments_step arm_step catch_step operand_step

abbrev pub choice_node : Choice → Node
choice_node = fold-Choice Node Node Node Node Node Node Node Node (List Node) Node Node Node assignment_step choice_step entry_step expr_step part_step stmt_step suffix_step target_step arguments_step arm_step catch_step operand_step

abbrev pub entry_node : Entry → Node
entry_node = fold-Entry Node Node Node Node Node Node Node Node (List Node) Node Node Node assignment_step choice_step entry_step expr_step part_step stmt_step suffix_step target_step arguments_step arm_step catch_step operand_step

abbrev pub expr_node : Expr → Node
expr_node = fold-Expr Node Node Node Node Node Node Node Node (List Node) Node Node Node assignment_step choice_step entry_step expr_step part_step stmt_step suffix_step target_step arguments_step arm_step catch_step operand_step

abbrev pub part_node : Part → Node
part_node = fold-Part Node Node Node Node Node Node Node Node (List Node) Node Node Node assignment_step choice_step entry_step expr_step part_step stmt_step suffix_step target_step arguments_step arm_step catch_step operand_step

abbrev pub stmt_node : Stmt → Node
stmt_node = fold-Stmt Node Node Node Node Node Node Node Node (List Node) Node Node Node assignment_step choice_step entry_step expr_step part_step stmt_step suffix_step target_step arguments_step arm_step catch_step operand_step

abbrev pub suffix_node : Suffix → Node
suffix_node = fold-Suffix Node Node Node Node Node Node Node Node (List Node) Node Node Node assignment_step choice_step entry_step expr_step part_step stmt_step suffix_step target_step arguments_step arm_step catch_step operand_step

abbrev pub target_node : Target → Node
target_node = fold-Target Node Node Node Node Node Node Node Node (List Node) Node Node Node assignment_step choice_step entry_step expr_step part_step stmt_step suffix_step target_step arguments_step arm_step catch_step operand_step

abbrev pub arguments_nodes : Arguments → List Node
arguments_nodes = fold-Arguments Node Node Node Node Node Node Node Node (List Node) Node Node Node assignment_step choice_step entry_step expr_step part_step stmt_step suffix_step target_step arguments_step arm_step catch_step operand_step

abbrev pub arm_node : Arm → Node
arm_node = fold-Arm Node Node Node Node Node Node Node Node (List Node) Node Node Node assignment_step choice_step entry_step expr_step part_step stmt_step suffix_step target_step arguments_step arm_step catch_step operand_step

abbrev pub catch_node : Catch → Node
catch_node = fold-Catch Node Node Node Node Node Node Node Node (List Node) Node Node Node assignment_step choice_step entry_step expr_step part_step stmt_step suffix_step target_step arguments_step arm_step catch_step operand_step

abbrev pub operand_node : Operand → Node
operand_node = fold-Operand Node Node Node Node Node Node Node Node (List Node) Node Node Node assignment_step choice_step entry_step expr_step part_step stmt_step suffix_step target_step arguments_step arm_step catch_step operand_step

-- A function has its name and parameters, and a block.
abbrev pub function_node : Function → Node
function_node f = node (form.Function f.name.name (names_of f.parameters)) (nodes (block (map stmt_node f.body) ∷ []))

-- The node of a function or a statement.
abbrev pub top_node : Top → Node
top_node (top.Function f) = function_node f
top_node (top.Statement p s) = stmt_node s

-- The node of a whole script: its functions and statements in order.
abbrev pub tree_node : Tree → Node
tree_node tree = node form.Script (nodes (map top_node tree.tops))
