-- Every node of a tree has the parts that its form asks for: by induction on trees, a law for each of their types.
use Rattle.std.proofs.Common.{◌≡◌, refl, sym, subst, true, List, [], ◌∷◌, map, Some, None}
use Rattle.std.specs.List.{AllByRecursion as AllAre}
use Rattle.model_syntax.specs.declared.node.NodeForm.{NodeForm}
use Rattle.model_syntax.specs.declared.node.NodeForm.TheVariants as form
use Rattle.model_syntax.specs.declared.tree.Prefix.{Prefix}
use Rattle.model_syntax.specs.declared.tree.Assignment.{Assignment, Assignment-F, map-Assignment, roll-Assignment, fold-roll-Assignment}
use Rattle.model_syntax.specs.declared.tree.Choice.{Choice, Choice-F, map-Choice, roll-Choice, fold-roll-Choice}
use Rattle.model_syntax.specs.declared.tree.Entry.{Entry, Entry-F, map-Entry, roll-Entry, fold-roll-Entry}
use Rattle.model_syntax.specs.declared.tree.Expr.{Expr, Expr-F, map-Expr, roll-Expr, fold-roll-Expr}
use Rattle.model_syntax.specs.declared.tree.Part.{Part, Part-F, map-Part, roll-Part, fold-roll-Part}
use Rattle.model_syntax.specs.declared.tree.Stmt.{Stmt, Stmt-F, map-Stmt, roll-Stmt, fold-roll-Stmt, ind-Stmt}
use Rattle.model_syntax.specs.declared.tree.Suffix.{Suffix, Suffix-F, map-Suffix, roll-Suffix, fold-roll-Suffix}
use Rattle.model_syntax.specs.declared.tree.Target.{Target, Target-F, map-Target, roll-Target, fold-roll-Target}
use Rattle.model_syntax.specs.declared.tree.Arguments.{Arguments, Arguments-F, map-Arguments, roll-Arguments, fold-roll-Arguments}
use Rattle.model_syntax.specs.declared.tree.Arm.{Arm, Arm-F, map-Arm, roll-Arm, fold-roll-Arm}
use Rattle.model_syntax.specs.declared.tree.Catch.{Catch, Catch-F, map-Catch, roll-Catch, fold-roll-Catch}
use Rattle.model_syntax.specs.declared.tree.Operand.{Operand, Operand-F, map-Operand, roll-Operand, fold-roll-Operand}
use Rattle.model_syntax.specs.declared.tree.Function.{Function}
use Rattle.model_syntax.specs.declared.tree.Top.{Top}
use Rattle.model_syntax.specs.declared.tree.Top.TheVariants as top
use Rattle.model_syntax.specs.declared.tree.Tree.{Tree}
use Rattle.model_syntax.specs.Nodes.{Node}
use Rattle.model_syntax.specs.TreeNodes.{assignment_step, choice_step, entry_step, expr_step, part_step, stmt_step, suffix_step, target_step, arguments_step, arm_step, catch_step, operand_step, assignment_node, choice_node, entry_node, expr_node, part_node, stmt_node, suffix_node, target_node, arguments_nodes, arm_node, catch_node, operand_node, heads_of, names_of, prefix_node, block, function_node, top_node, tree_node}
use Rattle.model_run.specs.Statements.{is_finally}
use Rattle.model_run.specs.FrameTable.{is_target_form, is_arm, is_catch, is_choice}
use Rattle.script_laws.specs.NodeParts.{is_body, is_statement, is_top, is_first_step, is_expression, is_text_part, is_target, is_entry, is_sign, is_operand, is_suffix, Any_number, WellFormed}
use Rattle.script_laws.proofs.Rows.{Is, Row, row_ends, row_one, row_some, row_any, row_absent, row_present, made, Beside, beside, all_beside, stronger}

abbrev GoodAssignment : Assignment → Type 0
GoodAssignment x = Is is_target_form (assignment_node x)

abbrev GoodChoice : Choice → Type 0
GoodChoice x = Is is_choice (choice_node x)

abbrev GoodEntry : Entry → Type 0
GoodEntry x = Is is_entry (entry_node x)

abbrev GoodExpr : Expr → Type 0
GoodExpr x = Is is_expression (expr_node x)

abbrev GoodPart : Part → Type 0
GoodPart x = Is is_text_part (part_node x)

abbrev GoodStmt : Stmt → Type 0
GoodStmt x = Is is_statement (stmt_node x)

abbrev GoodSuffix : Suffix → Type 0
GoodSuffix x = Is is_suffix (suffix_node x)

abbrev GoodTarget : Target → Type 0
GoodTarget x = Is is_target (target_node x)

abbrev GoodArguments : Arguments → Type 0
GoodArguments args = Row (Any_number is_entry ∷ Any_number is_expression ∷ []) (arguments_nodes args)

abbrev GoodArm : Arm → Type 0
GoodArm x = Is is_arm (arm_node x)

abbrev GoodCatch : Catch → Type 0
GoodCatch x = Is is_catch (catch_node x)

abbrev GoodOperand : Operand → Type 0
GoodOperand x = Is is_operand (operand_node x)

-- Assignment
abbrev LayerAssignment : Type 0
LayerAssignment = Assignment-F (Beside Assignment GoodAssignment) (Beside Choice GoodChoice) (Beside Entry GoodEntry) (Beside Expr GoodExpr) (Beside Part GoodPart) (Beside Stmt GoodStmt) (Beside Suffix GoodSuffix) (Beside Target GoodTarget) (Beside Arguments GoodArguments) (Beside Arm GoodArm) (Beside Catch GoodCatch) (Beside Operand GoodOperand)

abbrev innerAssignment : LayerAssignment → Assignment-F Assignment Choice Entry Expr Part Stmt Suffix Target Arguments Arm Catch Operand
innerAssignment = map-Assignment (Beside Assignment GoodAssignment) (Beside Choice GoodChoice) (Beside Entry GoodEntry) (Beside Expr GoodExpr) (Beside Part GoodPart) (Beside Stmt GoodStmt) (Beside Suffix GoodSuffix) (Beside Target GoodTarget) (Beside Arguments GoodArguments) (Beside Arm GoodArm) (Beside Catch GoodCatch) (Beside Operand GoodOperand) Assignment Choice Entry Expr Part Stmt Suffix Target Arguments Arm Catch Operand beside beside beside beside beside beside beside beside beside beside beside beside

-- Choice
abbrev LayerChoice : Type 0
LayerChoice = Choice-F (Beside Assignment GoodAssignment) (Beside Choice GoodChoice) (Beside Entry GoodEntry) (Beside Expr GoodExpr) (Beside Part GoodPart) (Beside Stmt GoodStmt) (Beside Suffix GoodSuffix) (Beside Target GoodTarget) (Beside Arguments GoodArguments) (Beside Arm GoodArm) (Beside Catch GoodCatch) (Beside Operand GoodOperand)

abbrev innerChoice : LayerChoice → Choice-F Assignment Choice Entry Expr Part Stmt Suffix Target Arguments Arm Catch Operand
innerChoice = map-Choice (Beside Assignment GoodAssignment) (Beside Choice GoodChoice) (Beside Entry GoodEntry) (Beside Expr GoodExpr) (Beside Part GoodPart) (Beside Stmt GoodStmt) (Beside Suffix GoodSuffix) (Beside Target GoodTarget) (Beside Arguments GoodArguments) (Beside Arm GoodArm) (Beside Catch GoodCatch) (Beside Operand GoodOperand) Assignment Choice Entry Expr Part Stmt Suffix Target Arguments Arm Catch Operand beside beside beside beside beside beside beside beside beside beside beside beside

-- Entry
abbrev LayerEntry : Type 0
LayerEntry = Entry-F (Beside Assignment GoodAssignment) (Beside Choice GoodChoice) (Beside Entry GoodEntry) (Beside Expr GoodExpr) (Beside Part GoodPart) (Beside Stmt GoodStmt) (Beside Suffix GoodSuffix) (Beside Target GoodTarget) (Beside Arguments GoodArguments) (Beside Arm GoodArm) (Beside Catch GoodCatch) (Beside Operand GoodOperand)

abbrev innerEntry : LayerEntry → Entry-F Assignment Choice Entry Expr Part Stmt Suffix Target Arguments Arm Catch Operand
innerEntry = map-Entry (Beside Assignment GoodAssignment) (Beside Choice GoodChoice) (Beside Entry GoodEntry) (Beside Expr GoodExpr) (Beside Part GoodPart) (Beside Stmt GoodStmt) (Beside Suffix GoodSuffix) (Beside Target GoodTarget) (Beside Arguments GoodArguments) (Beside Arm GoodArm) (Beside Catch GoodCatch) (Beside Operand GoodOperand) Assignment Choice Entry Expr Part Stmt Suffix Target Arguments Arm Catch Operand beside beside beside beside beside beside beside beside beside beside beside beside

-- Expr
abbrev LayerExpr : Type 0
LayerExpr = Expr-F (Beside Assignment GoodAssignment) (Beside Choice GoodChoice) (Beside Entry GoodEntry) (Beside Expr GoodExpr) (Beside Part GoodPart) (Beside Stmt GoodStmt) (Beside Suffix GoodSuffix) (Beside Target GoodTarget) (Beside Arguments GoodArguments) (Beside Arm GoodArm) (Beside Catch GoodCatch) (Beside Operand GoodOperand)

abbrev innerExpr : LayerExpr → Expr-F Assignment Choice Entry Expr Part Stmt Suffix Target Arguments Arm Catch Operand
innerExpr = map-Expr (Beside Assignment GoodAssignment) (Beside Choice GoodChoice) (Beside Entry GoodEntry) (Beside Expr GoodExpr) (Beside Part GoodPart) (Beside Stmt GoodStmt) (Beside Suffix GoodSuffix) (Beside Target GoodTarget) (Beside Arguments GoodArguments) (Beside Arm GoodArm) (Beside Catch GoodCatch) (Beside Operand GoodOperand) Assignment Choice Entry Expr Part Stmt Suffix Target Arguments Arm Catch Operand beside beside beside beside beside beside beside beside beside beside beside beside

-- Part
abbrev LayerPart : Type 0
LayerPart = Part-F (Beside Assignment GoodAssignment) (Beside Choice GoodChoice) (Beside Entry GoodEntry) (Beside Expr GoodExpr) (Beside Part GoodPart) (Beside Stmt GoodStmt) (Beside Suffix GoodSuffix) (Beside Target GoodTarget) (Beside Arguments GoodArguments) (Beside Arm GoodArm) (Beside Catch GoodCatch) (Beside Operand GoodOperand)

abbrev innerPart : LayerPart → Part-F Assignment Choice Entry Expr Part Stmt Suffix Target Arguments Arm Catch Operand
innerPart = map-Part (Beside Assignment GoodAssignment) (Beside Choice GoodChoice) (Beside Entry GoodEntry) (Beside Expr GoodExpr) (Beside Part GoodPart) (Beside Stmt GoodStmt) (Beside Suffix GoodSuffix) (Beside Target GoodTarget) (Beside Arguments GoodArguments) (Beside Arm GoodArm) (Beside Catch GoodCatch) (Beside Operand GoodOperand) Assignment Choice Entry Expr Part Stmt Suffix Target Arguments Arm Catch Operand beside beside beside beside beside beside beside beside beside beside beside beside

-- Stmt
abbrev LayerStmt : Type 0
LayerStmt = Stmt-F (Beside Assignment GoodAssignment) (Beside Choice GoodChoice) (Beside Entry GoodEntry) (Beside Expr GoodExpr) (Beside Part GoodPart) (Beside Stmt GoodStmt) (Beside Suffix GoodSuffix) (Beside Target GoodTarget) (Beside Arguments GoodArguments) (Beside Arm GoodArm) (Beside Catch GoodCatch) (Beside Operand GoodOperand)

abbrev innerStmt : LayerStmt → Stmt-F Assignment Choice Entry Expr Part Stmt Suffix Target Arguments Arm Catch Operand
innerStmt = map-Stmt (Beside Assignment GoodAssignment) (Beside Choice GoodChoice) (Beside Entry GoodEntry) (Beside Expr GoodExpr) (Beside Part GoodPart) (Beside Stmt GoodStmt) (Beside Suffix GoodSuffix) (Beside Target GoodTarget) (Beside Arguments GoodArguments) (Beside Arm GoodArm) (Beside Catch GoodCatch) (Beside Operand GoodOperand) Assignment Choice Entry Expr Part Stmt Suffix Target Arguments Arm Catch Operand beside beside beside beside beside beside beside beside beside beside beside beside

-- Suffix
abbrev LayerSuffix : Type 0
LayerSuffix = Suffix-F (Beside Assignment GoodAssignment) (Beside Choice GoodChoice) (Beside Entry GoodEntry) (Beside Expr GoodExpr) (Beside Part GoodPart) (Beside Stmt GoodStmt) (Beside Suffix GoodSuffix) (Beside Target GoodTarget) (Beside Arguments GoodArguments) (Beside Arm GoodArm) (Beside Catch GoodCatch) (Beside Operand GoodOperand)

abbrev innerSuffix : LayerSuffix → Suffix-F Assignment Choice Entry Expr Part Stmt Suffix Target Arguments Arm Catch Operand
innerSuffix = map-Suffix (Beside Assignment GoodAssignment) (Beside Choice GoodChoice) (Beside Entry GoodEntry) (Beside Expr GoodExpr) (Beside Part GoodPart) (Beside Stmt GoodStmt) (Beside Suffix GoodSuffix) (Beside Target GoodTarget) (Beside Arguments GoodArguments) (Beside Arm GoodArm) (Beside Catch GoodCatch) (Beside Operand GoodOperand) Assignment Choice Entry Expr Part Stmt Suffix Target Arguments Arm Catch Operand beside beside beside beside beside beside beside beside beside beside beside beside

-- Target
abbrev LayerTarget : Type 0
LayerTarget = Target-F (Beside Assignment GoodAssignment) (Beside Choice GoodChoice) (Beside Entry GoodEntry) (Beside Expr GoodExpr) (Beside Part GoodPart) (Beside Stmt GoodStmt) (Beside Suffix GoodSuffix) (Beside Target GoodTarget) (Beside Arguments GoodArguments) (Beside Arm GoodArm) (Beside Catch GoodCatch) (Beside Operand GoodOperand)

abbrev innerTarget : LayerTarget → Target-F Assignment Choice Entry Expr Part Stmt Suffix Target Arguments Arm Catch Operand
innerTarget = map-Target (Beside Assignment GoodAssignment) (Beside Choice GoodChoice) (Beside Entry GoodEntry) (Beside Expr GoodExpr) (Beside Part GoodPart) (Beside Stmt GoodStmt) (Beside Suffix GoodSuffix) (Beside Target GoodTarget) (Beside Arguments GoodArguments) (Beside Arm GoodArm) (Beside Catch GoodCatch) (Beside Operand GoodOperand) Assignment Choice Entry Expr Part Stmt Suffix Target Arguments Arm Catch Operand beside beside beside beside beside beside beside beside beside beside beside beside

-- Arguments
abbrev LayerArguments : Type 0
LayerArguments = Arguments-F (Beside Assignment GoodAssignment) (Beside Choice GoodChoice) (Beside Entry GoodEntry) (Beside Expr GoodExpr) (Beside Part GoodPart) (Beside Stmt GoodStmt) (Beside Suffix GoodSuffix) (Beside Target GoodTarget) (Beside Arguments GoodArguments) (Beside Arm GoodArm) (Beside Catch GoodCatch) (Beside Operand GoodOperand)

abbrev innerArguments : LayerArguments → Arguments-F Assignment Choice Entry Expr Part Stmt Suffix Target Arguments Arm Catch Operand
innerArguments = map-Arguments (Beside Assignment GoodAssignment) (Beside Choice GoodChoice) (Beside Entry GoodEntry) (Beside Expr GoodExpr) (Beside Part GoodPart) (Beside Stmt GoodStmt) (Beside Suffix GoodSuffix) (Beside Target GoodTarget) (Beside Arguments GoodArguments) (Beside Arm GoodArm) (Beside Catch GoodCatch) (Beside Operand GoodOperand) Assignment Choice Entry Expr Part Stmt Suffix Target Arguments Arm Catch Operand beside beside beside beside beside beside beside beside beside beside beside beside

-- Arm
abbrev LayerArm : Type 0
LayerArm = Arm-F (Beside Assignment GoodAssignment) (Beside Choice GoodChoice) (Beside Entry GoodEntry) (Beside Expr GoodExpr) (Beside Part GoodPart) (Beside Stmt GoodStmt) (Beside Suffix GoodSuffix) (Beside Target GoodTarget) (Beside Arguments GoodArguments) (Beside Arm GoodArm) (Beside Catch GoodCatch) (Beside Operand GoodOperand)

abbrev innerArm : LayerArm → Arm-F Assignment Choice Entry Expr Part Stmt Suffix Target Arguments Arm Catch Operand
innerArm = map-Arm (Beside Assignment GoodAssignment) (Beside Choice GoodChoice) (Beside Entry GoodEntry) (Beside Expr GoodExpr) (Beside Part GoodPart) (Beside Stmt GoodStmt) (Beside Suffix GoodSuffix) (Beside Target GoodTarget) (Beside Arguments GoodArguments) (Beside Arm GoodArm) (Beside Catch GoodCatch) (Beside Operand GoodOperand) Assignment Choice Entry Expr Part Stmt Suffix Target Arguments Arm Catch Operand beside beside beside beside beside beside beside beside beside beside beside beside

-- Catch
abbrev LayerCatch : Type 0
LayerCatch = Catch-F (Beside Assignment GoodAssignment) (Beside Choice GoodChoice) (Beside Entry GoodEntry) (Beside Expr GoodExpr) (Beside Part GoodPart) (Beside Stmt GoodStmt) (Beside Suffix GoodSuffix) (Beside Target GoodTarget) (Beside Arguments GoodArguments) (Beside Arm GoodArm) (Beside Catch GoodCatch) (Beside Operand GoodOperand)

abbrev innerCatch : LayerCatch → Catch-F Assignment Choice Entry Expr Part Stmt Suffix Target Arguments Arm Catch Operand
innerCatch = map-Catch (Beside Assignment GoodAssignment) (Beside Choice GoodChoice) (Beside Entry GoodEntry) (Beside Expr GoodExpr) (Beside Part GoodPart) (Beside Stmt GoodStmt) (Beside Suffix GoodSuffix) (Beside Target GoodTarget) (Beside Arguments GoodArguments) (Beside Arm GoodArm) (Beside Catch GoodCatch) (Beside Operand GoodOperand) Assignment Choice Entry Expr Part Stmt Suffix Target Arguments Arm Catch Operand beside beside beside beside beside beside beside beside beside beside beside beside

-- Operand
abbrev LayerOperand : Type 0
LayerOperand = Operand-F (Beside Assignment GoodAssignment) (Beside Choice GoodChoice) (Beside Entry GoodEntry) (Beside Expr GoodExpr) (Beside Part GoodPart) (Beside Stmt GoodStmt) (Beside Suffix GoodSuffix) (Beside Target GoodTarget) (Beside Arguments GoodArguments) (Beside Arm GoodArm) (Beside Catch GoodCatch) (Beside Operand GoodOperand)

abbrev innerOperand : LayerOperand → Operand-F Assignment Choice Entry Expr Part Stmt Suffix Target Arguments Arm Catch Operand
innerOperand = map-Operand (Beside Assignment GoodAssignment) (Beside Choice GoodChoice) (Beside Entry GoodEntry) (Beside Expr GoodExpr) (Beside Part GoodPart) (Beside Stmt GoodStmt) (Beside Suffix GoodSuffix) (Beside Target GoodTarget) (Beside Arguments GoodArguments) (Beside Arm GoodArm) (Beside Catch GoodCatch) (Beside Operand GoodOperand) Assignment Choice Entry Expr Part Stmt Suffix Target Arguments Arm Catch Operand beside beside beside beside beside beside beside beside beside beside beside beside

-- lists of parts
expressions : (xs : List (Beside Expr GoodExpr)) → AllAre (Is is_expression) (map expr_node (map beside xs))
expressions = all_beside GoodExpr expr_node is_expression (λ x h. h)

entries : (xs : List (Beside Entry GoodEntry)) → AllAre (Is is_entry) (map entry_node (map beside xs))
entries = all_beside GoodEntry entry_node is_entry (λ x h. h)

text_parts : (xs : List (Beside Part GoodPart)) → AllAre (Is is_text_part) (map part_node (map beside xs))
text_parts = all_beside GoodPart part_node is_text_part (λ x h. h)

choices : (xs : List (Beside Choice GoodChoice)) → AllAre (Is is_choice) (map choice_node (map beside xs))
choices = all_beside GoodChoice choice_node is_choice (λ x h. h)

suffixes : (xs : List (Beside Suffix GoodSuffix)) → AllAre (Is is_suffix) (map suffix_node (map beside xs))
suffixes = all_beside GoodSuffix suffix_node is_suffix (λ x h. h)

operands : (xs : List (Beside Operand GoodOperand)) → AllAre (Is is_operand) (map operand_node (map beside xs))
operands = all_beside GoodOperand operand_node is_operand (λ x h. h)

arms : (xs : List (Beside Arm GoodArm)) → AllAre (Is is_arm) (map arm_node (map beside xs))
arms = all_beside GoodArm arm_node is_arm (λ x h. h)

catches : (xs : List (Beside Catch GoodCatch)) → AllAre (Is is_catch) (map catch_node (map beside xs))
catches = all_beside GoodCatch catch_node is_catch (λ x h. h)

statements : (xs : List (Beside Stmt GoodStmt)) → AllAre (Is is_statement) (map stmt_node (map beside xs))
statements = all_beside GoodStmt stmt_node is_statement (λ x h. h)

signs : (ps : List Prefix) → AllAre (Is is_sign) (map prefix_node ps)
signs [] = tt
signs (p ∷ ps) = (made is_sign (form.Prefix p) [] refl row_ends, signs ps)

-- a block of statements
body_made : (ss : List (Beside Stmt GoodStmt)) → Is is_body (block (map stmt_node (map beside ss)))
body_made ss = made is_body form.Block _ refl (row_any is_statement _ (statements ss))

expression_text : (f : NodeForm) → is_expression f ≡ true → is_text_part f ≡ true
expression_text (form.PlainPart t) e = refl
expression_text f e = e

assignment_first : (f : NodeForm) → is_target_form f ≡ true → is_first_step f ≡ true
assignment_first (form.Declare x) e = refl
assignment_first f e = e

assignment_statement : (f : NodeForm) → is_target_form f ≡ true → is_statement f ≡ true
assignment_statement (form.Assign sign) e = refl
assignment_statement form.Increment e = refl
assignment_statement form.Decrement e = refl
assignment_statement f e = absurd (cc)

-- Assignment
assignment_made : (y : LayerAssignment) → Is is_target_form (assignment_step (map-Assignment Assignment Choice Entry Expr Part Stmt Suffix Target Arguments Arm Catch Operand Node Node Node Node Node Node Node Node (List Node) Node Node Node assignment_node choice_node entry_node expr_node part_node stmt_node suffix_node target_node arguments_nodes arm_node catch_node operand_node (innerAssignment y)))
assignment_made (Assignment-F.Write t o e) = made is_target_form (form.Assign o) _ refl (row_one t.1 (row_one e.1 row_ends))
assignment_made (Assignment-F.Increment t) = made is_target_form form.Increment _ refl (row_one t.1 row_ends)
assignment_made (Assignment-F.Decrement t) = made is_target_form form.Decrement _ refl (row_one t.1 row_ends)

assignment_law : (x : Assignment-F Assignment Choice Entry Expr Part Stmt Suffix Target Arguments Arm Catch Operand) (y : LayerAssignment) → innerAssignment y ≡ x → GoodAssignment (roll-Assignment x)
assignment_law x y is = subst (λ z. GoodAssignment (roll-Assignment z)) is (subst (Is is_target_form) (sym (fold-roll-Assignment Node Node Node Node Node Node Node Node (List Node) Node Node Node assignment_step choice_step entry_step expr_step part_step stmt_step suffix_step target_step arguments_step arm_step catch_step operand_step (innerAssignment y))) (assignment_made y))

-- Choice
choice_made : (y : LayerChoice) → Is is_choice (choice_step (map-Choice Assignment Choice Entry Expr Part Stmt Suffix Target Arguments Arm Catch Operand Node Node Node Node Node Node Node Node (List Node) Node Node Node assignment_node choice_node entry_node expr_node part_node stmt_node suffix_node target_node arguments_nodes arm_node catch_node operand_node (innerChoice y)))
choice_made (Choice-F.IfTrue t v) = made is_choice form.IfTrue _ refl (row_one t.1 (row_one v.1 row_ends))
choice_made (Choice-F.IfSet v) = made is_choice form.IfSet _ refl (row_one v.1 row_ends)

choice_law : (x : Choice-F Assignment Choice Entry Expr Part Stmt Suffix Target Arguments Arm Catch Operand) (y : LayerChoice) → innerChoice y ≡ x → GoodChoice (roll-Choice x)
choice_law x y is = subst (λ z. GoodChoice (roll-Choice z)) is (subst (Is is_choice) (sym (fold-roll-Choice Node Node Node Node Node Node Node Node (List Node) Node Node Node assignment_step choice_step entry_step expr_step part_step stmt_step suffix_step target_step arguments_step arm_step catch_step operand_step (innerChoice y))) (choice_made y))

-- Entry
entry_made : (y : LayerEntry) → Is is_entry (entry_step (map-Entry Assignment Choice Entry Expr Part Stmt Suffix Target Arguments Arm Catch Operand Node Node Node Node Node Node Node Node (List Node) Node Node Node assignment_node choice_node entry_node expr_node part_node stmt_node suffix_node target_node arguments_nodes arm_node catch_node operand_node (innerEntry y)))
entry_made (Entry-F.Named n e) = made is_entry (form.NamedEntry n) _ refl (row_one e.1 row_ends)
entry_made (Entry-F.Numbered v e) = made is_entry (form.NumberedEntry v) _ refl (row_one e.1 row_ends)
entry_made (Entry-F.Computed k e) = made is_entry form.ComputedEntry _ refl (row_one k.1 (row_one e.1 row_ends))

entry_law : (x : Entry-F Assignment Choice Entry Expr Part Stmt Suffix Target Arguments Arm Catch Operand) (y : LayerEntry) → innerEntry y ≡ x → GoodEntry (roll-Entry x)
entry_law x y is = subst (λ z. GoodEntry (roll-Entry z)) is (subst (Is is_entry) (sym (fold-roll-Entry Node Node Node Node Node Node Node Node (List Node) Node Node Node assignment_step choice_step entry_step expr_step part_step stmt_step suffix_step target_step arguments_step arm_step catch_step operand_step (innerEntry y))) (entry_made y))

-- Expr
expr_made : (y : LayerExpr) → Is is_expression (expr_step (map-Expr Assignment Choice Entry Expr Part Stmt Suffix Target Arguments Arm Catch Operand Node Node Node Node Node Node Node Node (List Node) Node Node Node assignment_node choice_node entry_node expr_node part_node stmt_node suffix_node target_node arguments_nodes arm_node catch_node operand_node (innerExpr y)))
expr_made (Expr-F.Number v) = made is_expression (form.Number v) _ refl row_ends
expr_made (Expr-F.Literal t) = made is_expression (form.Literal t) _ refl row_ends
expr_made (Expr-F.GString ps) = made is_expression form.GString _ refl (row_any is_text_part _ (text_parts ps))
expr_made Expr-F.True = made is_expression form.True _ refl row_ends
expr_made Expr-F.False = made is_expression form.False _ refl row_ends
expr_made Expr-F.Null = made is_expression form.Null _ refl row_ends
expr_made (Expr-F.Variable n) = made is_expression (form.Variable n) _ refl row_ends
expr_made (Expr-F.Call n args) = made is_expression (form.Call n) _ refl args.1
expr_made (Expr-F.Group e) = made is_expression form.Group _ refl (row_one e.1 row_ends)
expr_made (Expr-F.List es) = made is_expression form.List _ refl (row_any is_expression _ (expressions es))
expr_made (Expr-F.Map es) = made is_expression form.Map _ refl (row_any is_entry _ (entries es))
expr_made (Expr-F.Closure ds ss) = made is_expression (form.Closure (heads_of ds)) _ refl (row_one (body_made ss) row_ends)
expr_made (Expr-F.New c None) = made is_expression (form.New c) _ refl (row_absent row_ends)
expr_made (Expr-F.New c (Some e)) = made is_expression (form.New c) _ refl (row_present e.1 row_ends)
expr_made (Expr-F.Suffixed e ss) = made is_expression form.Suffixed _ refl (row_one e.1 (row_any is_suffix _ (suffixes ss)))
expr_made (Expr-F.Prefixed ps e) = made is_expression form.Prefixed _ refl (row_some is_sign _ _ _ (signs ps) (row_one e.1 row_ends))
expr_made (Expr-F.Joined e os) = made is_expression form.Joined _ refl (row_one e.1 (row_any is_operand _ (operands os)))
expr_made (Expr-F.And es) = made is_expression form.And _ refl (row_any is_expression _ (expressions es))
expr_made (Expr-F.Or es) = made is_expression form.Or _ refl (row_any is_expression _ (expressions es))
expr_made (Expr-F.Chosen cs e) = made is_expression form.Chosen _ refl (row_some is_choice _ _ _ (choices cs) (row_one e.1 row_ends))

expr_law : (x : Expr-F Assignment Choice Entry Expr Part Stmt Suffix Target Arguments Arm Catch Operand) (y : LayerExpr) → innerExpr y ≡ x → GoodExpr (roll-Expr x)
expr_law x y is = subst (λ z. GoodExpr (roll-Expr z)) is (subst (Is is_expression) (sym (fold-roll-Expr Node Node Node Node Node Node Node Node (List Node) Node Node Node assignment_step choice_step entry_step expr_step part_step stmt_step suffix_step target_step arguments_step arm_step catch_step operand_step (innerExpr y))) (expr_made y))

-- Part
part_made : (y : LayerPart) → Is is_text_part (part_step (map-Part Assignment Choice Entry Expr Part Stmt Suffix Target Arguments Arm Catch Operand Node Node Node Node Node Node Node Node (List Node) Node Node Node assignment_node choice_node entry_node expr_node part_node stmt_node suffix_node target_node arguments_nodes arm_node catch_node operand_node (innerPart y)))
part_made (Part-F.Plain t) = made is_text_part (form.PlainPart t) _ refl row_ends
part_made (Part-F.Inner e) = stronger is_expression is_text_part expression_text _ e.1

part_law : (x : Part-F Assignment Choice Entry Expr Part Stmt Suffix Target Arguments Arm Catch Operand) (y : LayerPart) → innerPart y ≡ x → GoodPart (roll-Part x)
part_law x y is = subst (λ z. GoodPart (roll-Part z)) is (subst (Is is_text_part) (sym (fold-roll-Part Node Node Node Node Node Node Node Node (List Node) Node Node Node assignment_step choice_step entry_step expr_step part_step stmt_step suffix_step target_step arguments_step arm_step catch_step operand_step (innerPart y))) (part_made y))

-- Stmt
stmt_made : (y : LayerStmt) → Is is_statement (stmt_step (map-Stmt Assignment Choice Entry Expr Part Stmt Suffix Target Arguments Arm Catch Operand Node Node Node Node Node Node Node Node (List Node) Node Node Node assignment_node choice_node entry_node expr_node part_node stmt_node suffix_node target_node arguments_nodes arm_node catch_node operand_node (innerStmt y)))
stmt_made (Stmt-F.If ts None) = made is_statement form.If _ refl (row_some is_arm _ _ _ (arms ts) (row_absent row_ends))
stmt_made (Stmt-F.If ts (Some ss)) = made is_statement form.If _ refl (row_some is_arm _ _ _ (arms ts) (row_present (body_made ss) row_ends))
stmt_made (Stmt-F.While e ss) = made is_statement form.While _ refl (row_one e.1 (row_one (body_made ss) row_ends))
stmt_made (Stmt-F.ForEach d e ss) = made is_statement (form.ForEach d.name) _ refl (row_one e.1 (row_one (body_made ss) row_ends))
stmt_made (Stmt-F.ForDeclared d v e u ss) = made is_statement form.ForSteps _ refl (row_one (made is_first_step (form.Declare d.name) _ refl (row_present v.1 row_ends)) (row_one e.1 (row_one u.1 (row_one (body_made ss) row_ends))))
stmt_made (Stmt-F.ForSteps i e u ss) = made is_statement form.ForSteps _ refl (row_one (stronger is_target_form is_first_step assignment_first _ i.1) (row_one e.1 (row_one u.1 (row_one (body_made ss) row_ends))))
stmt_made (Stmt-F.Try ss cs None) = made is_statement form.Try _ refl (row_one (body_made ss) (row_some is_catch _ _ _ (catches cs) (row_absent row_ends)))
stmt_made (Stmt-F.Try ss cs (Some fs)) = made is_statement form.Try _ refl (row_one (body_made ss) (row_some is_catch _ _ _ (catches cs) (row_present (made is_finally form.Finally _ refl (row_one (body_made fs) row_ends)) row_ends)))
stmt_made (Stmt-F.Declare d None) = made is_statement (form.Declare d.name) _ refl (row_absent row_ends)
stmt_made (Stmt-F.Declare d (Some e)) = made is_statement (form.Declare d.name) _ refl (row_present e.1 row_ends)
stmt_made (Stmt-F.Assign u) = stronger is_target_form is_statement assignment_statement _ u.1
stmt_made (Stmt-F.Evaluate e) = made is_statement form.Evaluate _ refl (row_one e.1 row_ends)
stmt_made (Stmt-F.Return None) = made is_statement form.Return _ refl (row_absent row_ends)
stmt_made (Stmt-F.Return (Some e)) = made is_statement form.Return _ refl (row_present e.1 row_ends)
stmt_made (Stmt-F.Break p) = made is_statement form.Break _ refl row_ends
stmt_made (Stmt-F.Continue p) = made is_statement form.Continue _ refl row_ends
stmt_made (Stmt-F.Throw e) = made is_statement form.Throw _ refl (row_one e.1 row_ends)

stmt_law : (x : Stmt-F Assignment Choice Entry Expr Part Stmt Suffix Target Arguments Arm Catch Operand) (y : LayerStmt) → innerStmt y ≡ x → GoodStmt (roll-Stmt x)
stmt_law x y is = subst (λ z. GoodStmt (roll-Stmt z)) is (subst (Is is_statement) (sym (fold-roll-Stmt Node Node Node Node Node Node Node Node (List Node) Node Node Node assignment_step choice_step entry_step expr_step part_step stmt_step suffix_step target_step arguments_step arm_step catch_step operand_step (innerStmt y))) (stmt_made y))

-- Suffix
suffix_made : (y : LayerSuffix) → Is is_suffix (suffix_step (map-Suffix Assignment Choice Entry Expr Part Stmt Suffix Target Arguments Arm Catch Operand Node Node Node Node Node Node Node Node (List Node) Node Node Node assignment_node choice_node entry_node expr_node part_node stmt_node suffix_node target_node arguments_nodes arm_node catch_node operand_node (innerSuffix y)))
suffix_made (Suffix-F.Property d n) = made is_suffix (form.Property d n) _ refl row_ends
suffix_made (Suffix-F.Method d n args) = made is_suffix (form.Method d n) _ refl args.1
suffix_made (Suffix-F.Index e) = made is_suffix form.Index _ refl (row_one e.1 row_ends)

suffix_law : (x : Suffix-F Assignment Choice Entry Expr Part Stmt Suffix Target Arguments Arm Catch Operand) (y : LayerSuffix) → innerSuffix y ≡ x → GoodSuffix (roll-Suffix x)
suffix_law x y is = subst (λ z. GoodSuffix (roll-Suffix z)) is (subst (Is is_suffix) (sym (fold-roll-Suffix Node Node Node Node Node Node Node Node (List Node) Node Node Node assignment_step choice_step entry_step expr_step part_step stmt_step suffix_step target_step arguments_step arm_step catch_step operand_step (innerSuffix y))) (suffix_made y))

-- Target
target_made : (y : LayerTarget) → Is is_target (target_step (map-Target Assignment Choice Entry Expr Part Stmt Suffix Target Arguments Arm Catch Operand Node Node Node Node Node Node Node Node (List Node) Node Node Node assignment_node choice_node entry_node expr_node part_node stmt_node suffix_node target_node arguments_nodes arm_node catch_node operand_node (innerTarget y)))
target_made (Target-F.ToName n) = made is_target (form.ToName n) _ refl row_ends
target_made (Target-F.ToProperty e n) = made is_target (form.ToProperty n) _ refl (row_one e.1 row_ends)
target_made (Target-F.ToIndex e i) = made is_target form.ToIndex _ refl (row_one e.1 (row_one i.1 row_ends))

target_law : (x : Target-F Assignment Choice Entry Expr Part Stmt Suffix Target Arguments Arm Catch Operand) (y : LayerTarget) → innerTarget y ≡ x → GoodTarget (roll-Target x)
target_law x y is = subst (λ z. GoodTarget (roll-Target z)) is (subst (Is is_target) (sym (fold-roll-Target Node Node Node Node Node Node Node Node (List Node) Node Node Node assignment_step choice_step entry_step expr_step part_step stmt_step suffix_step target_step arguments_step arm_step catch_step operand_step (innerTarget y))) (target_made y))

-- Arguments
arguments_made : (y : LayerArguments) → Row (Any_number is_entry ∷ Any_number is_expression ∷ []) (arguments_step (map-Arguments Assignment Choice Entry Expr Part Stmt Suffix Target Arguments Arm Catch Operand Node Node Node Node Node Node Node Node (List Node) Node Node Node assignment_node choice_node entry_node expr_node part_node stmt_node suffix_node target_node arguments_nodes arm_node catch_node operand_node (innerArguments y)))
arguments_made args = row_some is_entry _ _ _ (entries args.named) (row_any is_expression _ (expressions args.ordered))

arguments_law : (x : Arguments-F Assignment Choice Entry Expr Part Stmt Suffix Target Arguments Arm Catch Operand) (y : LayerArguments) → innerArguments y ≡ x → GoodArguments (roll-Arguments x)
arguments_law x y is = subst (λ z. GoodArguments (roll-Arguments z)) is (subst (Row (Any_number is_entry ∷ Any_number is_expression ∷ [])) (sym (fold-roll-Arguments Node Node Node Node Node Node Node Node (List Node) Node Node Node assignment_step choice_step entry_step expr_step part_step stmt_step suffix_step target_step arguments_step arm_step catch_step operand_step (innerArguments y))) (arguments_made y))

-- Arm
arm_made : (y : LayerArm) → Is is_arm (arm_step (map-Arm Assignment Choice Entry Expr Part Stmt Suffix Target Arguments Arm Catch Operand Node Node Node Node Node Node Node Node (List Node) Node Node Node assignment_node choice_node entry_node expr_node part_node stmt_node suffix_node target_node arguments_nodes arm_node catch_node operand_node (innerArm y)))
arm_made t = made is_arm form.Arm _ refl (row_one (t.test).1 (row_one (body_made t.body) row_ends))

arm_law : (x : Arm-F Assignment Choice Entry Expr Part Stmt Suffix Target Arguments Arm Catch Operand) (y : LayerArm) → innerArm y ≡ x → GoodArm (roll-Arm x)
arm_law x y is = subst (λ z. GoodArm (roll-Arm z)) is (subst (Is is_arm) (sym (fold-roll-Arm Node Node Node Node Node Node Node Node (List Node) Node Node Node assignment_step choice_step entry_step expr_step part_step stmt_step suffix_step target_step arguments_step arm_step catch_step operand_step (innerArm y))) (arm_made y))

-- Catch
catch_made : (y : LayerCatch) → Is is_catch (catch_step (map-Catch Assignment Choice Entry Expr Part Stmt Suffix Target Arguments Arm Catch Operand Node Node Node Node Node Node Node Node (List Node) Node Node Node assignment_node choice_node entry_node expr_node part_node stmt_node suffix_node target_node arguments_nodes arm_node catch_node operand_node (innerCatch y)))
catch_made c = made is_catch (form.Catch c.caught c.name.name) _ refl (row_one (body_made c.body) row_ends)

catch_law : (x : Catch-F Assignment Choice Entry Expr Part Stmt Suffix Target Arguments Arm Catch Operand) (y : LayerCatch) → innerCatch y ≡ x → GoodCatch (roll-Catch x)
catch_law x y is = subst (λ z. GoodCatch (roll-Catch z)) is (subst (Is is_catch) (sym (fold-roll-Catch Node Node Node Node Node Node Node Node (List Node) Node Node Node assignment_step choice_step entry_step expr_step part_step stmt_step suffix_step target_step arguments_step arm_step catch_step operand_step (innerCatch y))) (catch_made y))

-- Operand
operand_made : (y : LayerOperand) → Is is_operand (operand_step (map-Operand Assignment Choice Entry Expr Part Stmt Suffix Target Arguments Arm Catch Operand Node Node Node Node Node Node Node Node (List Node) Node Node Node assignment_node choice_node entry_node expr_node part_node stmt_node suffix_node target_node arguments_nodes arm_node catch_node operand_node (innerOperand y)))
operand_made o = made is_operand (form.Operand o.operator) _ refl (row_one (o.value).1 row_ends)

operand_law : (x : Operand-F Assignment Choice Entry Expr Part Stmt Suffix Target Arguments Arm Catch Operand) (y : LayerOperand) → innerOperand y ≡ x → GoodOperand (roll-Operand x)
operand_law x y is = subst (λ z. GoodOperand (roll-Operand z)) is (subst (Is is_operand) (sym (fold-roll-Operand Node Node Node Node Node Node Node Node (List Node) Node Node Node assignment_step choice_step entry_step expr_step part_step stmt_step suffix_step target_step arguments_step arm_step catch_step operand_step (innerOperand y))) (operand_made y))

-- statements, and so all parts
pub statement_parts : (s : Stmt) → GoodStmt s
statement_parts = ind-Stmt GoodAssignment GoodChoice GoodEntry GoodExpr GoodPart GoodStmt GoodSuffix GoodTarget GoodArguments GoodArm GoodCatch GoodOperand assignment_law choice_law entry_law expr_law part_law stmt_law suffix_law target_law arguments_law arm_law catch_law operand_law

all_statements : (ss : List Stmt) → AllAre (Is is_statement) (map stmt_node ss)
all_statements [] = tt
all_statements (s ∷ ss) = (statement_parts s, all_statements ss)

function_parts : (f : Function) → Is is_top (function_node f)
function_parts f = made is_top (form.Function f.name.name (names_of f.parameters)) _ refl (row_one (made is_body form.Block _ refl (row_any is_statement _ (all_statements f.body))) row_ends)

statement_top : (f : NodeForm) → is_statement f ≡ true → is_top f ≡ true
statement_top (form.Function x names) e = refl
statement_top f e = e

top_parts : (t : Top) → Is is_top (top_node t)
top_parts (top.Function f) = function_parts f
top_parts (top.Statement p s) = stronger is_statement is_top statement_top _ (statement_parts s)

all_tops : (ts : List Top) → AllAre (Is is_top) (map top_node ts)
all_tops [] = tt
all_tops (t ∷ ts) = (top_parts t, all_tops ts)

-- Every node of a tree has the parts that its form asks for, and no others.
pub tree_parts : (tree : Tree) → WellFormed (tree_node tree)
tree_parts tree = ((row_any is_top _ (all_tops tree.tops)).stand, (row_any is_top _ (all_tops tree.tops)).whole)
