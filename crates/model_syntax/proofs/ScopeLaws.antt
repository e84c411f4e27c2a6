-- The marks of each rule, one equation for each kind of a tree.
use Rattle.std.proofs.Common.{◌≡◌, ℕ, List, Option, Some, None, map, ℤ, sym, ap, ◌∙◌}
use Rattle.std.specs.Prelude.{option_map}
use Rattle.model_syntax.specs.declared.place.Place.{Place}
use Rattle.model_syntax.specs.declared.place.Declared.{Declared}
use Rattle.model_syntax.specs.declared.tree.Access.{Access}
use Rattle.model_syntax.specs.declared.tree.AssignSign.{AssignSign}
use Rattle.model_syntax.specs.declared.tree.Caught.{Caught}
use Rattle.model_syntax.specs.declared.tree.NewClass.{NewClass}
use Rattle.model_syntax.specs.declared.tree.Operator.{Operator}
use Rattle.model_syntax.specs.declared.tree.Prefix.{Prefix}
use Rattle.model_syntax.specs.declared.tree.Assignment.{Assignment, Assignment-F, fold-roll-Assignment}
use Rattle.model_syntax.specs.declared.tree.Assignment.TheVariants as assignment
use Rattle.model_syntax.specs.declared.tree.Choice.{Choice, Choice-F, fold-roll-Choice}
use Rattle.model_syntax.specs.declared.tree.Choice.TheVariants as choice
use Rattle.model_syntax.specs.declared.tree.Entry.{Entry, Entry-F, fold-roll-Entry}
use Rattle.model_syntax.specs.declared.tree.Entry.TheVariants as entry
use Rattle.model_syntax.specs.declared.tree.Expr.{Expr, Expr-F, fold-roll-Expr}
use Rattle.model_syntax.specs.declared.tree.Expr.TheVariants as expr
use Rattle.model_syntax.specs.declared.tree.Part.{Part, Part-F, fold-roll-Part}
use Rattle.model_syntax.specs.declared.tree.Part.TheVariants as part
use Rattle.model_syntax.specs.declared.tree.Stmt.{Stmt, Stmt-F, fold-roll-Stmt}
use Rattle.model_syntax.specs.declared.tree.Stmt.TheVariants as stmt
use Rattle.model_syntax.specs.declared.tree.Suffix.{Suffix, Suffix-F, fold-roll-Suffix}
use Rattle.model_syntax.specs.declared.tree.Suffix.TheVariants as suffix
use Rattle.model_syntax.specs.declared.tree.Target.{Target, Target-F, fold-roll-Target}
use Rattle.model_syntax.specs.declared.tree.Target.TheVariants as target
use Rattle.model_syntax.specs.declared.tree.Arguments.{Arguments, fold-roll-Arguments, rolls-Arguments'}
use Rattle.model_syntax.specs.declared.tree.Arm.{Arm, fold-roll-Arm, rolls-Arm'}
use Rattle.model_syntax.specs.declared.tree.Catch.{Catch, fold-roll-Catch, rolls-Catch'}
use Rattle.model_syntax.specs.declared.tree.Operand.{Operand, fold-roll-Operand, rolls-Operand'}
use Rattle.model_syntax.specs.Scopes.{assignment_step, choice_step, entry_step, expr_step, part_step, stmt_step, suffix_step, target_step, arguments_step, arm_step, catch_step, operand_step, assignment_marks, choice_marks, entry_marks, expr_marks, part_marks, stmt_marks, suffix_marks, target_marks, arguments_marks, arm_marks, catch_marks, operand_marks, Marks}

pub assignment-Write : (t : Target) (o : AssignSign) (e : Expr) → assignment_marks (assignment.Write t o e) ≡ assignment_step (Assignment-F.Write (target_marks t) o (expr_marks e))
assignment-Write t o e = ap assignment_marks (sym (assignment.rolls-Write t o e)) ∙ fold-roll-Assignment Marks Marks Marks Marks Marks Marks Marks Marks Marks Marks Marks Marks assignment_step choice_step entry_step expr_step part_step stmt_step suffix_step target_step arguments_step arm_step catch_step operand_step (Assignment-F.Write t o e)

pub assignment-Increment : (t : Target) → assignment_marks (assignment.Increment t) ≡ assignment_step (Assignment-F.Increment (target_marks t))
assignment-Increment t = ap assignment_marks (sym (assignment.rolls-Increment t)) ∙ fold-roll-Assignment Marks Marks Marks Marks Marks Marks Marks Marks Marks Marks Marks Marks assignment_step choice_step entry_step expr_step part_step stmt_step suffix_step target_step arguments_step arm_step catch_step operand_step (Assignment-F.Increment t)

pub assignment-Decrement : (t : Target) → assignment_marks (assignment.Decrement t) ≡ assignment_step (Assignment-F.Decrement (target_marks t))
assignment-Decrement t = ap assignment_marks (sym (assignment.rolls-Decrement t)) ∙ fold-roll-Assignment Marks Marks Marks Marks Marks Marks Marks Marks Marks Marks Marks Marks assignment_step choice_step entry_step expr_step part_step stmt_step suffix_step target_step arguments_step arm_step catch_step operand_step (Assignment-F.Decrement t)

pub choice-IfTrue : (t : Expr) (v : Expr) → choice_marks (choice.IfTrue t v) ≡ choice_step (Choice-F.IfTrue (expr_marks t) (expr_marks v))
choice-IfTrue t v = ap choice_marks (sym (choice.rolls-IfTrue t v)) ∙ fold-roll-Choice Marks Marks Marks Marks Marks Marks Marks Marks Marks Marks Marks Marks assignment_step choice_step entry_step expr_step part_step stmt_step suffix_step target_step arguments_step arm_step catch_step operand_step (Choice-F.IfTrue t v)

pub choice-IfSet : (v : Expr) → choice_marks (choice.IfSet v) ≡ choice_step (Choice-F.IfSet (expr_marks v))
choice-IfSet v = ap choice_marks (sym (choice.rolls-IfSet v)) ∙ fold-roll-Choice Marks Marks Marks Marks Marks Marks Marks Marks Marks Marks Marks Marks assignment_step choice_step entry_step expr_step part_step stmt_step suffix_step target_step arguments_step arm_step catch_step operand_step (Choice-F.IfSet v)

pub entry-Named : (n : List ℕ) (e : Expr) → entry_marks (entry.Named n e) ≡ entry_step (Entry-F.Named n (expr_marks e))
entry-Named n e = ap entry_marks (sym (entry.rolls-Named n e)) ∙ fold-roll-Entry Marks Marks Marks Marks Marks Marks Marks Marks Marks Marks Marks Marks assignment_step choice_step entry_step expr_step part_step stmt_step suffix_step target_step arguments_step arm_step catch_step operand_step (Entry-F.Named n e)

pub entry-Numbered : (v : ℤ) (e : Expr) → entry_marks (entry.Numbered v e) ≡ entry_step (Entry-F.Numbered v (expr_marks e))
entry-Numbered v e = ap entry_marks (sym (entry.rolls-Numbered v e)) ∙ fold-roll-Entry Marks Marks Marks Marks Marks Marks Marks Marks Marks Marks Marks Marks assignment_step choice_step entry_step expr_step part_step stmt_step suffix_step target_step arguments_step arm_step catch_step operand_step (Entry-F.Numbered v e)

pub entry-Computed : (k : Expr) (e : Expr) → entry_marks (entry.Computed k e) ≡ entry_step (Entry-F.Computed (expr_marks k) (expr_marks e))
entry-Computed k e = ap entry_marks (sym (entry.rolls-Computed k e)) ∙ fold-roll-Entry Marks Marks Marks Marks Marks Marks Marks Marks Marks Marks Marks Marks assignment_step choice_step entry_step expr_step part_step stmt_step suffix_step target_step arguments_step arm_step catch_step operand_step (Entry-F.Computed k e)

pub expr-Number : (v : ℤ) → expr_marks (expr.Number v) ≡ expr_step (Expr-F.Number v)
expr-Number v = ap expr_marks (sym (expr.rolls-Number v)) ∙ fold-roll-Expr Marks Marks Marks Marks Marks Marks Marks Marks Marks Marks Marks Marks assignment_step choice_step entry_step expr_step part_step stmt_step suffix_step target_step arguments_step arm_step catch_step operand_step (Expr-F.Number v)

pub expr-Literal : (t : List ℕ) → expr_marks (expr.Literal t) ≡ expr_step (Expr-F.Literal t)
expr-Literal t = ap expr_marks (sym (expr.rolls-Literal t)) ∙ fold-roll-Expr Marks Marks Marks Marks Marks Marks Marks Marks Marks Marks Marks Marks assignment_step choice_step entry_step expr_step part_step stmt_step suffix_step target_step arguments_step arm_step catch_step operand_step (Expr-F.Literal t)

pub expr-GString : (ps : List Part) → expr_marks (expr.GString ps) ≡ expr_step (Expr-F.GString (map part_marks ps))
expr-GString ps = ap expr_marks (sym (expr.rolls-GString ps)) ∙ fold-roll-Expr Marks Marks Marks Marks Marks Marks Marks Marks Marks Marks Marks Marks assignment_step choice_step entry_step expr_step part_step stmt_step suffix_step target_step arguments_step arm_step catch_step operand_step (Expr-F.GString ps)

pub expr-True : expr_marks expr.True ≡ expr_step Expr-F.True
expr-True = ap expr_marks (sym expr.rolls-True) ∙ fold-roll-Expr Marks Marks Marks Marks Marks Marks Marks Marks Marks Marks Marks Marks assignment_step choice_step entry_step expr_step part_step stmt_step suffix_step target_step arguments_step arm_step catch_step operand_step Expr-F.True

pub expr-False : expr_marks expr.False ≡ expr_step Expr-F.False
expr-False = ap expr_marks (sym expr.rolls-False) ∙ fold-roll-Expr Marks Marks Marks Marks Marks Marks Marks Marks Marks Marks Marks Marks assignment_step choice_step entry_step expr_step part_step stmt_step suffix_step target_step arguments_step arm_step catch_step operand_step Expr-F.False

pub expr-Null : expr_marks expr.Null ≡ expr_step Expr-F.Null
expr-Null = ap expr_marks (sym expr.rolls-Null) ∙ fold-roll-Expr Marks Marks Marks Marks Marks Marks Marks Marks Marks Marks Marks Marks assignment_step choice_step entry_step expr_step part_step stmt_step suffix_step target_step arguments_step arm_step catch_step operand_step Expr-F.Null

pub expr-Variable : (n : List ℕ) → expr_marks (expr.Variable n) ≡ expr_step (Expr-F.Variable n)
expr-Variable n = ap expr_marks (sym (expr.rolls-Variable n)) ∙ fold-roll-Expr Marks Marks Marks Marks Marks Marks Marks Marks Marks Marks Marks Marks assignment_step choice_step entry_step expr_step part_step stmt_step suffix_step target_step arguments_step arm_step catch_step operand_step (Expr-F.Variable n)

pub expr-Call : (n : List ℕ) (args : Arguments) → expr_marks (expr.Call n args) ≡ expr_step (Expr-F.Call n (arguments_marks args))
expr-Call n args = ap expr_marks (sym (expr.rolls-Call n args)) ∙ fold-roll-Expr Marks Marks Marks Marks Marks Marks Marks Marks Marks Marks Marks Marks assignment_step choice_step entry_step expr_step part_step stmt_step suffix_step target_step arguments_step arm_step catch_step operand_step (Expr-F.Call n args)

pub expr-Group : (e : Expr) → expr_marks (expr.Group e) ≡ expr_step (Expr-F.Group (expr_marks e))
expr-Group e = ap expr_marks (sym (expr.rolls-Group e)) ∙ fold-roll-Expr Marks Marks Marks Marks Marks Marks Marks Marks Marks Marks Marks Marks assignment_step choice_step entry_step expr_step part_step stmt_step suffix_step target_step arguments_step arm_step catch_step operand_step (Expr-F.Group e)

pub expr-List : (es : List Expr) → expr_marks (expr.List es) ≡ expr_step (Expr-F.List (map expr_marks es))
expr-List es = ap expr_marks (sym (expr.rolls-List es)) ∙ fold-roll-Expr Marks Marks Marks Marks Marks Marks Marks Marks Marks Marks Marks Marks assignment_step choice_step entry_step expr_step part_step stmt_step suffix_step target_step arguments_step arm_step catch_step operand_step (Expr-F.List es)

pub expr-Map : (es : List Entry) → expr_marks (expr.Map es) ≡ expr_step (Expr-F.Map (map entry_marks es))
expr-Map es = ap expr_marks (sym (expr.rolls-Map es)) ∙ fold-roll-Expr Marks Marks Marks Marks Marks Marks Marks Marks Marks Marks Marks Marks assignment_step choice_step entry_step expr_step part_step stmt_step suffix_step target_step arguments_step arm_step catch_step operand_step (Expr-F.Map es)

pub expr-Closure : (ds : Option (List Declared)) (ss : List Stmt) → expr_marks (expr.Closure ds ss) ≡ expr_step (Expr-F.Closure ds (map stmt_marks ss))
expr-Closure ds ss = ap expr_marks (sym (expr.rolls-Closure ds ss)) ∙ fold-roll-Expr Marks Marks Marks Marks Marks Marks Marks Marks Marks Marks Marks Marks assignment_step choice_step entry_step expr_step part_step stmt_step suffix_step target_step arguments_step arm_step catch_step operand_step (Expr-F.Closure ds ss)

pub expr-New : (c : NewClass) (e : Option Expr) → expr_marks (expr.New c e) ≡ expr_step (Expr-F.New c (option_map expr_marks e))
expr-New c None = ap expr_marks (sym (expr.rolls-New c None)) ∙ fold-roll-Expr Marks Marks Marks Marks Marks Marks Marks Marks Marks Marks Marks Marks assignment_step choice_step entry_step expr_step part_step stmt_step suffix_step target_step arguments_step arm_step catch_step operand_step (Expr-F.New c None)
expr-New c (Some x) = ap expr_marks (sym (expr.rolls-New c (Some x))) ∙ fold-roll-Expr Marks Marks Marks Marks Marks Marks Marks Marks Marks Marks Marks Marks assignment_step choice_step entry_step expr_step part_step stmt_step suffix_step target_step arguments_step arm_step catch_step operand_step (Expr-F.New c (Some x))

pub expr-Suffixed : (e : Expr) (ss : List Suffix) → expr_marks (expr.Suffixed e ss) ≡ expr_step (Expr-F.Suffixed (expr_marks e) (map suffix_marks ss))
expr-Suffixed e ss = ap expr_marks (sym (expr.rolls-Suffixed e ss)) ∙ fold-roll-Expr Marks Marks Marks Marks Marks Marks Marks Marks Marks Marks Marks Marks assignment_step choice_step entry_step expr_step part_step stmt_step suffix_step target_step arguments_step arm_step catch_step operand_step (Expr-F.Suffixed e ss)

pub expr-Prefixed : (ps : List Prefix) (e : Expr) → expr_marks (expr.Prefixed ps e) ≡ expr_step (Expr-F.Prefixed ps (expr_marks e))
expr-Prefixed ps e = ap expr_marks (sym (expr.rolls-Prefixed ps e)) ∙ fold-roll-Expr Marks Marks Marks Marks Marks Marks Marks Marks Marks Marks Marks Marks assignment_step choice_step entry_step expr_step part_step stmt_step suffix_step target_step arguments_step arm_step catch_step operand_step (Expr-F.Prefixed ps e)

pub expr-Joined : (e : Expr) (os : List Operand) → expr_marks (expr.Joined e os) ≡ expr_step (Expr-F.Joined (expr_marks e) (map operand_marks os))
expr-Joined e os = ap expr_marks (sym (expr.rolls-Joined e os)) ∙ fold-roll-Expr Marks Marks Marks Marks Marks Marks Marks Marks Marks Marks Marks Marks assignment_step choice_step entry_step expr_step part_step stmt_step suffix_step target_step arguments_step arm_step catch_step operand_step (Expr-F.Joined e os)

pub expr-And : (es : List Expr) → expr_marks (expr.And es) ≡ expr_step (Expr-F.And (map expr_marks es))
expr-And es = ap expr_marks (sym (expr.rolls-And es)) ∙ fold-roll-Expr Marks Marks Marks Marks Marks Marks Marks Marks Marks Marks Marks Marks assignment_step choice_step entry_step expr_step part_step stmt_step suffix_step target_step arguments_step arm_step catch_step operand_step (Expr-F.And es)

pub expr-Or : (es : List Expr) → expr_marks (expr.Or es) ≡ expr_step (Expr-F.Or (map expr_marks es))
expr-Or es = ap expr_marks (sym (expr.rolls-Or es)) ∙ fold-roll-Expr Marks Marks Marks Marks Marks Marks Marks Marks Marks Marks Marks Marks assignment_step choice_step entry_step expr_step part_step stmt_step suffix_step target_step arguments_step arm_step catch_step operand_step (Expr-F.Or es)

pub expr-Chosen : (cs : List Choice) (e : Expr) → expr_marks (expr.Chosen cs e) ≡ expr_step (Expr-F.Chosen (map choice_marks cs) (expr_marks e))
expr-Chosen cs e = ap expr_marks (sym (expr.rolls-Chosen cs e)) ∙ fold-roll-Expr Marks Marks Marks Marks Marks Marks Marks Marks Marks Marks Marks Marks assignment_step choice_step entry_step expr_step part_step stmt_step suffix_step target_step arguments_step arm_step catch_step operand_step (Expr-F.Chosen cs e)

pub part-Plain : (t : List ℕ) → part_marks (part.Plain t) ≡ part_step (Part-F.Plain t)
part-Plain t = ap part_marks (sym (part.rolls-Plain t)) ∙ fold-roll-Part Marks Marks Marks Marks Marks Marks Marks Marks Marks Marks Marks Marks assignment_step choice_step entry_step expr_step part_step stmt_step suffix_step target_step arguments_step arm_step catch_step operand_step (Part-F.Plain t)

pub part-Inner : (e : Expr) → part_marks (part.Inner e) ≡ part_step (Part-F.Inner (expr_marks e))
part-Inner e = ap part_marks (sym (part.rolls-Inner e)) ∙ fold-roll-Part Marks Marks Marks Marks Marks Marks Marks Marks Marks Marks Marks Marks assignment_step choice_step entry_step expr_step part_step stmt_step suffix_step target_step arguments_step arm_step catch_step operand_step (Part-F.Inner e)

pub stmt-If : (ts : List Arm) (o : Option (List Stmt)) → stmt_marks (stmt.If ts o) ≡ stmt_step (Stmt-F.If (map arm_marks ts) (option_map (map stmt_marks) o))
stmt-If ts None = ap stmt_marks (sym (stmt.rolls-If ts None)) ∙ fold-roll-Stmt Marks Marks Marks Marks Marks Marks Marks Marks Marks Marks Marks Marks assignment_step choice_step entry_step expr_step part_step stmt_step suffix_step target_step arguments_step arm_step catch_step operand_step (Stmt-F.If ts None)
stmt-If ts (Some x) = ap stmt_marks (sym (stmt.rolls-If ts (Some x))) ∙ fold-roll-Stmt Marks Marks Marks Marks Marks Marks Marks Marks Marks Marks Marks Marks assignment_step choice_step entry_step expr_step part_step stmt_step suffix_step target_step arguments_step arm_step catch_step operand_step (Stmt-F.If ts (Some x))

pub stmt-While : (e : Expr) (ss : List Stmt) → stmt_marks (stmt.While e ss) ≡ stmt_step (Stmt-F.While (expr_marks e) (map stmt_marks ss))
stmt-While e ss = ap stmt_marks (sym (stmt.rolls-While e ss)) ∙ fold-roll-Stmt Marks Marks Marks Marks Marks Marks Marks Marks Marks Marks Marks Marks assignment_step choice_step entry_step expr_step part_step stmt_step suffix_step target_step arguments_step arm_step catch_step operand_step (Stmt-F.While e ss)

pub stmt-ForEach : (d : Declared) (e : Expr) (ss : List Stmt) → stmt_marks (stmt.ForEach d e ss) ≡ stmt_step (Stmt-F.ForEach d (expr_marks e) (map stmt_marks ss))
stmt-ForEach d e ss = ap stmt_marks (sym (stmt.rolls-ForEach d e ss)) ∙ fold-roll-Stmt Marks Marks Marks Marks Marks Marks Marks Marks Marks Marks Marks Marks assignment_step choice_step entry_step expr_step part_step stmt_step suffix_step target_step arguments_step arm_step catch_step operand_step (Stmt-F.ForEach d e ss)

pub stmt-ForDeclared : (d : Declared) (v e : Expr) (u : Assignment) (ss : List Stmt) → stmt_marks (stmt.ForDeclared d v e u ss) ≡ stmt_step (Stmt-F.ForDeclared d (expr_marks v) (expr_marks e) (assignment_marks u) (map stmt_marks ss))
stmt-ForDeclared d v e u ss = ap stmt_marks (sym (stmt.rolls-ForDeclared d v e u ss)) ∙ fold-roll-Stmt Marks Marks Marks Marks Marks Marks Marks Marks Marks Marks Marks Marks assignment_step choice_step entry_step expr_step part_step stmt_step suffix_step target_step arguments_step arm_step catch_step operand_step (Stmt-F.ForDeclared d v e u ss)

pub stmt-ForSteps : (i : Assignment) (e : Expr) (u : Assignment) (ss : List Stmt) → stmt_marks (stmt.ForSteps i e u ss) ≡ stmt_step (Stmt-F.ForSteps (assignment_marks i) (expr_marks e) (assignment_marks u) (map stmt_marks ss))
stmt-ForSteps i e u ss = ap stmt_marks (sym (stmt.rolls-ForSteps i e u ss)) ∙ fold-roll-Stmt Marks Marks Marks Marks Marks Marks Marks Marks Marks Marks Marks Marks assignment_step choice_step entry_step expr_step part_step stmt_step suffix_step target_step arguments_step arm_step catch_step operand_step (Stmt-F.ForSteps i e u ss)

pub stmt-Try : (ss : List Stmt) (cs : List Catch) (o : Option (List Stmt)) → stmt_marks (stmt.Try ss cs o) ≡ stmt_step (Stmt-F.Try (map stmt_marks ss) (map catch_marks cs) (option_map (map stmt_marks) o))
stmt-Try ss cs None = ap stmt_marks (sym (stmt.rolls-Try ss cs None)) ∙ fold-roll-Stmt Marks Marks Marks Marks Marks Marks Marks Marks Marks Marks Marks Marks assignment_step choice_step entry_step expr_step part_step stmt_step suffix_step target_step arguments_step arm_step catch_step operand_step (Stmt-F.Try ss cs None)
stmt-Try ss cs (Some x) = ap stmt_marks (sym (stmt.rolls-Try ss cs (Some x))) ∙ fold-roll-Stmt Marks Marks Marks Marks Marks Marks Marks Marks Marks Marks Marks Marks assignment_step choice_step entry_step expr_step part_step stmt_step suffix_step target_step arguments_step arm_step catch_step operand_step (Stmt-F.Try ss cs (Some x))

pub stmt-Declare : (d : Declared) (e : Option Expr) → stmt_marks (stmt.Declare d e) ≡ stmt_step (Stmt-F.Declare d (option_map expr_marks e))
stmt-Declare d None = ap stmt_marks (sym (stmt.rolls-Declare d None)) ∙ fold-roll-Stmt Marks Marks Marks Marks Marks Marks Marks Marks Marks Marks Marks Marks assignment_step choice_step entry_step expr_step part_step stmt_step suffix_step target_step arguments_step arm_step catch_step operand_step (Stmt-F.Declare d None)
stmt-Declare d (Some x) = ap stmt_marks (sym (stmt.rolls-Declare d (Some x))) ∙ fold-roll-Stmt Marks Marks Marks Marks Marks Marks Marks Marks Marks Marks Marks Marks assignment_step choice_step entry_step expr_step part_step stmt_step suffix_step target_step arguments_step arm_step catch_step operand_step (Stmt-F.Declare d (Some x))

pub stmt-Assign : (u : Assignment) → stmt_marks (stmt.Assign u) ≡ stmt_step (Stmt-F.Assign (assignment_marks u))
stmt-Assign u = ap stmt_marks (sym (stmt.rolls-Assign u)) ∙ fold-roll-Stmt Marks Marks Marks Marks Marks Marks Marks Marks Marks Marks Marks Marks assignment_step choice_step entry_step expr_step part_step stmt_step suffix_step target_step arguments_step arm_step catch_step operand_step (Stmt-F.Assign u)

pub stmt-Evaluate : (e : Expr) → stmt_marks (stmt.Evaluate e) ≡ stmt_step (Stmt-F.Evaluate (expr_marks e))
stmt-Evaluate e = ap stmt_marks (sym (stmt.rolls-Evaluate e)) ∙ fold-roll-Stmt Marks Marks Marks Marks Marks Marks Marks Marks Marks Marks Marks Marks assignment_step choice_step entry_step expr_step part_step stmt_step suffix_step target_step arguments_step arm_step catch_step operand_step (Stmt-F.Evaluate e)

pub stmt-Return : (e : Option Expr) → stmt_marks (stmt.Return e) ≡ stmt_step (Stmt-F.Return (option_map expr_marks e))
stmt-Return None = ap stmt_marks (sym (stmt.rolls-Return None)) ∙ fold-roll-Stmt Marks Marks Marks Marks Marks Marks Marks Marks Marks Marks Marks Marks assignment_step choice_step entry_step expr_step part_step stmt_step suffix_step target_step arguments_step arm_step catch_step operand_step (Stmt-F.Return None)
stmt-Return (Some x) = ap stmt_marks (sym (stmt.rolls-Return (Some x))) ∙ fold-roll-Stmt Marks Marks Marks Marks Marks Marks Marks Marks Marks Marks Marks Marks assignment_step choice_step entry_step expr_step part_step stmt_step suffix_step target_step arguments_step arm_step catch_step operand_step (Stmt-F.Return (Some x))

pub stmt-Break : (p : Place) → stmt_marks (stmt.Break p) ≡ stmt_step (Stmt-F.Break p)
stmt-Break p = ap stmt_marks (sym (stmt.rolls-Break p)) ∙ fold-roll-Stmt Marks Marks Marks Marks Marks Marks Marks Marks Marks Marks Marks Marks assignment_step choice_step entry_step expr_step part_step stmt_step suffix_step target_step arguments_step arm_step catch_step operand_step (Stmt-F.Break p)

pub stmt-Continue : (p : Place) → stmt_marks (stmt.Continue p) ≡ stmt_step (Stmt-F.Continue p)
stmt-Continue p = ap stmt_marks (sym (stmt.rolls-Continue p)) ∙ fold-roll-Stmt Marks Marks Marks Marks Marks Marks Marks Marks Marks Marks Marks Marks assignment_step choice_step entry_step expr_step part_step stmt_step suffix_step target_step arguments_step arm_step catch_step operand_step (Stmt-F.Continue p)

pub stmt-Throw : (e : Expr) → stmt_marks (stmt.Throw e) ≡ stmt_step (Stmt-F.Throw (expr_marks e))
stmt-Throw e = ap stmt_marks (sym (stmt.rolls-Throw e)) ∙ fold-roll-Stmt Marks Marks Marks Marks Marks Marks Marks Marks Marks Marks Marks Marks assignment_step choice_step entry_step expr_step part_step stmt_step suffix_step target_step arguments_step arm_step catch_step operand_step (Stmt-F.Throw e)

pub suffix-Property : (d : Access) (n : List ℕ) → suffix_marks (suffix.Property d n) ≡ suffix_step (Suffix-F.Property d n)
suffix-Property d n = ap suffix_marks (sym (suffix.rolls-Property d n)) ∙ fold-roll-Suffix Marks Marks Marks Marks Marks Marks Marks Marks Marks Marks Marks Marks assignment_step choice_step entry_step expr_step part_step stmt_step suffix_step target_step arguments_step arm_step catch_step operand_step (Suffix-F.Property d n)

pub suffix-Method : (d : Access) (n : List ℕ) (args : Arguments) → suffix_marks (suffix.Method d n args) ≡ suffix_step (Suffix-F.Method d n (arguments_marks args))
suffix-Method d n args = ap suffix_marks (sym (suffix.rolls-Method d n args)) ∙ fold-roll-Suffix Marks Marks Marks Marks Marks Marks Marks Marks Marks Marks Marks Marks assignment_step choice_step entry_step expr_step part_step stmt_step suffix_step target_step arguments_step arm_step catch_step operand_step (Suffix-F.Method d n args)

pub suffix-Index : (e : Expr) → suffix_marks (suffix.Index e) ≡ suffix_step (Suffix-F.Index (expr_marks e))
suffix-Index e = ap suffix_marks (sym (suffix.rolls-Index e)) ∙ fold-roll-Suffix Marks Marks Marks Marks Marks Marks Marks Marks Marks Marks Marks Marks assignment_step choice_step entry_step expr_step part_step stmt_step suffix_step target_step arguments_step arm_step catch_step operand_step (Suffix-F.Index e)

pub target-ToName : (n : List ℕ) → target_marks (target.ToName n) ≡ target_step (Target-F.ToName n)
target-ToName n = ap target_marks (sym (target.rolls-ToName n)) ∙ fold-roll-Target Marks Marks Marks Marks Marks Marks Marks Marks Marks Marks Marks Marks assignment_step choice_step entry_step expr_step part_step stmt_step suffix_step target_step arguments_step arm_step catch_step operand_step (Target-F.ToName n)

pub target-ToProperty : (e : Expr) (n : List ℕ) → target_marks (target.ToProperty e n) ≡ target_step (Target-F.ToProperty (expr_marks e) n)
target-ToProperty e n = ap target_marks (sym (target.rolls-ToProperty e n)) ∙ fold-roll-Target Marks Marks Marks Marks Marks Marks Marks Marks Marks Marks Marks Marks assignment_step choice_step entry_step expr_step part_step stmt_step suffix_step target_step arguments_step arm_step catch_step operand_step (Target-F.ToProperty e n)

pub target-ToIndex : (e : Expr) (i : Expr) → target_marks (target.ToIndex e i) ≡ target_step (Target-F.ToIndex (expr_marks e) (expr_marks i))
target-ToIndex e i = ap target_marks (sym (target.rolls-ToIndex e i)) ∙ fold-roll-Target Marks Marks Marks Marks Marks Marks Marks Marks Marks Marks Marks Marks assignment_step choice_step entry_step expr_step part_step stmt_step suffix_step target_step arguments_step arm_step catch_step operand_step (Target-F.ToIndex e i)

pub arguments-is : (named : List Entry) (ordered : List Expr) → arguments_marks (record { named = named; ordered = ordered }) ≡ arguments_step (record { named = (map entry_marks named); ordered = (map expr_marks ordered) })
arguments-is named ordered = ap arguments_marks (sym (rolls-Arguments' (record { named = named; ordered = ordered }))) ∙ fold-roll-Arguments Marks Marks Marks Marks Marks Marks Marks Marks Marks Marks Marks Marks assignment_step choice_step entry_step expr_step part_step stmt_step suffix_step target_step arguments_step arm_step catch_step operand_step (record { named = named; ordered = ordered })

pub arm-is : (test : Expr) (body : List Stmt) → arm_marks (record { test = test; body = body }) ≡ arm_step (record { test = (expr_marks test); body = (map stmt_marks body) })
arm-is test body = ap arm_marks (sym (rolls-Arm' (record { test = test; body = body }))) ∙ fold-roll-Arm Marks Marks Marks Marks Marks Marks Marks Marks Marks Marks Marks Marks assignment_step choice_step entry_step expr_step part_step stmt_step suffix_step target_step arguments_step arm_step catch_step operand_step (record { test = test; body = body })

pub catch-is : (caught : Caught) (name : Declared) (body : List Stmt) → catch_marks (record { caught = caught; name = name; body = body }) ≡ catch_step (record { caught = caught; name = name; body = (map stmt_marks body) })
catch-is caught name body = ap catch_marks (sym (rolls-Catch' (record { caught = caught; name = name; body = body }))) ∙ fold-roll-Catch Marks Marks Marks Marks Marks Marks Marks Marks Marks Marks Marks Marks assignment_step choice_step entry_step expr_step part_step stmt_step suffix_step target_step arguments_step arm_step catch_step operand_step (record { caught = caught; name = name; body = body })

pub operand-is : (operator : Operator) (value : Expr) → operand_marks (record { operator = operator; value = value }) ≡ operand_step (record { operator = operator; value = (expr_marks value) })
operand-is operator value = ap operand_marks (sym (rolls-Operand' (record { operator = operator; value = value }))) ∙ fold-roll-Operand Marks Marks Marks Marks Marks Marks Marks Marks Marks Marks Marks Marks assignment_step choice_step entry_step expr_step part_step stmt_step suffix_step target_step arguments_step arm_step catch_step operand_step (record { operator = operator; value = value })
