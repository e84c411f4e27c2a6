-- The scope faults of a tree (this product's own: Groovy refuses a name that an inner scope declares anew, and allows
-- functions of one name whose parameters differ).
use Rattle.std.specs.Prelude.{ℕ, Bool, true, false, ◌||◌, if◌then◌else◌, Option, Some, None, List, [], ◌∷◌, ◌++◌, map, bytes_eq, codes}
use Rattle.model_syntax.specs.declared.place.Place.{Place}
use Rattle.model_syntax.specs.declared.place.Declared.{Declared}
use Rattle.model_syntax.specs.declared.fault.FaultKind.{FaultKind}
use Rattle.model_syntax.specs.declared.fault.FaultKind.TheVariants.{NameAlreadyDeclared, FunctionAlreadyDeclared, BreakOutsideLoop, ContinueOutsideLoop}
use Rattle.model_syntax.specs.declared.fault.ScriptFault.{ScriptFault}
use Rattle.model_syntax.specs.declared.tree.Assignment.{Assignment, Assignment-F, fold-Assignment}
use Rattle.model_syntax.specs.declared.tree.Choice.{Choice, Choice-F, fold-Choice}
use Rattle.model_syntax.specs.declared.tree.Entry.{Entry, Entry-F, fold-Entry}
use Rattle.model_syntax.specs.declared.tree.Expr.{Expr, Expr-F, fold-Expr}
use Rattle.model_syntax.specs.declared.tree.Part.{Part, Part-F, fold-Part}
use Rattle.model_syntax.specs.declared.tree.Stmt.{Stmt, Stmt-F, fold-Stmt}
use Rattle.model_syntax.specs.declared.tree.Suffix.{Suffix, Suffix-F, fold-Suffix}
use Rattle.model_syntax.specs.declared.tree.Target.{Target, Target-F, fold-Target}
use Rattle.model_syntax.specs.declared.tree.Arguments.{Arguments, Arguments-F, fold-Arguments}
use Rattle.model_syntax.specs.declared.tree.Arm.{Arm, Arm-F, fold-Arm}
use Rattle.model_syntax.specs.declared.tree.Catch.{Catch, Catch-F, fold-Catch}
use Rattle.model_syntax.specs.declared.tree.Operand.{Operand, Operand-F, fold-Operand}
use Rattle.model_syntax.specs.declared.tree.Function.{Function}
use Rattle.model_syntax.specs.declared.tree.Top.{Top}
use Rattle.model_syntax.specs.declared.tree.Top.TheVariants as top
use Rattle.model_syntax.specs.declared.tree.Tree.{Tree}

-- What matters to scopes, in the order of the script.
pub data Mark : Type 0 where
  -- a scope begins: a block or a for head; the body of a loop; a function or a closure with its parameters
  block_begins : Mark
  loop_begins : Mark
  callable_begins : Mark
  scope_ends : Mark
  declares : Declared → Mark
  -- the parameter `it` of a closure without heads, which has no place
  declares_it : Mark
  declares_function : Declared → Mark
  breaks : Place → Mark
  continues : Place → Mark

-- A row of marks.
abbrev pub Marks : Type 0
Marks = List Mark

-- Rows behind one another.
abbrev pub all : List Marks → Marks
all [] = []
all (m ∷ ms) = m ++ all ms

-- A block is a scope.
abbrev pub block : List Marks → Marks
block ss = block_begins ∷ (all ss ++ scope_ends ∷ [])

-- The body of a loop is a scope.
abbrev pub loop : List Marks → Marks
loop ss = loop_begins ∷ (all ss ++ scope_ends ∷ [])

-- Parameters and the statements behind them stand in one scope.
abbrev pub callable : Marks → Marks → Marks
callable ps ms = callable_begins ∷ (ps ++ (ms ++ scope_ends ∷ []))

-- What may be absent has no marks then.
abbrev pub if_any : Option Marks → Marks
if_any None = []
if_any (Some m) = m

-- A block that may be absent.
abbrev pub block_if_any : Option (List Marks) → Marks
block_if_any None = []
block_if_any (Some ss) = block ss

-- Each of these names is declared.
abbrev pub declares_each : List Declared → Marks
declares_each ds = map declares ds

-- A closure without heads has one parameter, `it`.
abbrev pub heads : Option (List Declared) → Marks
heads None = declares_it ∷ []
heads (Some ds) = declares_each ds

-- The marks of a node from those of its parts.
abbrev pub assignment_step : Assignment-F Marks Marks Marks Marks Marks Marks Marks Marks Marks Marks Marks Marks → Marks
assignment_step (Assignment-F.Write t o e) = t ++ e
assignment_step (Assignment-F.Increment t) = t
assignment_step (Assignment-F.Decrement t) = t

abbrev pub choice_step : Choice-F Marks Marks Marks Marks Marks Marks Marks Marks Marks Marks Marks Marks → Marks
choice_step (Choice-F.IfTrue t v) = t ++ v
choice_step (Choice-F.IfSet v) = v

abbrev pub entry_step : Entry-F Marks Marks Marks Marks Marks Marks Marks Marks Marks Marks Marks Marks → Marks
entry_step (Entry-F.Named n e) = e
entry_step (Entry-F.Numbered v e) = e
entry_step (Entry-F.Computed k e) = k ++ e

abbrev pub expr_step : Expr-F Marks Marks Marks Marks Marks Marks Marks Marks Marks Marks Marks Marks → Marks
expr_step (Expr-F.GString ps) = all ps
expr_step (Expr-F.Call n args) = args
expr_step (Expr-F.Group e) = e
expr_step (Expr-F.List es) = all es
expr_step (Expr-F.Map es) = all es
expr_step (Expr-F.Closure ds ss) = callable (heads ds) (all ss)
expr_step (Expr-F.New c e) = if_any e
expr_step (Expr-F.Suffixed e ss) = e ++ all ss
expr_step (Expr-F.Prefixed ps e) = e
expr_step (Expr-F.Joined e os) = e ++ all os
expr_step (Expr-F.And es) = all es
expr_step (Expr-F.Or es) = all es
expr_step (Expr-F.Chosen cs e) = all cs ++ e
expr_step e = []

abbrev pub part_step : Part-F Marks Marks Marks Marks Marks Marks Marks Marks Marks Marks Marks Marks → Marks
part_step (Part-F.Plain t) = []
part_step (Part-F.Inner e) = e

abbrev pub stmt_step : Stmt-F Marks Marks Marks Marks Marks Marks Marks Marks Marks Marks Marks Marks → Marks
stmt_step (Stmt-F.If ts o) = all ts ++ block_if_any o
stmt_step (Stmt-F.While e ss) = e ++ loop ss
stmt_step (Stmt-F.ForEach d e ss) = block ((declares d ∷ []) ∷ e ∷ loop ss ∷ [])
stmt_step (Stmt-F.ForDeclared d v e u ss) = block ((declares d ∷ v) ∷ e ∷ u ∷ loop ss ∷ [])
stmt_step (Stmt-F.ForSteps i e u ss) = block (i ∷ e ∷ u ∷ loop ss ∷ [])
stmt_step (Stmt-F.Try ss cs o) = block ss ++ (all cs ++ block_if_any o)
stmt_step (Stmt-F.Declare d e) = declares d ∷ if_any e
stmt_step (Stmt-F.Assign u) = u
stmt_step (Stmt-F.Evaluate e) = e
stmt_step (Stmt-F.Return e) = if_any e
stmt_step (Stmt-F.Break p) = breaks p ∷ []
stmt_step (Stmt-F.Continue p) = continues p ∷ []
stmt_step (Stmt-F.Throw e) = e

abbrev pub suffix_step : Suffix-F Marks Marks Marks Marks Marks Marks Marks Marks Marks Marks Marks Marks → Marks
suffix_step (Suffix-F.Property d n) = []
suffix_step (Suffix-F.Method d n args) = args
suffix_step (Suffix-F.Index e) = e

abbrev pub target_step : Target-F Marks Marks Marks Marks Marks Marks Marks Marks Marks Marks Marks Marks → Marks
target_step (Target-F.ToName n) = []
target_step (Target-F.ToProperty e n) = e
target_step (Target-F.ToIndex e i) = e ++ i

abbrev pub arguments_step : Arguments-F Marks Marks Marks Marks Marks Marks Marks Marks Marks Marks Marks Marks → Marks
arguments_step args = all args.named ++ all args.ordered

abbrev pub arm_step : Arm-F Marks Marks Marks Marks Marks Marks Marks Marks Marks Marks Marks Marks → Marks
arm_step t = t.test ++ block t.body

-- The name of a catch stands in the scope of its block.
abbrev pub catch_step : Catch-F Marks Marks Marks Marks Marks Marks Marks Marks Marks Marks Marks Marks → Marks
catch_step c = block ((declares c.name ∷ []) ∷ c.body)

abbrev pub operand_step : Operand-F Marks Marks Marks Marks Marks Marks Marks Marks Marks Marks Marks Marks → Marks
operand_step o = o.value

-- The marks of whole parts of a tree.
abbrev pub assignment_marks : Assignment → Marks
assignment_marks = fold-Assignment Marks Marks Marks Marks Marks Marks Marks Marks Marks Marks Marks Marks assignment_step choice_step entry_step expr_step part_step stmt_step suffix_step target_step arguments_step arm_step catch_step operand_step

abbrev pub choice_marks : Choice → Marks
choice_marks = fold-Choice Marks Marks Marks Marks Marks Marks Marks Marks Marks Marks Marks Marks assignment_step choice_step entry_step expr_step part_step stmt_step suffix_step target_step arguments_step arm_step catch_step operand_step

abbrev pub entry_marks : Entry → Marks
entry_marks = fold-Entry Marks Marks Marks Marks Marks Marks Marks Marks Marks Marks Marks Marks assignment_step choice_step entry_step expr_step part_step stmt_step suffix_step target_step arguments_step arm_step catch_step operand_step

abbrev pub expr_marks : Expr → Marks
expr_marks = fold-Expr Marks Marks Marks Marks Marks Marks Marks Marks Marks Marks Marks Marks assignment_step choice_step entry_step expr_step part_step stmt_step suffix_step target_step arguments_step arm_step catch_step operand_step

abbrev pub part_marks : Part → Marks
part_marks = fold-Part Marks Marks Marks Marks Marks Marks Marks Marks Marks Marks Marks Marks assignment_step choice_step entry_step expr_step part_step stmt_step suffix_step target_step arguments_step arm_step catch_step operand_step

abbrev pub stmt_marks : Stmt → Marks
stmt_marks = fold-Stmt Marks Marks Marks Marks Marks Marks Marks Marks Marks Marks Marks Marks assignment_step choice_step entry_step expr_step part_step stmt_step suffix_step target_step arguments_step arm_step catch_step operand_step

abbrev pub suffix_marks : Suffix → Marks
suffix_marks = fold-Suffix Marks Marks Marks Marks Marks Marks Marks Marks Marks Marks Marks Marks assignment_step choice_step entry_step expr_step part_step stmt_step suffix_step target_step arguments_step arm_step catch_step operand_step

abbrev pub target_marks : Target → Marks
target_marks = fold-Target Marks Marks Marks Marks Marks Marks Marks Marks Marks Marks Marks Marks assignment_step choice_step entry_step expr_step part_step stmt_step suffix_step target_step arguments_step arm_step catch_step operand_step

abbrev pub arguments_marks : Arguments → Marks
arguments_marks = fold-Arguments Marks Marks Marks Marks Marks Marks Marks Marks Marks Marks Marks Marks assignment_step choice_step entry_step expr_step part_step stmt_step suffix_step target_step arguments_step arm_step catch_step operand_step

abbrev pub arm_marks : Arm → Marks
arm_marks = fold-Arm Marks Marks Marks Marks Marks Marks Marks Marks Marks Marks Marks Marks assignment_step choice_step entry_step expr_step part_step stmt_step suffix_step target_step arguments_step arm_step catch_step operand_step

abbrev pub catch_marks : Catch → Marks
catch_marks = fold-Catch Marks Marks Marks Marks Marks Marks Marks Marks Marks Marks Marks Marks assignment_step choice_step entry_step expr_step part_step stmt_step suffix_step target_step arguments_step arm_step catch_step operand_step

abbrev pub operand_marks : Operand → Marks
operand_marks = fold-Operand Marks Marks Marks Marks Marks Marks Marks Marks Marks Marks Marks Marks assignment_step choice_step entry_step expr_step part_step stmt_step suffix_step target_step arguments_step arm_step catch_step operand_step

-- A function is declared, and its parameters and statements are one scope.
abbrev pub function_marks : Function → Marks
function_marks f = declares_function f.name ∷ callable (declares_each f.parameters) (all (map stmt_marks f.body))

-- The marks of a function or a statement.
abbrev pub top_marks : Top → Marks
top_marks (top.Function f) = function_marks f
top_marks (top.Statement p s) = stmt_marks s

-- The marks of a whole script.
abbrev pub tree_marks : Tree → Marks
tree_marks tree = all (map top_marks tree.tops)

-- A scope: the names that are declared in it so far, and whether it lies in a loop of its function or closure.
pub record Scope : Type 0 where
  pub names : List (List ℕ)
  pub in_loop : Bool

-- A scope without names.
abbrev pub scope : Bool → Scope
scope in_loop = record { names = []; in_loop = in_loop }

-- A scope with one more name.
abbrev pub with_name : List ℕ → Scope → Scope
with_name n s = record { names = n ∷ s.names; in_loop = s.in_loop }

-- The name is one of these.
unfoldable pub is_among : List ℕ → List (List ℕ) → Bool
is_among n [] = false
is_among n (x ∷ xs) = bytes_eq n x || is_among n xs

-- A fault of this kind at this place.
abbrev pub fault_at : Place → FaultKind → ScriptFault
fault_at p k = record { line = p.line; column = p.column; kind = k }

-- The first mark at which something is wrong: a name or a function that is declared before, in the same scope or at
-- all; a word outside of the loops of its function or closure. `functions` are those so far, `inner` the innermost
-- scope, `outer` those around it.
unfoldable pub first_wrong : List (List ℕ) → Scope → List Scope → Marks → Option ScriptFault
first_wrong functions inner outer [] = None
first_wrong functions inner outer (block_begins ∷ ms) = first_wrong functions (scope inner.in_loop) (inner ∷ outer) ms
first_wrong functions inner outer (loop_begins ∷ ms) = first_wrong functions (scope true) (inner ∷ outer) ms
first_wrong functions inner outer (callable_begins ∷ ms) = first_wrong functions (scope false) (inner ∷ outer) ms
first_wrong functions inner [] (scope_ends ∷ ms) = first_wrong functions inner [] ms
first_wrong functions inner (o ∷ outer) (scope_ends ∷ ms) = first_wrong functions o outer ms
first_wrong functions inner outer (declares d ∷ ms) =
    if is_among d.name inner.names then Some (fault_at d.place NameAlreadyDeclared)
    else first_wrong functions (with_name d.name inner) outer ms
first_wrong functions inner outer (declares_it ∷ ms) = first_wrong functions (with_name (codes "it") inner) outer ms
first_wrong functions inner outer (declares_function d ∷ ms) =
    if is_among d.name functions then Some (fault_at d.place FunctionAlreadyDeclared)
    else first_wrong (d.name ∷ functions) inner outer ms
first_wrong functions inner outer (breaks p ∷ ms) =
    if inner.in_loop then first_wrong functions inner outer ms else Some (fault_at p BreakOutsideLoop)
first_wrong functions inner outer (continues p ∷ ms) =
    if inner.in_loop then first_wrong functions inner outer ms else Some (fault_at p ContinueOutsideLoop)

-- The first scope fault of a tree.
abbrev pub scope_fault : Tree → Option ScriptFault
scope_fault tree = first_wrong [] (scope false) [] (tree_marks tree)
