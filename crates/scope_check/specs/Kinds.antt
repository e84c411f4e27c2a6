-- Which statement a statement is.
use Rattle.std.specs.Prelude.{◌≡◌, Option, List}
use Rattle.model_syntax.specs.declared.place.Declared.{Declared}
use Rattle.model_syntax.specs.declared.tree.Arm.{Arm}
use Rattle.model_syntax.specs.declared.tree.Assignment.{Assignment}
use Rattle.model_syntax.specs.declared.tree.Catch.{Catch}
use Rattle.model_syntax.specs.declared.tree.Expr.{Expr}
use Rattle.model_syntax.specs.declared.tree.Stmt.{Stmt}
use Rattle.model_syntax.specs.declared.tree.Stmt.TheVariants.{If, ForEach, ForDeclared, ForSteps, Try}

-- `if`
abbrev pub IsIf : Stmt → Type 0
IsIf s = (ts : List Arm) × (o : Option (List Stmt)) × (s ≡ If ts o)

-- `for (x in e)`
abbrev pub IsForEach : Stmt → Type 0
IsForEach s = (d : Declared) × (e : Expr) × (ss : List Stmt) × (s ≡ ForEach d e ss)

-- `for (def x = e; test; b)`
abbrev pub IsForDeclared : Stmt → Type 0
IsForDeclared s = (d : Declared) × (v : Expr) × (e : Expr) × (b : Assignment) × (ss : List Stmt) × (s ≡ ForDeclared d v e b ss)

-- `for (a; test; b)`
abbrev pub IsForSteps : Stmt → Type 0
IsForSteps s = (a : Assignment) × (e : Expr) × (b : Assignment) × (ss : List Stmt) × (s ≡ ForSteps a e b ss)

-- `try`
abbrev pub IsTry : Stmt → Type 0
IsTry s = (ss : List Stmt) × (cs : List Catch) × (o : Option (List Stmt)) × (s ≡ Try ss cs o)
