-- The scope faults of small scripts.
use Rattle.std.proofs.Common.{◌≡◌, ℕ, List, [], ◌∷◌, ◌++◌, ap, ◌∙◌, Option, Some, None, pos, false}
use Rattle.std.specs.Prelude.{codes}
use Rattle.model_syntax.specs.declared.place.Place.{Place}
use Rattle.model_syntax.specs.declared.place.Declared.{Declared}
use Rattle.model_syntax.specs.declared.fault.FaultKind.TheVariants.{NameAlreadyDeclared, BreakOutsideLoop}
use Rattle.model_syntax.specs.declared.tree.Expr.{Expr}
use Rattle.model_syntax.specs.declared.tree.Expr.TheVariants.{Number, Variable, Call, Closure, Group}
use Rattle.model_syntax.specs.declared.tree.Stmt.{Stmt}
use Rattle.model_syntax.specs.declared.tree.Stmt.TheVariants.{Declare, While, Evaluate, Break}
use Rattle.model_syntax.specs.declared.tree.Top.TheVariants.{Statement}
use Rattle.model_syntax.specs.declared.tree.Tree.{Tree}
use Rattle.model_syntax.specs.Stream.{declared}
use Rattle.model_syntax.specs.Scopes.{declares, loop, callable, heads, stmt_marks, tree_marks, first_wrong, is_among, scope, fault_at, scope_fault}
use Rattle.model_syntax.proofs.ScopeLaws.{expr-Number, expr-Variable, expr-Call, expr-Closure, expr-Group, arguments-is, stmt-Declare, stmt-While, stmt-Evaluate, stmt-Break}

abbrev pub place : ℕ → ℕ → Place
place l c = record { line = l; column = c }

abbrev pub def_x : ℕ → Stmt
def_x l = Declare (declared (codes "x") (place l 5)) (Some (Number (pos 1)))

def-x : (l : ℕ) → stmt_marks (def_x l) ≡ declares (declared (codes "x") (place l 5)) ∷ []
def-x l = stmt-Declare (declared (codes "x") (place l 5)) (Some (Number (pos 1))) ∙ ap (λ m. declares (declared (codes "x") (place l 5)) ∷ m) (expr-Number (pos 1))

-- `def x = 1`, and once more in the second line: the name is declared already, at 2:5.
pub declared_twice : scope_fault (record { tops = Statement (place 1 1) (def_x 1) ∷ Statement (place 2 1) (def_x 2) ∷ [] }) ≡ Some (fault_at (place 2 5) NameAlreadyDeclared)
unfolding first_wrong is_among
declared_twice =
    ap (λ m. first_wrong [] (scope false) [] (m ++ (stmt_marks (def_x 2) ++ []))) (def-x 1)
    ∙ ap (λ m. first_wrong [] (scope false) [] (declares (declared (codes "x") (place 1 5)) ∷ (m ++ []))) (def-x 2)

abbrev pub closure : Expr
closure = Closure None (Break (place 1 18) ∷ [])

abbrev pub call : Stmt
call = Evaluate (Call (codes "f") (record { named = []; ordered = closure ∷ [] }))

-- `while (a) { f { break } }`: the loop is not of the closure.
pub break_in_closure : scope_fault (record { tops = Statement (place 1 1) (While (Variable (codes "a")) (call ∷ [])) ∷ [] }) ≡ Some (fault_at (place 1 18) BreakOutsideLoop)
unfolding first_wrong is_among
break_in_closure =
    ap (λ m. first_wrong [] (scope false) [] (m ++ [])) (
    stmt-While (Variable (codes "a")) (call ∷ [])
    ∙ ap (λ m. m ++ loop (stmt_marks call ∷ [])) (expr-Variable (codes "a"))
    ∙ ap (λ m. loop (m ∷ [])) (
    stmt-Evaluate (Call (codes "f") (record { named = []; ordered = closure ∷ [] }))
    ∙ expr-Call (codes "f") (record { named = []; ordered = closure ∷ [] })
    ∙ arguments-is [] (closure ∷ [])
    ∙ ap (λ m. m ++ []) (expr-Closure None (Break (place 1 18) ∷ []) ∙ ap (λ m. callable (heads None) (m ++ [])) (stmt-Break (place 1 18)))))

-- `def it = 1` in a closure with these heads, in parentheses, the name in this column.
abbrev pub def_it : ℕ → Stmt
def_it c = Declare (declared (codes "it") (place 1 c)) (Some (Number (pos 1)))

abbrev pub it_in : Option (List Declared) → ℕ → Tree
it_in ds c = record { tops = Statement (place 1 1) (Evaluate (Group (Closure ds (def_it c ∷ [])))) ∷ [] }

marks-it_in : (ds : Option (List Declared)) (c : ℕ) → tree_marks (it_in ds c) ≡ callable (heads ds) (declares (declared (codes "it") (place 1 c)) ∷ []) ++ []
marks-it_in ds c =
    ap (λ m. m ++ []) (
    stmt-Evaluate (Group (Closure ds (def_it c ∷ [])))
    ∙ expr-Group (Closure ds (def_it c ∷ []))
    ∙ expr-Closure ds (def_it c ∷ [])
    ∙ ap (λ m. callable (heads ds) (m ++ [])) (
    stmt-Declare (declared (codes "it") (place 1 c)) (Some (Number (pos 1)))
    ∙ ap (λ m. declares (declared (codes "it") (place 1 c)) ∷ m) (expr-Number (pos 1))))

-- `({ def it = 1 })`: a closure without heads has the parameter `it`.
pub it_declared_again : scope_fault (it_in None 8) ≡ Some (fault_at (place 1 8) NameAlreadyDeclared)
unfolding first_wrong is_among
it_declared_again = ap (first_wrong [] (scope false) []) (marks-it_in None 8)

-- `({ -> def it = 1 })`: one with heads has not.
pub it_of_heads : scope_fault (it_in (Some []) 11) ≡ None
unfolding first_wrong is_among
it_of_heads = ap (first_wrong [] (scope false) []) (marks-it_in (Some []) 11)
