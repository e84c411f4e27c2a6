-- What a parser answers, which stands at a place of its tokens.
use Rattle.std.specs.Prelude.{◌≡◌, ℕ, true, Option, Some, None, List, Result, Ok, Err}
use Rattle.model_syntax.specs.declared.token.Token.{Token}
use Rattle.model_syntax.specs.declared.tree.Expr.{Expr}
use Rattle.model_syntax.specs.Operators.{rank_whole}
use Rattle.expr_parser.specs.declared.refusal.ExprRefusal.{ExprRefusal}
use Rattle.expr_parser.specs.declared.refusal.ExprRefusal.TheVariants as refusal
use Rattle.groovy_expr.specs.declared.refusal.Refusal.TheVariants.{Fault}
use Rattle.groovy_expr.specs.Answers.{kinds}
use Rattle.groovy_expr.specs.Readers.{ReadsExpr}
use Rattle.groovy_expr.specs.Stops.{stops_expr}

-- The expression from the parser's place on, and the place moves behind it, where what stands there may follow an
-- expression; or its first fault, and the place stays.
abbrev pub ReadsNext : List Token → ℕ → ℕ → Result Expr ExprRefusal → Type 0
ReadsNext ts from to (Ok tree) = ReadsExpr rank_whole ts from (Ok (tree, to)) × (stops_expr (kinds ts to) ≡ true)
ReadsNext ts from to (Err refusal.Memory) = to ≡ from
ReadsNext ts from to (Err (refusal.Fault token)) = ReadsExpr rank_whole ts from (Err (Fault token)) × (to ≡ from)

-- The fault that an answer tells.
abbrev pub fault_in : Result Expr ExprRefusal → Option ℕ
fault_in (Err (refusal.Fault token)) = Some token
fault_in r = None
