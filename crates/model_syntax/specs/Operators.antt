-- The ranks of operators, the loosest first (Groovy), and which sign is which operator.
use Rattle.std.specs.Prelude.{Option, Some, None, List, [], ◌∷◌, ◌++◌}
use Rattle.model_syntax.specs.declared.sign.Sign.{Sign}
use Rattle.model_syntax.specs.declared.sign.Sign.TheVariants as sign
use Rattle.model_syntax.specs.declared.tree.Operator.{Operator}
use Rattle.model_syntax.specs.declared.tree.Operator.TheVariants as operator
use Rattle.model_syntax.specs.declared.tree.Prefix.{Prefix}
use Rattle.model_syntax.specs.declared.tree.Prefix.TheVariants as prefix
use Rattle.model_syntax.specs.declared.tree.AssignSign.{AssignSign}
use Rattle.model_syntax.specs.declared.tree.Assignment.{Assignment}
use Rattle.model_syntax.specs.declared.tree.AssignSign.TheVariants as assign
use Rattle.model_syntax.specs.declared.tree.Expr.{Expr}
use Rattle.model_syntax.specs.declared.tree.Expr.TheVariants as expr
use Rattle.model_syntax.specs.declared.tree.Init.{Init}
use Rattle.model_syntax.specs.declared.tree.Init.TheVariants as init
use Rattle.model_syntax.specs.declared.tree.Operand.{Operand}
use Rattle.model_syntax.specs.declared.tree.Stmt.{Stmt}
use Rattle.model_syntax.specs.declared.tree.Stmt.TheVariants as stmt
use Rattle.model_syntax.specs.declared.tree.Suffix.{Suffix}
use Rattle.model_syntax.specs.declared.tree.Choice.{Choice}
use Rattle.model_syntax.specs.declared.tree.Arguments.{Arguments}

-- `||` and `&&`: any number of operands
pub data Chain : Type 0 where
  by_or : Chain
  by_and : Chain

-- `==`, `<` and `..` with their kin: two operands at most (this product's own: Groovy takes more)
pub data Pair : Type 0 where
  by_equality : Pair
  by_order : Pair
  by_range : Pair

-- `+` and `*` with their kin: any number of operands
pub data Terms : Type 0 where
  by_sum : Terms
  by_product : Terms

-- The ranks of expressions.
pub data Rank : Type 0 where
  -- with `? :` and `?:`
  rank_whole : Rank
  rank_chain : Chain → Rank
  rank_pair : Pair → Rank
  rank_terms : Terms → Rank
  -- signs, a primary, suffixes
  rank_unary : Rank

-- What stands between the signs of a rank.
abbrev pub within_chain : Chain → Rank
within_chain by_or = rank_chain by_and
within_chain by_and = rank_pair by_equality

-- The next tighter rank.
abbrev pub within_pair : Pair → Rank
within_pair by_equality = rank_pair by_order
within_pair by_order = rank_pair by_range
within_pair by_range = rank_terms by_sum

-- The next tighter rank.
abbrev pub within_terms : Terms → Rank
within_terms by_sum = rank_terms by_product
within_terms by_product = rank_unary

-- The sign between the operands of a chain.
abbrev pub chain_sign : Chain → Sign
chain_sign by_or = sign.Or
chain_sign by_and = sign.And

-- The operators between two operands of a rank.
abbrev pub pair_operator : Pair → Sign → Option Operator
pair_operator by_equality sign.Equal = Some operator.Equal
pair_operator by_equality sign.NotEqual = Some operator.NotEqual
pair_operator by_order sign.Less = Some operator.Less
pair_operator by_order sign.LessEqual = Some operator.LessEqual
pair_operator by_order sign.Greater = Some operator.Greater
pair_operator by_order sign.GreaterEqual = Some operator.GreaterEqual
pair_operator by_range sign.Range = Some operator.Range
pair_operator l s = None

-- The operators between the operands of a rank.
abbrev pub terms_operator : Terms → Sign → Option Operator
terms_operator by_sum sign.Plus = Some operator.Plus
terms_operator by_sum sign.Minus = Some operator.Minus
terms_operator by_product sign.Times = Some operator.Times
terms_operator by_product sign.Mod = Some operator.Mod
terms_operator l s = None

-- The signs before an operand.
abbrev pub prefix_of : Sign → Option Prefix
prefix_of sign.Not = Some prefix.Not
prefix_of sign.Minus = Some prefix.Negative
prefix_of sign.Plus = Some prefix.Positive
prefix_of s = None

-- The signs that write a value to a target.
abbrev pub assign_sign : Sign → Option AssignSign
assign_sign sign.Assign = Some assign.Set
assign_sign sign.PlusAssign = Some assign.AddTo
assign_sign sign.MinusAssign = Some assign.SubtractFrom
assign_sign sign.TimesAssign = Some assign.MultiplyBy
assign_sign sign.ModAssign = Some assign.ReduceBy
assign_sign s = None

-- The trees: one operand alone is itself, and several are one node.
abbrev pub chosen : List Choice → Expr → Expr
chosen [] e = e
chosen (c ∷ cs) e = expr.Chosen (c ∷ cs) e

-- Operands with `||` or `&&` between them.
abbrev pub chained : Chain → Expr → List Expr → Expr
chained l e [] = e
chained by_or e (f ∷ fs) = expr.Or (e ∷ f ∷ fs)
chained by_and e (f ∷ fs) = expr.And (e ∷ f ∷ fs)

-- Operands with signs between them.
abbrev pub joined : Expr → List Operand → Expr
joined e [] = e
joined e (o ∷ os) = expr.Joined e (o ∷ os)

-- A primary with suffixes.
abbrev pub suffixed : Expr → List Suffix → Expr
suffixed e [] = e
suffixed e (s ∷ ss) = expr.Suffixed e (s ∷ ss)

-- An operand with signs before it.
abbrev pub prefixed : List Prefix → Expr → Expr
prefixed [] e = e
prefixed (p ∷ ps) e = expr.Prefixed (p ∷ ps) e

-- An operator with the operand behind it.
abbrev pub operand : Operator → Expr → Operand
operand o e = record { operator = o; value = e }

-- A closure behind `)` is the last argument.
abbrev pub with_closure : Arguments → List Expr → Arguments
with_closure args cs = record { named = args.named; ordered = args.ordered ++ cs }

-- A `for` with steps: what its first part is decides the statement.
abbrev pub for_steps : Init → Expr → Assignment → List Stmt → Stmt
for_steps (init.Declare d v) e u ss = stmt.ForDeclared d v e u ss
for_steps (init.Assign i) e u ss = stmt.ForSteps i e u ss
