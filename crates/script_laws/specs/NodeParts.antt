-- The parts that each form of node has, in the order of the script (the grammar of the language): a node of a tree has these and no
-- others, as far as a tree's type tells: where the grammar wants at least one or two of a kind, none may stand here, and a call may
-- have any entries.
use Rattle.std.specs.Prelude.{◌≡◌, ◌⊎◌, Bool, true, false, List, [], ◌∷◌, ◌++◌, ℕ}
use Rattle.std.specs.List.{AllByRecursion as AllAre}
use Rattle.model_syntax.specs.declared.node.NodeForm.{NodeForm}
use Rattle.model_syntax.specs.declared.node.NodeForm.TheVariants as form
use Rattle.model_syntax.specs.Nodes.{Node, Nodes, node, none, more}
use Rattle.model_run.specs.Terms.{Term}
use Rattle.model_run.specs.Around.{Shape}
use Rattle.model_run.specs.Statements.{is_finally}
use Rattle.model_run.specs.FrameTable.{is_target_form, is_arm, is_catch, is_choice}
use Rattle.model_run.specs.Nesting.{shape_at}

-- What a node is. A block of statements, and a function:
abbrev pub is_body : NodeForm → Bool
is_body form.Block = true
is_body f = false

abbrev pub is_function : NodeForm → Bool
is_function (form.Function x names) = true
is_function f = false

-- a statement, and what stands at the top of a script
abbrev pub is_statement : NodeForm → Bool
is_statement form.If = true
is_statement form.While = true
is_statement (form.ForEach x) = true
is_statement form.ForSteps = true
is_statement form.Try = true
is_statement (form.Declare x) = true
is_statement (form.Assign sign) = true
is_statement form.Increment = true
is_statement form.Decrement = true
is_statement form.Evaluate = true
is_statement form.Return = true
is_statement form.Break = true
is_statement form.Continue = true
is_statement form.Throw = true
is_statement f = false

abbrev pub is_top : NodeForm → Bool
is_top (form.Function x names) = true
is_top f = is_statement f

-- the first part of a `for` head: a declaration or an assignment
abbrev pub is_first_step : NodeForm → Bool
is_first_step (form.Declare x) = true
is_first_step f = is_target_form f

-- an expression, and a part of a text with expressions
abbrev pub is_expression : NodeForm → Bool
is_expression (form.Number z) = true
is_expression (form.Literal t) = true
is_expression form.GString = true
is_expression form.True = true
is_expression form.False = true
is_expression form.Null = true
is_expression (form.Variable x) = true
is_expression (form.Call f) = true
is_expression form.Group = true
is_expression form.List = true
is_expression form.Map = true
is_expression (form.Closure heads) = true
is_expression (form.New c) = true
is_expression form.Suffixed = true
is_expression form.Prefixed = true
is_expression form.Joined = true
is_expression form.And = true
is_expression form.Or = true
is_expression form.Chosen = true
is_expression f = false

abbrev pub is_text_part : NodeForm → Bool
is_text_part (form.PlainPart t) = true
is_text_part f = is_expression f

-- what an assignment writes
abbrev pub is_target : NodeForm → Bool
is_target (form.ToName x) = true
is_target (form.ToProperty p) = true
is_target form.ToIndex = true
is_target f = false

-- a key and its value
abbrev pub is_entry : NodeForm → Bool
is_entry (form.NamedEntry t) = true
is_entry (form.NumberedEntry z) = true
is_entry form.ComputedEntry = true
is_entry f = false

-- a sign before an operand, an operand behind an operator, what stands behind a primary
abbrev pub is_sign : NodeForm → Bool
is_sign (form.Prefix p) = true
is_sign f = false

abbrev pub is_operand : NodeForm → Bool
is_operand (form.Operand o) = true
is_operand f = false

abbrev pub is_suffix : NodeForm → Bool
is_suffix (form.Property access p) = true
is_suffix (form.Method access f) = true
is_suffix form.Index = true
is_suffix f = false

-- What a form asks for next: one part of a kind, one or none, or any number.
pub data Slot : Type 0 where
  One : (NodeForm → Bool) → Slot
  Optional : (NodeForm → Bool) → Slot
  Any_number : (NodeForm → Bool) → Slot

-- THE TABLE: the parts of each form, in order.
abbrev pub parts_asked : NodeForm → List Slot
parts_asked form.Script = Any_number is_top ∷ []
parts_asked (form.Function x names) = One is_body ∷ []
parts_asked form.Block = Any_number is_statement ∷ []
parts_asked form.If = Any_number is_arm ∷ Optional is_body ∷ []
parts_asked form.Arm = One is_expression ∷ One is_body ∷ []
parts_asked form.While = One is_expression ∷ One is_body ∷ []
parts_asked (form.ForEach x) = One is_expression ∷ One is_body ∷ []
parts_asked form.ForSteps = One is_first_step ∷ One is_expression ∷ One is_target_form ∷ One is_body ∷ []
parts_asked form.Try = One is_body ∷ Any_number is_catch ∷ Optional is_finally ∷ []
parts_asked (form.Catch caught x) = One is_body ∷ []
parts_asked form.Finally = One is_body ∷ []
parts_asked (form.Declare x) = Optional is_expression ∷ []
parts_asked (form.Assign sign) = One is_target ∷ One is_expression ∷ []
parts_asked form.Increment = One is_target ∷ []
parts_asked form.Decrement = One is_target ∷ []
parts_asked (form.ToProperty p) = One is_expression ∷ []
parts_asked form.ToIndex = One is_expression ∷ One is_expression ∷ []
parts_asked form.Evaluate = One is_expression ∷ []
parts_asked form.Return = Optional is_expression ∷ []
parts_asked form.Throw = One is_expression ∷ []
parts_asked form.GString = Any_number is_text_part ∷ []
parts_asked (form.Call f) = Any_number is_entry ∷ Any_number is_expression ∷ []
parts_asked form.Group = One is_expression ∷ []
parts_asked form.List = Any_number is_expression ∷ []
parts_asked form.Map = Any_number is_entry ∷ []
parts_asked (form.NamedEntry t) = One is_expression ∷ []
parts_asked (form.NumberedEntry z) = One is_expression ∷ []
parts_asked form.ComputedEntry = One is_expression ∷ One is_expression ∷ []
parts_asked (form.Closure heads) = One is_body ∷ []
parts_asked (form.New c) = Optional is_expression ∷ []
parts_asked form.Suffixed = One is_expression ∷ Any_number is_suffix ∷ []
parts_asked (form.Method access f) = Any_number is_entry ∷ Any_number is_expression ∷ []
parts_asked form.Index = One is_expression ∷ []
parts_asked form.Prefixed = Any_number is_sign ∷ One is_expression ∷ []
parts_asked form.Joined = One is_expression ∷ Any_number is_operand ∷ []
parts_asked (form.Operand o) = One is_expression ∷ []
parts_asked form.And = Any_number is_expression ∷ []
parts_asked form.Or = Any_number is_expression ∷ []
parts_asked form.Chosen = Any_number is_choice ∷ One is_expression ∷ []
parts_asked form.IfTrue = One is_expression ∷ One is_expression ∷ []
parts_asked form.IfSet = One is_expression ∷ []
parts_asked f = []

-- forms of one kind
abbrev pub AllOf : (NodeForm → Bool) → List NodeForm → Type 0
AllOf test fs = AllAre (λ f. test f ≡ true) fs

-- some of one kind, and behind them the rest
pub record Several (test : NodeForm → Bool) (Rest : List NodeForm → Type 0) (fs : List NodeForm) : Type 0 where
  pub these : List NodeForm
  pub rest : List NodeForm
  pub split : fs ≡ these ++ rest
  pub kind : AllOf test these
  pub behind : Rest rest

-- one of this kind, and behind it the rest
abbrev pub Next : (NodeForm → Bool) → (List NodeForm → Type 0) → List NodeForm → Type 0
Next test Rest [] = ⊥
Next test Rest (f ∷ fs) = (test f ≡ true) × Rest fs

-- parts of these forms are what is asked for, all of it and no more
abbrev pub Stand : List Slot → List NodeForm → Type 0
Stand [] fs = fs ≡ []
Stand (One test ∷ slots) fs = Next test (Stand slots) fs
Stand (Optional test ∷ slots) fs = Stand slots fs ⊎ Next test (Stand slots) fs
Stand (Any_number test ∷ slots) fs = Several test (Stand slots) fs

-- the form of a node, and those of its parts
abbrev pub node_form : Node → NodeForm
node_form (node f ps) = f

abbrev pub part_forms : Nodes → List NodeForm
part_forms none = []
part_forms (more p ps) = node_form p ∷ part_forms ps

-- a node with the parts that its form asks for, and so each node within it
abbrev mutual
  pub WellFormed : Node → Type 0
  WellFormed (node f ps) = Stand (parts_asked f) (part_forms ps) × AllWellFormed ps

  pub AllWellFormed : Nodes → Type 0
  AllWellFormed none = Unit {0}
  AllWellFormed (more p ps) = WellFormed p × AllWellFormed ps

-- the same of a node of a numbered script, and of all of them
abbrev pub HasParts : Shape → Type 0
HasParts sh = Stand (parts_asked sh.form) sh.parts

abbrev pub AllHaveParts : Term → Type 0
AllHaveParts root = (k : ℕ) → HasParts (shape_at root k)
