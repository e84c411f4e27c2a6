-- What each operation of the tables does to the cells, by what it is given: later cells within the limits; and where the cells and
-- the values that it is given name what is there, the cells afterwards do, and what it gives is there.
use Rattle.std.proofs.Common.{ℕ, Bool, List, [], ◌∷◌, Option}
use Rattle.model_values.specs.Cells.{new_cell, new_text, new_list, throw}
use Rattle.model_values.specs.Fitting.{There, HasVariable, HasText, HasList, HasThrowable, IsNumber, IsIn}
use Rattle.model_values.specs.Index.{get_at, set_at, get_property, set_property}
use Rattle.model_values.specs.Kinds.{kind}
use Rattle.model_values.specs.Later.{Given, AnswerGrows, CalledGrows, TurnGrows}
use Rattle.model_values.specs.Limits.{Limits}
use Rattle.model_values.specs.MethodNames.{Method}
use Rattle.model_values.specs.Methods.{method_call, text_value}
use Rattle.model_values.specs.Operators.{apply, incremented, decremented}
use Rattle.model_values.specs.TextOf.{Writing, written}
use Rattle.model_values.specs.Throws.{throw_value, new_throwable}
use Rattle.model_values.specs.Types.{Value, Cell, Variable, Class, Op}
use Rattle.model_values.specs.Walks.{turn, loop_turn, at_end}
use Rattle.model_values.specs.declared.cell.Binding.{Binding}
use Rattle.model_values.proofs.CellGrowth.{Before, new_variable_grows, new_text_grows, new_list_grows, throw_grows}
use Rattle.model_values.proofs.IndexGrowth.{get_at_grows, set_at_grows, get_property_grows, set_property_grows}
use Rattle.model_values.proofs.MethodGrowth.{method_call_grows, text_value_is_text}
use Rattle.model_values.proofs.OperatorGrowth.{apply_grows, incremented_grows, decremented_grows}
use Rattle.model_values.proofs.ThrowGrowth.{throw_value_grows, new_throwable_grows, written_grows}
use Rattle.model_values.proofs.WalkGrowth.{turn_grows, loop_turn_grows, at_end_grows}

module _ (l : Limits) (rule : ℕ → List Binding → Type 0) (h : List Cell) where
  abbrev given : List Value → Before
  given vs = record { l = l; rule = rule; h = h; given = Given rule h vs; fit = λ x. x.0 }

  pub new_variables : (v : Value) → AnswerGrows l rule h (Given rule h (v ∷ [])) (IsIn HasVariable) (new_cell l h (Variable v))
  new_variables v = new_variable_grows (given (v ∷ [])) v (λ x. x.1.0)

  pub new_texts : (t : List ℕ) → AnswerGrows l rule h (Given rule h []) (IsIn HasText) (new_text l h t)
  new_texts t = new_text_grows (given []) t

  pub new_lists : (vs : List Value) → AnswerGrows l rule h (Given rule h vs) (IsIn HasList) (new_list l h vs)
  new_lists vs = new_list_grows (given vs) vs (λ x. x.1)

  pub throws : (class : Class) (m : List ℕ) → AnswerGrows l rule h (Given rule h []) (λ g v. ⊥) (throw l h class m)
  throws class m = throw_grows (given []) (λ g v. ⊥) class m

  pub throw_values : (v : Value) → AnswerGrows l rule h (Given rule h (v ∷ [])) (λ g v. ⊥) (throw_value l h v)
  throw_values v = throw_value_grows (given (v ∷ [])) (λ g v. ⊥) v

  pub new_throwables : (class : Class) (o : Option Value) → AnswerGrows l rule h (Given rule h []) (IsIn HasThrowable) (new_throwable l h class o)
  new_throwables class o = new_throwable_grows (given []) class o

  pub written_texts : (w : Writing) → AnswerGrows l rule h (Given rule h []) (IsIn HasText) (written l h w)
  written_texts w = written_grows (given []) w

  pub text_values : (v : Value) → AnswerGrows l rule h (Given rule h (v ∷ [])) (IsIn HasText) (text_value l h v (kind h v))
  text_values v = text_value_is_text (given (v ∷ [])) v

  pub operators : (op : Op) (a b : Value) → AnswerGrows l rule h (Given rule h (a ∷ b ∷ [])) There (apply l h op a b)
  operators op a b = apply_grows (given (a ∷ b ∷ [])) op a b (λ x. x.1.1.0)

  pub increments : (a : Value) → AnswerGrows l rule h (Given rule h (a ∷ [])) IsNumber (incremented l h a)
  increments a = incremented_grows (given (a ∷ [])) a

  pub decrements : (a : Value) → AnswerGrows l rule h (Given rule h (a ∷ [])) IsNumber (decremented l h a)
  decrements a = decremented_grows (given (a ∷ [])) a

  pub reads : (a i : Value) → AnswerGrows l rule h (Given rule h (a ∷ i ∷ [])) There (get_at l h a i)
  reads a i = get_at_grows (given (a ∷ i ∷ [])) a i

  pub writes : (a i v : Value) → AnswerGrows l rule h (Given rule h (a ∷ i ∷ v ∷ [])) There (set_at l h a i v)
  writes a i v = set_at_grows (given (a ∷ i ∷ v ∷ [])) a i v (λ x. x.1.1.1.0)

  pub property_reads : (a : Value) (p : List ℕ) → AnswerGrows l rule h (Given rule h (a ∷ [])) There (get_property l h a p)
  property_reads a p = get_property_grows (given (a ∷ [])) a p

  pub property_writes : (a : Value) (p : List ℕ) (v : Value) → AnswerGrows l rule h (Given rule h (a ∷ v ∷ [])) There (set_property l h a p v)
  property_writes a p v = set_property_grows (given (a ∷ v ∷ [])) a p v (λ x. x.1.1.0)

  pub methods : (a : Value) (name : List ℕ) (args : List Value) (n : ℕ) → CalledGrows l rule h (Given rule h (a ∷ args)) (method_call l h a name args n)
  methods a name args n = method_call_grows (given (a ∷ args)) a name args n (λ x. x.1.0) (λ x. x.1.1)

  pub walk_turns : (on : Value) (two : Bool) (i : ℕ) → TurnGrows l rule h (Given rule h (on ∷ [])) (turn l h on two i)
  walk_turns on two i = turn_grows (given (on ∷ [])) on two i

  pub loop_turns : (on : Value) (i : ℕ) → TurnGrows l rule h (Given rule h (on ∷ [])) (loop_turn l h on i)
  loop_turns on i = loop_turn_grows (given (on ∷ [])) on i (λ x. x.1.0)

  pub walk_ends : (m : Method) (on : Value) (kept : List Value) → AnswerGrows l rule h (Given rule h (on ∷ kept)) There (at_end l h m on kept)
  walk_ends m on kept = at_end_grows (given (on ∷ kept)) m on kept (λ x. x.1.0) (λ x. x.1.1)
