-- Each operation on values leaves later cells, in every world.
use Rattle.std.proofs.Common.{ℕ, List, map, Bool, Option, Some, None}
use Rattle.model_syntax.specs.declared.tree.Access.{Access}
use Rattle.model_syntax.specs.declared.tree.Access.TheVariants.{Direct, NullSafe}
use Rattle.model_values.specs.Cells.{Answer, Gives, with_new, new_cell, new_text, new_list, new_map, throw}
use Rattle.model_values.specs.Fitting.{There, HasText, HasList, HasMap, HasThrowable, IsNumber, IsIn}
use Rattle.model_values.specs.Index.{get_at, set_at, get_property, set_property}
use Rattle.model_values.specs.Kinds.{Kind, kind}
use Rattle.model_values.specs.Later.{AnswerLater, CalledGrows, TurnGrows, AfterGrows}
use Rattle.model_values.specs.MethodNames.{Method}
use Rattle.model_values.specs.Methods.{method_call}
use Rattle.model_values.specs.Operators.{apply, incremented, decremented}
use Rattle.model_values.specs.TextOf.{Writing, written}
use Rattle.model_values.specs.Throws.{no_method, unknown_step, throw_value, new_throwable}
use Rattle.model_values.specs.Walks.{turn, loop_turn, after, at_end}
use Rattle.model_values.proofs.CellGrowth.{Before, Sort, Answers, ungiven, answer_later, gives_new, new_cell_grows, new_text_grows, new_list_grows, new_map_grows, throw_grows}
use Rattle.model_values.proofs.IndexGrowth.{get_at_grows, set_at_grows, get_property_grows, set_property_grows, unless_null_grows}
use Rattle.model_values.proofs.LaterLaws.{later_itself}
use Rattle.model_values.proofs.MethodGrowth.{method_call_grows, text_value_is_text}
use Rattle.model_values.proofs.OperatorGrowth.{apply_grows, incremented_grows, decremented_grows}
use Rattle.model_values.proofs.ThrowGrowth.{no_method_grows, unknown_name_grows, unknown_step_grows, bad_key_grows, throw_value_grows, new_throwable_grows, written_grows}
use Rattle.model_values.proofs.WalkGrowth.{turn_grows, loop_turn_grows, after_grows, at_end_grows}
use Rattle.model_run.specs.ValueTypes.{Value, Null, Cell, Variable, Class, Key, Op}
use Rattle.model_run.specs.State.{World, Env}
use Rattle.model_run.specs.Around.{cells, limits}
use Rattle.model_run.specs.Expressions.{safely}
use Rattle.model_run.specs.Gathering.{map_from}
use Rattle.model_run.specs.Names.{meant, read_cell, read_name}
use Rattle.model_run.specs.Steps.{kept_text}

-- the tables at a world, where nothing is known of what they are given
abbrev pub table : World → Before
table w = ungiven (limits w) (cells w)

module _ (w : World) where
  from_table : (sort : Sort) (answer : Answer) → Answers (table w) sort answer → AnswerLater (cells w) answer
  from_table sort answer a = answer_later (table w) sort answer a

  pub variables_later : (vs : List Value) → AnswerLater (cells w) (with_new (limits w) (cells w) (map Variable vs) (λ g. Gives g Null))
  variables_later vs = from_table There _ (gives_new (table w) There (map Variable vs) Null (λ x. absurd x) (λ x. tt))

  pub new_cell_later : (x : Cell) → AnswerLater (cells w) (new_cell (limits w) (cells w) x)
  new_cell_later x = from_table There _ (new_cell_grows (table w) There x (λ g. absurd g) (λ g. absurd g))

  pub new_text_later : (t : List ℕ) → AnswerLater (cells w) (new_text (limits w) (cells w) t)
  new_text_later t = from_table (IsIn HasText) _ (new_text_grows (table w) t)

  pub new_list_later : (vs : List Value) → AnswerLater (cells w) (new_list (limits w) (cells w) vs)
  new_list_later vs = from_table (IsIn HasList) _ (new_list_grows (table w) vs (λ x. absurd x))

  pub new_map_later : (es : List (Key × Value)) → AnswerLater (cells w) (new_map (limits w) (cells w) es)
  new_map_later es = from_table (IsIn HasMap) _ (new_map_grows (table w) es (λ x. absurd x))

  pub map_from_later : (o : Option (List (Key × Value))) → AnswerLater (cells w) (map_from w o)
  map_from_later None = from_table There _ (bad_key_grows (table w) There)
  map_from_later (Some es) = new_map_later es

  pub written_later : (t : Writing) → AnswerLater (cells w) (written (limits w) (cells w) t)
  written_later t = from_table (IsIn HasText) _ (written_grows (table w) t)

  pub new_throwable_later : (class : Class) (o : Option Value) → AnswerLater (cells w) (new_throwable (limits w) (cells w) class o)
  new_throwable_later class o = from_table (IsIn HasThrowable) _ (new_throwable_grows (table w) class o)

  pub throw_later : (class : Class) (m : List ℕ) → AnswerLater (cells w) (throw (limits w) (cells w) class m)
  throw_later class m = from_table There _ (throw_grows (table w) There class m)

  pub throw_value_later : (v : Value) → AnswerLater (cells w) (throw_value (limits w) (cells w) v)
  throw_value_later v = from_table There _ (throw_value_grows (table w) There v)

  pub no_method_later : (k : Kind) (f : List ℕ) → AnswerLater (cells w) (no_method (limits w) (cells w) k f)
  no_method_later k f = from_table There _ (no_method_grows (table w) There k f)

  pub unknown_step_later : (f : List ℕ) → AnswerLater (cells w) (unknown_step (limits w) (cells w) f)
  unknown_step_later f = from_table There _ (unknown_step_grows (table w) There f)

  read_cell_later : (x : List ℕ) (o : Option ℕ) → AnswerLater (cells w) (read_cell w x o)
  read_cell_later x (Some c) = later_itself (cells w)
  read_cell_later x None = from_table There _ (unknown_name_grows (table w) There x)

  pub read_name_later : (x : List ℕ) (env : Env) → AnswerLater (cells w) (read_name x env w)
  read_name_later x env = read_cell_later x (meant x env w)

  pub apply_later : (op : Op) (u v : Value) → AnswerLater (cells w) (apply (limits w) (cells w) op u v)
  apply_later op u v = from_table There _ (apply_grows (table w) op u v (λ x. absurd x))

  pub incremented_later : (v : Value) → AnswerLater (cells w) (incremented (limits w) (cells w) v)
  incremented_later v = from_table IsNumber _ (incremented_grows (table w) v)

  pub decremented_later : (v : Value) → AnswerLater (cells w) (decremented (limits w) (cells w) v)
  decremented_later v = from_table IsNumber _ (decremented_grows (table w) v)

  pub get_at_later : (v i : Value) → AnswerLater (cells w) (get_at (limits w) (cells w) v i)
  get_at_later v i = from_table There _ (get_at_grows (table w) v i)

  pub set_at_later : (u i v : Value) → AnswerLater (cells w) (set_at (limits w) (cells w) u i v)
  set_at_later u i v = from_table There _ (set_at_grows (table w) u i v (λ x. absurd x))

  pub get_property_later : (v : Value) (p : List ℕ) → AnswerLater (cells w) (get_property (limits w) (cells w) v p)
  get_property_later v p = from_table There _ (get_property_grows (table w) v p)

  pub set_property_later : (u : Value) (p : List ℕ) (v : Value) → AnswerLater (cells w) (set_property (limits w) (cells w) u p v)
  set_property_later u p v = from_table There _ (set_property_grows (table w) u p v (λ x. absurd x))

  pub safe_property_later : (access : Access) (v : Value) (p : List ℕ) → AnswerLater (cells w) (safely access w v (get_property (limits w) (cells w) v p))
  safe_property_later Direct v p = get_property_later v p
  safe_property_later NullSafe v p = from_table There _ (unless_null_grows (table w) (kind (cells w) v) _ (get_property_grows (table w) v p))

  pub kept_text_later : (o : Option Value) → AnswerLater (cells w) (kept_text w o)
  kept_text_later None = later_itself (cells w)
  kept_text_later (Some v) = from_table (IsIn HasText) _ (text_value_is_text (table w) v)

  pub called_grows : (on : Value) (f : List ℕ) (args : List Value) (n : ℕ) → CalledGrows (limits w) (table w).rule (cells w) ⊥ (method_call (limits w) (cells w) on f args n)
  called_grows on f args n = method_call_grows (table w) on f args n (λ x. absurd x) (λ x. absurd x)

  pub turn_later : (on : Value) (two : Bool) (i : ℕ) → TurnGrows (limits w) (table w).rule (cells w) ⊥ (turn (limits w) (cells w) on two i)
  turn_later on two i = turn_grows (table w) on two i

  pub loop_turn_later : (on : Value) (i : ℕ) → TurnGrows (limits w) (table w).rule (cells w) ⊥ (loop_turn (limits w) (cells w) on i)
  loop_turn_later on i = loop_turn_grows (table w) on i (λ x. absurd x)

  pub after_later : (m : Method) (args element : List Value) (v : Value) (kept : List Value) → AfterGrows (limits w) (table w).rule (cells w) ⊥ (after (limits w) (cells w) m args element v kept)
  after_later m args element v kept = after_grows (table w) m args element v kept (λ x. absurd x) (λ x. absurd x) (λ x. absurd x) (λ x. absurd x)

  pub at_end_later : (m : Method) (on : Value) (kept : List Value) → AnswerLater (cells w) (at_end (limits w) (cells w) m on kept)
  at_end_later m on kept = from_table There _ (at_end_grows (table w) m on kept (λ x. absurd x) (λ x. absurd x))
