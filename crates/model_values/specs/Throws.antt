-- The throws of the tables, each with its class and message.
use Rattle.std.specs.Prelude.{ℕ, List, ◌++◌, ℤ, pos, Option, Some, None, codes}
use Rattle.std.specs.Fmt.{signed_decimal}
use Rattle.model_values.specs.Cells.{Answer, Throws, Meets, throw, new_cell}
use Rattle.model_values.specs.Limits.{Limits}
use Rattle.model_values.specs.Kinds.{Kind, null, thrown, kind, kind_name}
use Rattle.model_values.specs.TextOf.{Writing, Wrote, Stops, text_of}
use Rattle.model_values.specs.Types.{Value, Cell, ThrownCell, Class, Arithmetic, MissingProperty, MissingMethod, NullPointer, IllegalArgument, IndexOutOfBounds, NumberFormat, NoSuchElement, NoSuchMethodError}

module _ (l : Limits) (h : List Cell) where
  -- a kind that has no method of this name, or none with that number of arguments. As methods the operators are
  -- `plus minus multiply mod compareTo negative positive rangeTo`, and an index is `getAt` and `putAt`
  abbrev pub no_method : Kind → List ℕ → Answer
  no_method null f = throw l h NullPointer (codes "Cannot invoke method " ++ f ++ codes "() on null object")
  no_method k f = throw l h MissingMethod (codes "No signature of method: " ++ kind_name k ++ codes "." ++ f ++ codes "()")

  -- a property that is read, and one that is written
  abbrev pub no_property : Kind → List ℕ → Answer
  no_property null p = throw l h NullPointer (codes "Cannot get property '" ++ p ++ codes "' on null object")
  no_property k p = throw l h MissingProperty (codes "No such property: " ++ p ++ codes " for class: " ++ kind_name k)

  abbrev pub no_property_to_set : Kind → List ℕ → Answer
  no_property_to_set null p = throw l h NullPointer (codes "Cannot set property '" ++ p ++ codes "' on null object")
  no_property_to_set k p = throw l h MissingProperty (codes "No such property: " ++ p ++ codes " for class: " ++ kind_name k)

  -- a name that no variable, function or step has: as a variable, and as a call
  abbrev pub unknown_name : List ℕ → Answer
  unknown_name x = throw l h MissingProperty (codes "No such property: " ++ x ++ codes " for class: WorkflowScript")

  abbrev pub unknown_step : List ℕ → Answer
  unknown_step s = throw l h NoSuchMethodError (codes "No such DSL method '" ++ s ++ codes "' found among steps")

  -- an index or position i of a text or list of n
  abbrev pub outside : ℤ → ℕ → Answer
  outside i n = throw l h IndexOutOfBounds (codes "index " ++ signed_decimal i ++ codes " of " ++ signed_decimal (pos n))

  abbrev pub bad_key : Answer
  bad_key = throw l h IllegalArgument (codes "bad map key")

  abbrev pub bad_argument : Answer
  bad_argument = throw l h IllegalArgument (codes "bad argument")

  abbrev pub by_zero : Answer
  by_zero = throw l h Arithmetic (codes "/ by zero")

  abbrev pub empty_list : Answer
  empty_list = throw l h NoSuchElement (codes "empty list")

  abbrev pub no_number : List ℕ → Answer
  no_number t = throw l h NumberFormat (codes "For input string: \"" ++ t ++ codes "\"")

  -- the statement `throw`: a throwable itself is thrown, and no new one is made
  abbrev pub throw_kind : Kind → Answer
  throw_kind (thrown c class m) = Throws h c
  throw_kind _ = throw l h IllegalArgument (codes "not a throwable")

  abbrev pub throw_value : Value → Answer
  throw_value v = throw_kind (kind h v)

  -- `new C(e)`: the text of e is the message
  abbrev pub with_message : Class → Writing → Answer
  with_message class (Wrote m) = new_cell l h (ThrownCell class (Some m))
  with_message class (Stops k) = Meets k

  abbrev pub new_throwable : Class → Option Value → Answer
  new_throwable class None = new_cell l h (ThrownCell class None)
  new_throwable class (Some v) = with_message class (text_of l h v)
