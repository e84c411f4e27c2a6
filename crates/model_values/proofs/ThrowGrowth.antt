-- The throws of the tables and the texts of values: what they make is one new cell.
use Rattle.std.proofs.Common.{ℕ, ℤ, List, Option, Some, None}
use Rattle.model_values.specs.Fitting.{HasText, HasThrowable, IsIn}
use Rattle.model_values.specs.Kinds.{Kind, null, thrown, kind}
use Rattle.model_values.specs.TextOf.{Writing, Wrote, Stops, text_of, written}
use Rattle.model_values.specs.Throws.{no_method, no_property, no_property_to_set, unknown_name, unknown_step, outside, bad_key, bad_argument, by_zero, empty_list, no_number, throw_kind, throw_value, with_message, new_throwable}
use Rattle.model_values.specs.Types.{Value, Class, Arithmetic, MissingProperty, MissingMethod, NullPointer, IllegalArgument, IndexOutOfBounds, NumberFormat, NoSuchElement, NoSuchMethodError}
use Rattle.model_values.proofs.CellGrowth.{Before, Sort, Answers, grows_not, throw_grows, new_text_grows, new_throwable_cell}
use Rattle.model_values.proofs.KindFacts.{KindFits, kind_fits}

module _ (b : Before) where
  pub no_method_grows : (sort : Sort) (k : Kind) (f : List ℕ) → Answers b sort (no_method b.l b.h k f)
  no_method_grows sort null f = search (throw_grows b sort NullPointer)
  no_method_grows sort k f = search (throw_grows b sort MissingMethod)

  pub no_property_grows : (sort : Sort) (k : Kind) (p : List ℕ) → Answers b sort (no_property b.l b.h k p)
  no_property_grows sort null p = search (throw_grows b sort NullPointer)
  no_property_grows sort k p = search (throw_grows b sort MissingProperty)

  pub no_property_to_set_grows : (sort : Sort) (k : Kind) (p : List ℕ) → Answers b sort (no_property_to_set b.l b.h k p)
  no_property_to_set_grows sort null p = search (throw_grows b sort NullPointer)
  no_property_to_set_grows sort k p = search (throw_grows b sort MissingProperty)

  pub unknown_name_grows : (sort : Sort) (x : List ℕ) → Answers b sort (unknown_name b.l b.h x)
  unknown_name_grows sort x = search (throw_grows b sort MissingProperty)

  pub unknown_step_grows : (sort : Sort) (s : List ℕ) → Answers b sort (unknown_step b.l b.h s)
  unknown_step_grows sort s = search (throw_grows b sort NoSuchMethodError)

  pub outside_grows : (sort : Sort) (i : ℤ) (n : ℕ) → Answers b sort (outside b.l b.h i n)
  outside_grows sort i n = search (throw_grows b sort IndexOutOfBounds)

  pub bad_key_grows : (sort : Sort) → Answers b sort (bad_key b.l b.h)
  bad_key_grows sort = search (throw_grows b sort IllegalArgument)

  pub bad_argument_grows : (sort : Sort) → Answers b sort (bad_argument b.l b.h)
  bad_argument_grows sort = search (throw_grows b sort IllegalArgument)

  pub by_zero_grows : (sort : Sort) → Answers b sort (by_zero b.l b.h)
  by_zero_grows sort = search (throw_grows b sort Arithmetic)

  pub empty_list_grows : (sort : Sort) → Answers b sort (empty_list b.l b.h)
  empty_list_grows sort = search (throw_grows b sort NoSuchElement)

  pub no_number_grows : (sort : Sort) (t : List ℕ) → Answers b sort (no_number b.l b.h t)
  no_number_grows sort t = search (throw_grows b sort NumberFormat)

  -- the statement `throw` gives no value, whatever the sort
  throw_kind_grows : (sort : Sort) (k : Kind) → KindFits b.h k → Answers b sort (throw_kind b.l b.h k)
  throw_kind_grows sort (thrown c class m) e = grows_not b _ (λ x. e)
  throw_kind_grows sort k e = search (throw_grows b sort IllegalArgument)

  pub throw_value_grows : (sort : Sort) (v : Value) → Answers b sort (throw_value b.l b.h v)
  throw_value_grows sort v = throw_kind_grows sort (kind b.h v) (kind_fits b.h v)

  with_message_grows : (class : Class) (w : Writing) → Answers b (IsIn HasThrowable) (with_message b.l b.h class w)
  with_message_grows class (Wrote m) = new_throwable_cell b class (Some m)
  with_message_grows class (Stops k) = tt

  pub new_throwable_grows : (class : Class) (o : Option Value) → Answers b (IsIn HasThrowable) (new_throwable b.l b.h class o)
  new_throwable_grows class None = new_throwable_cell b class None
  new_throwable_grows class (Some v) = with_message_grows class (text_of b.l b.h v)

  pub written_grows : (w : Writing) → Answers b (IsIn HasText) (written b.l b.h w)
  written_grows (Wrote t) = new_text_grows b t
  written_grows (Stops k) = tt
