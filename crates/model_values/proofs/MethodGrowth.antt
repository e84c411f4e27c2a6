-- The method table.
use Rattle.std.proofs.Common.{◌≡◌, refl, sym, ℕ, ℤ, pos, Bool, true, false, List, [], ◌∷◌, map, Option, Some, None}
use Rattle.std.specs.Prelude.{if◌then◌else◌, int_div}
use Rattle.std.specs.List.{AllByRecursion as AllAre}
use Rattle.std.specs.Ordering.{int_eq}
use Rattle.model_values.specs.Cells.{Answer}
use Rattle.model_values.specs.Equality.{Equality, Is, Stops as Halts, equal}
use Rattle.model_values.specs.Fitting.{There, HasText, IsNullOrIn, IsIn}
use Rattle.model_values.specs.Kinds.{Kind, number, text, items, pairs, closure, thrown, kind}
use Rattle.model_values.specs.Later.{CalledGrows}
use Rattle.model_values.specs.MethodNames.{Method, method_named, ToString, Equals, ToInteger, Intdiv, GetMessage, Call}
use Rattle.model_values.specs.Methods.{Called, is_walk, equality_answer, text_value, number_method, thrown_method, uncounted, kind_method, done_or_none, walk_call, walk_or_own, named_call, call_by, method_call}
use Rattle.model_values.specs.Operators.{wrapped}
use Rattle.model_values.specs.TextOf.{text_of}
use Rattle.model_values.specs.Throws.{by_zero}
use Rattle.model_values.specs.Types.{Value, Truth, Whole}
use Rattle.model_values.proofs.CellGrowth.{Before, Answers, gives, wider, text_is_there, number_is_there, text_or_null_there}
use Rattle.model_values.proofs.IndexGrowth.{message_of_grows}
use Rattle.model_values.proofs.KindFacts.{KindFits, kind_fits, is_text}
use Rattle.model_values.proofs.ListMethodGrowth.{MayAnswerCounted, list_method_grows, map_method_grows}
use Rattle.model_values.proofs.OperatorGrowth.{wrapped_grows}
use Rattle.model_values.proofs.TextMethodGrowth.{MayAnswer, text_method_grows, with_number_grows}
use Rattle.model_values.proofs.ThrowGrowth.{no_method_grows, bad_argument_grows, by_zero_grows, written_grows}

abbrev pub Calls : (b : Before) → Called → Type 0
Calls b called = CalledGrows b.l b.rule b.h b.given called

module _ (b : Before) where
  equality_grows : (e : Equality) → Answers b There (equality_answer b.l b.h e).0
  equality_grows (Is f n) = gives b There (Truth f) (λ x. tt)
  equality_grows (Halts k n) = tt

  -- `toString` gives a text itself back
  text_value_grows : (v : Value) (k : Kind) → (b.given → There b.h v) → Answers b There (text_value b.l b.h v k)
  text_value_grows v (text t) r = gives b There v r
  text_value_grows v k r = text_is_there b _ (written_grows b (text_of b.l b.h v))

  text_itself : (v : Value) (k : Kind) → k ≡ kind b.h v → Answers b (IsIn HasText) (text_value b.l b.h v k)
  text_itself v (text t) e = gives b (IsIn HasText) v (λ x. is_text b.h v t (sym e))
  text_itself v k e = written_grows b (text_of b.l b.h v)

  -- the text of a value
  pub text_value_is_text : (v : Value) → Answers b (IsIn HasText) (text_value b.l b.h v (kind b.h v))
  text_value_is_text v = text_itself v (kind b.h v) refl

  divided : (by_nothing : Bool) (z : ℤ) → Answers b There (if by_nothing then by_zero b.l b.h else wrapped b.l b.h z)
  divided true z = by_zero_grows b There
  divided false z = number_is_there b (wrapped b.l b.h z) (wrapped_grows b z)

  number_method_grows : (x : ℤ) (m : Method) (ks : List Kind) → MayAnswer b (number_method b.l b.h x m ks)
  number_method_grows x Intdiv (k ∷ []) = with_number_grows b There k _ (λ y. divided (int_eq y (pos 0)) (int_div x y))
  number_method_grows x ToInteger [] = gives b There (Whole x) (λ y. tt)
  number_method_grows x m ks = tt

  thrown_method_grows : (o : Option (List ℕ)) (m : Method) (ks : List Kind) → MayAnswer b (thrown_method b.l b.h o m ks)
  thrown_method_grows o GetMessage [] = wider b (IsNullOrIn HasText) There _ text_or_null_there (message_of_grows b o)
  thrown_method_grows o m ks = tt

  uncounted_grows : (o : Option Answer) (n : ℕ) → MayAnswer b o → MayAnswerCounted b (uncounted b.l b.h o n)
  uncounted_grows None n a = tt
  uncounted_grows (Some answer) n a = a

  kind_method_grows : (k : Kind) (m : Method) (args : List Value) (n : ℕ) → KindFits b.h k → (b.given → AllAre (There b.h) args) → MayAnswerCounted b (kind_method b.l b.h k m args n)
  kind_method_grows (text s) m args n e a = uncounted_grows _ n (text_method_grows b s m (map (kind b.h) args))
  kind_method_grows (items c vs) m args n e a = list_method_grows b c vs m args n e a
  kind_method_grows (pairs c es) m args n e a = uncounted_grows _ n (map_method_grows b c es m args e a)
  kind_method_grows (number x) m args n e a = uncounted_grows _ n (number_method_grows x m (map (kind b.h) args))
  kind_method_grows (thrown c class message) m args n e a = uncounted_grows _ n (thrown_method_grows message m (map (kind b.h) args))
  kind_method_grows k m args n e a = tt

  done_or_none_grows : (k : Kind) (name : List ℕ) (n : ℕ) (o : Option (Answer × ℕ)) → MayAnswerCounted b o → Calls b (done_or_none b.l b.h k name n o)
  done_or_none_grows k name n None a = no_method_grows b There k name
  done_or_none_grows k name n (Some r) a = a

  walk_call_grows : (m : Method) (k : Kind) (n : ℕ) → KindFits b.h k → Calls b (walk_call b.l b.h m k n)
  walk_call_grows m (closure c) n e = e
  walk_call_grows m k n e = bad_argument_grows b There

  walk_or_own_grows : (walks : Bool) (k : Kind) (name : List ℕ) (m : Method) (args : List Value) (n : ℕ) → KindFits b.h k → (b.given → AllAre (There b.h) args) → Calls b (walk_or_own b.l b.h walks k name m args n)
  walk_or_own_grows true k name m (v ∷ []) n e a = walk_call_grows m (kind b.h v) n (kind_fits b.h v)
  walk_or_own_grows true k name m args n e a = no_method_grows b There k name
  walk_or_own_grows false k name m args n e a = done_or_none_grows k name n (kind_method b.l b.h k m args n) (kind_method_grows k m args n e a)

  named_call_grows : (on : Value) (k : Kind) (name : List ℕ) (m : Method) (args : List Value) (n : ℕ) → KindFits b.h k → (b.given → There b.h on) → (b.given → AllAre (There b.h) args) → Calls b (named_call b.l b.h on k name m args n)
  named_call_grows on k name ToString [] n e t a = text_value_grows on k t
  named_call_grows on k name Equals (v ∷ []) n e t a = done_or_none_grows k name n (Some (equality_answer b.l b.h (equal b.l b.h on v n))) (equality_grows (equal b.l b.h on v n))
  named_call_grows on (closure c) name Call args n e t a = e
  named_call_grows on k name m args n e t a = walk_or_own_grows (is_walk k m) k name m args n e a

  call_by_grows : (o : Option Method) (on : Value) (name : List ℕ) (args : List Value) (n : ℕ) → (b.given → There b.h on) → (b.given → AllAre (There b.h) args) → Calls b (call_by b.l b.h o on name args n)
  call_by_grows None on name args n t a = no_method_grows b There (kind b.h on) name
  call_by_grows (Some m) on name args n t a = named_call_grows on (kind b.h on) name m args n (kind_fits b.h on) t a

  pub method_call_grows : (on : Value) (name : List ℕ) (args : List Value) (n : ℕ) → (b.given → There b.h on) → (b.given → AllAre (There b.h) args) → Calls b (method_call b.l b.h on name args n)
  method_call_grows on name args n t a = call_by_grows (method_named name) on name args n t a
