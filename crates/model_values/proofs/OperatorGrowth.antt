-- The operators, on every pair of kinds.
use Rattle.std.proofs.Common.{ℕ, zero, suc, ℤ, pos, ◌+ℤ◌, neg_ℤ, Bool, true, false, List, [], ◌∷◌, ◌++◌}
use Rattle.std.specs.Prelude.{codes, if◌then◌else◌, ◌-ℤ◌, ◌*ℤ◌, int_rem, int_le, nat_abs}
use Rattle.std.specs.List.{AllByRecursion as AllAre}
use Rattle.std.specs.Int.{int_wrap, w32}
use Rattle.std.specs.Ordering.{int_eq, int_cmp, nat_cmp, is_lt, is_le, is_gt, is_ge}
use Rattle.std.specs.declared.cmp.Ordering.{Ordering}
use Rattle.std.specs.Cmp.Lexicographic.{slice_cmp}
use Rattle.indexmap.specs.IndexMap.{insert_entry, insert_all}
use Rattle.model_values.specs.Fitting.{There, HasText, HasList, IsNumber, IsFlag, IsIn}
use Rattle.model_values.specs.Keys.{same_key}
use Rattle.model_values.specs.Kinds.{Kind, null, number, text, items, pairs, kind}
use Rattle.model_values.specs.Operators.{numbers_from, numbers, wrapped, joined, plus_kinds, minus_kinds, times_kinds, mod_kinds, compare_kinds, range_kinds, negative_kind, positive_kind, apply, step_kind, incremented, decremented}
use Rattle.model_values.specs.TextOf.{texts_behind}
use Rattle.model_values.specs.Throws.{by_zero}
use Rattle.model_values.specs.Types.{Value, Truth, Whole, Key, Op, Plus, Minus, Times, Mod, Less, LessEqual, Greater, GreaterEqual, Range, GetAt, Negative, Positive}
use Rattle.model_values.proofs.CellGrowth.{Before, Answers, gives, new_list_grows, new_map_grows, items_there, pairs_there, all_append, all_insert, text_is_there, list_is_there, map_is_there, number_is_there, flag_is_there}
use Rattle.model_values.proofs.IndexGrowth.{get_at_grows}
use Rattle.model_values.proofs.KindFacts.{KindFits, kind_fits}
use Rattle.model_values.proofs.ThrowGrowth.{no_method_grows, by_zero_grows, written_grows}

pub all_inserts : (P : Value → Type 0) (es fs : List (Key × Value)) → AllAre (λ e. P e.1) es → AllAre (λ e. P e.1) fs → AllAre (λ e. P e.1) (insert_all same_key es fs)
all_inserts P es [] h k = h
all_inserts P es (f ∷ fs) h k = all_inserts P (insert_entry same_key es f.0 f.1) fs (all_insert P f.0 f.1 es h k.0) k.1

module _ (b : Before) where
  numbers_there : (step x : ℤ) (n : ℕ) → AllAre (There b.h) (numbers_from step x n)
  numbers_there step x zero = (tt, tt)
  numbers_there step x (suc n) = (tt, numbers_there step (x +ℤ step) n)

  pub wrapped_grows : (z : ℤ) → Answers b IsNumber (wrapped b.l b.h z)
  wrapped_grows z = gives b IsNumber (Whole (int_wrap w32 z)) (λ x. tt)

  pub joined_grows : (u v : Value) → Answers b (IsIn HasText) (joined b.l b.h u v)
  joined_grows u v = written_grows b (texts_behind b.l b.h (u ∷ v ∷ []) [])

  plus_grows : (u v : Value) (k m : Kind) → KindFits b.h k → KindFits b.h m → (b.given → There b.h v) → Answers b There (plus_kinds b.l b.h u v k m)
  plus_grows u v (number x) (number y) e f t = number_is_there b (wrapped b.l b.h (x +ℤ y)) (wrapped_grows (x +ℤ y))
  plus_grows u v (text s) m e f t = text_is_there b _ (joined_grows u v)
  plus_grows u v (number x) (text s) e f t = text_is_there b _ (joined_grows u v)
  plus_grows u v null (text s) e f t = text_is_there b _ (joined_grows u v)
  plus_grows u v (items c xs) (items d ys) e f t = list_is_there b _ (new_list_grows b (xs ++ ys) (λ x. all_append (There b.h) xs ys (items_there b c xs e x) (items_there b d ys f x)))
  plus_grows u v (items c xs) m e f t = list_is_there b _ (new_list_grows b (xs ++ v ∷ []) (λ x. all_append (There b.h) xs (v ∷ []) (items_there b c xs e x) (t x, tt)))
  plus_grows u v (pairs c es) (pairs d fs) e f t = map_is_there b _ (new_map_grows b (insert_all same_key es fs) (λ x. all_inserts (There b.h) es fs (pairs_there b c es e x) (pairs_there b d fs f x)))
  plus_grows u v k m e f t = no_method_grows b There k (codes "plus")

  minus_grows : (k m : Kind) → Answers b IsNumber (minus_kinds b.l b.h k m)
  minus_grows (number x) (number y) = wrapped_grows (x -ℤ y)
  minus_grows k m = no_method_grows b IsNumber k (codes "minus")

  times_grows : (k m : Kind) → Answers b IsNumber (times_kinds b.l b.h k m)
  times_grows (number x) (number y) = wrapped_grows (x *ℤ y)
  times_grows k m = no_method_grows b IsNumber k (codes "multiply")

  remainder_grows : (by_nothing : Bool) (z : ℤ) → Answers b IsNumber (if by_nothing then by_zero b.l b.h else wrapped b.l b.h z)
  remainder_grows true z = by_zero_grows b IsNumber
  remainder_grows false z = wrapped_grows z

  mod_grows : (k m : Kind) → Answers b IsNumber (mod_kinds b.l b.h k m)
  mod_grows (number x) (number y) = remainder_grows (int_eq y (pos 0)) (int_rem x y)
  mod_grows k m = no_method_grows b IsNumber k (codes "mod")

  compare_grows : (passes : Ordering → Bool) (k m : Kind) → Answers b IsFlag (compare_kinds b.l b.h passes k m)
  compare_grows passes (number x) (number y) = gives b IsFlag (Truth (passes (int_cmp x y))) (λ x. tt)
  compare_grows passes (text s) (text t) = gives b IsFlag (Truth (passes (slice_cmp nat_cmp s t))) (λ x. tt)
  compare_grows passes k m = no_method_grows b IsFlag k (codes "compareTo")

  range_grows : (k m : Kind) → Answers b (IsIn HasList) (range_kinds b.l b.h k m)
  range_grows (number x) (number y) = new_list_grows b (numbers x y) (λ g. numbers_there (if int_le x y then pos 1 else neg_ℤ (pos 1)) x (nat_abs (y -ℤ x)))
  range_grows k m = no_method_grows b (IsIn HasList) k (codes "rangeTo")

  negative_grows : (k : Kind) → Answers b IsNumber (negative_kind b.l b.h k)
  negative_grows (number x) = wrapped_grows (neg_ℤ x)
  negative_grows k = no_method_grows b IsNumber k (codes "negative")

  positive_grows : (k : Kind) → Answers b IsNumber (positive_kind b.l b.h k)
  positive_grows (number x) = gives b IsNumber (Whole x) (λ x. tt)
  positive_grows k = no_method_grows b IsNumber k (codes "positive")

  pub apply_grows : (op : Op) (u v : Value) → (b.given → There b.h v) → Answers b There (apply b.l b.h op u v)
  apply_grows Plus u v t = plus_grows u v (kind b.h u) (kind b.h v) (kind_fits b.h u) (kind_fits b.h v) t
  apply_grows Minus u v t = number_is_there b _ (minus_grows (kind b.h u) (kind b.h v))
  apply_grows Times u v t = number_is_there b _ (times_grows (kind b.h u) (kind b.h v))
  apply_grows Mod u v t = number_is_there b _ (mod_grows (kind b.h u) (kind b.h v))
  apply_grows Less u v t = flag_is_there b _ (compare_grows is_lt (kind b.h u) (kind b.h v))
  apply_grows LessEqual u v t = flag_is_there b _ (compare_grows is_le (kind b.h u) (kind b.h v))
  apply_grows Greater u v t = flag_is_there b _ (compare_grows is_gt (kind b.h u) (kind b.h v))
  apply_grows GreaterEqual u v t = flag_is_there b _ (compare_grows is_ge (kind b.h u) (kind b.h v))
  apply_grows Range u v t = list_is_there b _ (range_grows (kind b.h u) (kind b.h v))
  apply_grows GetAt u v t = get_at_grows b u v
  apply_grows Negative u v t = number_is_there b _ (negative_grows (kind b.h u))
  apply_grows Positive u v t = number_is_there b _ (positive_grows (kind b.h u))

  step_grows : (d : ℤ) (k : Kind) → Answers b IsNumber (step_kind b.l b.h d k)
  step_grows d (number x) = wrapped_grows (x +ℤ d)
  step_grows d k = no_method_grows b IsNumber k (codes "plus")

  pub incremented_grows : (v : Value) → Answers b IsNumber (incremented b.l b.h v)
  incremented_grows v = step_grows (pos 1) (kind b.h v)

  pub decremented_grows : (v : Value) → Answers b IsNumber (decremented b.l b.h v)
  decremented_grows v = step_grows (neg_ℤ (pos 1)) (kind b.h v)
