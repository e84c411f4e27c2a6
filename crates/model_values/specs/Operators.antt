-- The operators, on every pair of kinds.
use Rattle.std.specs.Prelude.{ℕ, zero, suc, Bool, if◌then◌else◌, List, [], ◌∷◌, ◌++◌, ℤ, pos, ◌+ℤ◌, ◌-ℤ◌, ◌*ℤ◌, neg_ℤ, nat_abs, int_le, int_rem, codes}
use Rattle.std.specs.Int.{int_wrap, w32}
use Rattle.std.specs.Ordering.{int_eq, int_cmp, nat_cmp, is_lt, is_le, is_gt, is_ge}
use Rattle.std.specs.declared.cmp.Ordering.{Ordering}
use Rattle.std.specs.Cmp.Lexicographic.{slice_cmp}
use Rattle.indexmap.specs.IndexMap.{insert_all}
use Rattle.model_values.specs.Cells.{Answer, Gives, new_list, new_map}
use Rattle.model_values.specs.Index.{get_at}
use Rattle.model_values.specs.Keys.{same_key}
use Rattle.model_values.specs.Limits.{Limits}
use Rattle.model_values.specs.Kinds.{Kind, null, number, text, items, pairs, kind}
use Rattle.model_values.specs.TextOf.{texts_behind, written}
use Rattle.model_values.specs.Throws.{no_method, by_zero}
use Rattle.model_values.specs.Types.{Value, Truth, Whole, Cell, Op, Plus, Minus, Times, Mod, Less, LessEqual, Greater, GreaterEqual, Range, GetAt, Negative, Positive}

-- n numbers and one more, from x on, each this far from the one before
abbrev pub numbers_from : ℤ → ℤ → ℕ → List Value
numbers_from step x zero = Whole x ∷ []
numbers_from step x (suc n) = Whole x ∷ numbers_from step (x +ℤ step) n

-- the numbers from x to y, rising or falling
abbrev pub numbers : ℤ → ℤ → List Value
numbers x y = numbers_from (if int_le x y then pos 1 else neg_ℤ (pos 1)) x (nat_abs (y -ℤ x))

module _ (l : Limits) (h : List Cell) where
  -- Java's int: what does not fit 32 bits wraps
  abbrev pub wrapped : ℤ → Answer
  wrapped z = Gives h (Whole (int_wrap w32 z))

  -- the texts of both, as a new text
  abbrev pub joined : Value → Value → Answer
  joined a b = written l h (texts_behind l h (a ∷ b ∷ []) [])

  -- Groovy. A text on the left joins with anything, a number or null joins with a text; lists and maps are copied
  abbrev pub plus_kinds : Value → Value → Kind → Kind → Answer
  plus_kinds a b (number x) (number y) = wrapped (x +ℤ y)
  plus_kinds a b (text s) _ = joined a b
  plus_kinds a b (number x) (text t) = joined a b
  plus_kinds a b null (text t) = joined a b
  plus_kinds a b (items c xs) (items d ys) = new_list l h (xs ++ ys)
  plus_kinds a b (items c xs) _ = new_list l h (xs ++ b ∷ [])
  plus_kinds a b (pairs c es) (pairs d fs) = new_map l h (insert_all same_key es fs)
  plus_kinds a b on _ = no_method l h on (codes "plus")

  abbrev pub minus_kinds : Kind → Kind → Answer
  minus_kinds (number x) (number y) = wrapped (x -ℤ y)
  minus_kinds on _ = no_method l h on (codes "minus")

  abbrev pub times_kinds : Kind → Kind → Answer
  times_kinds (number x) (number y) = wrapped (x *ℤ y)
  times_kinds on _ = no_method l h on (codes "multiply")

  -- Java: the remainder of the division toward zero
  abbrev pub mod_kinds : Kind → Kind → Answer
  mod_kinds (number x) (number y) = if int_eq y (pos 0) then by_zero l h else wrapped (int_rem x y)
  mod_kinds on _ = no_method l h on (codes "mod")

  -- two numbers, or two texts by code points: UTF-8 has the order of the code points
  abbrev pub compare_kinds : (Ordering → Bool) → Kind → Kind → Answer
  compare_kinds passes (number x) (number y) = Gives h (Truth (passes (int_cmp x y)))
  compare_kinds passes (text s) (text t) = Gives h (Truth (passes (slice_cmp nat_cmp s t)))
  compare_kinds passes on _ = no_method l h on (codes "compareTo")

  -- this product's own: `a..b` is a list
  abbrev pub range_kinds : Kind → Kind → Answer
  range_kinds (number x) (number y) = new_list l h (numbers x y)
  range_kinds on _ = no_method l h on (codes "rangeTo")

  abbrev pub negative_kind : Kind → Answer
  negative_kind (number x) = wrapped (neg_ℤ x)
  negative_kind on = no_method l h on (codes "negative")

  abbrev pub positive_kind : Kind → Answer
  positive_kind (number x) = Gives h (Whole x)
  positive_kind on = no_method l h on (codes "positive")

  -- `a op b`; the operators with one operand do not look at b
  abbrev pub apply : Op → Value → Value → Answer
  apply Plus a b = plus_kinds a b (kind h a) (kind h b)
  apply Minus a b = minus_kinds (kind h a) (kind h b)
  apply Times a b = times_kinds (kind h a) (kind h b)
  apply Mod a b = mod_kinds (kind h a) (kind h b)
  apply Less a b = compare_kinds is_lt (kind h a) (kind h b)
  apply LessEqual a b = compare_kinds is_le (kind h a) (kind h b)
  apply Greater a b = compare_kinds is_gt (kind h a) (kind h b)
  apply GreaterEqual a b = compare_kinds is_ge (kind h a) (kind h b)
  apply Range a b = range_kinds (kind h a) (kind h b)
  apply GetAt a b = get_at l h a b
  apply Negative a b = negative_kind (kind h a)
  apply Positive a b = positive_kind (kind h a)

  -- this product's own: `++` and `--` add 1 and -1 to a number, and to nothing else
  abbrev pub step_kind : ℤ → Kind → Answer
  step_kind d (number x) = wrapped (x +ℤ d)
  step_kind d on = no_method l h on (codes "plus")

  abbrev pub incremented : Value → Answer
  incremented a = step_kind (pos 1) (kind h a)

  abbrev pub decremented : Value → Answer
  decremented a = step_kind (neg_ℤ (pos 1)) (kind h a)
