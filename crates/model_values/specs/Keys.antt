-- When two keys of a map are the same, and their order.
use Rattle.std.specs.Prelude.{nat_eq, Bool, false}
use Rattle.std.specs.Ordering.{int_eq, int_cmp, nat_cmp}
use Rattle.std.specs.declared.cmp.Ordering.{Ordering}
use Rattle.std.specs.declared.cmp.Ordering.TheVariants.{Less, Greater}
use Rattle.std.specs.Cmp.Lexicographic.{pointwise, slice_cmp}
use Rattle.model_values.specs.declared.key.Key.{Key}
use Rattle.model_values.specs.declared.key.Key.TheVariants.{Int as IntKey, Text as TextKey}

-- this product's own: numbers by their value and texts by their bytes, and a number is no text
abbrev pub same_key : Key → Key → Bool
same_key (IntKey x) (IntKey y) = int_eq x y
same_key (IntKey x) (TextKey t) = false
same_key (TextKey s) (IntKey y) = false
same_key (TextKey s) (TextKey t) = pointwise nat_eq s t

-- this product's own, and no script sees it: numbers by their value, and behind them texts by their bytes
abbrev pub key_cmp : Key → Key → Ordering
key_cmp (IntKey x) (IntKey y) = int_cmp x y
key_cmp (IntKey x) (TextKey t) = Less
key_cmp (TextKey s) (IntKey y) = Greater
key_cmp (TextKey s) (TextKey t) = slice_cmp nat_cmp s t
