-- The order of two operands.
use Rattle.std.specs.Prelude.{Bool, Option, Some, None}
use Rattle.std.specs.Ordering.{int_cmp, nat_cmp, is_lt, is_le, is_gt, is_ge}
use Rattle.std.specs.declared.cmp.Ordering.{Ordering}
use Rattle.std.specs.Cmp.Lexicographic.{slice_cmp}
use Rattle.model_values.specs.Kinds.{Kind, number, text}
use Rattle.model_values.specs.declared.operator.Op.{Op}
use Rattle.model_values.specs.declared.operator.Op.TheVariants.{Less, LessEqual, Greater}

-- two numbers, or two texts by code points: UTF-8 has the order of the code points. Other kinds have none
abbrev pub order_of : Kind → Kind → Option Ordering
order_of (number x) (number y) = Some (int_cmp x y)
order_of (text s) (text t) = Some (slice_cmp nat_cmp s t)
order_of _ _ = None

-- for which orders a comparison gives true
abbrev pub passes : Op → Ordering → Bool
passes Less = is_lt
passes LessEqual = is_le
passes Greater = is_gt
passes _ = is_ge
