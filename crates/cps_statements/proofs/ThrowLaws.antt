-- The statement `throw` gives no value.
use Rattle.std.proofs.Common.{List}
use Rattle.std.specs.Prelude.{codes}
use Rattle.model_values.specs.Kinds.{Kind, kind, thrown}
use Rattle.model_values.specs.Limits.{product_limits}
use Rattle.model_values.specs.Throws.{throw_kind, throw_value}
use Rattle.model_values.specs.declared.cell.Cell.{Cell}
use Rattle.model_values.specs.declared.throwable.Class.TheVariants.{IllegalArgument}
use Rattle.model_values.specs.declared.value.Value.{Value}
use Rattle.cps_frames.specs.Changes.{GivesNothing}
use Rattle.cps_frames.proofs.ThrowLaws.{throws}

kind_throws : (h : List Cell) (k : Kind) → GivesNothing (throw_kind product_limits h k)
kind_throws h (thrown c class m) = tt
kind_throws h k = throws h IllegalArgument (codes "not a throwable")

pub value_throws : (h : List Cell) (v : Value) → GivesNothing (throw_value product_limits h v)
value_throws h v = kind_throws h (kind h v)
