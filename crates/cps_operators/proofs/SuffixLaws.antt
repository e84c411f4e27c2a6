-- `?.` on null, and on what is not null.
use Rattle.std.proofs.Common.{◌≡◌, ℕ, true, false, List, refl}
use Rattle.model_syntax.specs.declared.tree.Access.{Access}
use Rattle.model_syntax.specs.declared.tree.Access.TheVariants.{Direct, NullSafe}
use Rattle.model_values.specs.Cells.{Answer, Gives}
use Rattle.model_values.specs.Index.{get_property, unless_null}
use Rattle.model_values.specs.Kinds.{Kind, null, kind}
use Rattle.model_values.specs.Limits.{Limits}
use Rattle.model_values.specs.declared.cell.Cell.{Cell}
use Rattle.model_values.specs.declared.value.Value.{Value}
use Rattle.model_values.specs.declared.value.Value.TheVariants.{Null}
use Rattle.model_run.specs.Around.{cells, limits}
use Rattle.model_run.specs.Calls.{is_null}
use Rattle.model_run.specs.Expressions.{safely}
use Rattle.model_run.specs.State.{World}

null_gives : (l : Limits) (h : List Cell) (k : Kind) (answer : Answer) → is_null NullSafe k ≡ true → unless_null l h k answer ≡ Gives h Null
null_gives l h null answer e = refl
null_gives l h k answer e = absurd (cc e)

other_gives : (l : Limits) (h : List Cell) (k : Kind) (answer : Answer) → is_null NullSafe k ≡ false → unless_null l h k answer ≡ answer
other_gives l h null answer e = absurd (cc e)
other_gives l h k answer e = refl

pub safely_null : (access : Access) (w : World) (v : Value) (answer : Answer) → is_null access (kind (cells w) v) ≡ true → safely access w v answer ≡ Gives (cells w) Null
safely_null Direct w v answer e = absurd (cc e)
safely_null NullSafe w v answer e = null_gives (limits w) (cells w) (kind (cells w) v) answer e

pub safely_other : (access : Access) (w : World) (v : Value) (answer : Answer) → is_null access (kind (cells w) v) ≡ false → safely access w v answer ≡ answer
safely_other Direct w v answer e = refl
safely_other NullSafe w v answer e = other_gives (limits w) (cells w) (kind (cells w) v) answer e

-- the answer of `.name`
abbrev pub property_answer : Access → List ℕ → Value → World → Answer
property_answer access p v w = safely access w v (get_property (limits w) (cells w) v p)
