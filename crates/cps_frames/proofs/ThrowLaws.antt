-- What only throws gives no value.
use Rattle.std.proofs.Common.{◌≡◌, List, [], ◌∷◌, ◌++◌, ℕ, length, nat_lt, Bool, true, false, if◌then◌else◌, refl, subst}
use Rattle.std.specs.Prelude.{Result as Outcome, Ok, Err, Option, Some, None}
use Rattle.cell_heap.specs.Region.{Region}
use Rattle.model_values.specs.Cells.{Answer, Meets, Throws, no_room, throw, unless_limit}
use Rattle.model_values.specs.Limits.{product_limits}
use Rattle.model_values.specs.declared.cell.Cell.{Cell}
use Rattle.model_values.specs.declared.cell.Cell.TheVariants.{Thrown as ThrownCell}
use Rattle.model_values.specs.declared.limit.LimitKind.{LimitKind}
use Rattle.model_values.specs.declared.limit.LimitKind.TheVariants.{TextLength}
use Rattle.model_values.specs.declared.throwable.Class.{Class}
use Rattle.model_values.specs.declared.value.Value.{Value}
use Rattle.value_view.specs.Answers.{Answers}
use Rattle.value_view.specs.declared.refusal.OpRefusal.{OpRefusal}
use Rattle.cps_frames.specs.Changes.{GivesNothing}

thrown_at_most : (b : Bool) (o : Option LimitKind) (g : List Cell) (c : ℕ) → GivesNothing (if b then Meets TextLength else unless_limit o (Throws g c))
thrown_at_most true o g c = tt
thrown_at_most false (Some k) g c = tt
thrown_at_most false None g c = tt

pub throws : (h : List Cell) (class : Class) (m : List ℕ) → GivesNothing (throw product_limits h class m)
throws h class m = thrown_at_most (nat_lt product_limits.text (length m)) (no_room product_limits h (ThrownCell class (Some m) ∷ [])) (h ++ ThrownCell class (Some m) ∷ []) (length h)

-- so there is no value that it answers with
pub no_value : (a : Answer) (old new : Region) (o : Outcome Value OpRefusal) → GivesNothing a → Answers a old new o → ((x : OpRefusal) → o ≡ Err x → ⊥) → ⊥
no_value a old new (Err x) none answers never = never x refl
no_value a old new (Ok v) none answers never = subst GivesNothing answers none
