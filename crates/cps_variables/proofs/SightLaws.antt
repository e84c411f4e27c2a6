-- What a place sees has a cell, and a value that is there names one that is there.
use Rattle.std.proofs.Common.{◌≡◌, ◌∙◌, ◌<◌, ℕ, Bool, true, false, if◌then◌else◌, List, [], ◌∷◌, length, Option, Some, None, refl, subst}
use Rattle.std.specs.Prelude.{slice_get}
use Rattle.std.specs.List.{AllByRecursion as AllAre}
use Rattle.std.proofs.lemmas.Option.{slice_get_within}
use Rattle.cell_heap.specs.Soundness.{ValueBelow}
use Rattle.model_values.specs.Fitting.{HasVariable, There}
use Rattle.model_values.specs.declared.cell.Binding.{Binding}
use Rattle.model_values.specs.declared.cell.Cell.{Cell}
use Rattle.model_values.specs.declared.value.Value.{Value}
use Rattle.model_values.specs.declared.value.Value.TheVariants.{Null, Bool as Truth, Int as Whole, Cell as InCell}
use Rattle.model_run.specs.Names.{first_of, look, same_text}
use Rattle.model_run.specs.State.{Env, Setting, World}
use Rattle.run_laws.specs.Soundness.{SoundWorld}
use Rattle.cps_variables.specs.Sight.{Sees}

pub below_there : (h : List Cell) (v : Value) → There h v → ValueBelow (length h) v
below_there h Null t = tt
below_there h (Truth b) t = tt
below_there h (Whole z) t = tt
below_there h (InCell c) t = t

pub there_below : (h : List Cell) (v : Value) → ValueBelow (length h) v → There h v
there_below h Null t = tt
there_below h (Truth b) t = tt
there_below h (Whole z) t = tt
there_below h (InCell c) t = t

cell_within : (h : List Cell) (c : ℕ) (o : Option Cell) → slice_get h c ≡ o → HasVariable o → c < length h
cell_within h c (Some x) e has = slice_get_within h c x e
cell_within h c None e has = absurd has

pub variable_within : (h : List Cell) (c : ℕ) → HasVariable (slice_get h c) → c < length h
variable_within h c has = cell_within h c (slice_get h c) refl has

-- what is found has a cell
looked : (h : List Cell) (x : List ℕ) (bs : List Binding) (c : ℕ) → AllAre (λ b. HasVariable (slice_get h b.cell)) bs → look x bs ≡ Some c → HasVariable (slice_get h c)
looked h x [] c all e = absurd (cc e)
looked h x (b ∷ bs) c all e = by (same_text b.name x) e (looked h x bs c all.1)
  where
    by : (t : Bool) → (if t then Some b.cell else look x bs) ≡ Some c → (look x bs ≡ Some c → HasVariable (slice_get h c)) → HasVariable (slice_get h c)
    by true found rest = let same : b.cell ≡ c = cc found in subst (λ n. HasVariable (slice_get h n)) same all.0
    by false found rest = rest found

pub seen_variable : (h : List Cell) (bs : List Binding) (env : Env) (x : List ℕ) (c : ℕ) → Sees h bs env → first_of (look x env) (look x bs) ≡ Some c → HasVariable (slice_get h c)
seen_variable h bs env x c sees e = by (look x env) refl e
  where
    by : (o : Option ℕ) → look x env ≡ o → first_of o (look x bs) ≡ Some c → HasVariable (slice_get h c)
    by (Some d) is found = looked h x env c sees.declared (is ∙ found)
    by None is found = looked h x bs c sees.bound found

-- in a sound world each place sees its variables, and still does where something was counted
pub sees : (g : Setting) (w : World) (env : Env) → SoundWorld g w → AllAre (λ b. HasVariable (slice_get w.shared.cells b.cell)) env → Sees w.shared.cells w.shared.binding env
sees g w env sound variables = record { declared = variables; bound = sound.binding; rising = sound.bounds.names }
