-- What is answered where a step was refused.
use Rattle.std.proofs.Common.{Option, ap}
use Rattle.std.specs.Option.{option_map}
use Rattle.delta_form.specs.Applying.{◌>>=◌, Refuses}
use Rattle.delta_form.specs.declared.refusal.DeltaRefusal.{DeltaRefusal}
use Rattle.delta_form.specs.declared.refusal.DeltaRefusal.TheVariants as refusal

pub refuses_map : {A B : Type 0} (e : DeltaRefusal) (f : A → B) (o : Option A) → Refuses e o → Refuses e (option_map f o)
refuses_map refusal.Memory f o none = tt
refuses_map refusal.Fault f o none = ap (option_map f) none

-- the first step was refused, so is what stands on it
pub refuses_on : {A B : Type 0} (e : DeltaRefusal) (f : A → Option B) (o : Option A) → Refuses e o → Refuses e (o >>= f)
refuses_on refusal.Memory f o none = tt
refuses_on refusal.Fault f o none = ap (λ p. p >>= f) none
