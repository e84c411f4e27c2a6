-- What may be undefined, and what a function of the program that computes it answers.
use Rattle.std.specs.Prelude.{◌≡◌, List, [], ◌∷◌, Option, Some, None, Result, Ok, Err}
use Rattle.delta_form.specs.declared.refusal.DeltaRefusal.{DeltaRefusal}
use Rattle.delta_form.specs.declared.refusal.DeltaRefusal.TheVariants as refusal

infixl 10 ◌>>=◌
abbrev pub ◌>>=◌ : {A B : Type 0} → Option A → (A → Option B) → Option B
None >>= f = None
(Some x) >>= f = f x

-- each change in turn, where it is defined on what the changes before it made
abbrev pub in_turn : {C V : Type 0} → (C → V → Option V) → List C → V → Option V
in_turn change [] v = Some v
in_turn change (c ∷ cs) v = change c v >>= in_turn change cs

-- It is not defined, unless there was no memory.
abbrev pub Refuses : {V : Type 0} → DeltaRefusal → Option V → Type 0
Refuses refusal.Memory made = Unit {0}
Refuses refusal.Fault made = made ≡ None

-- What was returned is what is defined.
abbrev pub Applies : {V : Type 0} → Result V DeltaRefusal → Option V → Type 0
Applies (Ok v) made = made ≡ Some v
Applies (Err e) made = Refuses e made

-- What was left is what is defined.
abbrev pub Leaves : {V : Type 0} → Result (Unit {0}) DeltaRefusal → V → Option V → Type 0
Leaves (Ok x) v made = made ≡ Some v
Leaves (Err e) v made = Refuses e made
