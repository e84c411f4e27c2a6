-- Tests made one after another: the first that fails is the fault.
use Rattle.std.specs.Prelude.{ℕ, suc, nat_lt, Bool, true, false, List, [], ◌∷◌, Option, Some, None}
use Rattle.image_check.specs.declared.finding.Finding.{Finding}

-- what must hold, and the fault where it does not
abbrev pub need : Bool → Finding → Option Finding
need true f = None
need false f = Some f

-- the first fault of two
infixr 4 ◌then◌
abbrev pub ◌then◌ : Option Finding → Option Finding → Option Finding
(Some f) then o = Some f
None then o = o

-- the first fault of a list, each item at its place, with the one before it
abbrev pub each : {A : Type 0} → (ℕ → Option A → A → Option Finding) → ℕ → Option A → List A → Option Finding
each fault place before [] = None
each fault place before (x ∷ xs) = fault place before x then each fault (suc place) (Some x) xs

-- a number is above the one before it
abbrev pub is_higher : Option ℕ → ℕ → Bool
is_higher None n = true
is_higher (Some m) n = nat_lt m n

-- it holds of what is there
abbrev pub none_or : {A : Type 0} → (A → Bool) → Option A → Bool
none_or test None = true
none_or test (Some x) = test x
