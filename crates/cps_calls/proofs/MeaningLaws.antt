-- What a name means.
use Rattle.std.proofs.Common.{◌≡◌, ℕ, Bool, true, false, if◌then◌else◌, List, [], ◌∷◌, Some, subst}
use Rattle.std.specs.List.{AllByRecursion as AllAre}
use Rattle.model_run.specs.Names.{look, same_text}
use Rattle.model_run.specs.State.{Env}

-- what is known of the cells of variables
pub look_has : (P : ℕ → Type 0) (x : List ℕ) (bs : Env) → AllAre (λ b. P b.cell) bs → (c : ℕ) → look x bs ≡ Some c → P c
look_has P x [] all c e = absurd (cc e)
look_has P x (b ∷ bs) all c e = one (same_text b.name x) (look_has P x bs all.1 c) e
  where
    one : (t : Bool) → (look x bs ≡ Some c → P c) → (if t then Some b.cell else look x bs) ≡ Some c → P c
    one true more is = let same : b.cell ≡ c = cc is in subst P same all.0
    one false more is = more is
