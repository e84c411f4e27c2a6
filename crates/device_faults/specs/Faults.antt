-- When a device's count of faults has risen, and what a call that can fail says of it. This product's own rule.
use Rattle.std.specs.Prelude.{◌<◌, ◌≡◌, ◌⊎◌, ℕ, ◌+◌, ◌-◌, ◌^◌, ◌≤◌, min, max, Result, IsOk, IsErr}

-- one more, where 64 bits hold it: a count stands still at its last value
abbrev pub counted : ℕ → ℕ
counted n = max n (min (n + 1) (2 ^ 64 - 1))

-- a count of faults rose, or stands at its last value, where it can rise no more
abbrev pub Rose : ℕ → ℕ → Type 0
Rose before now = (before < now) ⊎ (2 ^ 64 ≤ now + 1)

-- a call fails only where its device counts a fault, and a call that is done counts none
pub record HasCause {T E : Type 0} (before now : ℕ) (result : Result T E) : Type 0 where
  pub never_falls : before ≤ now
  pub calm : IsOk result → now ≡ before
  pub failed : IsErr result → Rose before now

-- A call that failed has counted a fault, and any other counts none.
pub record CountsFault (before now : ℕ) (Fails : Type 0) : Type 0 where
  pub never_falls : before ≤ now
  pub calm : ¬ Fails → now ≡ before
  pub failed : Fails → Rose before now
