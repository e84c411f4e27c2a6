-- Where a name stands among variables that stand by rising names.
use Rattle.std.specs.Prelude.{◌≡◌, ◌≤◌, ℕ, Bool, true, false, not, List, length}
use Rattle.std.specs.Cmp.Lexicographic.{slice_cmp}
use Rattle.std.specs.Ordering.{nat_cmp, is_lt}
use Rattle.std.specs.List.Sorted.{IsPartitionPoint}
use Rattle.model_values.specs.declared.cell.Binding.{Binding}

-- the variable has this name or one before it
abbrev pub is_up_to : List ℕ → Binding → Bool
is_up_to x b = not (is_lt (slice_cmp nat_cmp x b.name))

-- so many variables have this name or one before it, and those behind them have not
pub record IsPlace (x : List ℕ) (bs : List Binding) (n : ℕ) : Type 0 where
  pub within : n ≤ length bs
  pub parts : IsPartitionPoint (λ b. is_up_to x b ≡ true) (λ b. is_up_to x b ≡ false) bs n
