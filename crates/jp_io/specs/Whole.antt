-- What reading a whole input and writing a whole text say of faults, and of a text that was cut short.
use Rattle.std.specs.Prelude.{◌≡◌, ◌≤◌, ℕ, List, length, take, Option, Result, IsErrOf, IsOk}
use Rattle.std.specs.Io.KnownBytes.{Appends, Consumes}
use Rattle.device_faults.specs.Faults.{Rose}
use Rattle.jp_io.specs.declared.whole.ReadFault.{ReadFault}
use Rattle.jp_io.specs.declared.whole.ReadFault.TheVariants.{Memory, Failed}

-- reading fails only where the source counted a fault, and counts none where it is done or wants memory
pub record ReadCause {T : Type 0} (before now : ℕ) (result : Result T ReadFault) : Type 0 where
  pub never_falls : before ≤ now
  pub calm : IsOk result → now ≡ before
  pub wanting : IsErrOf result Memory → now ≡ before
  pub failed : IsErrOf result Failed → Rose before now

-- some of the bytes, from their beginning, were written
abbrev pub AppendsPart : Option (List ℕ) → Option (List ℕ) → List ℕ → Type 0
AppendsPart old new bytes = (n : ℕ) × Appends old new (take n bytes)

-- at most so many bytes were taken from a source, from the beginning of what it had left
abbrev pub TakesAtMost : ℕ → Option (List ℕ) → Option (List ℕ) → Type 0
TakesAtMost limit old new = (taken : List ℕ) × (length taken ≤ limit) × Consumes old new taken
