-- What a call takes from a source of bytes. This product's own.
use Rattle.std.specs.Prelude.{◌≡◌, ℕ, List, Option}
use Rattle.device_faults.specs.Faults.{Rose}
use Rattle.jp_io.specs.View.{SourceView}

-- The bytes that the source had left before the call and after it, where it tells them, and its counts of faults.
pub record Input : Type 0 where
  pub left : Option (List ℕ)
  pub rest : Option (List ℕ)
  pub before : ℕ
  pub after : ℕ

abbrev pub taken_from : {S : Type 0} → SourceView S → S → S → Input
taken_from source old new = record { left = source.left old; rest = source.left new; before = source.faults old; after = source.faults new }

-- it was not asked
pub record IsUnread (input : Input) : Type 0 where
  pub rest : input.rest ≡ input.left
  pub faults : input.after ≡ input.before

-- it counted no fault
abbrev pub IsCalm : Input → Type 0
IsCalm input = input.after ≡ input.before

-- it counted a fault
abbrev pub HasFailed : Input → Type 0
HasFailed input = Rose input.before input.after
