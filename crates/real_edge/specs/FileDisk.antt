-- What contracts see of a disk over a real file.
use Rattle.std.specs.Prelude.{ℕ, Bool}

-- the length that is known, whether a write or a sync has failed, and how often a call failed
pub record DiskState : Type 0 where
  pub end : ℕ
  pub has_failed : Bool
  pub faults : ℕ
