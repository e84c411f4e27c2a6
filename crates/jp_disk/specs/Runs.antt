-- What a crash leaves while calls of a disk go on.
use Rattle.std.specs.Prelude.{◌⊎◌, ℕ, ◌≤◌, List}
use Rattle.jp_disk.specs.View.{DiskView}

-- A crash at any moment from `old` to `new`, two states of a disk, leaves an image that has P.
pub record AtEachMoment {D : Type 0} (disk : DiskView D) (old new : D) (P : List ℕ → Type 0) : Type 0 where
  pub later : disk.clock old ≤ disk.clock new
  pub each : (image : List ℕ) → disk.may_have_left_since new (disk.clock old) image → P image
  -- so that a run that began earlier goes on
  pub before : (t : ℕ) (image : List ℕ) → t ≤ disk.clock old → disk.may_have_left_since new t image → disk.may_have_left_since old t image ⊎ P image
