-- What a crash may leave while a journal works.
use Rattle.std.specs.Prelude.{◌≡◌, ℕ, List, Option}
use Rattle.jp_disk.specs.Images.{IsOnlyImage}
use Rattle.jp_disk.specs.Runs.{AtEachMoment}
use Rattle.jp_disk.specs.View.{DiskView}

-- calls that write nothing: a read gives what it gave, the end stays, and a crash leaves nothing new
pub record OnlyReads {D : Type 0} (disk : DiskView D) (old new : D) : Type 0 where
  pub told : disk.reads new ≡ disk.reads old
  pub ends : disk.end new ≡ disk.end old
  pub images : (image : List ℕ) → disk.may_leave new image → disk.may_leave old image
  pub moments : AtEachMoment disk old new (disk.may_leave old)

-- There is a moment up to which a crash leaves what it might have left at the beginning. At it the file as it was read
-- at the beginning is all that a crash leaves, as after a sync, and from then on it leaves what has P.
pub record SinceSync {D : Type 0} (disk : DiskView D) (file : List ℕ) (old new : D) (P : List ℕ → Type 0) : Type 0 where
  pub synced : D
  pub up_to : AtEachMoment disk old synced (disk.may_leave old)
  pub durable : IsOnlyImage file (disk.may_leave synced)
  pub from_then : AtEachMoment disk synced new P
