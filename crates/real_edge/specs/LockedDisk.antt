-- A disk whose store one controller at a time may use. This product's own rule.
use Rattle.std.specs.Prelude.{◌≡◌, ◌≢◌, Result, IsErr}
use Rattle.device_faults.specs.Faults.{HasCause}
use Rattle.real_edge.specs.StoreLock.{Settles}
use Rattle.real_edge.specs.declared.store_lock.StoreLock.TheVariants as lock
use Rattle.real_edge.specs.declared.locked_disk.LockedDisk.{LockedDisk}
use Rattle.jp_disk.specs.View.{DiskView}

-- A call, over a disk below with this count of faults. The lock is asked for once. Where it is refused the call fails,
-- and the disk below is as it was; else the call fails only where the disk below failed.
pub record IsGuarded {R D T E : Type 0} (disk : DiskView D) (old new : LockedDisk R D) (result : Result T E) : Type 0 where
  pub settled : Settles old.lock new.lock
  pub refused : new.lock ≡ lock.Refused → IsErr result × (new.disk ≡ old.disk)
  pub below : new.lock ≢ lock.Refused → HasCause (disk.faults old.disk) (disk.faults new.disk) result
