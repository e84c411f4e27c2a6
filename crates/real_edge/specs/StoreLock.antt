-- What becomes of the lock of a store. This product's own rule.
use Rattle.std.specs.Prelude.{◌≡◌}
use Rattle.real_edge.specs.declared.store_lock.StoreLock.{StoreLock}
use Rattle.real_edge.specs.declared.store_lock.StoreLock.TheVariants as lock

-- the lock was asked for, and is held or refused
abbrev pub IsSettled : {R : Type 0} → StoreLock R → Type 0
IsSettled (lock.Held file) = Unit {0}
IsSettled lock.Refused = Unit {0}
IsSettled (lock.Wanted file) = ⊥
IsSettled lock.Unneeded = ⊥

-- A lock that is wanted is asked for, once; any other stays as it is.
abbrev pub Settles : {R : Type 0} → StoreLock R → StoreLock R → Type 0
Settles (lock.Wanted file) new = IsSettled new
Settles old new = new ≡ old
