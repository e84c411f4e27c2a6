-- All that happened to a disk in memory, and which of its calls fail.
use Rattle.std.specs.Prelude.{◌≡◌, ◌⊎◌, ℕ, ◌≤◌, Bool, false, List, [], ◌∷◌, ◌++◌, length, Contains, Option, IsSomeAnd, unwrap_or, if◌then◌else◌, drop}
use Rattle.device_faults.specs.Faults.{counted}
use Rattle.jp_disk.specs.Medium.{Medium, at_rest, after_all, LeftSince, ranges_of}
use Rattle.jp_disk.specs.declared.call.Call.{Call}

-- What contracts see of a `MemoryDisk`.
pub record History : Type 0 where
  -- the bytes that it began with, all of them durable
  pub first : List ℕ
  -- the calls that it kept, in order
  pub calls : List Call
  -- the numbers of the calls that fail, and the first of those that all fail
  pub fail_at : List ℕ
  pub stop_at : Option ℕ
  -- how many calls were made, how many of them failed, and how many of these for want of memory
  pub made : ℕ
  pub faults : ℕ
  pub refused : ℕ

-- its medium now
abbrev pub medium : History → Medium
medium h = after_all h.calls (at_rest h.first)

-- what a crash may have left since the t-th call that it kept
abbrev pub images_since : History → ℕ → List ℕ → Type 0
images_since h t image = LeftSince h.calls t (at_rest h.first) image

-- a disk that no call was made of
abbrev pub begun : List ℕ → List ℕ → Option ℕ → History
begun bytes fail_at stop_at = record { first = bytes; calls = []; fail_at = fail_at; stop_at = stop_at; made = 0; faults = 0; refused = 0 }

-- the call of this number is listed, or none is done from it on
abbrev pub IsListed : List ℕ → Option ℕ → ℕ → Type 0
IsListed fail_at stop_at number = Contains fail_at number ⊎ IsSomeAnd stop_at (λ stop. stop ≤ number)

-- the call was kept, with whether it was done; only a listed one was not
pub record IsKept (call : Bool → Call) (old new : History) (done : Bool) : Type 0 where
  pub calls : new.calls ≡ old.calls ++ call done ∷ []
  pub refused : new.refused ≡ old.refused
  pub failed : done ≡ false → IsListed old.fail_at old.stop_at new.made

-- memory for the call was refused: it was not kept, and nothing was done
pub record IsRefused (old new : History) (done : Bool) : Type 0 where
  pub calls : new.calls ≡ old.calls
  pub refused : new.refused ≡ counted old.refused
  pub failed : done ≡ false

-- One call, and whether it was done. A listed call is not; another one fails only where memory for it was refused,
-- which is counted.
pub record IsOneCall (call : Bool → Call) (old new : History) (done : Bool) : Type 0 where
  pub first : new.first ≡ old.first
  pub fail_at : new.fail_at ≡ old.fail_at
  pub stop_at : new.stop_at ≡ old.stop_at
  pub made : new.made ≡ counted old.made
  pub listed : IsListed old.fail_at old.stop_at new.made → done ≡ false
  pub kept : IsKept call old new done ⊎ IsRefused old new done
  pub faults : new.faults ≡ (if done then old.faults else counted old.faults)

-- What a disk in memory holds of its medium: the bytes now; those at the beginning and at the last sync that was done,
-- where a write came before; and how many calls there were up to that sync.
pub record IsInStep (first last : Option (List ℕ)) (bytes : List ℕ) (calls : List Call) (settled : ℕ) : Type 0 where
  pub reads : (after_all calls (at_rest (unwrap_or first bytes))).reads ≡ bytes
  pub synced : (after_all calls (at_rest (unwrap_or first bytes))).synced ≡ unwrap_or last bytes
  pub pending : (after_all calls (at_rest (unwrap_or first bytes))).pending ≡ ranges_of (drop settled calls)
  pub within : settled ≤ length calls
