-- What calls make of the medium under a disk in memory, and what a crash between two of them may leave.
use Rattle.std.specs.Prelude.{◌⊎◌, ℕ, zero, suc, true, false, List, [], ◌∷◌, ◌++◌, length}
use Rattle.jp_disk.specs.Images.{IsImage, after_write}
use Rattle.jp_disk.specs.declared.call.Call.{Call}
use Rattle.jp_disk.specs.declared.call.Call.TheVariants.{Len, Read, Write, Sync}

-- the bytes that a read gives, those of the last sync that was done, and the ranges written since
pub record Medium : Type 0 where
  pub reads : List ℕ
  pub synced : List ℕ
  pub pending : List (ℕ × ℕ)

-- these bytes, and nothing pending
abbrev pub at_rest : List ℕ → Medium
at_rest bytes = record { reads = bytes; synced = bytes; pending = [] }

-- a crash may leave this image
abbrev pub MayLeave : Medium → List ℕ → Type 0
MayLeave medium image = IsImage medium.synced medium.pending image

-- One call. A write that answered that it failed was done all the same: the medium has its bytes, and a crash may
-- leave them or not.
abbrev pub after : Call → Medium → Medium
after (Write at bytes done) m = record { reads = after_write m.reads at bytes; synced = m.synced; pending = m.pending ++ (at, length bytes) ∷ [] }
after (Sync true) m = at_rest m.reads
after (Sync false) m = m
after (Len done) m = m
after (Read at len done) m = m

-- these calls, the first of them first
abbrev pub after_all : List Call → Medium → Medium
after_all [] m = m
after_all (call ∷ calls) m = after_all calls (after call m)

-- what a crash may have left since the t-th of these calls, up to now
abbrev pub LeftSince : List Call → ℕ → Medium → List ℕ → Type 0
LeftSince [] t m image = MayLeave m image
LeftSince (call ∷ calls) zero m image = MayLeave m image ⊎ LeftSince calls zero (after call m) image
LeftSince (call ∷ calls) (suc t) m image = LeftSince calls t (after call m) image

-- the ranges that these calls wrote
abbrev pub ranges_of : List Call → List (ℕ × ℕ)
ranges_of [] = []
ranges_of (Write at bytes done ∷ calls) = (at, length bytes) ∷ ranges_of calls
ranges_of (Len done ∷ calls) = ranges_of calls
ranges_of (Read at len done ∷ calls) = ranges_of calls
ranges_of (Sync done ∷ calls) = ranges_of calls

-- a call that leaves the medium alone
abbrev pub IsQuiet : Call → Type 0
IsQuiet (Write at bytes done) = ⊥
IsQuiet (Sync true) = ⊥
IsQuiet (Sync false) = Unit {0}
IsQuiet (Len done) = Unit {0}
IsQuiet (Read at len done) = Unit {0}
