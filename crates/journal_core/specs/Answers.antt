-- When each answer of a journal's calls comes.
use Rattle.std.specs.Prelude.{◌≡◌, ◌<◌, ◌≤◌, ◌+◌, ◌^◌, ℕ, Bool, true, false, List, [], ◌∷◌, length, slice_index, Option, Some, Result, Ok, Err}
use Rattle.jp_disk.specs.Images.{IsOnlyImage}
use Rattle.journal_core.specs.Records.{framed, Has, HasThenDamaged}
use Rattle.journal_core.specs.State.{State, Stores}
use Rattle.journal_core.specs.declared.record.Record.{Record}
use Rattle.journal_core.specs.declared.faults.AppendFault.{AppendFault}
use Rattle.journal_core.specs.declared.faults.AppendFault.TheVariants.{Memory as AppendMemory, Disk as AppendDisk, Full, Stopped}
use Rattle.journal_core.specs.declared.faults.OpenFault.{OpenFault}
use Rattle.journal_core.specs.declared.faults.OpenFault.TheVariants.{Memory, Disk, Empty, Damaged}
use Rattle.journal_core.specs.declared.faults.CreateFault.{CreateFault}
use Rattle.journal_core.specs.declared.faults.CreateFault.TheVariants.{Disk as CreateDisk, HasRecord}
use Rattle.jp_disk.specs.View.{DiskView}

-- Stopped exactly where the journal was stopped. Else Full exactly where its length and what the record adds are more
-- than 1,073,741,824 bytes together, with these two numbers. Ok is the new length.
abbrev pub AppendAnswers : Bool → ℕ → ℕ → Result ℕ AppendFault → Type 0
AppendAnswers stopped len add (Ok now) = (stopped ≡ false) × (len + add ≤ 2 ^ 30) × (now ≡ len + add)
AppendAnswers stopped len add (Err AppendMemory) = (stopped ≡ false) × (len + add ≤ 2 ^ 30)
AppendAnswers stopped len add (Err AppendDisk) = (stopped ≡ false) × (len + add ≤ 2 ^ 30)
AppendAnswers stopped len add (Err (Full l a)) = (stopped ≡ false) × (2 ^ 30 < len + add) × (l ≡ len) × (a ≡ add)
AppendAnswers stopped len add (Err Stopped) = stopped ≡ true

-- Ok makes the journal longer and Disk stops it; nothing else changes it or its disk.
abbrev pub AppendLeaves : {D : Type 0} → State D → State D → Result ℕ AppendFault → Type 0
AppendLeaves old new (Ok now) = (new.len ≡ now) × (new.stopped ≡ old.stopped)
AppendLeaves old new (Err AppendMemory) = new ≡ old
AppendLeaves old new (Err AppendDisk) = (new.len ≡ old.len) × (new.stopped ≡ true)
AppendLeaves old new (Err (Full l a)) = new ≡ old
AppendLeaves old new (Err Stopped) = new ≡ old

-- the places of these records' gates, of which this is the first, and the lengths of their payloads
abbrev pub entries_of : ℕ → List (List ℕ) → List Record
entries_of at [] = []
entries_of at (payload ∷ payloads) = record { at = at; len = length payload } ∷ entries_of (at + 5 + length payload) payloads

-- The records stand one behind the other, the first gate at this place, and a journal of this length ends with the gate
-- behind the last of them (docs/FORMATS.md).
abbrev pub StandInTurn : ℕ → List Record → ℕ → Type 0
StandInTurn at [] len = len ≡ at + 1
StandInTurn at (entry ∷ entries) len = (entry.at ≡ at) × StandInTurn (at + 5 + entry.len) entries len

-- the file has records and no damaged one; the journal holds them, and these are their entries
pub record Opens {D : Type 0} (disk : DiskView D) (file : List ℕ) (state : D) (len : ℕ) (entries : List Record) : Type 0 where
  pub payloads : List (List ℕ)
  pub some : 0 < length payloads
  pub has : Has payloads file
  pub entries_are : entries ≡ entries_of 0 payloads
  pub holds : Stores disk state len payloads

-- Empty exactly where the file has no record; Damaged exactly where it has a damaged one, with the place of its gate
abbrev pub OpenRefuses : List ℕ → OpenFault → Type 0
OpenRefuses file Memory = Unit {0}
OpenRefuses file Disk = Unit {0}
OpenRefuses file Empty = Has [] file
OpenRefuses file (Damaged at) = (payloads : List (List ℕ)) × HasThenDamaged payloads file × (at ≡ length (framed payloads))

-- the first gate is open, and the file has room for a record
abbrev pub IsStarted : List ℕ → Type 0
IsStarted file = (slice_index file 0 ≡ 1) × (6 ≤ length file)

-- HasRecord exactly where the file is started; then it is as it was, and durable
abbrev pub CreateRefuses : {D : Type 0} → DiskView D → List ℕ → D → CreateFault → Type 0
CreateRefuses disk file state CreateDisk = Unit {0}
CreateRefuses disk file state HasRecord = IsStarted file × (disk.reads state ≡ Some file) × IsOnlyImage file (disk.may_leave state)
