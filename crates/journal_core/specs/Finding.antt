-- What the walk over a file's gates finds on its way. Only private functions speak of it.
use Rattle.std.specs.Prelude.{◌≡◌, ◌≢◌, ◌<◌, ◌≤◌, ◌+◌, ◌^◌, ℕ, List, [], ◌∷◌, ◌++◌, length, take, drop, slice_index, Option, Result, Ok, Err, Vec}
use Rattle.std.specs.declared.alloc.Global.{Global}
use Rattle.byteorder.specs.Endian.{big_bytes, big_number}
use Rattle.journal_core.specs.Records.{framed, Fit, Has}
use Rattle.journal_core.specs.State.{Stores}
use Rattle.journal_core.specs.Answers.{entries_of, Opens, OpenRefuses, IsStarted, CreateRefuses}
use Rattle.journal_core.specs.declared.record.Record.{Record}
use Rattle.journal_core.specs.declared.head.Head.{Head}
use Rattle.journal_core.specs.declared.head.Head.TheVariants.{Closed, Cut, Open}
use Rattle.journal_core.specs.declared.faults.OpenFault.{OpenFault}
use Rattle.journal_core.specs.declared.faults.OpenFault.TheVariants.{Memory, Disk, Empty, Damaged}
use Rattle.journal_core.specs.declared.faults.CreateFault.{CreateFault}
use Rattle.jp_disk.specs.View.{DiskView}

-- what stands at this place of a file: a closed gate, an open one whose record does not end in the file, or a record
abbrev pub IsHead : List ℕ → ℕ → Head → Type 0
IsHead file at Closed = slice_index file at ≢ 1
IsHead file at Cut = (slice_index file at ≡ 1) × (length (drop (at + 1) file) ≤ 4 + big_number 4 (drop (at + 1) file))
IsHead file at (Open len) = (slice_index file at ≡ 1) × (big_bytes 4 len ≡ take 4 (drop (at + 1) file)) × (at + 5 + len < length file) × (len < 2 ^ 32)

-- the next gate of a record at this place lies before the end
abbrev pub HeadEnds : ℕ → ℕ → Head → Type 0
HeadEnds at end Closed = Unit {0}
HeadEnds at end Cut = Unit {0}
HeadEnds at end (Open len) = at + 5 + len < end

-- the file is these records up to a closed gate at this place
pub record Splits (file : List ℕ) (place : ℕ) (payloads : List (List ℕ)) : Type 0 where
  pub gate : ℕ
  pub rest : List ℕ
  pub closed : gate ≢ 1
  pub is : file ≡ framed payloads ++ gate ∷ rest
  pub stands : place ≡ length (framed payloads)
  pub fit : Fit payloads

-- the file is these records up to a place, from which on it is still to be read
pub record ReadTo (file : List ℕ) (place : ℕ) (payloads : List (List ℕ)) : Type 0 where
  pub is : file ≡ framed payloads ++ drop place file
  pub stands : place ≡ length (framed payloads)
  pub fit : Fit payloads

-- what the walk answers
abbrev pub WalkFinds : List ℕ → Result (ℕ × Vec Record Global) OpenFault → Type 0
WalkFinds file (Ok found) = (payloads : List (List ℕ)) × Splits file found.0 payloads × (found.1.items ≡ entries_of 0 payloads)
WalkFinds file (Err Memory) = Unit {0}
WalkFinds file (Err Disk) = Unit {0}
WalkFinds file (Err Empty) = ⊥
WalkFinds file (Err (Damaged at)) = OpenRefuses file (Damaged at)

-- what opening answers, with the length of the journal
abbrev pub LoadFinds : {D : Type 0} → DiskView D → List ℕ → D → Result (ℕ × Vec Record Global) OpenFault → Type 0
LoadFinds disk file state (Ok found) = Opens disk file state found.0 found.1.items
LoadFinds disk file state (Err fault) = OpenRefuses file fault

-- what creating answers
abbrev pub PrepareLeaves : {D : Type 0} → DiskView D → List ℕ → D → Result (Unit {0}) CreateFault → Type 0
PrepareLeaves disk file state (Ok _) = ¬ IsStarted file × Has [] file × Stores disk state 1 []
PrepareLeaves disk file state (Err fault) = CreateRefuses disk file state fault
