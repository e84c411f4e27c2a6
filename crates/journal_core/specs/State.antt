-- What contracts see of a journal, and when it holds a list of records.
use Rattle.std.specs.Prelude.{◌≡◌, ◌≢◌, ◌+◌, ℕ, Bool, List, ◌∷◌, ◌++◌, length, Option, Some}
use Rattle.jp_disk.specs.Images.{IsOnlyImage}
use Rattle.journal_core.specs.Records.{framed, Fit}
use Rattle.jp_disk.specs.View.{DiskView}

-- the disk, the journal's length, which is the place of its last gate plus 1, and whether a failed append stopped it
pub record State (D : Type 0) : Type 0 where
  pub disk : D
  pub len : ℕ
  pub stopped : Bool

-- The disk tells its bytes, all of them durable: these records up to a closed gate, with which the journal of this
-- length ends. What stands behind that gate counts for nothing.
pub record Stores {D : Type 0} (disk : DiskView D) (state : D) (len : ℕ) (payloads : List (List ℕ)) : Type 0 where
  pub gate : ℕ
  pub rest : List ℕ
  pub closed : gate ≢ 1
  pub told : disk.reads state ≡ Some (framed payloads ++ gate ∷ rest)
  pub ends : len ≡ length (framed payloads) + 1
  pub fit : Fit payloads
  pub durable : IsOnlyImage (framed payloads ++ gate ∷ rest) (disk.may_leave state)

-- the journal holds these records, all of them durable
abbrev pub Holds : {D : Type 0} → DiskView D → State D → List (List ℕ) → Type 0
Holds disk journal payloads = Stores disk journal.disk journal.len payloads
