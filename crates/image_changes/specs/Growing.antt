-- What alone differs of cells, requests and threads that are written short (this product's own).
use Rattle.std.specs.Prelude.{◌≡◌, ◌<◌, ◌≤◌, ◌+◌, ℕ, List, drop, length, slice_get, take, Option, Some, None}
use Rattle.model_values.specs.declared.cell.Cell.{Cell}
use Rattle.model_run.specs.declared.request.Request.{Request}
use Rattle.image_form.specs.declared.image.ImageFrame.{ImageFrame}
use Rattle.image_form.specs.declared.image.ImageThread.{ImageThread}
use Rattle.delta_form.specs.After.{grown, written_cell}
use Rattle.delta_form.specs.declared.delta.WrittenCell.{WrittenCell}
use Rattle.delta_form.specs.declared.delta.WrittenThread.{WrittenThread}
use Rattle.image_changes.specs.Least.{IsShortCell}
use Rattle.image_changes.specs.declared.requests.Growth.{Growth}

-- A request that stood is not this one, and grown so it is; or it is this one.
abbrev pub TaskGrows : Request → Request → Option Growth → Type 0
TaskGrows stood item None = stood ≡ item
TaskGrows stood item (Some g) = ¬ (stood ≡ item) × (grown g.taken g.out stood ≡ Some item)

-- It makes the cell of what stood, and is the shortest that does.
abbrev pub WritesCell : Option Cell → Cell → WrittenCell → Type 0
WritesCell stood cell w = (written_cell w stood ≡ Some cell) × IsShortCell w stood

-- What stood is this cell; or it is not, and this makes the cell of it and is the shortest that does.
abbrev pub CellChanges : Option Cell → Cell → Option WrittenCell → Type 0
CellChanges stood cell None = stood ≡ Some cell
CellChanges stood cell (Some w) = ¬ (stood ≡ Some cell) × WritesCell stood cell w

-- two threads differ at most in their frames
abbrev pub HasSameNumbers : ImageThread → ImageThread → Type 0
HasSameNumbers t u = (t.number ≡ u.number) × (t.parent ≡ u.parent) × (t.head ≡ u.head)

abbrev pub IsSameSeat : ImageThread → ImageThread → Type 0
IsSameSeat t u = HasSameNumbers t u × (t.wait ≡ u.wait) × (t.context ≡ u.context)

-- the thread with so many of its frames kept, and the others written
abbrev pub with_front : ImageThread → ℕ → WrittenThread
with_front t kept = record { number = t.number; parent = t.parent; head = t.head; wait = t.wait; context = t.context; kept = kept; frames = drop kept t.frames }

-- So many frames from the outermost on are the same, as far as a delta counts them, and at least so many are known to be.
pub record IsCommon (had has : List ImageFrame) (known kept : ℕ) : Type 0 where
  pub same : take kept had ≡ take kept has
  pub within_had : kept ≤ length had
  pub within_has : kept ≤ length has
  pub from : known ≤ kept
  pub few : kept ≤ 4294967295
  pub most : kept < 4294967295 → kept < length had → ¬ (slice_get had kept ≡ slice_get has kept)

-- so many and so many more, as far as a delta counts them
pub record IsCounted (known more count : ℕ) : Type 0 where
  pub from : known ≤ count
  pub within : count ≤ known + more
  pub few : count ≤ 4294967295
  pub all : count < 4294967295 → count ≡ known + more
