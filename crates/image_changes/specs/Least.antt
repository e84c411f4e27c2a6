-- The delta that holds what changed alone (this product's own; docs/FORMATS.md, "Records of changes"). Of two images there is
-- one such delta: `least_is_one` (proofs/Least.antt).
use Rattle.std.specs.Prelude.{◌≡◌, ◌<◌, ◌≤◌, ℕ, List, length, slice_get, Option, Some}
use Rattle.std.specs.List.{AllByRecursion as AllAre}
use Rattle.model_values.specs.declared.cell.Cell.{Cell}
use Rattle.model_values.specs.declared.key.Key.{Key}
use Rattle.model_values.specs.declared.value.Value.{Value}
use Rattle.model_run.specs.declared.request.OpenRequest.{OpenRequest}
use Rattle.image_form.specs.declared.image.Image.{Image}
use Rattle.image_form.specs.declared.image.ImageThread.{ImageThread}
use Rattle.delta_form.specs.After.{written_cell, written_request, written_thread}
use Rattle.delta_form.specs.Numbers.{written_number}
use Rattle.delta_form.specs.declared.delta.Delta.{Delta}
use Rattle.delta_form.specs.declared.delta.NumberedCell.{NumberedCell}
use Rattle.delta_form.specs.declared.delta.WrittenCell.{WrittenCell}
use Rattle.delta_form.specs.declared.delta.WrittenCell.TheVariants as now
use Rattle.delta_form.specs.declared.delta.WrittenRequest.{WrittenRequest}
use Rattle.delta_form.specs.declared.delta.WrittenRequest.TheVariants as written
use Rattle.delta_form.specs.declared.delta.WrittenThread.{WrittenThread}

-- nothing behind a list or a map that stood makes this cell
abbrev pub CannotGrowTo : Option Cell → Cell → Type 0
CannotGrowTo stood cell =
    ((values : List Value) → ¬ (written_cell (now.GrownList values) stood ≡ Some cell))
    × ((entries : List (Key × Value)) → ¬ (written_cell (now.GrownMap entries) stood ≡ Some cell))

-- A cell is written whole only where what stood cannot grow to it.
abbrev pub IsShortCell : WrittenCell → Option Cell → Type 0
IsShortCell (now.Whole c) stood = CannotGrowTo stood c
IsShortCell (now.GrownList values) stood = Unit {0}
IsShortCell (now.GrownMap entries) stood = Unit {0}

-- Each listed cell is new, or another one than stood at its number, and is the shortest that makes it.
abbrev pub CellDiffers : Option Cell → WrittenCell → Type 0
CellDiffers stood w = ¬ (written_cell w stood ≡ stood) × IsShortCell w stood

abbrev pub CellsDiffer : List Cell → List NumberedCell → Type 0
CellsDiffer before cells = AllAre (λ c. CellDiffers (slice_get before c.number) c.cell) cells

-- no growth of the task that stood makes this request
abbrev pub CannotGrow : OpenRequest → OpenRequest → Type 0
CannotGrow stood item = (number taken : ℕ) (added : List ℕ) → ¬ (written_request (written.Grown number taken added) (Some stood) ≡ Some (Some item))

-- A request is written whole only where what stood cannot grow to it.
abbrev pub IsShort : WrittenRequest → OpenRequest → Type 0
IsShort (written.Whole r) stood = CannotGrow stood r
IsShort (written.Grown number taken added) stood = Unit {0}

-- A thread keeps all its frames in front that are the same, as far as a delta counts them: the next one differs.
abbrev pub KeepsMost : WrittenThread → ImageThread → Type 0
KeepsMost w stood = (w.kept ≤ 4294967295) × (w.kept < 4294967295 → w.kept < length stood.frames → ¬ (slice_get stood.frames w.kept ≡ slice_get w.frames 0))

-- Each of these changes is needed: it makes another item of the one that stood at its number, and is the shortest that does.
abbrev pub AllNeeded : {C X : Type 0} → (X → ℕ) → (C → ℕ) → (C → Option X → Option (Option X)) → (C → X → Type 0) → List X → List C → Type 0
AllNeeded by number made shortest before changes = AllAre (λ c. AllAre (λ x. by x ≡ number c → ¬ (made c (Some x) ≡ Some (Some x)) × shortest c x) before) changes

-- The delta holds what changed of this image alone: a cell, a request or a thread that stands as it stood is not listed, a
-- list, a map or a task that has only grown is written short, and a thread keeps all its frames in front that are the same.
pub record IsLeast (before : Image) (delta : Delta) : Type 0 where
  pub cells : CellsDiffer before.cells delta.cells
  pub requests : AllNeeded (λ r. r.number) written_number written_request IsShort before.requests delta.requests
  pub threads : AllNeeded (λ t. t.number) (λ w. w.number) written_thread KeepsMost before.threads delta.threads
