-- What the entries of a history say (this product's own).
use Rattle.std.specs.Prelude.{◌≡◌, ◌||◌, ℕ, Bool, false, nat_eq, List, [], ◌∷◌, Option, Some, None}
use Rattle.model_run.specs.declared.event.Event.{Event}
use Rattle.journal_core.specs.declared.faults.TakeFault.{TakeFault}
use Rattle.journal_core.specs.declared.faults.TakeFault.TheVariants.{Memory, Disk, Full, Stopped}
use Rattle.locked_build.specs.declared.ask.Entry.{Entry}
use Rattle.locked_build.specs.declared.ask.Entry.TheVariants.{Took, Claimed, Line, Failed}

-- the events that were taken
abbrev pub tooks : List Entry → List Event
tooks [] = []
tooks (Took e ∷ es) = e ∷ tooks es
tooks (Claimed executor task keep_out kept_log kept_out ∷ es) = tooks es
tooks (Line line ∷ es) = tooks es
tooks (Failed fault event ∷ es) = tooks es

-- the fault that is kept: the first
abbrev pub kept_fault : List Entry → Option TakeFault
kept_fault [] = None
kept_fault (Took e ∷ es) = kept_fault es
kept_fault (Claimed executor task keep_out kept_log kept_out ∷ es) = kept_fault es
kept_fault (Line line ∷ es) = kept_fault es
kept_fault (Failed fault event ∷ es) = Some fault

-- the event whose record may be on the disk though its take failed: the one that the disk failed
abbrev pub at_risk : TakeFault → Option Event → List Event
at_risk Disk (Some e) = e ∷ []
at_risk Disk None = []
at_risk Memory event = []
at_risk (Full len add) event = []
at_risk Stopped event = []

abbrev pub pending : List Entry → List Event
pending [] = []
pending (Took e ∷ es) = pending es
pending (Claimed executor task keep_out kept_log kept_out ∷ es) = pending es
pending (Line line ∷ es) = pending es
pending (Failed fault event ∷ es) = at_risk fault event

-- the task was claimed
abbrev pub is_claimed : ℕ → List Entry → Bool
is_claimed task [] = false
is_claimed task (Took e ∷ es) = is_claimed task es
is_claimed task (Claimed executor claimed keep_out kept_log kept_out ∷ es) = nat_eq claimed task || is_claimed task es
is_claimed task (Line line ∷ es) = is_claimed task es
is_claimed task (Failed fault event ∷ es) = is_claimed task es

-- the tasks that were claimed, in order
abbrev pub claims : List Entry → List ℕ
claims [] = []
claims (Took e ∷ es) = claims es
claims (Claimed executor task keep_out kept_log kept_out ∷ es) = task ∷ claims es
claims (Line line ∷ es) = claims es
claims (Failed fault event ∷ es) = claims es

-- the lines that were heard
abbrev pub lines : List Entry → List (List ℕ)
lines [] = []
lines (Took e ∷ es) = lines es
lines (Claimed executor task keep_out kept_log kept_out ∷ es) = lines es
lines (Line line ∷ es) = line ∷ lines es
lines (Failed fault event ∷ es) = lines es

-- entries that tell of no event and of no fault
abbrev pub Quiet : List Entry → Type 0
Quiet es = (tooks es ≡ []) × (kept_fault es ≡ None)

-- What contracts see of a history: its entries, and for how many it has memory.
pub record Past : Type 0 where
  pub items : List Entry
  pub capacity : ℕ
