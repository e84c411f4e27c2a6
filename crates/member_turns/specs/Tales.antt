-- What the entries of a pass tell of the asks that made them (this product's own).
use Rattle.std.specs.Prelude.{Bool, true, false, if◌then◌else◌, List, [], ◌∷◌, ◌++◌, Option, Some, None}
use Rattle.model_run.specs.declared.event.Event.{Event}
use Rattle.model_run.specs.declared.event.Event.TheVariants.{Start, Granted, Output, Exited, Lost, Decided}
use Rattle.agent_worker.specs.declared.gate.GateCall.{GateCall}
use Rattle.agent_worker.specs.declared.gate.Said.{Said}
use Rattle.agent_worker.specs.Gate.{Told, told_at, Claimed as ClaimedTask, GateTells}
use Rattle.locked_build.specs.declared.ask.Entry.{Entry}
use Rattle.locked_build.specs.declared.ask.Entry.TheVariants.{Took, Claimed, Line, Failed}
use Rattle.locked_build.specs.Histories.{lines}

-- a grant: the build makes it behind another event, and nobody asks for it
abbrev pub is_grant : Event → Bool
is_grant (Granted request executor) = true
is_grant (Start script agents) = false
is_grant (Output task stream place bytes) = false
is_grant (Exited task code) = false
is_grant (Lost task why) = false
is_grant (Decided request proceed name) = false

-- an event of a task, which the executor that serves it reports
abbrev pub is_of_task : Event → Bool
is_of_task (Output task stream place bytes) = true
is_of_task (Exited task code) = true
is_of_task (Lost task why) = true
is_of_task (Start script agents) = false
is_of_task (Granted request executor) = false
is_of_task (Decided request proceed name) = false

-- an event that was asked for, with whether it was accepted
abbrev pub asked_for : Event → Bool → List Told
asked_for e accepted = if is_grant e then [] else told_at e accepted ∷ []

-- the event whose take the disk or the journal's limit kept
abbrev pub failed_of : Option Event → List Told
failed_of None = []
failed_of (Some e) = asked_for e false

-- the events that were asked for, and were accepted or kept by the disk or the limit
abbrev pub told_of : List Entry → List Told
told_of [] = []
told_of (Took e ∷ es) = asked_for e true ++ told_of es
told_of (Claimed executor task keep_out kept_log kept_out ∷ es) = told_of es
told_of (Line line ∷ es) = told_of es
told_of (Failed fault event ∷ es) = failed_of event ++ told_of es

-- the tasks that were claimed
abbrev pub claimed_of : List Entry → List ClaimedTask
claimed_of [] = []
claimed_of (Took e ∷ es) = claimed_of es
claimed_of (Claimed executor task keep_out kept_log kept_out ∷ es) =
    record { executor = executor; task = task; keep_out = keep_out; kept_log = kept_log; kept_out = kept_out } ∷ claimed_of es
claimed_of (Line line ∷ es) = claimed_of es
claimed_of (Failed fault event ∷ es) = claimed_of es

-- What a gate tells whose pass has these entries, and through which these calls were made.
abbrev pub tells_of : List Entry → List GateCall → Said → Bool → GateTells
tells_of own calls said is_open = record { told = Some (told_of own); lines = Some (lines own); claimed = Some (claimed_of own); calls = Some calls; said = said; is_open = is_open }
