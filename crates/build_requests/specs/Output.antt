-- What a task's counts have room for.
use Rattle.std.specs.Prelude.{ℕ, ◌+◌, ◌<◌}
use Rattle.build_requests.specs.Names.{Request, NodeRequest, TaskRequest, InputRequest}

-- with so many bytes more, fewer than this many were taken of a task's log stream
abbrev pub TakenBelow : ℕ → ℕ → Request → Type 0
TakenBelow most more (TaskRequest executor workspace folder env script status keep_out taken out) = taken + more < most
TakenBelow most more (NodeRequest label) = Unit {0}
TakenBelow most more (InputRequest id) = Unit {0}
