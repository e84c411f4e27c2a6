-- What contracts see of a host in memory: its folders and tasks, its counts, and its calls.
use Rattle.std.specs.Prelude.{ℕ, ℤ, List, Option, option_map}
use Rattle.device_faults.specs.Calls.{Calls}
use Rattle.task_host.specs.declared.call.Call.{Call}
use Rattle.task_host.specs.declared.order.Stream.{Stream}
use Rattle.task_host.specs.declared.memory.MemoryHost.{MemoryHost}
use Rattle.task_host.specs.Tasks.{State, written_by, ended_with}

-- the folders that stand, the launches, and what the tasks do
abbrev pub tasks_of : MemoryHost → State
tasks_of host = host.tasks

-- which calls fail, and how many were made, failed, and failed for want of memory
abbrev pub counts_of : MemoryHost → Calls
counts_of host = host.counts

-- the calls so far, as long as each was kept
abbrev pub calls_of : MemoryHost → Option (List Call)
calls_of host = option_map (λ calls. calls.items) host.calls

-- what a task has written
abbrev pub output_of : MemoryHost → ℕ → Stream → List ℕ
output_of host = written_by (tasks_of host).launches (tasks_of host).behavior

-- the code of a task that has ended
abbrev pub exited_of : MemoryHost → ℕ → Option ℤ
exited_of host = ended_with (tasks_of host).launches (tasks_of host).behavior
