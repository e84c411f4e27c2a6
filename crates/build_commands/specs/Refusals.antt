-- The status and the text of a refusal. This product's own.
use Rattle.std.specs.Prelude.{◌≡◌, ◌⊎◌, ℕ, List, string_bytes}
use Rattle.build_commands.specs.declared.refusal.Refusal.{Refusal}
use Rattle.build_commands.specs.declared.refusal.Refusal.TheVariants.{ReadFailed, AgentsRefused, TooLong, ScriptRefused, DiskFailed, OutOfMemory, HasBuild, NoBuild, Damaged, Full}
use Rattle.build_commands.specs.Texts.{damaged_text, disk_failed_text, full_text, has_build_text, no_build_text, out_of_memory_text}
use Rattle.journal_core.specs.declared.faults.TakeFault.{TakeFault}
use Rattle.journal_core.specs.declared.faults.TakeFault.TheVariants as take
use Rattle.build_commands.specs.Lines.{read_failed_text, too_long_text}
use Rattle.build_life.specs.Lower.durable_build.declared.faults.StoreFault.{StoreFault}
use Rattle.build_life.specs.Lower.durable_build.declared.faults.StoreFault.TheVariants as fault
use Rattle.build_life.specs.Lower.build_store.declared.beginning.BeginFault.{BeginFault}
use Rattle.build_life.specs.Lower.build_store.declared.beginning.BeginFault.TheVariants as begin

abbrev pub refusal_status : Refusal → ℕ
refusal_status ReadFailed = 6
refusal_status (AgentsRefused line) = 13
refusal_status TooLong = 4
refusal_status (ScriptRefused line) = 4
refusal_status DiskFailed = 5
refusal_status OutOfMemory = 8
refusal_status HasBuild = 9
refusal_status NoBuild = 9
refusal_status (Damaged line) = 9
refusal_status (Full line) = 14

abbrev pub refusal_text : Refusal → List ℕ
refusal_text ReadFailed = read_failed_text
refusal_text (AgentsRefused line) = line
refusal_text TooLong = too_long_text
refusal_text (ScriptRefused line) = string_bytes line
refusal_text DiskFailed = disk_failed_text
refusal_text OutOfMemory = out_of_memory_text
refusal_text HasBuild = has_build_text
refusal_text NoBuild = no_build_text
refusal_text (Damaged line) = string_bytes line
refusal_text (Full line) = string_bytes line

-- The refusal has this status and text; or it tells want of memory, in place of a text that needs memory.
abbrev pub Says : ℕ → List ℕ → Refusal → Type 0
Says status text refusal = (refusal ≡ OutOfMemory) ⊎ ((refusal_status refusal ≡ status) × (refusal_text refusal ≡ text))

-- it tells this fault of a store
abbrev pub TellsFault : StoreFault → Refusal → Type 0
TellsFault fault.Memory refusal = refusal ≡ OutOfMemory
TellsFault fault.Disk refusal = refusal ≡ DiskFailed
TellsFault fault.Empty refusal = refusal ≡ NoBuild
TellsFault (fault.Damaged at) refusal = Says 9 (damaged_text at) refusal

-- it tells this fault of a take
abbrev pub SaysTake : TakeFault → Refusal → Type 0
SaysTake take.Memory refusal = refusal ≡ OutOfMemory
SaysTake take.Disk refusal = refusal ≡ DiskFailed
SaysTake take.Stopped refusal = refusal ≡ OutOfMemory
SaysTake (take.Full len add) refusal = Says 14 (full_text len add) refusal

-- it tells why a build was not begun
abbrev pub SaysBegin : BeginFault → Refusal → Type 0
SaysBegin begin.HasBuild refusal = refusal ≡ HasBuild
SaysBegin (begin.Take fault) refusal = SaysTake fault refusal
