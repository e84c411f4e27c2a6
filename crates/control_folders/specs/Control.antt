-- The control folder of a task and its files, as texts (docs/HOSTS.md). This product's own rules.
use Rattle.std.specs.Prelude.{◌++◌, ◌-◌, ◌&&◌, not, ℕ, Bool, false, List, length, replicate, codes, nat_eq}
use Rattle.std.specs.List.{ends_with}
use Rattle.std.specs.Fmt.{digits}
use Rattle.hex.specs.Hex.{encode_lower}
use Rattle.control_folders.specs.declared.control.Entry.{Entry}
use Rattle.control_folders.specs.declared.control.Entry.TheVariants as entry
use Rattle.task_host.specs.declared.order.Stream.{Stream}
use Rattle.task_host.specs.declared.order.Stream.TheVariants.{Log, Out}

-- A workspace is a folder of its own where its path ends neither in `/.` nor in `/..`: a job named `.` would have the folder
-- of all workspaces, and one named `..` the agent's root.
abbrev pub is_own_workspace : List ℕ → Bool
is_own_workspace workspace = not (ends_with nat_eq workspace (codes "/.")) && not (ends_with nat_eq workspace (codes "/.."))

-- the folder that holds the control folders of a workspace
abbrev pub parent_of : List ℕ → List ℕ
parent_of workspace = workspace ++ codes "@tmp"

-- a task's number in eight lower hexadecimal digits, with the digit 0, which is 48, in front where it has fewer
abbrev pub eight_digits : ℕ → List ℕ
eight_digits task = let number = digits 16 false task in replicate (8 - length number) 48 ++ number

-- the control folder of a task
abbrev pub control_folder : List ℕ → ℕ → List ℕ
control_folder workspace task = parent_of workspace ++ codes "/durable-" ++ eight_digits task

-- a file in it
abbrev pub file_in : List ℕ → List ℕ → List ℕ
file_in folder name = folder ++ codes "/" ++ name

-- the names of its files
abbrev pub entry_name : Entry → List ℕ
entry_name entry.Script = codes "script.sh"
entry_name entry.Log = codes "jenkins-log.txt"
entry_name entry.Output = codes "output.txt"
entry_name entry.Result = codes "jenkins-result.txt"
entry_name entry.NewPermit = codes "permit.tmp"
entry_name entry.Permit = codes "permit"
entry_name entry.Started = codes "started"
entry_name entry.Withdrawn = codes "revoked"
entry_name entry.Process = codes "process"
entry_name entry.Machine = codes "machine"
entry_name entry.Task = codes "task"
entry_name entry.Asked = codes "asked"

-- the file that a task writes a stream to
abbrev pub stream_entry : Stream → Entry
stream_entry Log = entry.Log
stream_entry Out = entry.Output

-- the file by which a control folder names its build: its name has the bits of the build in lower hexadecimal digits
abbrev pub build_file : List ℕ → List ℕ
build_file bits = codes "build-" ++ encode_lower bits
