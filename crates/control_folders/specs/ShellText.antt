-- What the shell of a task runs, as text (docs/HOSTS.md). This product's own rules. The shell's words are `$0`, the control
-- folder; `$1`, the program `mv`; `$2`, the program `sh`; and elsewhere `$3`, the step's folder.
use Rattle.std.specs.Prelude.{◌++◌, ℕ, Bool, true, false, List, [], codes, nat_eq}
use Rattle.std.specs.List.{starts_with}
use Rattle.control_folders.specs.declared.shell.Place.{Place}
use Rattle.control_folders.specs.declared.shell.Place.TheVariants.{Here, Elsewhere}

-- a script that begins so names its own interpreter
abbrev pub names_interpreter : List ℕ → Bool
names_interpreter script = starts_with nat_eq script (codes "#!")

-- The process takes the permit before anything else, in one step, and ends where it is not there.
abbrev pub takes_permit : List ℕ
takes_permit = codes "\"$1\" \"$0/permit\" \"$0/started\" || exit; "

-- elsewhere it leaves the name of its machine
abbrev pub leaves_machine : Place → List ℕ
leaves_machine Here = []
leaves_machine Elsewhere =
    codes "read -r controller_process < /proc/sys/kernel/hostname; echo \"$controller_process\" > \"$0/machine\"; "

-- it leaves its number and when it began
abbrev pub leaves_process : List ℕ
leaves_process = codes "read -r controller_process < /proc/$$/stat; echo \"$controller_process\" > \"$0/process\"; "

-- Here the process is started in the step's folder. Elsewhere it goes into it, and where it cannot the log has the reason.
abbrev pub enters_folder : Place → List ℕ
enters_folder Here = []
enters_folder Elsewhere = codes "cd \"$3\" || exit; "

-- what runs the script, in the words of the shell
abbrev pub runs_script : Bool → List ℕ
runs_script true = codes "chmod 700 \"$0/script.sh\"; exec \"$0/script.sh\""
runs_script false = codes "exec \"$2\" -xe \"$0/script.sh\""

-- where the script's output goes: apart from the log where the step keeps it
abbrev pub streams : Bool → List ℕ
streams true = codes "> \"$0/output.txt\" 2> \"$0/jenkins-log.txt\""
streams false = codes "> \"$0/jenkins-log.txt\" 2>&1"

-- Behind the script stand the number of its process, and then its exit code, in a file that has its name once all of it
-- was written.
abbrev pub leaves_result : List ℕ
leaves_result =
    codes " & echo $! > \"$0/pid\"; wait $!; echo $? > \"$0/jenkins-result.tmp\"; \"$1\" \"$0/jenkins-result.tmp\" \"$0/jenkins-result.txt\""

-- what the shell runs
abbrev pub shell_text : Place → List ℕ → Bool → List ℕ
shell_text place script keeps_out =
    takes_permit ++ (leaves_machine place ++ (leaves_process ++ (codes "( " ++ (enters_folder place
    ++ (runs_script (names_interpreter script) ++ (codes " ) " ++ (streams keeps_out ++ leaves_result)))))))
