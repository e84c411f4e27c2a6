-- The script that starts a task elsewhere, as text (docs/HOSTS.md). This product's own form, in the language of the POSIX shell.
use Rattle.std.specs.Prelude.{◌++◌, ◌∷◌, ◌||◌, ◌&&◌, false, [], ℕ, Bool, List, codes, nat_eq, nat_le, if◌then◌else◌}
use Rattle.std.specs.List.{flat_map, list_all}
use Rattle.model_text.specs.declared.pair.Pair.{Pair}
use Rattle.task_host.specs.declared.order.Order.{Order}
use Rattle.control_folders.specs.ShellText.{shell_text}
use Rattle.control_folders.specs.declared.shell.Place.TheVariants.{Elsewhere}

-- Between single quotes each byte stands for itself, but a single quote, which is 39: it ends the quoted part, stands behind a
-- backslash, and another part begins.
abbrev pub quoted_byte : ℕ → List ℕ
quoted_byte byte = if nat_eq byte 39 then codes "'\\''" else byte ∷ []

-- a text as one word of the shell
abbrev pub quoted : List ℕ → List ℕ
quoted text = codes "'" ++ flat_map quoted_byte text ++ codes "'"

-- a letter (ASCII) or an underscore
abbrev pub begins_name : ℕ → Bool
begins_name byte = nat_le 97 byte && nat_le byte 122 || nat_le 65 byte && nat_le byte 90 || nat_eq byte 95

-- such a byte or a decimal digit
abbrev pub goes_on_in_name : ℕ → Bool
goes_on_in_name byte = begins_name byte || nat_le 48 byte && nat_le byte 57

-- what the shell takes for the name of a variable
abbrev pub is_variable_name : List ℕ → Bool
is_variable_name [] = false
is_variable_name (first ∷ others) = begins_name first && list_all goes_on_in_name others

-- a variable of the environment. The word `command` keeps the shell from ending at a variable of its own that cannot be set.
abbrev pub export_line : Pair → List ℕ
export_line variable = codes "command export " ++ (variable.name ++ ((codes "=" ++ quoted variable.value) ++ codes "\n"))

-- A variable of the step is one of the environment. One with another name is passed over.
abbrev pub exports : Pair → List ℕ
exports variable = if is_variable_name variable.name then export_line variable else []

-- the beginning: the programs `mv` and `sh` are found before any variable is set, and the step's folder is made
abbrev pub begins : List ℕ → List ℕ
begins folder = codes "#!/bin/sh\nset -- \"$(command -v mv)\" \"$(command -v sh)\"\n" ++ ((codes "mkdir -p " ++ quoted folder) ++ codes "\n")

-- the end: this process becomes the task's shell
abbrev pub ends : Order → List ℕ → List ℕ
ends order control =
    (codes "exec \"$2\" -c " ++ quoted (shell_text Elsewhere order.script order.keep_out)) ++ ((codes " " ++ quoted control)
    ++ ((codes " \"$1\" \"$2\" " ++ quoted order.folder) ++ codes "\n"))

-- the whole, for a task with this control folder
abbrev pub task_script : Order → List ℕ → List ℕ
task_script order control = begins order.folder ++ flat_map exports order.env ++ ends order control
