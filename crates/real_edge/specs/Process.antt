-- The process of a task: its program, its words, its folder and its variables (docs/HOSTS.md). This product's own rules.
use Rattle.std.specs.Prelude.{◌≡◌, ◌++◌, ◌∷◌, [], List, ℕ, false, Option, Some, None, codes, bytes_eq, if◌then◌else◌}
use Rattle.std.specs.declared.process.command.Command.{Command}
use Rattle.std.specs.Process.{command_program, command_args, command_dir, command_var, clears_env}
use Rattle.model_text.specs.declared.pair.Pair.{Pair}
use Rattle.task_host.specs.declared.order.Order.{Order}
use Rattle.control_folders.specs.ShellText.{shell_text}
use Rattle.control_folders.specs.declared.shell.Place.TheVariants.{Here}

-- what a command says of the variable of this name after these were set in their order: of two with one name the later
-- counts
abbrev pub said_of : List ℕ → Option (Option (List ℕ)) → List Pair → Option (Option (List ℕ))
said_of name before [] = before
said_of name before (variable ∷ variables) = said_of name (if bytes_eq variable.name name then Some (Some variable.value) else before) variables

-- the words of a shell that runs a task: a fixed text, and behind it its `$0`, `$1` and `$2`
abbrev pub shell_words : Order → List (List ℕ) → List (List ℕ)
shell_words order behind = codes "-c" ∷ shell_text Here order.script order.keep_out ∷ behind

-- A command that runs a task by this program: with these words before those of the shell, and these behind its text; in the
-- order's folder, in the controller's environment and the order's variables.
pub record RunsTask {A : Type 0} (program : List ℕ) (words : List (List ℕ)) (order : Order) (behind : List (List ℕ)) (command : Command A) : Type 0 where
  pub by : command_program command ≡ program
  pub words_are : command_args command ≡ words ++ shell_words order behind
  pub folder : command_dir command ≡ Some order.folder
  pub inherits : clears_env command ≡ false
  pub variables : (name : List ℕ) → command_var command name ≡ said_of name None order.env
