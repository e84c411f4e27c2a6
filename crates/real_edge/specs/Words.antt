-- The words behind the text that a task's shell runs. This product's own rule.
use Rattle.std.specs.Prelude.{◌∷◌, [], List, ℕ, string_bytes}
use Rattle.control_folders.specs.declared.control.ControlFolder.{ControlFolder}
use Rattle.real_edge.specs.declared.programs.Programs.{Programs}

-- the control folder, which is `$0`, and the controller's own `mv` and `sh`, which are `$1` and `$2`
abbrev pub words_behind : Programs → ControlFolder → List (List ℕ)
words_behind programs control = string_bytes control.path ∷ string_bytes programs.mover ∷ string_bytes programs.shell ∷ []
