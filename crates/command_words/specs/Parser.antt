-- The commands as `clap` is told of them. This product's own.
use Rattle.std.specs.Prelude.{ℕ, List, true, codes}
use Rattle.clap.specs.Words.{App, Rule, Shape, new_app, new_rule, with_rule, with_subcommand}

-- the word behind a command, which is needed
abbrev pub operand : Rule
operand = record (new_rule (codes "operand")) { required = true }

-- a command of this name
abbrev pub part : List ℕ → Shape
part name = (with_rule (new_app name) operand).top

-- these commands and that one
abbrev pub with_part : App → List ℕ → App
with_part parser name = with_subcommand parser (part name)

-- nothing yet
abbrev pub no_parts : App
no_parts = new_app (codes "controller")

-- the commands of the program
abbrev pub parser_app : App
parser_app = with_part (with_part (with_part (with_part (with_part (with_part no_parts (codes "run")) (codes "resume")) (codes "log")) (codes "graph")) (codes "check")) (codes "gen")
