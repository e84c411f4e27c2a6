-- What the program writes where it does not write a log. This product's own.
use Rattle.std.specs.Prelude.{ℕ, List, ◌++◌, codes}
use Rattle.std.specs.Fmt.{decimal}
use Rattle.model_syntax.specs.declared.fault.ScriptFault.{ScriptFault}
use Rattle.model_run.specs.declared.agents.AgentsKind.{AgentsKind}
use Rattle.model_run.specs.AgentsTexts.{agents_kind_text}
use Rattle.model_syntax.specs.FaultTexts.{fault_text}

abbrev pub read_failed_text : List ℕ
read_failed_text = codes "controller: read failed\n"

abbrev pub too_long_text : List ℕ
too_long_text = codes "Jenkinsfile: longer than 1048576 bytes\n"

-- the place of a fault and its kind
abbrev pub fault_line : ScriptFault → List ℕ
fault_line fault =
    codes "Jenkinsfile:" ++ (decimal fault.line ++ (codes ":" ++ (decimal fault.column ++ (codes ": " ++ (fault_text fault.kind ++ codes "\n")))))

-- the path of a fault of the agents file and its kind
abbrev pub agents_line : List ℕ → AgentsKind → List ℕ
agents_line path kind = codes "agents.json: " ++ (path ++ (codes ": " ++ (agents_kind_text kind ++ codes "\n")))
