use Rattle.std.proofs.Common.{◌≡◌, ℕ, List, take}
use Rattle.std.specs.Process.{command_var, clears_env, SameProgramAndArgs, SameDir}
use Rattle.real_edge.specs.Process.{said_of}
use Rattle.real_edge.proofs.launch.set_variables.Given as goal

-- the variables so far are set
abbrev pub invariant-loop-variable : goal.invariant-loop-variable
invariant-loop-variable l = record {
  call : SameProgramAndArgs l.fn.command l.command;
  folder : SameDir l.fn.command l.command;
  inherits : clears_env l.command ≡ clears_env l.fn.command;
  variables : (name : List ℕ) → command_var l.command name ≡ said_of name (command_var l.fn.command name) (take l.variable-index l.fn.variables);
}
