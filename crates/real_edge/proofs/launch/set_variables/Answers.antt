use Rattle.std.proofs.Common.{rules, ap, sym, ◌∙◌}
use Rattle.std.specs.Process.{command_var}
use Rattle.real_edge.proofs.ProcessLemmas.{set_next}
use Rattle.real_edge.proofs.launch.set_variables.Goals as goal

pub loop-variable-preserved : goal.loop-variable-preserved
loop-variable-preserved c = record {
  call = search rules;
  folder = search rules;
  inherits = search rules;
  variables = λ name.
      set_next c.args.variables.now c.loop-variable.variable-index c.variable-item.result name (command_var c.args.command.now name) (command_var c.loop-variable.command name) (command_var c.set_variable.new.command name)
      (search rules) (search rules) (c.loop-variable.invariant.variables name)
      (λ same. ap (command_var c.set_variable.new.command) (sym same) ∙ c.in_ok-set_variable.ensures.set) (λ other. c.in_ok-set_variable.ensures.others name other);
}
