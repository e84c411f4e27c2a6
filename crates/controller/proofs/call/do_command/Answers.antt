use Rattle.std.proofs.Common.{Global, refl, subst}
use Rattle.std.specs.Prelude.{map, string_bytes}
use Rattle.command_words.specs.declared.command.Command.{Command}
use Rattle.command_words.specs.Words.{Gives}
use Rattle.controller.specs.Commands.{generates}
use Rattle.controller.proofs.call.do_command.Goals as goal

pub returns-in-Some-Generate-default : goal.returns-in-Some-Generate-default
returns-in-Some-Generate-default g c =
    let found = c.in-Some-Generate-default in
    record {
      does = generates found.stages (found.field-0-1.now, subst (λ (command : Command). Gives (map (string_bytes {Z = Global}) c.args.words.now) command found.field-0-1.now) found.field-0-0-is found.ensures)
          (record { script = record { rest = refl; faults = refl }; agents = record { rest = refl; faults = refl } }) c.generate.ensures;
    }
