use Rattle.std.proofs.Common.{rules, ap, ap₂, false, ◌≡◌, ◌∙◌}
use Rattle.std.proofs.lemmas.Result.{IfOk-weaker}
use Rattle.clap.specs.Walk.{rule_of}
use Rattle.clap.specs.Simple.{App, app_of, new_app, shape_of, with_rule, with_subcommand}
use Rattle.clap.specs.declared.builder.command.Command.TheViews.{out-Command}
use Rattle.command_words.specs.Parser.{operand, part}
use Rattle.command_words.proofs.parser.with_part.Goals as goal

pub returns : goal.returns
returns c =
    let operand_is : rule_of c.required-operand.result ≡ operand = search rules in
    let part_is : app_of c.in_ok-part.part ≡ with_rule (new_app c.args.name.now) operand = c.in_ok-part.ensures.shape (search rules) ∙ ap₂ with_rule c.new-2.ensures.app operand_is in
    let shape_is : shape_of c.in_ok-part.part ≡ part c.args.name.now = ap (λ (a : App). a.top) part_is in
    let local : (out-Command c.in_ok-part.part).has_globals ≡ false = search rules in
    IfOk-weaker c.subcommand.result _ _ (λ more h. h.shape local ∙ ap (with_subcommand (app_of c.args.parser)) shape_is) c.subcommand.ensures
