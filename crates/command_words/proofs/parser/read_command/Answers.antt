use Rattle.std.proofs.Common.{rules, ap, sym, subst, codes, ◌≡◌, ◌∙◌, map, string_bytes, None, Some}
use Rattle.clap.specs.Simple.{app_of, is_simple, subcommand_of, subcommand_rows_of}
use Rattle.clap.specs.Takes.{takes}
use Rattle.clap.proofs.WalkLemmas.{first_value-rows}
use Rattle.clap.specs.Matches.{found_of}
use Rattle.command_words.specs.Parser.{parser_app}
use Rattle.command_words.specs.Words.{Gives, IsCommand, IsGiven, word_of}
use Rattle.command_words.proofs.ParserLemmas.{gives_read, gives_so, given_so, met, names_met, no_part, part_met, simple, some_command, text_in}
use Rattle.command_words.proofs.parser.read_command.Goals as goal

pub unreachable-requires : goal.unreachable-requires
unreachable-requires c =
    let words = map string_bytes c.args.words.now in
    let it : IsCommand words = some_command words c.command_in.result c.command_in.ensures (search rules) in
    let app_is : app_of c.in_ok-parser.parser ≡ parser_app = c.in_ok-parser.ensures in
    c.in_default.not-OutOfMemory (c.kind.ensures ∙ c.in-Err.ensures.passes (ap (λ a. takes a words) app_is ∙ (gives_read words it.0 it.1 it.2).takes))

pub unreachable-requires-in_default-subcommand : goal.unreachable-requires-in_default-subcommand
unreachable-requires-in_default-subcommand c =
    let words = map string_bytes c.args.words.now in
    let it : IsCommand words = some_command words c.command_in.result c.command_in.ensures (search rules) in
    let app_is : app_of c.in_ok-parser.parser ≡ parser_app = c.in_ok-parser.ensures in
    let sub_is : subcommand_rows_of c.in-Ok.matches ≡ subcommand_of parser_app words =
    (c.in-Ok.ensures.matches (ap is_simple app_is ∙ simple)).1 ∙ ap (λ a. subcommand_of a words) app_is in
    let met_is : met (subcommand_rows_of c.in-Ok.matches) ≡ Some (word_of it.0, Some it.1) = ap met sub_is ∙ (gives_read words it.0 it.1 it.2).reads in
    no_part (subcommand_rows_of c.in-Ok.matches) _ met_is c.in_default-subcommand.ensures.rows

pub unreachable-requires-in_default-get_str : goal.unreachable-requires-in_default-get_str
unreachable-requires-in_default-get_str c =
    let words = map string_bytes c.args.words.now in
    let it : IsCommand words = some_command words c.command_in.result c.command_in.ensures (search rules) in
    let app_is : app_of c.in_ok-parser.parser ≡ parser_app = c.in_ok-parser.ensures in
    let sub_is : subcommand_rows_of c.in-Ok.matches ≡ subcommand_of parser_app words =
    (c.in-Ok.ensures.matches (ap is_simple app_is ∙ simple)).1 ∙ ap (λ a. subcommand_of a words) app_is in
    let met_is : met (subcommand_rows_of c.in-Ok.matches) ≡ Some (word_of it.0, Some it.1) = ap met sub_is ∙ (gives_read words it.0 it.1 it.2).reads in
    let part = part_met (subcommand_rows_of c.in-Ok.matches) c.in-Some.verb.now (word_of it.0) it.1 _ (c.in-Some.ensures.name ∙ names_met _) c.in-Some.ensures.rows met_is in
    let bad : None ≡ Some it.1 = c.in_default-get_str.ensures ∙ first_value-rows (found_of c.in-Some.rest.now) (codes "operand") ∙ part.1 in
    (cc)

pub unreachable-requires-in_default-command_given : goal.unreachable-requires-in_default-command_given
unreachable-requires-in_default-command_given c =
    let words = map string_bytes c.args.words.now in
    let it : IsCommand words = some_command words c.command_in.result c.command_in.ensures (search rules) in
    let app_is : app_of c.in_ok-parser.parser ≡ parser_app = c.in_ok-parser.ensures in
    let sub_is : subcommand_rows_of c.in-Ok.matches ≡ subcommand_of parser_app words =
    (c.in-Ok.ensures.matches (ap is_simple app_is ∙ simple)).1 ∙ ap (λ a. subcommand_of a words) app_is in
    let met_is : met (subcommand_rows_of c.in-Ok.matches) ≡ Some (word_of it.0, Some it.1) = ap met sub_is ∙ (gives_read words it.0 it.1 it.2).reads in
    let part = part_met (subcommand_rows_of c.in-Ok.matches) c.in-Some.verb.now (word_of it.0) it.1 _ (c.in-Some.ensures.name ∙ names_met _) c.in-Some.ensures.rows met_is in
    let operand_is : c.in-Some-get_str.operand.now ≡ it.1 = ap (text_in it.1) (c.in-Some-get_str.ensures ∙ first_value-rows (found_of c.in-Some.rest.now) (codes "operand") ∙ part.1) in
    c.in_default-command_given.ensures it.0 (subst (λ verb. IsGiven verb c.in-Some-get_str.operand.now it.0) (sym part.0)
    (subst (λ word. IsGiven (word_of it.0) word it.0) (sym operand_is) (given_so words it.0 it.1 it.2)))

pub returns : goal.returns
returns c =
    let words = map string_bytes c.args.words.now in
    let it : IsCommand words = some_command words c.command_in.result c.command_in.ensures (search rules) in
    let app_is : app_of c.in_ok-parser.parser ≡ parser_app = c.in_ok-parser.ensures in
    let sub_is : subcommand_rows_of c.in-Ok.matches ≡ subcommand_of parser_app words =
    (c.in-Ok.ensures.matches (ap is_simple app_is ∙ simple)).1 ∙ ap (λ a. subcommand_of a words) app_is in
    let met_is : met (subcommand_rows_of c.in-Ok.matches) ≡ Some (word_of it.0, Some it.1) = ap met sub_is ∙ (gives_read words it.0 it.1 it.2).reads in
    let part = part_met (subcommand_rows_of c.in-Ok.matches) c.in-Some.verb.now (word_of it.0) it.1 _ (c.in-Some.ensures.name ∙ names_met _) c.in-Some.ensures.rows met_is in
    let operand_is : c.in-Some-get_str.operand.now ≡ it.1 = ap (text_in it.1) (c.in-Some-get_str.ensures ∙ first_value-rows (found_of c.in-Some.rest.now) (codes "operand") ∙ part.1) in
    subst (λ word. Gives words c.in-Some-command_given.command word) (sym operand_is)
    (gives_so words it.0 it.1 it.2 c.in-Some-command_given.command (subst (λ word. IsGiven (word_of it.0) word c.in-Some-command_given.command) operand_is
    (subst (λ verb. IsGiven verb c.in-Some-get_str.operand.now c.in-Some-command_given.command) part.0 c.in-Some-command_given.ensures)))
