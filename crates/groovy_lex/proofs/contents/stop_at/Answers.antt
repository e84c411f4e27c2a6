use Rattle.model_syntax.specs.Source.{byte_at}
use Rattle.model_syntax.specs.TextForms.{begun_nothing}
use Rattle.model_syntax.specs.Reading.{fails_at_newline, fails_at_backslash}
use Rattle.groovy_lex.specs.OpenStack.{form_of}
use Rattle.groovy_lex.proofs.ContentLemmas.{only_cut_off}
use Rattle.groovy_lex.proofs.EscapeLemmas.{nothing_furthest}
use Rattle.groovy_lex.proofs.contents.stop_at.Goals as goal

pub returns-then-ends_line : goal.returns-then-ends_line
returns-then-ends_line c = fails_at_newline c.if-ends_line.ensures.0 c.if-ends_line.ensures.1

pub returns-then-is_at : goal.returns-then-is_at
returns-then-is_at c = c.broken_stop.ensures c.args.stack.now (form_of c.args.form) (c.escape_front-end.ensures.begun (form_of c.args.form)) (c.escape_front-end.ensures.furthest (form_of c.args.form))
    (fails_at_backslash c.if-is_at.ensures.0 c.requires.stops)

pub returns : goal.returns
returns c = c.broken_stop-2.ensures c.args.stack.now (form_of c.args.form) begun_nothing (nothing_furthest (byte_at c.args.src.now) (form_of c.args.form) c.args.at c.if-is_at.ensures c.if-is_dollar.ensures)
    (only_cut_off (byte_at c.args.src.now) c.args.stack.now (form_of c.args.form) c.args.opening c.args.at c.requires.stops c.if-closes.ensures c.if-is_dollar.ensures c.if-ends_line.ensures c.if-is_at.ensures)
