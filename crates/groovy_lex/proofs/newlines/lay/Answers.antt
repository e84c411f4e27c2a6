use Rattle.std.proofs.Common.{sym, ◌∙◌}
use Rattle.groovy_lex.proofs.LayoutLemmas.{lay_token, lay_newline, lay_none}
use Rattle.groovy_lex.proofs.newlines.lay.Goals as goal

pub returns-then-not-is_newline : goal.returns-then-not-is_newline
returns-then-not-is_newline c = lay_token c.args.before.now c.args.token c.args.goes_on c.goes_on_with-goes_on_here.result c.args.laid.now.items c.push.new.self.items (sym c.is_newline.ensures ∙ c.if-not-is_newline.true) c.goes_on_with-goes_on_here.ensures c.in_ok-push.ensures.items

pub returns-then-not-newline_stands : goal.returns-then-not-newline_stands
returns-then-not-newline_stands c = lay_none c.args.before.now c.args.token c.args.goes_on c.args.laid.now.items (sym c.is_newline.ensures ∙ c.if-not-is_newline.false) (sym c.newline_stands.ensures ∙ c.if-not-newline_stands.true)

pub returns : goal.returns
returns c = lay_newline c.args.before.now c.args.token c.args.goes_on c.args.laid.now.items c.push-2.new.self.items (sym c.is_newline.ensures ∙ c.if-not-is_newline.false) (sym c.newline_stands.ensures ∙ c.if-not-newline_stands.false) c.in_ok-push-2.ensures.items
