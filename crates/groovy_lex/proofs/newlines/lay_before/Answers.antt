use Rattle.std.proofs.lemmas.Bool.{lt-ltb, le-ltb}
use Rattle.groovy_lex.proofs.LayoutLemmas.{lay_early, lay_late}
use Rattle.groovy_lex.proofs.newlines.lay_before.Goals as goal

pub returns-then-token-at : goal.returns-then-token-at
returns-then-token-at c = lay_late c.args.token c.args.at c.args.before.now.items (le-ltb c.args.token.start c.args.at c.if-token-at.true)

pub returns : goal.returns
returns c = lay_early c.args.token c.args.at c.args.before.now.items c.push.new.self.items (lt-ltb c.args.token.start c.args.at c.if-token-at.false) c.in_ok-push.ensures.items
