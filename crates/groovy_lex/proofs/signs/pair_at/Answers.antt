use Rattle.std.proofs.Common.{◌+◌, sym, ◌∙◌, ap}
use Rattle.model_syntax.specs.Source.{byte_at}
use Rattle.groovy_lex.specs.Signs.{pair_sign}
use Rattle.groovy_lex.proofs.SignLemmas.{pair_none}
use Rattle.groovy_lex.proofs.signs.pair_at.Goals as goal

pub returns-in-None : goal.returns-in-None
returns-in-None c = sym (ap (pair_sign (byte_at c.args.src.now c.args.at)) c.in-None.ensures ∙ pair_none (byte_at c.args.src.now c.args.at))
