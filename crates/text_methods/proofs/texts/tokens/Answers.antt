use Rattle.model_values.specs.TextMethods.{tokens}
use Rattle.text_methods.proofs.texts.tokens.Goals as goal

pub returns : goal.returns
returns c = c.list_of.ensures (tokens c.args.cuts.now c.args.text.now) c.in_ok-parts_of.ensures
