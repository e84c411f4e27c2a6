use Rattle.std.proofs.Common.{◌∙◌}
use Rattle.text_methods.proofs.SearchLemmas.{begins_is}
use Rattle.text_methods.proofs.search.begins_with.Goals as goal

pub returns : goal.returns
returns c = c.starts_with.ensures.value ∙ begins_is c.args.text.now c.args.part.now
