use Rattle.std.proofs.Common.{◌∙◌}
use Rattle.text_methods.proofs.SearchLemmas.{ends_is_ends}
use Rattle.text_methods.proofs.search.ends_with.Goals as goal

pub returns : goal.returns
returns c = c.ends_with.ensures.value ∙ ends_is_ends c.args.text.now c.args.part.now
