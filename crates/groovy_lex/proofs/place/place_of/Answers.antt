use Rattle.std.proofs.Common.{sym}
use Rattle.model_syntax.specs.Source.{byte_at}
use Rattle.groovy_lex.proofs.PlaceLemmas.{place_begins}
use Rattle.groovy_lex.proofs.place.place_of.Goals as goal

pub later_place-requires-clause-begins : goal.later_place-requires-clause-begins
later_place-requires-clause-begins c = sym (place_begins (byte_at c.args.src.now))
