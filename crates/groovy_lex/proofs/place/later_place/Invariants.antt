use Rattle.std.proofs.Common.{◌≡◌}
use Rattle.model_syntax.specs.Source.{byte_at}
use Rattle.model_syntax.specs.Places.{place_at}
use Rattle.groovy_lex.proofs.place.later_place.Given as goal

abbrev pub invariant-bytes : goal.invariant-bytes
invariant-bytes l = l.place ≡ place_at (byte_at l.src) l.at
