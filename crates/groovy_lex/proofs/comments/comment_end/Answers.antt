use Rattle.std.proofs.Common.{arith, inr}
use Rattle.std.proofs.lemmas.List.{get_or_past}
use Rattle.model_syntax.specs.Source.{byte_at, passed_none}
use Rattle.model_syntax.proofs.SourceLemmas.{end_no_character}
use Rattle.groovy_lex.proofs.CharacterLemmas.{passed_behind}
use Rattle.groovy_lex.proofs.comments.comment_end.Goals as goal

pub characters-init : goal.characters-init
characters-init c = record { passed = passed_none; later = omega arith; inside = omega arith }

pub characters-preserved : goal.characters-preserved
characters-preserved c = record { passed = passed_behind c.characters.invariant.passed c.if-ends.ensures c.in-Some.ensures.stands.1; later = omega (arith, c.in-Some.ensures.past.0); inside = c.in-Some.ensures.past.1 }

pub returns-clause-stops : goal.returns-clause-stops
returns-clause-stops c = inr (end_no_character (byte_at c.args.src.now) c.characters.at (get_or_past c.args.src.now c.characters.at 256 c.characters-test.false))
