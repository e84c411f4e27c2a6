use Rattle.std.proofs.Common.{arith}
use Rattle.std.proofs.lemmas.List.{get_or_past}
use Rattle.model_syntax.specs.Source.{byte_at}
use Rattle.model_syntax.specs.Reading.{fails_at_end, fails_not_utf8}
use Rattle.model_syntax.proofs.CutOffLemmas.{furthest_cut_off}
use Rattle.groovy_lex.proofs.SpelledLemmas.{no_byte_behind}
use Rattle.groovy_lex.proofs.contents.broken_stop.Goals as goal

pub returns-then-end-src : goal.returns-then-end-src
returns-then-end-src c = λ s f b u t. fails_at_end b (get_or_past c.args.src.now c.args.end 256 (omega (arith, c.if-end-src.true)))

pub returns-in-Some : goal.returns-in-Some
returns-in-Some c = λ s f b u t. t (λ k. furthest_cut_off (byte_at c.args.src.now) f c.args.at c.args.end b u k _ _ c.in-Some.ensures.stands.1)

pub returns-in-None : goal.returns-in-None
returns-in-None c = λ s f b u t. fails_not_utf8 b (λ e. c.if-end-src.false (no_byte_behind c.args.src.now c.args.end c.type_inv.src c.requires e), c.in-None.ensures.stands)
