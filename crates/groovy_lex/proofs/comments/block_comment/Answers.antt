use Rattle.std.proofs.Common.{⊎_elim, arith}
use Rattle.std.proofs.lemmas.List.{get_or_past}
use Rattle.model_syntax.specs.Reading.{comment, comment_ends, comment_unended, comment_not_utf8, code_blank, reads_code}
use Rattle.groovy_lex.proofs.SpelledLemmas.{no_byte_behind}
use Rattle.groovy_lex.proofs.comments.block_comment.Goals as goal

pub returns-then-end-src : goal.returns-then-end-src
returns-then-end-src c = λ s i. reads_code i (code_blank (comment c.requires.begins c.comment_end-end.ensures.passed (comment_unended (get_or_past c.args.src.now c.comment_end-end.result 256 (omega (arith, c.if-end-src.true))))))

pub returns-then-stands_pair : goal.returns-then-stands_pair
returns-then-stands_pair c = λ s i. (
  reads_code i (code_blank (comment c.requires.begins c.comment_end-end.ensures.passed (comment_ends (c.if-stands_pair.ensures.0, (c.if-stands_pair.ensures.1, tt))))),
  omega (arith, c.comment_end-end.ensures.later),
  omega (arith, c.if-stands_pair.ensures.2),
)

pub returns : goal.returns
returns c = λ s i. reads_code i (code_blank (comment c.requires.begins c.comment_end-end.ensures.passed
    (comment_not_utf8 (λ e. c.if-end-src.false (no_byte_behind c.args.src.now c.comment_end-end.result c.type_inv.src c.comment_end-end.ensures.inside e), ⊎_elim (λ p. absurd (c.if-stands_pair.ensures (p.0, p.1.0))) (λ n. n) c.comment_end-end.ensures.stops))))
