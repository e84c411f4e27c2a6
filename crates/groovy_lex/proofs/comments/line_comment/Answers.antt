use Rattle.std.proofs.Common.{inl, inr, ⊎_elim, arith}
use Rattle.std.proofs.lemmas.List.{get_or_past}
use Rattle.model_syntax.specs.Source.{byte_at}
use Rattle.model_syntax.specs.Reading.{EndsLine, line_comment, line_ends, line_not_utf8, code_blank, reads_code}
use Rattle.groovy_lex.proofs.SpelledLemmas.{no_byte_behind}
use Rattle.groovy_lex.proofs.comments.line_comment.Goals.{then-end-src-via-then-end-src, then-end-src-via-else-end-src+then-is_at}
use Rattle.groovy_lex.proofs.comments.line_comment.Goals as goal

pub returns-then-end-src : goal.returns-then-end-src
returns-then-end-src c =
    let e : EndsLine (byte_at c.args.src.now) c.comment_end-end.result = elim c.then-end-src.branch [ then-end-src-via-then-end-src w ↦ inr (get_or_past c.args.src.now c.comment_end-end.result 256 (omega (arith, w.if-end-src.true))) | then-end-src-via-else-end-src+then-is_at w ↦ inl w.if-is_at.ensures.0 ] in
    λ s i. (reads_code i (code_blank (line_comment c.requires.begins c.comment_end-end.ensures.passed (line_ends e))), omega (arith, c.comment_end-end.ensures.later), c.comment_end-end.ensures.inside)

pub returns : goal.returns
returns c = λ s i. reads_code i (code_blank (line_comment c.requires.begins c.comment_end-end.ensures.passed
    (line_not_utf8 (λ e. c.if-end-src.false (no_byte_behind c.args.src.now c.comment_end-end.result c.type_inv.src c.comment_end-end.ensures.inside e), ⊎_elim (λ e. absurd (c.if-is_at.ensures e)) (λ n. n) c.comment_end-end.ensures.stops))))
